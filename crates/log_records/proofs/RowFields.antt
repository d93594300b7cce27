-- Rows and the places of changes: what is read is spelled so, and what is spelled is read.
use Rattle.std.proofs.Common.{◌≡◌, ℕ, ◌^◌, ◌<◌, ◌≤◌, true, cond, List, ◌++◌, length, Some, None, refl, sym, ap, subst, ◌∙◌, append_assoc, arith, leb}
use Rattle.std.specs.Prelude.{◌&&◌}
use Rattle.std.specs.Int.{w16, w32}
use Rattle.std.proofs.lemmas.Bool.{leb-true, le-leb}
use Rattle.std.proofs.lemmas.Option.{cond_some, same_Some}
use Rattle.log_records.specs.Spelling.{AreBytes, IsRow, AreRows, number_bytes, place_bytes, row_bytes}
use Rattle.log_records.specs.Reading.{◌>>=◌, number_at, piece_at, row_length_at, row_at, rows_at, place_at}
use Rattle.log_records.proofs.Numbers.{both_some, both_true, Takes, Takes-then, wide16, wide32, number_takes, number_again, piece_takes, piece_again}

row_length_takes : (bytes : List ℕ) (n : ℕ) (rest : List ℕ) → AreBytes bytes → row_length_at bytes ≡ Some (n, rest) → Takes bytes (number_bytes w16 n) rest × (1 ≤ n) × (n ≤ 800)
unfolding row_length_at
row_length_takes bytes n rest fits e =
    let a = both_some (number_at w16 bytes) (λ x. cond (leb 1 x.0 && leb x.0 800) (Some x) None) (n, rest) e in
    let read = cond_some (leb 1 a.0.0 && leb a.0.0 800) a.0 (n, rest) a.2 in
    let tests = both_true _ _ read.0 in
    let taken = number_takes w16 (2 ^ 16) wide16 bytes a.0.0 a.0.1 fits a.1 in
    subst (λ (x : ℕ × List ℕ). Takes bytes (number_bytes w16 x.0) x.1 × (1 ≤ x.0) × (x.0 ≤ 800)) read.1 (taken.0, leb-true _ _ tests.0, leb-true _ _ tests.1)

row_length_again : (n : ℕ) (rest : List ℕ) → 1 ≤ n → n ≤ 800 → row_length_at (number_bytes w16 n ++ rest) ≡ Some (n, rest)
unfolding row_length_at
row_length_again n rest some few =
    let low : leb 1 n ≡ true = le-leb _ _ some in
    let high : leb n 800 ≡ true = le-leb _ _ few in
    rw (number_again w16 (2 ^ 16) wide16 n rest (omega arith), low, high) refl

pub row_takes : (bytes row rest : List ℕ) → AreBytes bytes → row_at bytes ≡ Some (row, rest) → Takes bytes (row_bytes row) rest × IsRow row
unfolding row_at
row_takes bytes row rest fits e =
    let a = both_some (row_length_at bytes) (λ n. piece_at n.0 n.1) (row, rest) e in
    let first = row_length_takes bytes a.0.0 a.0.1 fits a.1 in
    let second = piece_takes a.0.0 a.0.1 row rest first.0.fits a.2 in
    let both = Takes-then bytes (number_bytes w16 a.0.0) a.0.1 row rest first.0 second.0 in
    (subst (λ (n : ℕ). Takes bytes (number_bytes w16 n ++ row) rest) (sym second.1) both, record { long = record { some = omega (arith, first.1, second.1); few = omega (arith, first.2, second.1) }; fits = second.2 })

pub row_again : (row rest : List ℕ) → IsRow row → row_at (row_bytes row ++ rest) ≡ Some (row, rest)
unfolding row_at
row_again row rest fits =
    ap row_at (append_assoc (number_bytes w16 (length row)) row rest) ∙ rw (row_length_again (length row) (row ++ rest) fits.long.some fits.long.few, piece_again (length row) row rest refl) refl

pub rows_takes : (bytes : List ℕ) (rows : List ℕ × List ℕ) (rest : List ℕ) → AreBytes bytes → rows_at bytes ≡ Some (rows, rest) → Takes bytes (row_bytes rows.0 ++ rows.1) rest × AreRows rows.0 rows.1
unfolding rows_at
rows_takes bytes rows rest fits e =
    let a = both_some (row_length_at bytes) (λ n. piece_at n.0 n.1 >>= λ before. piece_at n.0 before.1 >>= λ after. Some ((before.0, after.0), after.1)) (rows, rest) e in
    let b = both_some (piece_at a.0.0 a.0.1) (λ before. piece_at a.0.0 before.1 >>= λ after. Some ((before.0, after.0), after.1)) (rows, rest) a.2 in
    let c = both_some (piece_at a.0.0 b.0.1) (λ after. Some ((b.0.0, after.0), after.1)) (rows, rest) b.2 in
    let t0 = row_length_takes bytes a.0.0 a.0.1 fits a.1 in
    let t1 = piece_takes a.0.0 a.0.1 b.0.0 b.0.1 t0.0.fits b.1 in
    let t2 = piece_takes a.0.0 b.0.1 c.0.0 c.0.1 t1.0.fits c.1 in
    let e01 = Takes-then bytes (number_bytes w16 a.0.0) a.0.1 b.0.0 b.0.1 t0.0 t1.0 in
    let e02 = Takes-then bytes (number_bytes w16 a.0.0 ++ b.0.0) b.0.1 c.0.0 c.0.1 e01 t2.0 in
    let whole : Takes bytes (row_bytes b.0.0 ++ c.0.0) c.0.1 = subst (λ (n : ℕ). Takes bytes (number_bytes w16 n ++ b.0.0 ++ c.0.0) c.0.1) (sym t1.1) e02 in
    let before : IsRow b.0.0 = record { long = record { some = omega (arith, t0.1, t1.1); few = omega (arith, t0.2, t1.1) }; fits = t1.2 } in
    let after : IsRow c.0.0 = record { long = record { some = omega (arith, t0.1, t2.1); few = omega (arith, t0.2, t2.1) }; fits = t2.2 } in
    let made : (List ℕ × List ℕ) × List ℕ = ((b.0.0, c.0.0), c.0.1) in
    let good : AreRows b.0.0 c.0.0 = record { first = before; second = after; same = t1.1 ∙ sym t2.1 } in
    subst (λ (x : (List ℕ × List ℕ) × List ℕ). Takes bytes (row_bytes x.0.0 ++ x.0.1) x.1 × AreRows x.0.0 x.0.1) (same_Some made (rows, rest) c.2) (whole, good)

pub rows_again : (before after rest : List ℕ) → AreRows before after → rows_at (row_bytes before ++ after ++ rest) ≡ Some ((before, after), rest)
unfolding rows_at
rows_again before after rest fits =
    let regrouped : row_bytes before ++ after ++ rest ≡ number_bytes w16 (length before) ++ (before ++ (after ++ rest)) = simp append_assoc in
    ap rows_at regrouped ∙ rw (row_length_again (length before) (before ++ (after ++ rest)) fits.first.long.some fits.first.long.few, piece_again (length before) before (after ++ rest) refl, piece_again (length before) after rest (sym fits.same)) refl

pub place_takes : (bytes : List ℕ) (place : ℕ × ℕ) (rest : List ℕ) → AreBytes bytes → place_at bytes ≡ Some (place, rest) → Takes bytes (place_bytes place.0 place.1) rest × (place.0 < 2 ^ 32) × (place.1 < 2 ^ 32)
unfolding place_at
place_takes bytes place rest fits e =
    let a = both_some (number_at w32 bytes) (λ table. number_at w32 table.1 >>= λ row. Some ((table.0, row.0), row.1)) (place, rest) e in
    let b = both_some (number_at w32 a.0.1) (λ row. Some ((a.0.0, row.0), row.1)) (place, rest) a.2 in
    let t0 = number_takes w32 (2 ^ 32) wide32 bytes a.0.0 a.0.1 fits a.1 in
    let t1 = number_takes w32 (2 ^ 32) wide32 a.0.1 b.0.0 b.0.1 t0.0.fits b.1 in
    let both = Takes-then bytes (number_bytes w32 a.0.0) a.0.1 (number_bytes w32 b.0.0) b.0.1 t0.0 t1.0 in
    let made : (ℕ × ℕ) × List ℕ = ((a.0.0, b.0.0), b.0.1) in
    subst (λ (x : (ℕ × ℕ) × List ℕ). Takes bytes (place_bytes x.0.0 x.0.1) x.1 × (x.0.0 < 2 ^ 32) × (x.0.1 < 2 ^ 32)) (same_Some made (place, rest) b.2) (both, t0.1, t1.1)

pub place_again : (table row : ℕ) (rest : List ℕ) → table < 2 ^ 32 → row < 2 ^ 32 → place_at (place_bytes table row ++ rest) ≡ Some ((table, row), rest)
unfolding place_at
place_again table row rest lt lt' =
    ap place_at (append_assoc (number_bytes w32 table) (number_bytes w32 row) rest) ∙ rw (number_again w32 (2 ^ 32) wide32 table (number_bytes w32 row ++ rest) lt, number_again w32 (2 ^ 32) wide32 row rest lt') refl
