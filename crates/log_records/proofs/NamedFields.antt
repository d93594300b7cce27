-- The transactions that a checkpoint names: what is read is spelled so, and what is spelled is read.
use Rattle.std.proofs.Common.{◌≡◌, ℕ, zero, suc, ◌^◌, ◌<◌, true, cond, List, [], ◌∷◌, ◌++◌, length, Option, Some, None, refl, sym, ap, subst, ◌∙◌, append_assoc, arith, leb}
use Rattle.std.specs.List.{flat_map, AllByRecursion}
use Rattle.std.specs.Int.{w16, w64}
use Rattle.std.proofs.lemmas.Bool.{leb-true, le-leb}
use Rattle.std.proofs.lemmas.Option.{cond_some, same_Some}
use Rattle.std.proofs.lemmas.List.Concat.{flat_map-cons}
use Rattle.log_records.specs.Entries.{Named}
use Rattle.log_records.specs.Spelling.{AreBytes, number_bytes, named_bytes, is_after, rises_after, IsNamed, AreNamed}
use Rattle.log_records.specs.Reading.{◌>>=◌, number_at, named_at, next_at, names_at, list_at}
use Rattle.log_records.proofs.Numbers.{both_some, both_true, guarded, Takes, Takes-then, wide16, wide64, number_takes, number_again}

named_takes : (bytes : List ℕ) (n : Named) (rest : List ℕ) → AreBytes bytes → named_at bytes ≡ Some (n, rest) → Takes bytes (named_bytes n) rest × IsNamed n
unfolding named_at
named_takes bytes n rest fits e =
    let a = both_some (number_at w64 bytes) (λ tx. number_at w64 tx.1 >>= λ block. number_at w16 block.1 >>= λ index. Some (record { tx = tx.0; block = block.0; index = index.0 }, index.1)) (n, rest) e in
    let b = both_some (number_at w64 a.0.1) (λ block. number_at w16 block.1 >>= λ index. Some (record { tx = a.0.0; block = block.0; index = index.0 }, index.1)) (n, rest) a.2 in
    let c = both_some (number_at w16 b.0.1) (λ index. Some (record { tx = a.0.0; block = b.0.0; index = index.0 }, index.1)) (n, rest) b.2 in
    let t0 = number_takes w64 (2 ^ 64) wide64 bytes a.0.0 a.0.1 fits a.1 in
    let t1 = number_takes w64 (2 ^ 64) wide64 a.0.1 b.0.0 b.0.1 t0.0.fits b.1 in
    let t2 = number_takes w16 (2 ^ 16) wide16 b.0.1 c.0.0 c.0.1 t1.0.fits c.1 in
    let e01 = Takes-then bytes (number_bytes w64 a.0.0) a.0.1 (number_bytes w64 b.0.0) b.0.1 t0.0 t1.0 in
    let e02 = Takes-then bytes (number_bytes w64 a.0.0 ++ number_bytes w64 b.0.0) b.0.1 (number_bytes w16 c.0.0) c.0.1 e01 t2.0 in
    let made : Named × List ℕ = (record { tx = a.0.0; block = b.0.0; index = c.0.0 }, c.0.1) in
    let good : IsNamed made.0 = record { tx = t0.1; block = t1.1; index = t2.1 } in
    subst (λ (x : Named × List ℕ). Takes bytes (named_bytes x.0) x.1 × IsNamed x.0) (same_Some made (n, rest) c.2) (e02, good)

pub named_again : (n : Named) (rest : List ℕ) → IsNamed n → named_at (named_bytes n ++ rest) ≡ Some (n, rest)
unfolding named_at
named_again n rest fits =
    let regrouped : named_bytes n ++ rest ≡ number_bytes w64 n.tx ++ (number_bytes w64 n.block ++ (number_bytes w16 n.index ++ rest)) = simp append_assoc in
    ap named_at regrouped ∙ rw (number_again w64 (2 ^ 64) wide64 n.tx (number_bytes w64 n.block ++ (number_bytes w16 n.index ++ rest)) fits.tx, number_again w64 (2 ^ 64) wide64 n.block (number_bytes w16 n.index ++ rest) fits.block, number_again w16 (2 ^ 16) wide16 n.index rest fits.index) refl

next_takes : (last : Option ℕ) (bytes : List ℕ) (n : Named) (rest : List ℕ) → AreBytes bytes → next_at last bytes ≡ Some (n, rest) → Takes bytes (named_bytes n) rest × IsNamed n × (is_after last n.tx ≡ true)
unfolding next_at
next_takes last bytes n rest fits e =
    let a = both_some (named_at bytes) (λ x. cond (is_after last x.0.tx) (Some x) None) (n, rest) e in
    let read = cond_some (is_after last a.0.0.tx) a.0 (n, rest) a.2 in
    let taken = named_takes bytes a.0.0 a.0.1 fits a.1 in
    subst (λ (x : Named × List ℕ). Takes bytes (named_bytes x.0) x.1 × IsNamed x.0 × (is_after last x.0.tx ≡ true)) read.1 (taken.0, taken.1, read.0)

next_again : (last : Option ℕ) (n : Named) (rest : List ℕ) → IsNamed n → is_after last n.tx ≡ true → next_at last (named_bytes n ++ rest) ≡ Some (n, rest)
unfolding next_at
next_again last n rest fits after = rw (named_again n rest fits, after) refl

pub names_take : (count : ℕ) (last : Option ℕ) (bytes : List ℕ) (ns : List Named) (rest : List ℕ) → AreBytes bytes → names_at count last bytes ≡ Some (ns, rest)
    → Takes bytes (flat_map named_bytes ns) rest × (length ns ≡ count) × (rises_after last ns ≡ true) × AllByRecursion IsNamed ns
unfolding names_at
names_take zero last bytes ns rest fits e =
    let nothing : Takes bytes [] bytes = record { parts = refl; fits = fits } in
    subst (λ (x : List Named × List ℕ). Takes bytes (flat_map named_bytes x.0) x.1 × (length x.0 ≡ 0) × (rises_after last x.0 ≡ true) × AllByRecursion IsNamed x.0) (same_Some ([], bytes) (ns, rest) e) (nothing, refl, refl, tt)
names_take (suc n) last bytes ns rest fits e =
    let a = both_some (next_at last bytes) (λ first. names_at n (Some first.0.tx) first.1 >>= λ others. Some (first.0 ∷ others.0, others.1)) (ns, rest) e in
    let b = both_some (names_at n (Some a.0.0.tx) a.0.1) (λ others. Some (a.0.0 ∷ others.0, others.1)) (ns, rest) a.2 in
    let first = next_takes last bytes a.0.0 a.0.1 fits a.1 in
    let others = names_take n (Some a.0.0.tx) a.0.1 b.0.0 b.0.1 first.0.fits b.1 in
    let both = Takes-then bytes (named_bytes a.0.0) a.0.1 (flat_map named_bytes b.0.0) b.0.1 first.0 others.0 in
    let made : List Named × List ℕ = (a.0.0 ∷ b.0.0, b.0.1) in
    let rises : rises_after last (a.0.0 ∷ b.0.0) ≡ true = rw (first.2, others.2) refl in
    subst (λ (x : List Named × List ℕ). Takes bytes (flat_map named_bytes x.0) x.1 × (length x.0 ≡ suc n) × (rises_after last x.0 ≡ true) × AllByRecursion IsNamed x.0) (same_Some made (ns, rest) b.2)
    (rw flat_map-cons both, ap suc others.1, rises, (first.1, others.3))

pub names_again : (last : Option ℕ) (ns : List Named) (rest : List ℕ) → rises_after last ns ≡ true → AllByRecursion IsNamed ns → names_at (length ns) last (flat_map named_bytes ns ++ rest) ≡ Some (ns, rest)
unfolding names_at
names_again last [] rest rises fits = refl
names_again last (n ∷ ns) rest rises fits =
    let regrouped : flat_map named_bytes (n ∷ ns) ++ rest ≡ named_bytes n ++ (flat_map named_bytes ns ++ rest) = ap (λ (x : List ℕ). x ++ rest) (flat_map-cons named_bytes n ns) ∙ append_assoc (named_bytes n) (flat_map named_bytes ns) rest in
    let tests = both_true _ _ rises in
    ap (names_at (suc (length ns)) last) regrouped ∙ rw (next_again last n (flat_map named_bytes ns ++ rest) fits.0 tests.0, names_again (Some n.tx) ns rest tests.1 fits.1) refl

pub list_takes : (bytes : List ℕ) (ns : List Named) (rest : List ℕ) → AreBytes bytes → list_at bytes ≡ Some (ns, rest) → Takes bytes (number_bytes w16 (length ns) ++ flat_map named_bytes ns) rest × AreNamed ns
unfolding list_at
list_takes bytes ns rest fits e =
    let a = both_some (number_at w16 bytes) (λ count. cond (leb count.0 64) (names_at count.0 None count.1) None) (ns, rest) e in
    let b = guarded (leb a.0.0 64) (names_at a.0.0 None a.0.1) (ns, rest) a.2 in
    let t0 = number_takes w16 (2 ^ 16) wide16 bytes a.0.0 a.0.1 fits a.1 in
    let t1 = names_take a.0.0 None a.0.1 ns rest t0.0.fits b.1 in
    let both = Takes-then bytes (number_bytes w16 a.0.0) a.0.1 (flat_map named_bytes ns) rest t0.0 t1.0 in
    let few = leb-true _ _ b.0 in
    (subst (λ (n : ℕ). Takes bytes (number_bytes w16 n ++ flat_map named_bytes ns) rest) (sym t1.1) both, record { few = omega (arith, few, t1.1); rising = t1.2; each = t1.3 })

pub list_again : (ns : List Named) (rest : List ℕ) → AreNamed ns → list_at ((number_bytes w16 (length ns) ++ flat_map named_bytes ns) ++ rest) ≡ Some (ns, rest)
unfolding list_at
list_again ns rest fits =
    let regrouped = append_assoc (number_bytes w16 (length ns)) (flat_map named_bytes ns) rest in
    let few : leb (length ns) 64 ≡ true = le-leb _ _ fits.few in
    let small : length ns < 2 ^ 16 = omega (arith, fits.few) in
    ap list_at regrouped ∙ rw (number_again w16 (2 ^ 16) wide16 (length ns) (flat_map named_bytes ns ++ rest) small, few, names_again None ns rest fits.rising fits.each) refl
