-- Bodies: what is read is spelled so, and what is spelled is read.
use Rattle.std.proofs.Common.{◌≡◌, ℕ, zero, suc, ◌-◌, ◌^◌, ◌<◌, ◌≤◌, true, false, cond, eqb, leb, List, [], ◌∷◌, ◌++◌, length, take, drop, Option, Some, None, refl, sym, ap, subst, ◌∙◌, append_assoc, length-append, arith}
use Rattle.std.specs.Prelude.{◌&&◌, ◌≢◌, replicate, is_some, IfSome, IfNone}
use Rattle.std.specs.List.{list_all, AllByRecursion}
use Rattle.std.specs.Int.{w16, w64}
use Rattle.std.proofs.lemmas.Bool.{eqb-true, eq-eqb, ne_eqb, leb-true, le-leb, lt-leb}
use Rattle.std.proofs.lemmas.Option.{cond_some, same_Some, none-some}
use Rattle.std.proofs.lemmas.List.{append-nil, nil_from_length, take-append-drop, take_at, drop_at, length-drop, length-take, length-replicate}
use Rattle.log_records.specs.Entries.{Entry}
use Rattle.log_records.specs.Spelling.{AreBytes, number_bytes, IsEntry}
use Rattle.log_records.specs.Reading.{◌>>=◌, number_at, entries_at}
use Rattle.log_records.specs.Bodies.{Body, IsBody, entries_bytes, entries_size, body_bytes, body_of, whole_at, records_at}
use Rattle.log_records.proofs.Numbers.{AreBytes-take, both_some, both_true, guarded, wide16, wide64, number_takes, number_again}
use Rattle.log_records.specs.Keeping.{kept, IsKept}
use Rattle.log_records.proofs.Kept.{made, kept_is}
use Rattle.log_records.proofs.Sizes.{length-entries_bytes, entries_size-low}
use Rattle.log_records.proofs.EntryReading.{entries_take, entries_again}

pub whole_takes : (count : ℕ) (bytes : List ℕ) (es : List Entry) → AreBytes bytes → whole_at count bytes ≡ Some es → (bytes ≡ entries_bytes es) × (length es ≡ count) × AllByRecursion IsEntry es
unfolding whole_at
whole_takes count bytes es fits e =
    let a = both_some (entries_at count bytes) (λ found. cond (eqb (length found.1) 0) (Some found.0) None) es e in
    let c = cond_some (eqb (length a.0.1) 0) a.0.0 es a.2 in
    let t = entries_take count bytes a.0.0 a.0.1 fits a.1 in
    let nothing : a.0.1 ≡ [] = nil_from_length a.0.1 (eqb-true _ _ c.0) in
    let whole : bytes ≡ entries_bytes a.0.0 = t.0.parts ∙ ap (λ (r : List ℕ). entries_bytes a.0.0 ++ r) nothing ∙ append-nil (entries_bytes a.0.0) in
    subst (λ (x : List Entry). (bytes ≡ entries_bytes x) × (length x ≡ count) × AllByRecursion IsEntry x) c.1 (whole, t.1, t.2)

pub whole_again : (es : List Entry) → AllByRecursion IsEntry es → whole_at (length es) (entries_bytes es) ≡ Some es
unfolding whole_at
whole_again es each =
    let read : entries_at (length es) (entries_bytes es) ≡ Some (es, []) = ap (entries_at (length es)) (sym (append-nil (entries_bytes es))) ∙ entries_again es [] each in
    rw read refl

-- bytes that are all zero
zeros : (bytes : List ℕ) → list_all (λ b. eqb b 0) bytes ≡ true → bytes ≡ replicate (length bytes) 0
zeros [] e = refl
zeros (b ∷ bytes) e =
    let tests = both_true (eqb b 0) (list_all (λ b. eqb b 0) bytes) e in
    ap (λ (n : ℕ). n ∷ bytes) (eqb-true b 0 tests.0) ∙ ap (λ (t : List ℕ). 0 ∷ t) (zeros bytes tests.1)

all_zero : (n : ℕ) → list_all (λ b. eqb b 0) (replicate n 0) ≡ true
all_zero zero = refl
all_zero (suc n) = all_zero n

-- what the records of a body are read from
pub record AreRecords (used count : ℕ) (bytes : List ℕ) (es : List Entry) : Type 0 where
  pub parts : bytes ≡ entries_bytes es ++ replicate (2035 - entries_size es) 0
  pub used_is : used ≡ entries_size es
  pub count_is : length es ≡ count
  pub each : AllByRecursion IsEntry es
  pub some : 1 ≤ count
  pub room : used ≤ 2004

pub records_take : (used count : ℕ) (bytes : List ℕ) (es : List Entry) → AreBytes bytes → records_at used count bytes ≡ Some es → AreRecords used count bytes es
unfolding records_at
records_take used count bytes es fits e =
    let g = guarded ((leb used 2004 && leb 1 count) && (eqb (length bytes) 2035 && list_all (λ b. eqb b 0) (drop used bytes))) (whole_at count (take used bytes)) es e in
    let tests = both_true _ _ g.0 in
    let ranges = both_true _ _ tests.0 in
    let ends = both_true _ _ tests.1 in
    let room = leb-true _ _ ranges.0 in
    let long : length bytes ≡ 2035 = eqb-true _ _ ends.0 in
    let w = whole_takes count (take used bytes) es (AreBytes-take used bytes fits) g.1 in
    let used_is : used ≡ entries_size es = omega (arith, room, long, length-take used bytes, ap length w.0, length-entries_bytes es) in
    let rest : drop used bytes ≡ replicate (2035 - entries_size es) 0 = zeros (drop used bytes) ends.1 ∙ ap (λ (n : ℕ). replicate n 0) (omega (arith, length-drop used bytes, long, used_is)) in
    record {
      parts = sym (take-append-drop used bytes) ∙ ap (λ (t : List ℕ). t ++ drop used bytes) w.0 ∙ ap (λ (t : List ℕ). entries_bytes es ++ t) rest;
      used_is = used_is;
      count_is = w.1;
      each = w.2;
      some = leb-true _ _ ranges.1;
      room = room;
    }

pub records_again : (b : Body) → IsBody b → records_at (entries_size b.entries) (length b.entries) (entries_bytes b.entries ++ replicate (2035 - entries_size b.entries) 0) ≡ Some b.entries
unfolding records_at
records_again b body =
    let es = b.entries in
    let size = entries_size es in
    let tail = replicate (2035 - size) 0 in
    let exact : length (entries_bytes es) ≡ size = length-entries_bytes es in
    let long : length (entries_bytes es ++ tail) ≡ 2035 = omega (arith, length-append (entries_bytes es) tail, exact, length-replicate {A = ℕ} (2035 - size) 0, body.fits) in
    let room : leb size 2004 ≡ true = le-leb _ _ body.fits in
    let some : leb 1 (length es) ≡ true = le-leb _ _ body.some in
    let whole : eqb (length (entries_bytes es ++ tail)) 2035 ≡ true = eq-eqb _ _ long in
    rw (room, some, whole, drop_at (entries_bytes es) tail size exact, all_zero (2035 - size), take_at (entries_bytes es) tail size exact) (whole_again es body.each)

pub body_takes : (bytes : List ℕ) (b : Body) → AreBytes bytes → body_of bytes ≡ Some b → IsBody b × (bytes ≡ body_bytes b)
unfolding body_of body_bytes
body_takes bytes b fits e =
    let x = both_some (number_at w64 bytes) (λ number. number_at w16 number.1 >>= λ used. number_at w16 used.1 >>= λ count. records_at used.0 count.0 count.1 >>= λ entries. Some (record { number = number.0; entries = entries })) b e in
    let y = both_some (number_at w16 x.0.1) (λ used. number_at w16 used.1 >>= λ count. records_at used.0 count.0 count.1 >>= λ entries. Some (record { number = x.0.0; entries = entries })) b x.2 in
    let z = both_some (number_at w16 y.0.1) (λ count. records_at y.0.0 count.0 count.1 >>= λ entries. Some (record { number = x.0.0; entries = entries })) b y.2 in
    let w = both_some (records_at y.0.0 z.0.0 z.0.1) (λ entries. Some (record { number = x.0.0; entries = entries })) b z.2 in
    let t0 = number_takes w64 (2 ^ 64) wide64 bytes x.0.0 x.0.1 fits x.1 in
    let t1 = number_takes w16 (2 ^ 16) wide16 x.0.1 y.0.0 y.0.1 t0.0.fits y.1 in
    let t2 = number_takes w16 (2 ^ 16) wide16 y.0.1 z.0.0 z.0.1 t1.0.fits z.1 in
    let r = records_take y.0.0 z.0.0 z.0.1 w.0 t2.0.fits w.1 in
    let es = w.0 in
    let tail = entries_bytes es ++ replicate (2035 - entries_size es) 0 in
    let whole : bytes ≡ number_bytes w64 x.0.0 ++ (number_bytes w16 (entries_size es) ++ (number_bytes w16 (length es) ++ tail)) =
    t0.0.parts
    ∙ ap (λ (t : List ℕ). number_bytes w64 x.0.0 ++ t) t1.0.parts
    ∙ ap (λ (n : ℕ). number_bytes w64 x.0.0 ++ (number_bytes w16 n ++ y.0.1)) r.used_is
    ∙ ap (λ (t : List ℕ). number_bytes w64 x.0.0 ++ (number_bytes w16 (entries_size es) ++ t)) t2.0.parts
    ∙ ap (λ (n : ℕ). number_bytes w64 x.0.0 ++ (number_bytes w16 (entries_size es) ++ (number_bytes w16 n ++ z.0.1))) (sym r.count_is)
    ∙ ap (λ (t : List ℕ). number_bytes w64 x.0.0 ++ (number_bytes w16 (entries_size es) ++ (number_bytes w16 (length es) ++ t))) r.parts in
    let found : Body = record { number = x.0.0; entries = es } in
    let good : IsBody found = record { number = t0.1; some = omega (arith, r.some, r.count_is); each = r.each; fits = omega (arith, r.room, r.used_is) } in
    subst (λ (f : Body). IsBody f × (bytes ≡ number_bytes w64 f.number ++ (number_bytes w16 (entries_size f.entries) ++ (number_bytes w16 (length f.entries) ++ (entries_bytes f.entries ++ replicate (2035 - entries_size f.entries) 0))))) (same_Some found b w.2) (good, whole)

pub body_again : (b : Body) → IsBody b → body_of (body_bytes b) ≡ Some b
unfolding body_of body_bytes
body_again b body =
    let es = b.entries in
    let tail = entries_bytes es ++ replicate (2035 - entries_size es) 0 in
    let small : entries_size es < 2 ^ 16 = omega (arith, body.fits) in
    let few : length es < 2 ^ 16 = omega (arith, body.fits, entries_size-low es) in
    rw (number_again w64 (2 ^ 64) wide64 b.number (number_bytes w16 (entries_size es) ++ (number_bytes w16 (length es) ++ tail)) body.number, number_again w16 (2 ^ 16) wide16 (entries_size es) (number_bytes w16 (length es) ++ tail) small, number_again w16 (2 ^ 16) wide16 (length es) tail few, records_again b body) refl

-- ---- why bytes are no records of a body

pub too_long : (used count : ℕ) (bytes : List ℕ) → 2004 < used → records_at used count bytes ≡ None
unfolding records_at
too_long used count bytes lt = rw (lt-leb used 2004 lt) refl

pub too_few : (used count : ℕ) (bytes : List ℕ) → used ≤ 2004 → count < 1 → records_at used count bytes ≡ None
unfolding records_at
too_few used count bytes room lt = rw (le-leb used 2004 room, lt-leb 1 count lt) refl

pub other_length : (used count : ℕ) (bytes : List ℕ) → used ≤ 2004 → 1 ≤ count → length bytes ≢ 2035 → records_at used count bytes ≡ None
unfolding records_at
other_length used count bytes room some ne = rw (le-leb used 2004 room, le-leb 1 count some, ne_eqb (length bytes) 2035 ne) refl

pub not_zero : (used count : ℕ) (bytes : List ℕ) → used ≤ 2004 → 1 ≤ count → length bytes ≡ 2035 → list_all (λ b. eqb b 0) (drop used bytes) ≡ false → records_at used count bytes ≡ None
unfolding records_at
not_zero used count bytes room some long tail = rw (le-leb used 2004 room, le-leb 1 count some, eq-eqb (length bytes) 2035 long, tail) refl

pub looked_at : (used count : ℕ) (bytes : List ℕ) → used ≤ 2004 → 1 ≤ count → length bytes ≡ 2035 → list_all (λ b. eqb b 0) (drop used bytes) ≡ true → records_at used count bytes ≡ whole_at count (take used bytes)
unfolding records_at
looked_at used count bytes room some long tail = rw (le-leb used 2004 room, le-leb 1 count some, eq-eqb (length bytes) 2035 long, tail) refl

pub none_is : {A : Type 0} (o : Option A) → is_some o ≡ false → o ≡ None
none_is None e = refl
none_is (Some x) e = absurd cc

some_is : {A : Type 0} (o : Option A) → is_some o ≡ true → (x : A) × (o ≡ Some x)
some_is None e = absurd cc
some_is (Some x) e = (x, refl)

-- a body keeps what was read
pub record Accepted (used count : ℕ) (bytes padded : List ℕ) : Type 0 where
  pub keeps : IsKept count used padded
  pub read : whole_at count (take used bytes) ≡ Some (kept count used padded)

pub accepts : (used count : ℕ) (bytes padded : List ℕ) → AreBytes bytes → used ≤ 2004 → is_some (whole_at count (take used bytes)) ≡ true → length padded ≡ 2004 → take used padded ≡ take used bytes → Accepted used count bytes padded
accepts used count bytes padded fits room found long same =
    let x = some_is (whole_at count (take used bytes)) found in
    let w = whole_takes count (take used bytes) x.0 (AreBytes-take used bytes fits) x.1 in
    let spelled : take used padded ≡ entries_bytes x.0 = same ∙ w.0 in
    record { keeps = made count used padded x.0 room long w.1 w.2 spelled; read = x.1 ∙ ap (λ (es : List Entry). Some es) (sym (kept_is count used padded x.0 w.1 w.2 spelled)) }

pub found_is : (bytes : List ℕ) (o : Option Body) → AreBytes bytes → o ≡ body_of bytes → IfSome o (λ b. IsBody b × (bytes ≡ body_bytes b))
found_is bytes None fits e = tt
found_is bytes (Some b) fits e = body_takes bytes b fits (sym e)

pub refused_is : (bytes : List ℕ) (o : Option Body) → o ≡ body_of bytes → IfNone o ((b : Body) → IsBody b → bytes ≢ body_bytes b)
refused_is bytes None e = λ b body same. none-some b (e ∙ ap body_of same ∙ body_again b body)
refused_is bytes (Some b) e = tt

regroup : (a b c d e : List ℕ) → (((a ++ b) ++ c) ++ d) ++ e ≡ a ++ (b ++ (c ++ (d ++ e)))
regroup a b c d e = simp append_assoc

-- the bytes of a body, written one after another
pub written : (b : Body) (f0 f1 f2 f3 : List ℕ) (r0 r1 r2 r3 rest : ℕ) (tail : List ℕ) → take r0 f0 ≡ number_bytes w64 b.number → take r1 f1 ≡ take r0 f0 ++ number_bytes w16 (entries_size b.entries)
    → take r2 f2 ≡ take r1 f1 ++ number_bytes w16 (length b.entries) → take r3 f3 ≡ take r2 f2 ++ entries_bytes b.entries → rest ≡ 2035 - entries_size b.entries → tail ≡ replicate rest 0
    → take r3 f3 ++ tail ≡ body_bytes b
unfolding body_bytes
written b f0 f1 f2 f3 r0 r1 r2 r3 rest tail e0 e1 e2 e3 er et =
    let n0 = number_bytes w64 b.number in
    let n1 = number_bytes w16 (entries_size b.entries) in
    let n2 = number_bytes w16 (length b.entries) in
    let front : take r3 f3 ≡ ((n0 ++ n1) ++ n2) ++ entries_bytes b.entries =
    e3 ∙ ap (λ (t : List ℕ). t ++ entries_bytes b.entries) (e2 ∙ ap (λ (t : List ℕ). t ++ n2) (e1 ∙ ap (λ (t : List ℕ). t ++ n1) e0)) in
    let zeros_are : tail ≡ replicate (2035 - entries_size b.entries) 0 = et ∙ ap (λ (n : ℕ). replicate n 0) er in
    ap (λ (t : List ℕ). t ++ tail) front
    ∙ ap (λ (t : List ℕ). (((n0 ++ n1) ++ n2) ++ entries_bytes b.entries) ++ t) zeros_are
    ∙ regroup n0 n1 n2 (entries_bytes b.entries) (replicate (2035 - entries_size b.entries) 0)
