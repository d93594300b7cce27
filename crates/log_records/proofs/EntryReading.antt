-- Records and lists of them: what is read is spelled so, and what is spelled is read, whatever follows.
use Rattle.std.proofs.Common.{◌≡◌, ℕ, zero, suc, ◌+◌, ◌-◌, ◌^◌, ◌<◌, ◌≤◌, Bool, true, false, cond, eqb, List, [], ◌∷◌, ◌++◌, length, take, Option, Some, None, refl, sym, ap, subst, ◌∙◌, append_assoc, length-append, arith}
use Rattle.std.specs.List.{AllByRecursion}
use Rattle.std.specs.Int.{w16, w64}
use Rattle.std.proofs.lemmas.Bool.{eqb-true, eq-eqb}
use Rattle.std.proofs.lemmas.Option.{cond_some, same_Some, none-some}
use Rattle.std.proofs.lemmas.List.Concat.{flat_map-cons}
use Rattle.log_records.specs.declared.kind.Kind.{Kind}
use Rattle.log_records.specs.declared.kind.Kind.TheVariants as kinds
use Rattle.log_records.specs.Entries.{Entry, Begin, Commit, Rollback, HInsert, HDelete, HUpdate, Ckpoint}
use Rattle.log_records.specs.Spelling.{AreBytes, number_bytes, kind_of, tx_of, fields_bytes, entry_bytes, entry_size, IsEntry}
use Rattle.log_records.specs.Kinds.{kind_code, code_kind}
use Rattle.log_records.specs.Reading.{◌>>=◌, number_at, kind_at, fields_at, tail_at, entry_at, entries_at}
use Rattle.std.proofs.lemmas.List.{take_at}
use Rattle.log_records.specs.Bodies.{entries_bytes}
use Rattle.log_records.specs.Taken.{IsTaken, IsNoRecord}
use Rattle.log_records.proofs.Numbers.{both_some, Takes, Takes-then, wide16, wide64, number_takes, number_again}
use Rattle.log_records.proofs.Sizes.{tail_bytes, length-tail_bytes, entry_size-high}
use Rattle.log_records.proofs.EntryFields.{entry_kind, fields_take, fields_again}

picked_by : (b : Bool) (n m : ℕ) (k : Kind) (o : Option Kind) (kind : Kind) → (b ≡ true → n ≡ kind_code k) → cond b (Some k) o ≡ Some kind → (o ≡ Some kind → n ≡ kind_code kind) → n ≡ kind_code kind
picked_by true n m k o kind here e later = here refl ∙ ap kind_code (same_Some k kind e)
picked_by false n m k o kind here e later = later e

-- one test of a kind's number, and those behind it
picked : (n m : ℕ) (k : Kind) (o : Option Kind) (kind : Kind) → m ≡ kind_code k → cond (eqb n m) (Some k) o ≡ Some kind → (o ≡ Some kind → n ≡ kind_code kind) → n ≡ kind_code kind
picked n m k o kind is e later = picked_by (eqb n m) n m k o kind (λ t. eqb-true n m t ∙ is) e later

code_is : (n : ℕ) (kind : Kind) → code_kind n ≡ Some kind → n ≡ kind_code kind
code_is n kind e =
    picked n 1 kinds.Begin _ kind refl e (λ e1. picked n 2 kinds.Commit _ kind refl e1 (λ e2. picked n 3 kinds.Rollback _ kind refl e2 (λ e3.
    picked n 4 kinds.HInsert _ kind refl e3 (λ e4. picked n 5 kinds.HDelete _ kind refl e4 (λ e5. picked n 6 kinds.HUpdate _ kind refl e5 (λ e6.
    picked n 7 kinds.Ckpoint None kind refl e6 (λ e7. absurd (none-some kind e7))))))))

kind_takes : (bytes : List ℕ) (kind : Kind) (rest : List ℕ) → AreBytes bytes → kind_at bytes ≡ Some (kind, rest) → Takes bytes (kind_code kind ∷ []) rest
unfolding kind_at
kind_takes [] kind rest fits e = absurd cc
kind_takes (code ∷ bytes) kind rest fits e =
    let a = both_some (code_kind code) (λ k. Some (k, bytes)) (kind, rest) e in
    let made : Kind × List ℕ = (a.0, bytes) in
    let taken : Takes (code ∷ bytes) (kind_code a.0 ∷ []) bytes = record { parts = ap (λ (n : ℕ). n ∷ bytes) (code_is code a.0 a.1); fits = λ i. fits (suc i) } in
    subst (λ (x : Kind × List ℕ). Takes (code ∷ bytes) (kind_code x.0 ∷ []) x.1) (same_Some made (kind, rest) a.2) taken

kind_again : (e : Entry) (rest : List ℕ) → kind_at (kind_of e ∷ rest) ≡ Some (entry_kind e, rest)
unfolding kind_at entry_kind
kind_again (Begin tx session) rest = refl
kind_again (Commit tx) rest = refl
kind_again (Rollback tx) rest = refl
kind_again (HInsert tx table row after) rest = refl
kind_again (HDelete tx table row before) rest = refl
kind_again (HUpdate tx table row before after) rest = refl
kind_again (Ckpoint named) rest = refl

IsEntry-tx : (e : Entry) → IsEntry e → tx_of e < 2 ^ 64
IsEntry-tx (Begin tx session) fits = fits.0
IsEntry-tx (Commit tx) fits = fits
IsEntry-tx (Rollback tx) fits = fits
IsEntry-tx (HInsert tx table row after) fits = fits.0.tx_fits
IsEntry-tx (HDelete tx table row before) fits = fits.0.tx_fits
IsEntry-tx (HUpdate tx table row before after) fits = fits.0.tx_fits
IsEntry-tx (Ckpoint named) fits = omega arith

tail_takes : (bytes : List ℕ) (e : Entry) (rest : List ℕ) → AreBytes bytes → tail_at bytes ≡ Some (e, rest) → Takes bytes (tail_bytes e) rest × IsEntry e
unfolding tail_at
tail_takes bytes e rest fits read =
    let a = both_some (kind_at bytes) (λ kind. number_at w64 kind.1 >>= λ tx. fields_at kind.0 tx.0 tx.1) (e, rest) read in
    let b = both_some (number_at w64 a.0.1) (λ tx. fields_at a.0.0 tx.0 tx.1) (e, rest) a.2 in
    let t0 = kind_takes bytes a.0.0 a.0.1 fits a.1 in
    let t1 = number_takes w64 (2 ^ 64) wide64 a.0.1 b.0.0 b.0.1 t0.fits b.1 in
    let t2 = fields_take a.0.0 b.0.0 b.0.1 e rest t1.1 t1.0.fits b.2 in
    let e12 = Takes-then a.0.1 (number_bytes w64 b.0.0) b.0.1 (fields_bytes e) rest t1.0 t2.taken in
    let e02 = Takes-then bytes (kind_code a.0.0 ∷ []) a.0.1 (number_bytes w64 b.0.0 ++ fields_bytes e) rest t0 e12 in
    (subst (λ (x : ℕ × ℕ). Takes bytes (x.0 ∷ (number_bytes w64 x.1 ++ fields_bytes e)) rest) (sym (ap (λ (k : ℕ). (k, tx_of e)) t2.kind_is ∙ ap (λ (t : ℕ). (kind_code a.0.0, t)) t2.tx_is)) e02, t2.entry)

tail_again : (e : Entry) (rest : List ℕ) → IsEntry e → tail_at (tail_bytes e ++ rest) ≡ Some (e, rest)
unfolding tail_at
tail_again e rest fits =
    let regrouped : tail_bytes e ++ rest ≡ kind_of e ∷ (number_bytes w64 (tx_of e) ++ (fields_bytes e ++ rest)) = ap (λ (t : List ℕ). kind_of e ∷ t) (append_assoc (number_bytes w64 (tx_of e)) (fields_bytes e) rest) in
    ap tail_at regrouped ∙ rw (kind_again e (number_bytes w64 (tx_of e) ++ (fields_bytes e ++ rest)), number_again w64 (2 ^ 64) wide64 (tx_of e) (fields_bytes e ++ rest) (IsEntry-tx e fits)) (fields_again e rest fits)

pub entry_takes : (bytes : List ℕ) (e : Entry) (rest : List ℕ) → AreBytes bytes → entry_at bytes ≡ Some (e, rest) → Takes bytes (entry_bytes e) rest × IsEntry e
unfolding entry_at entry_bytes
entry_takes bytes e rest fits read =
    let a = both_some (number_at w16 bytes) (λ size. tail_at size.1 >>= λ found. cond (eqb (size.0 + length found.1) (length bytes)) (Some found) None) (e, rest) read in
    let b = both_some (tail_at a.0.1) (λ found. cond (eqb (a.0.0 + length found.1) (length bytes)) (Some found) None) (e, rest) a.2 in
    let c = cond_some (eqb (a.0.0 + length b.0.1) (length bytes)) b.0 (e, rest) b.2 in
    let t0 = number_takes w16 (2 ^ 16) wide16 bytes a.0.0 a.0.1 fits a.1 in
    let t1 = tail_takes a.0.1 b.0.0 b.0.1 t0.0.fits b.1 in
    let both = Takes-then bytes (number_bytes w16 a.0.0) a.0.1 (tail_bytes b.0.0) b.0.1 t0.0 t1.0 in
    let all : a.0.0 + length b.0.1 ≡ length bytes = eqb-true _ _ c.0 in
    let size : a.0.0 ≡ entry_size b.0.0 =
    omega (arith, all, ap length both.parts, length-append (number_bytes w16 a.0.0 ++ tail_bytes b.0.0) b.0.1, length-append (number_bytes w16 a.0.0) (tail_bytes b.0.0), wide16.long a.0.0, length-tail_bytes b.0.0) in
    let whole : Takes bytes (number_bytes w16 (entry_size b.0.0) ++ tail_bytes b.0.0) b.0.1 = subst (λ (n : ℕ). Takes bytes (number_bytes w16 n ++ tail_bytes b.0.0) b.0.1) size both in
    subst (λ (x : Entry × List ℕ). Takes bytes (number_bytes w16 (entry_size x.0) ++ tail_bytes x.0) x.1 × IsEntry x.0) c.1 (whole, t1.1)

pub entry_again : (e : Entry) (rest : List ℕ) → IsEntry e → entry_at (entry_bytes e ++ rest) ≡ Some (e, rest)
unfolding entry_at entry_bytes
entry_again e rest fits =
    let regrouped : (number_bytes w16 (entry_size e) ++ tail_bytes e) ++ rest ≡ number_bytes w16 (entry_size e) ++ (tail_bytes e ++ rest) = append_assoc (number_bytes w16 (entry_size e)) (tail_bytes e) rest in
    let small : entry_size e < 2 ^ 16 = omega (arith, entry_size-high e fits) in
    let long : length (number_bytes w16 (entry_size e) ++ (tail_bytes e ++ rest)) ≡ entry_size e + length rest =
    omega (arith, length-append (number_bytes w16 (entry_size e)) (tail_bytes e ++ rest), length-append (tail_bytes e) rest, wide16.long (entry_size e), length-tail_bytes e) in
    let all : eqb (entry_size e + length rest) (length (number_bytes w16 (entry_size e) ++ (tail_bytes e ++ rest))) ≡ true = eq-eqb _ _ (sym long) in
    ap entry_at regrouped ∙ rw (number_again w16 (2 ^ 16) wide16 (entry_size e) (tail_bytes e ++ rest) small, tail_again e rest fits, all) refl

pub entries_take : (count : ℕ) (bytes : List ℕ) (es : List Entry) (rest : List ℕ) → AreBytes bytes → entries_at count bytes ≡ Some (es, rest)
    → Takes bytes (entries_bytes es) rest × (length es ≡ count) × AllByRecursion IsEntry es
unfolding entries_at
entries_take zero bytes es rest fits e =
    let nothing : Takes bytes [] bytes = record { parts = refl; fits = fits } in
    subst (λ (x : List Entry × List ℕ). Takes bytes (entries_bytes x.0) x.1 × (length x.0 ≡ 0) × AllByRecursion IsEntry x.0) (same_Some ([], bytes) (es, rest) e) (nothing, refl, tt)
entries_take (suc n) bytes es rest fits e =
    let a = both_some (entry_at bytes) (λ first. entries_at n first.1 >>= λ others. Some (first.0 ∷ others.0, others.1)) (es, rest) e in
    let b = both_some (entries_at n a.0.1) (λ others. Some (a.0.0 ∷ others.0, others.1)) (es, rest) a.2 in
    let first = entry_takes bytes a.0.0 a.0.1 fits a.1 in
    let others = entries_take n a.0.1 b.0.0 b.0.1 first.0.fits b.1 in
    let both = Takes-then bytes (entry_bytes a.0.0) a.0.1 (entries_bytes b.0.0) b.0.1 first.0 others.0 in
    let made : List Entry × List ℕ = (a.0.0 ∷ b.0.0, b.0.1) in
    subst (λ (x : List Entry × List ℕ). Takes bytes (entries_bytes x.0) x.1 × (length x.0 ≡ suc n) × AllByRecursion IsEntry x.0) (same_Some made (es, rest) b.2) (rw flat_map-cons both, ap suc others.1, (first.1, others.2))

pub entries_again : (es : List Entry) (rest : List ℕ) → AllByRecursion IsEntry es → entries_at (length es) (entries_bytes es ++ rest) ≡ Some (es, rest)
unfolding entries_at
entries_again [] rest fits = refl
entries_again (e ∷ es) rest fits =
    let regrouped : entries_bytes (e ∷ es) ++ rest ≡ entry_bytes e ++ (entries_bytes es ++ rest) = ap (λ (x : List ℕ). x ++ rest) (flat_map-cons entry_bytes e es) ∙ append_assoc (entry_bytes e) (entries_bytes es) rest in
    ap (entries_at (suc (length es))) regrouped ∙ rw (entry_again e (entries_bytes es ++ rest) fits.0, entries_again es rest fits.1) refl

pub one_reading_lem : (a b : Entry) (x y : List ℕ) → IsEntry a → IsEntry b → entry_bytes a ++ x ≡ entry_bytes b ++ y → (a ≡ b) × (x ≡ y)
one_reading_lem a b x y fits fits' e =
    let left : Entry × List ℕ = (a, x) in
    let right : Entry × List ℕ = (b, y) in
    let same : left ≡ right = same_Some left right (sym (entry_again a x fits) ∙ ap entry_at e ∙ entry_again b y fits') in
    (ap (λ (p : Entry × List ℕ). p.0) same, ap (λ (p : Entry × List ℕ). p.1) same)

-- what was taken from the front
pub taken_is : (bytes : List ℕ) (e : Entry) (rest : List ℕ) → AreBytes bytes → entry_at bytes ≡ Some (e, rest) → IsTaken bytes e (length bytes - length rest)
taken_is bytes e rest fits read =
    let t = entry_takes bytes e rest fits read in
    let long : length (entry_bytes e) ≡ length bytes - length rest = omega (arith, ap length t.0.parts, length-append (entry_bytes e) rest) in
    record { within = omega arith; entry = t.1; spelled = ap (take (length bytes - length rest)) t.0.parts ∙ take_at (entry_bytes e) rest (length bytes - length rest) long }

pub rest_within : (bytes : List ℕ) (e : Entry) (rest : List ℕ) → AreBytes bytes → entry_at bytes ≡ Some (e, rest) → length rest ≤ length bytes
rest_within bytes e rest fits read =
    let t = entry_takes bytes e rest fits read in omega (arith, ap length t.0.parts, length-append (entry_bytes e) rest)

pub no_record : (bytes : List ℕ) → entry_at bytes ≡ None → IsNoRecord bytes
no_record bytes e f rest entry same = none-some (f, rest) (sym e ∙ ap entry_at same ∙ entry_again f rest entry)
