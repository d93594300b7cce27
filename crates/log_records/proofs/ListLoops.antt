-- Named transactions that a loop still has to read, and those that it has read.
use Rattle.std.proofs.Common.{◌≡◌, ℕ, suc, ◌-◌, ◌+◌, ◌≤◌, ◌<◌, true, cond, List, [], ◌∷◌, ◌++◌, length, take, get_or, Option, Some, None, refl, sym, ap, subst, ◌∙◌, append_assoc, length-append, arith}
use Rattle.std.specs.Prelude.{IsSome}
use Rattle.std.specs.Option.{option_map_or}
use Rattle.std.specs.List.{flat_map, AllByRecursion}
use Rattle.std.proofs.lemmas.Option.{cond_some, same_Some}
use Rattle.std.proofs.lemmas.List.{append-nil, take_more, map_push}
use Rattle.std.proofs.lemmas.List.Concat.{flat_map-append}
use Rattle.ids_base.specs.declared.position.OpenTx.{OpenTx}
use Rattle.log_records.specs.Entries.{Named}
use Rattle.log_records.specs.Naming.{named_of, all_named}
use Rattle.log_records.specs.Spelling.{is_after, rises_after, named_bytes, IsNamed, AreNamed}
use Rattle.log_records.specs.Reading.{◌>>=◌, named_at, next_at, names_at}
use Rattle.log_records.specs.Lying.{names_of}
use Rattle.log_records.proofs.Numbers.{both_some, both_true}

-- so many are left in the bytes, and with those of the list they are the whole
pub record NamesLeft (left : ℕ) (rest : List ℕ) (list whole : List Named) : Type 0 where
  pub last : Option ℕ
  pub found : List Named × List ℕ
  pub read : names_at left last rest ≡ Some found
  pub joined : list ++ found.0 ≡ whole

some_is : (o : Option (List Named × List ℕ)) → IsSome o → (found : List Named × List ℕ) × (o ≡ Some found)
some_is (Some x) h = (x, refl)
some_is None h = absurd cc

pub names_start : (count : ℕ) (bytes : List ℕ) → IsSome (names_at count None bytes) → NamesLeft (count - 0) bytes [] (names_of count bytes)
unfolding names_of
names_start count bytes h =
    let x = some_is (names_at count None bytes) h in
    let k : count - 0 ≡ count = omega arith in
    let whole : x.0.0 ≡ option_map_or (λ found. found.0) (names_at count None bytes) [] = ap (λ (o : Option (List Named × List ℕ)). option_map_or (λ found. found.0) o []) (sym x.1) in
    record { last = None; found = x.0; read = rw k x.1; joined = whole }

-- the next one, and what is left behind it
pub record NextName (left : ℕ) (rest : List ℕ) (list whole : List Named) : Type 0 where
  pub first : Named × List ℕ
  pub read : named_at rest ≡ Some first
  pub left_over : NamesLeft left first.1 (list ++ first.0 ∷ []) whole

pub name_next : (count i : ℕ) (rest : List ℕ) (list whole : List Named) → i < count → NamesLeft (count - i) rest list whole → NextName (count - (i + 1)) rest list whole
unfolding names_at next_at
name_next count i rest list whole lt h =
    let n = count - (i + 1) in
    let k : count - i ≡ suc n = omega arith in
    let read : names_at (suc n) h.last rest ≡ Some h.found = subst (λ (m : ℕ). names_at m h.last rest ≡ Some h.found) k h.read in
    let a = both_some (next_at h.last rest) (λ first. names_at n (Some first.0.tx) first.1 >>= λ others. Some (first.0 ∷ others.0, others.1)) h.found read in
    let b = both_some (names_at n (Some a.0.0.tx) a.0.1) (λ others. Some (a.0.0 ∷ others.0, others.1)) h.found a.2 in
    let c = both_some (named_at rest) (λ x. cond (is_after h.last x.0.tx) (Some x) None) a.0 a.1 in
    let d = cond_some (is_after h.last c.0.0.tx) c.0 a.0 c.2 in
    let made : List Named × List ℕ = (a.0.0 ∷ b.0.0, b.0.1) in
    let whole_is : (list ++ a.0.0 ∷ []) ++ b.0.0 ≡ whole = append_assoc list (a.0.0 ∷ []) b.0.0 ∙ ap (λ (f : List Named × List ℕ). list ++ f.0) (same_Some made h.found b.2) ∙ h.joined in
    record { first = a.0; read = c.1 ∙ ap (λ (x : Named × List ℕ). Some x) d.1; left_over = record { last = Some a.0.0.tx; found = b.0; read = b.1; joined = whole_is } }

rises_after-front : (last : Option ℕ) (xs ys : List Named) → rises_after last (xs ++ ys) ≡ true → rises_after last xs ≡ true
rises_after-front last [] ys e = refl
rises_after-front last (x ∷ xs) ys e =
    let tests = both_true (is_after last x.tx) (rises_after (Some x.tx) (xs ++ ys)) e in
    rw (tests.0, rises_after-front (Some x.tx) xs ys tests.1) refl

pub AllByRecursion-front : {X : Type 0} (P : X → Type 0) (xs ys : List X) → AllByRecursion P (xs ++ ys) → AllByRecursion P xs
AllByRecursion-front P [] ys each = tt
AllByRecursion-front P (x ∷ xs) ys each = (each.0, AllByRecursion-front P xs ys each.1)

AreNamed-front : (xs ys : List Named) → AreNamed (xs ++ ys) → AreNamed xs
AreNamed-front xs ys h = record { few = omega (arith, h.few, length-append xs ys); rising = rises_after-front None xs ys h.rising; each = AllByRecursion-front IsNamed xs ys h.each }

-- one more is named as the whole is
pub AreNamed-so_far : (left : ℕ) (rest : List ℕ) (list whole : List Named) → AreNamed whole → NamesLeft left rest list whole → AreNamed list
AreNamed-so_far left rest list whole named h = AreNamed-front list h.found.0 (subst AreNamed (sym h.joined) named)

pub names_over : (count i : ℕ) (rest : List ℕ) (list whole : List Named) → count ≤ i → NamesLeft (count - i) rest list whole → list ≡ whole
unfolding names_at
names_over count i rest list whole le h =
    let k : count - i ≡ 0 = omega arith in
    let read : names_at 0 h.last rest ≡ Some h.found = subst (λ (m : ℕ). names_at m h.last rest ≡ Some h.found) k h.read in
    let made : List Named × List ℕ = ([], rest) in
    let nothing : h.found.0 ≡ [] = ap (λ (f : List Named × List ℕ). f.0) (sym (same_Some made h.found read)) in
    sym (append-nil list) ∙ ap (λ (t : List Named). list ++ t) (sym nothing) ∙ h.joined

-- one more that is written
pub names_written : (list : List OpenTx) (i : ℕ) (item : OpenTx) → item ≡ get_or list i item → i < length list
    → flat_map named_bytes (all_named (take (i + 1) list)) ≡ flat_map named_bytes (all_named (take i list)) ++ named_bytes (named_of item)
names_written list i item is lt =
    let more : take (i + 1) list ≡ take i list ++ item ∷ [] = take_more list i item lt ∙ ap (λ (x : OpenTx). take i list ++ x ∷ []) (sym is) in
    ap (λ (t : List OpenTx). flat_map named_bytes (all_named t)) more
    ∙ ap (flat_map named_bytes) (map_push named_of (take i list) item)
    ∙ flat_map-append named_bytes (all_named (take i list)) (named_of item ∷ [])
    ∙ ap (λ (t : List ℕ). flat_map named_bytes (all_named (take i list)) ++ t) (append-nil (named_bytes (named_of item)))

-- one that was read may be put, and what is left behind it
pub name_put : (count i : ℕ) (rest : List ℕ) (list whole : List Named) (n : Named) (after : List ℕ) → i < count → AreNamed whole → NamesLeft (count - i) rest list whole → named_at rest ≡ Some (n, after)
    → AreNamed (list ++ n ∷ []) × NamesLeft (count - (i + 1)) after (list ++ n ∷ []) whole
name_put count i rest list whole n after lt named h read =
    let next = name_next count i rest list whole lt h in
    let mine : Named × List ℕ = (n, after) in
    let same : next.first ≡ mine = same_Some next.first mine (sym next.read ∙ read) in
    let left : NamesLeft (count - (i + 1)) after (list ++ n ∷ []) whole = subst (λ (x : Named × List ℕ). NamesLeft (count - (i + 1)) x.1 (list ++ x.0 ∷ []) whole) same next.left_over in
    (AreNamed-so_far (count - (i + 1)) after (list ++ n ∷ []) whole named left, left)
