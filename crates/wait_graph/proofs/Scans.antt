-- What was looked at in the lines stays found, and what a scan finds.
use Rattle.std.proofs.Common.{◌≡◌, ◌≢◌, ◌∙◌, sym, ap, subst, refl, ℕ, zero, suc, ◌+◌, ◌<◌, ◌≤◌, true, false, List, ◌∷◌, [], ◌++◌, length, Vec, Global, slice_index, slice_set, arith, ◌⊎◌, inl, inr}
use Rattle.std.proofs.lemmas.Bool.Decides.{eqb_tells}
use Rattle.ids_base.specs.Locks.{compatible_modes}
use Rattle.ids_base.specs.declared.lock.LockEntry.{LockEntry}
use Rattle.ids_base.specs.declared.lock.LockMode.{LockMode}
use Rattle.ids_base.specs.declared.lock.LockMode.TheVariants.{IS, IX, S, U, SIX, X}
use Rattle.wait_graph.specs.declared.reached.Reached.{Reached}
use Rattle.wait_graph.specs.Reached.{IsAt, mode_number, FoundUpTo, AreScanned, AgainstFound, StandsAt, KeepsScanned, IsFound, IsAgainst, ScannedIn}
use Rattle.wait_graph.specs.Search.{Waits, IsLonger, IsClosedAt}
use Rattle.wait_graph.specs.Targets.{among}
use Rattle.wait_graph.proofs.Places.{at-same, at-push, at-set, read-set}
use Rattle.wait_graph.proofs.Trees.{among-longer, at-among}

-- ---- modes by their numbers
abbrev mode_at : ℕ → LockMode
mode_at zero = IS
mode_at (suc zero) = IX
mode_at (suc (suc zero)) = S
mode_at (suc (suc (suc zero))) = U
mode_at (suc (suc (suc (suc zero)))) = SIX
mode_at (suc (suc (suc (suc (suc n))))) = X

mode-back : (m : LockMode) → mode_at (mode_number m) ≡ m
mode-back IS = refl
mode-back IX = refl
mode-back S = refl
mode-back U = refl
mode-back SIX = refl
mode-back X = refl

mode-same : (a b : LockMode) → mode_number a ≡ mode_number b → a ≡ b
mode-same a b h = sym (mode-back a) ∙ ap mode_at h ∙ mode-back b

-- ---- more is found
pub scanned-longer : (start : ℕ) (old new : List ℕ) (r : Reached) → IsLonger old new → AreScanned start old r → AreScanned start new r
scanned-longer start old new r l s i v ends mode a b j e lt there out = let f = s i v ends mode a b j e lt there out in (f.0, among-longer e.thread old new l f.1)

pub against-longer : (start : ℕ) (old new : List ℕ) (a : ℕ) (mode : LockMode) (line : List LockEntry) (from to : ℕ) → IsLonger old new → AgainstFound start old a mode line from to → AgainstFound start new a mode line from to
against-longer start old new a mode line from to l s j e low lt there out = let f = s j e low lt there out in (f.0, among-longer e.thread old new l f.1)

-- ---- a scan of a line
-- what was looked at before for the mode, and what a waiter looks at from there on
pub against-all : (start : ℕ) (found : List ℕ) (a : ℕ) (mode : LockMode) (line : List LockEntry) (from to : ℕ) → FoundUpTo start found line mode from → AgainstFound start found a mode line from to → AgainstFound start found a mode line 0 to
against-all start found a mode line from to before new j e low lt there out = elim (split j from) as (λ v. IsFound start found e)
    [ inl l ↦ before j e l there out.1 | inr r ↦ new j e r lt there out ]
  where
    split : (j k : ℕ) → (j < k) ⊎ (k ≤ j)
    split j zero = inr (omega arith)
    split zero (suc k) = inl (omega arith)
    split (suc j) (suc k) = elim (split j k) as (λ v. (suc j < suc k) ⊎ (suc k ≤ suc j)) [ inl l ↦ inl (omega (arith, l)) | inr r ↦ inr (omega (arith, r)) ]

-- the waiter's own thread is found too
pub found-up : (start : ℕ) (found : List ℕ) (a : ℕ) (mode : LockMode) (line : List LockEntry) (to : ℕ) → a ≢ start → among a found ≡ true → AgainstFound start found a mode line 0 to → FoundUpTo start found line mode to
found-up start found a mode line to ne has all j e lt there out = elim (eqb_tells e.thread a) as (λ v. IsFound start found e)
    [ inl t ↦ (let same = t.1 in ((λ h. ne (sym same ∙ h)), subst (λ n. among n found ≡ true) (sym same) has)) | inr f ↦ all j e (omega arith) lt there (f.1, out) ]

pub scan-all : (start : ℕ) (old new : List ℕ) (r : Reached) (i k : ℕ) (v : Vec LockEntry Global) (line : List LockEntry) (ends : List ℕ) (w : LockEntry) (number : ℕ) → AreScanned start old r → IsLonger old new → IsAt r.lines.items i v
    → IsAt r.scanned.items i ends → line ≡ v.items → number ≡ mode_number w.mode → AgainstFound start new w.thread w.mode line (slice_index ends number) k → AgainstFound start new w.thread w.mode v.items 0 k
scan-all start old new r i k v line ends w number s l a b same is f =
    against-all start new w.thread w.mode v.items (slice_index ends number) k
    (subst (λ n. FoundUpTo start new v.items w.mode (slice_index ends n)) (sym is) (scanned-longer start old new r l s i v ends w.mode a b))
    (subst (λ x. AgainstFound start new w.thread w.mode x (slice_index ends number) k) same f)

pub waiter-is : (next : ℕ → List ℕ) (old new : List ℕ) (at : ℕ) (line : List LockEntry) (k : ℕ) (w : LockEntry) → StandsAt next line (slice_index old at) k → at < length old → IsLonger old new → IsAt line k w → slice_index new at ≡ w.thread
waiter-is next old new at line k w s low l there = l.same at low ∙ sym s.of_a ∙ ap (λ e. e.thread) (at-same line k s.waiter w s.there there)

pub stands-closed : (next : ℕ → List ℕ) (start : ℕ) (old new : List ℕ) (at : ℕ) (line : List LockEntry) (k : ℕ) (w : LockEntry) → StandsAt next line (slice_index old at) k → at < length old → IsLonger old new → IsAt line k w
    → AgainstFound start new w.thread w.mode line 0 k → IsClosedAt next start new at
stands-closed next start old new at line k w s low l there all b edge =
    let x = s.all b (subst (λ n. Waits next n b) (l.same at low) edge) in
    let same : s.waiter ≡ w = at-same line k s.waiter w s.there there in
    let of-w : w.thread ≡ slice_index old at = ap (λ (v : LockEntry). v.thread) (sym same) ∙ s.of_a in
    let f = all x.0 x.1 (omega arith) x.2 x.3 ((λ h. x.4.0 (h ∙ of-w)), subst (λ (v : LockEntry). compatible_modes v.mode x.1.mode ≡ false) same x.4.1) in
    ((λ h. f.0 (x.5 ∙ h)), subst (λ n. among n new ≡ true) x.5 f.1)

-- more of a line was looked at for a mode
pub scanned-set : (start : ℕ) (found : List ℕ) (lines : List (Vec LockEntry Global)) (scanned : List (List ℕ)) (i : ℕ) (ends : List ℕ) (mode : LockMode) (number k : ℕ) → ScannedIn start found lines scanned → number ≡ mode_number mode
    → IsAt scanned i ends → ((v : Vec LockEntry Global) → IsAt lines i v → FoundUpTo start found v.items mode k) → ScannedIn start found lines (slice_set scanned i (slice_set ends number k))
scanned-set start found lines scanned i ends mode number k s is at up i' v row mode' a b j e lt there out =
    elim (at-set scanned i (slice_set ends number k) i' row b) as (λ w. IsFound start found e) [
      | inl t ↦
          let here : IsAt lines i v = subst (λ n. IsAt lines n v) t.0 a in
          let low : j < slice_index (slice_set ends number k) (mode_number mode') = subst (λ l. j < slice_index l (mode_number mode')) t.1 lt in
          elim (read-set ends number k (mode_number mode')) as (λ w. IsFound start found e) [
            | inl r ↦ up v here j e (subst (λ n. j < n) r.1 low) there (subst (λ m. compatible_modes m e.mode ≡ false) (mode-same mode' mode (r.0 ∙ is)) out)
            | inr r ↦ s i v ends mode' here at j e (subst (λ n. j < n) r low) there out
          ]
      | inr o ↦ s i' v row mode' a o j e lt there out
    ]

pub scan-noted : (next : ℕ → List ℕ) (start : ℕ) (old new : List ℕ) (r : Reached) (at i k : ℕ) (v : Vec LockEntry Global) (ends : List ℕ) (w : LockEntry) (number : ℕ) → AreScanned start old r → IsLonger old new → at < length old → IsAt r.lines.items i v
    → IsAt r.scanned.items i ends → StandsAt next v.items (slice_index old at) k → IsAt v.items k w → number ≡ mode_number w.mode → w.thread ≢ start → AgainstFound start new w.thread w.mode v.items 0 k
    → ScannedIn start new r.lines.items (slice_set r.scanned.items i (slice_set ends number k))
scan-noted next start old new r at i k v ends w number s l low a b st there is ne all =
    let has : among w.thread new ≡ true = subst (λ n. among n new ≡ true) (waiter-is next old new at v.items k w st low l there) (at-among new at (let g = l.length_grows in omega (arith, g, low))) in
    scanned-set start new r.lines.items r.scanned.items i ends w.mode number k (scanned-longer start old new r l s) is b
    (λ u c. subst (λ (x : Vec LockEntry Global). FoundUpTo start new x.items w.mode k) (at-same r.lines.items i v u a c) (found-up start new w.thread w.mode v.items k ne has all))

-- one entry more
pub against-next : (start : ℕ) (old new : List ℕ) (a : ℕ) (mode : LockMode) (line : List LockEntry) (from k : ℕ) (entry : LockEntry) → AgainstFound start old a mode line from k → IsLonger old new → IsAt line k entry
    → (IsAgainst a mode entry → IsFound start new entry) → AgainstFound start new a mode line from (k + 1)
against-next start old new a mode line from k entry s l at now j e low lt there out = elim (eqb_tells j k) as (λ v. IsFound start new e) [
  | inl t ↦ (let same : entry ≡ e = at-same line k entry e at (subst (λ n. IsAt line n e) t.1 there) in
      subst (λ (v : LockEntry). IsFound start new v) same (now (subst (λ (v : LockEntry). IsAgainst a mode v) (sym same) out)))
  | inr f ↦ (let ne = f.1 in against-longer start old new a mode line from k l s j e low (omega (arith, ne, lt)) there out)
]

-- a new line was not looked at
none-looked : (mode : LockMode) → slice_index (0 ∷ 0 ∷ 0 ∷ 0 ∷ 0 ∷ 0 ∷ []) (mode_number mode) ≡ 0
none-looked IS = refl
none-looked IX = refl
none-looked S = refl
none-looked U = refl
none-looked SIX = refl
none-looked X = refl

pub scanned-pushed : (old new : Reached) (line : Vec LockEntry Global) → length old.scanned.items ≡ length old.lines.items → new.lines.items ≡ old.lines.items ++ line ∷ []
    → new.scanned.items ≡ old.scanned.items ++ (0 ∷ 0 ∷ 0 ∷ 0 ∷ 0 ∷ 0 ∷ []) ∷ [] → KeepsScanned old new
scanned-pushed old new line same is more start found s i v ends mode a b j e lt there out =
    elim (at-push old.scanned.items (0 ∷ 0 ∷ 0 ∷ 0 ∷ 0 ∷ 0 ∷ []) i ends (subst (λ l. IsAt l i ends) more b)) as (λ w. IsFound start found e) [
      | inl o ↦ elim (at-push old.lines.items line i v (subst (λ l. IsAt l i v) is a)) as (λ w. IsFound start found e)
          [ inl p ↦ s i v ends mode p o j e lt there out | inr p ↦ absurd (let x = p.0 in let y = o.0 in omega (arith, x, y, same)) ]
      | inr o ↦ absurd (let z : j < 0 = subst (λ n. j < n) (none-looked mode) (subst (λ l. j < slice_index l (mode_number mode)) o.1 lt) in omega (arith, z))
    ]
