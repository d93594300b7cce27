-- The lists that a web is seen as.
use Rattle.std.proofs.Common.{◌≡◌, ◌≢◌, ◌∙◌, sym, ap, subst, refl, ℕ, zero, suc, ◌≤◌, ◌==◌, Bool, true, false, cond, List, [], ◌∷◌, length, inl, inr, arith, nat_lt, slice_index_or, Option, None}
use Rattle.std.proofs.lemmas.Bool.Decides.{eqb_tells, leb_tells, nat_tests}
use Rattle.link_lists.specs.declared.web.Web.{Web}
use Rattle.link_lists.specs.Places.{head_place}
use Rattle.link_lists.specs.Web.{next_of, prev_of, home_of}
use Rattle.link_lists.specs.Lists.{list_at, home_at, ListBecomes, HomeBecomes, SameCounts as SameSize}
use Rattle.link_lists.specs.Rings.{walk, made, lists_of, seen, Linked, IsLinkedWell}
use Rattle.link_lists.specs.Lists.{has}
use Rattle.link_lists.proofs.Members.{has-first, once-few, same_test, other_test}
use Rattle.link_lists.proofs.Chains.{walk-is}

-- functions that agree everywhere are one
fun_ext : {A B : Type 0} {f g : A → B} → ((x : A) → f x ≡ g x) → f ≡ g
fun_ext h = λ i x. h x i

pub length-made : {X : Type 0} (n : ℕ) (f : ℕ → X) → length (made n f) ≡ n
length-made zero f = refl
length-made (suc n) f = ap suc (length-made n (λ k. f (suc k)))

pub made-at : {X : Type 0} (n : ℕ) (f : ℕ → X) (k : ℕ) (d : X) → slice_index_or (made n f) k d ≡ cond (nat_lt k n) (f k) d
made-at zero f k d = ap (λ b. cond b (f k) d) (sym (none-below k))
  where
    none-below : (k : ℕ) → nat_lt k 0 ≡ false
    none-below k = grind (arith, nat_tests)
made-at (suc n) f zero d = ap (λ b. cond b (f 0) d) (sym (some-below n))
  where
    some-below : (n : ℕ) → nat_lt 0 (suc n) ≡ true
    some-below n = grind (arith, nat_tests)
made-at (suc n) f (suc k) d = made-at n (λ j. f (suc j)) k d ∙ ap (λ b. cond b (f (suc k)) d) (one-less k n)
  where
    one-less : (k n : ℕ) → nat_lt k n ≡ nat_lt (suc k) (suc n)
    one-less k n = grind (arith, nat_tests)

cond-twice : {X : Type 0} (b : Bool) (x d : X) → cond b (cond b x d) d ≡ cond b x d
cond-twice true x d = refl
cond-twice false x d = refl

pub list-seen : (w : Web) (l : ℕ) → list_at (seen w) l ≡ lists_of w l
list-seen w l = made-at w.lists (lists_of w) l [] ∙ cond-twice (nat_lt l w.lists) _ []

pub home-seen : (w : Web) (x : ℕ) → home_at (seen w) x ≡ home_of w x
home-seen w x = made-at w.ids (home_of w) x None ∙ cond-twice (nat_lt x w.ids) _ None

no-list : (w : Web) (L : ℕ → List ℕ) → Linked w L → (l : ℕ) → w.lists ≤ l → L l ≡ []
no-list w L good l far = elim (L l) as (λ v. (L l ≡ v) → v ≡ [])
    [ [] ↦ (λ e. refl) | x ∷ xs ↦ (λ e. let h = good.home l x (subst (λ v. has x v ≡ true) (sym e) (has-first x xs)) in absurd (omega (arith, h.2))) ] refl

pub walked : (w : Web) (L : ℕ → List ℕ) → Linked w L → (l : ℕ) → lists_of w l ≡ L l
walked w L good l = elim (leb_tells (suc l) w.lists) as (λ v. lists_of w l ≡ L l) [
  | inl t ↦ ap (λ b. cond b (walk (next_of w) w.ids (next_of w (head_place l))) []) t.0
      ∙ walk-is (next_of w) (prev_of w) (L l) w.ids (head_place l) (head_place l) (good.ring l (omega arith))
      (λ q h. let k = good.home l q h in let few = good.few_ids in omega (arith, k.1)) (omega arith)
      (once-few (L l) w.ids (good.once l) (λ q h. (good.home l q h).1))
  | inr f ↦ ap (λ b. cond b (walk (next_of w) w.ids (next_of w (head_place l))) []) f.0 ∙ sym (no-list w L good l (omega arith))
]

pub linked-well : (w : Web) (L : ℕ → List ℕ) → Linked w L → IsLinkedWell w
linked-well w L good = subst (λ M. Linked w M) (sym (fun_ext (walked w L good))) good

-- the lists with another one at l
abbrev pub put : (ℕ → List ℕ) → ℕ → List ℕ → ℕ → List ℕ
put L l ids k = cond (k == l) ids (L k)

pub put-each : (P : ℕ → List ℕ → Type 0) (L : ℕ → List ℕ) (l : ℕ) (ids : List ℕ) → P l ids → ((k : ℕ) → k ≢ l → P k (L k)) → (k : ℕ) → P k (put L l ids k)
put-each P L l ids here rest k = elim (eqb_tells k l) as (λ v. P k (put L l ids k)) [
  | inl t ↦ subst (λ b. P k (cond b ids (L k))) (sym t.0) (subst (λ j. P j ids) (sym t.1) here)
  | inr f ↦ subst (λ b. P k (cond b ids (L k))) (sym f.0) (rest k f.1)
]

pub put-here : (L : ℕ → List ℕ) (l : ℕ) (ids : List ℕ) → put L l ids l ≡ ids
put-here L l ids = ap (λ b. cond b ids (L l)) (same_test l)

pub put-other : (L : ℕ → List ℕ) (l : ℕ) (ids : List ℕ) (k : ℕ) → k ≢ l → put L l ids k ≡ L k
put-other L l ids k ne = ap (λ b. cond b ids (L k)) (other_test k l ne)

pub list-becomes : (w w' : Web) (l : ℕ) (ids : List ℕ) → Linked w' (put (lists_of w) l ids) → ListBecomes (seen w) (seen w') l ids
list-becomes w w' l ids good = record {
  this = list-seen w' l ∙ walked w' _ good l ∙ put-here (lists_of w) l ids;
  others = λ k ne. list-seen w' k ∙ walked w' _ good k ∙ put-other (lists_of w) l ids k ne ∙ sym (list-seen w k);
}

pub home-becomes : (w w' : Web) (x : ℕ) (home : Option ℕ) → home_of w' x ≡ home → ((y : ℕ) → y ≢ x → home_of w' y ≡ home_of w y) → HomeBecomes (seen w) (seen w') x home
home-becomes w w' x home e others = record {
  this = home-seen w' x ∙ e;
  others = λ y ne. home-seen w' y ∙ others y ne ∙ sym (home-seen w y);
}

pub same-size : (w w' : Web) → w'.ids ≡ w.ids → w'.lists ≡ w.lists → SameSize (seen w) (seen w')
same-size w w' e f = record {
  lists = length-made w'.lists (lists_of w') ∙ f ∙ sym (length-made w.lists (lists_of w));
  ids = length-made w'.ids (home_of w') ∙ e ∙ sym (length-made w.ids (home_of w));
}
