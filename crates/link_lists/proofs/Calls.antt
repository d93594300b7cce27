-- What each call asks of the web, and what it leaves, in the words of its callers.
use Rattle.std.proofs.Common.{◌≡◌, ◌≢◌, ◌∙◌, sym, ap, subst, refl, ℕ, ◌<◌, ◌≤◌, ◌↔◌, true, false, cond, List, [], ◌∷◌, ◌++◌, ◌⊎◌, inl, inr, arith, nat_lt, Option, Some, None, IsSome, append-nil}
use Rattle.std.proofs.lemmas.Bool.Decides.{nat_tests}
use Rattle.link_lists.specs.declared.web.Web.{Web}
use Rattle.link_lists.specs.Places.{head_place, is_place, slot_of}
use Rattle.link_lists.specs.Web.{next_of, prev_of, home_of, IsLinked, IsTakenOut, SameHome}
use Rattle.link_lists.specs.Nodes.{node_at}
use Rattle.link_lists.specs.Rings.{seen, lists_of, Linked, IsLinkedWell, Chain}
use Rattle.link_lists.specs.Lists.{Lists, has, Once, list_at, home_at, list_count, id_count, ListBecomes, HomeBecomes, SameCounts, SameLists, put_before, without, first_of, behind, IsSound}
use Rattle.link_lists.proofs.Members.{has-first, has-later, has-cons, has-both, has-right, has-left, not-has, once-middle, parts-at, without-parts, put-parts, same_test, other_test}
use Rattle.link_lists.proofs.Chains.{first_or, chain-left, chain-right, chain-last, chain-first, chain-same}
use Rattle.link_lists.proofs.Seen.{walked, list-seen, home-seen, length-made, linked-well, list-becomes, home-becomes, same-size}
use Rattle.link_lists.proofs.Steps.{id-low, ring-place, free-apart, put-linked, taken-linked}

-- a list with its parts
pub first-part : (b : ℕ) (xs : List ℕ) → ((q : ℕ) → has q xs ≡ true → q < 2147483648) → 2147483648 ≤ b → ((first_or b xs < 2147483648) × (first_of xs ≡ Some (first_or b xs))) ⊎ ((2147483648 ≤ first_or b xs) × (first_of xs ≡ None))
first-part b [] low high = inr (high, refl)
first-part b (x ∷ xs) low high = inl (low x (has-first x xs), refl)

pub behind-parts : (x : ℕ) (ys zs : List ℕ) → has x ys ≡ false → behind x (ys ++ x ∷ zs) ≡ first_of zs
behind-parts x [] zs h = ap (λ b. cond b (first_of zs) (behind x zs)) (same_test x)
behind-parts x (y ∷ ys) zs h = ap (λ b. cond b (first_of (ys ++ x ∷ zs)) (behind x (ys ++ x ∷ zs)))
    (other_test y x (λ e. has-both x (y ∷ ys) (subst (λ k. has k (y ∷ ys) ≡ true) e (has-first y ys)) h))
    ∙ behind-parts x ys zs (not-has x ys (λ k. has-both x (y ∷ ys) (has-later x y ys k) h))

pub known : (o : Option ℕ) → IsSome o → (l : ℕ) × (o ≡ Some l)
known None h = cc
known (Some l) h = (l, refl)

module _ (v : Lists) (w : Web) (e : seen w ≡ v) (good : IsLinkedWell w) where
  pub home-is : (x : ℕ) → home_of w x ≡ home_at v x
  home-is x = sym (home-seen w x) ∙ ap (λ u. home_at u x) e

  pub list-is : (l : ℕ) → lists_of w l ≡ list_at v l
  list-is l = sym (list-seen w l) ∙ ap (λ u. list_at u l) e

  pub lists-are : w.lists ≡ list_count v
  lists-are = sym (length-made w.lists (lists_of w)) ∙ ap list_count e

  pub ids-are : w.ids ≡ id_count v
  ids-are = sym (length-made w.ids (home_of w)) ∙ ap id_count e

  pub is-home : (l x : ℕ) → (home_at v x ≡ Some l) ↔ (has x (list_at v l) ≡ true)
  is-home l x = (
    (λ h. subst (λ u. has x u ≡ true) (list-is l) (good.inside l x (home-is x ∙ h))),
    (λ h. sym (home-is x) ∙ (good.home l x (subst (λ u. has x u ≡ true) (sym (list-is l)) h)).0),
  )

  pub apart : (l : ℕ) → Once (list_at v l)
  apart l = subst (λ u. Once u) (list-is l) (good.once l)

  pub low-list : (l : ℕ) → l < list_count v → l < w.lists
  low-list l h = let f = lists-are in omega (arith, f)

  pub low-id : (x : ℕ) → x < id_count v → x < w.ids
  low-id x h = let f = ids-are in omega (arith, f)

  pub at-home : (l x : ℕ) → home_at v x ≡ Some l → (has x (lists_of w l) ≡ true) × (x < w.ids) × (l < w.lists)
  at-home l x h = let m = good.inside l x (home-is x ∙ h) in let g = good.home l x m in (m, g.1, g.2)

  pub is-sound : IsSound v
  is-sound = record {
    home = is-home;
    there = λ l x h. let a = at-home l x h in let f = lists-are in let g = ids-are in (omega (arith, f, a.2), omega (arith, g, a.1));
    once = apart;
  }

  pub head-is-place : (l : ℕ) → l < list_count v → is_place w.lists w.ids (head_place l) ≡ true
  head-is-place l h = ring-place w (lists_of w) good l (head_place l) (low-list l h) (has-first (head_place l) (lists_of w l))

  pub id-is-place : (x : ℕ) → x < w.ids → is_place w.lists w.ids x ≡ true
  id-is-place x h = grind (arith, nat_tests)

  -- the place behind the head
  pub first-is : (l : ℕ) → l < list_count v → next_of w (head_place l) ≡ first_or (head_place l) (list_at v l)
  first-is l h = chain-first (next_of w) (prev_of w) (lists_of w l) (head_place l) (head_place l) (good.ring l (low-list l h)) ∙ ap (first_or (head_place l)) (list-is l)

  pub front-is : (l : ℕ) → l < list_count v → ((next_of w (head_place l) < 2147483648) × (first_of (list_at v l) ≡ Some (next_of w (head_place l)))) ⊎ ((2147483648 ≤ next_of w (head_place l)) × (first_of (list_at v l) ≡ None))
  front-is l h = subst (λ k. ((k < 2147483648) × (first_of (list_at v l) ≡ Some k)) ⊎ ((2147483648 ≤ k) × (first_of (list_at v l) ≡ None))) (sym (first-is l h))
      (first-part (head_place l) (list_at v l) (λ q m. id-low w (lists_of w) good l q (subst (λ u. has q u ≡ true) (sym (list-is l)) m)) (omega arith))

  -- the place behind an id
  pub behind-is : (x l : ℕ) → home_at v x ≡ Some l → ((next_of w x < 2147483648) × (behind x (list_at v l) ≡ Some (next_of w x))) ⊎ ((2147483648 ≤ next_of w x) × (behind x (list_at v l) ≡ None))
  behind-is x l h =
      let a = at-home l x h in
      let p = parts-at x (lists_of w l) a.0 in
      let c = subst (λ u. Chain (next_of w) (prev_of w) (head_place l) u (head_place l)) p.2 (good.ring l a.2) in
      let o = subst (λ u. Once u) p.2 (good.once l) in
      let n = chain-first (next_of w) (prev_of w) p.1 x (head_place l) (chain-right (next_of w) (prev_of w) p.0 (x ∷ p.1) (head_place l) (head_place l) c) in
      let b = ap (behind x) (sym (list-is l) ∙ p.2) ∙ behind-parts x p.0 p.1 (not-has x p.0 (λ k. has-both x (p.0 ++ p.1) (has-left x p.0 p.1 k) (once-middle x p.0 p.1 o))) in
      subst (λ r. ((next_of w x < 2147483648) × (r ≡ Some (next_of w x))) ⊎ ((2147483648 ≤ next_of w x) × (r ≡ None))) (sym b)
      (subst (λ k. ((k < 2147483648) × (first_of p.1 ≡ Some k)) ⊎ ((2147483648 ≤ k) × (first_of p.1 ≡ None))) (sym n)
      (first-part (head_place l) p.1 (λ q m. id-low w (lists_of w) good l q (subst (λ u. has q u ≡ true) (sym p.2) (has-right q p.0 (x ∷ p.1) (has-later q x p.1 m)))) (omega arith)))

  -- what linking asks
  pub record Asked (at id : ℕ) : Type 0 where
    pub at_place : is_place w.lists w.ids at ≡ true
    pub before_place : is_place w.lists w.ids (prev_of w at) ≡ true
    pub id_there : id < w.ids
    pub before_other : prev_of w at ≢ id
    pub at_other : at ≢ id

  -- and what it leaves
  pub record Left (w' : Web) (l id : ℕ) (ids : List ℕ) (now : Option ℕ) : Type 0 where
    pub well : IsLinkedWell w'
    pub list : ListBecomes v (seen w') l ids
    pub home : HomeBecomes v (seen w') id now
    pub counts : SameCounts v (seen w')

  module _ (l id : ℕ) (ys zs : List ℕ) (is : list_at v l ≡ ys ++ zs) (lt : l < list_count v) (there : id < id_count v) (free : home_at v id ≡ None) where
    asked : Chain (next_of w) (prev_of w) (head_place l) (ys ++ zs) (head_place l)
    asked = subst (λ u. Chain (next_of w) (prev_of w) (head_place l) u (head_place l)) (list-is l ∙ is) (good.ring l (low-list l lt))

    in-it : (q : ℕ) → has q (head_place l ∷ (ys ++ zs)) ≡ true → has q (head_place l ∷ lists_of w l) ≡ true
    in-it q h = subst (λ u. has q (head_place l ∷ u) ≡ true) (sym (list-is l ∙ is)) h

    first-in : (vs : List ℕ) → has (first_or (head_place l) vs) (head_place l ∷ vs) ≡ true
    first-in [] = has-first (head_place l) []
    first-in (z ∷ vs) = has-later z (head_place l) (z ∷ vs) (has-first z vs)

    at-in : has (first_or (head_place l) zs) (head_place l ∷ lists_of w l) ≡ true
    at-in = in-it _ (elim (has-cons _ (head_place l) zs (first-in zs)) as (λ u. has (first_or (head_place l) zs) (head_place l ∷ (ys ++ zs)) ≡ true) [
      | inl f ↦ subst (λ j. has j (head_place l ∷ (ys ++ zs)) ≡ true) f (has-first (head_place l) (ys ++ zs))
      | inr b ↦ has-later _ (head_place l) (ys ++ zs) (has-right _ ys zs b)
    ])

    before-in : has (prev_of w (first_or (head_place l) zs)) (head_place l ∷ lists_of w l) ≡ true
    before-in = in-it _ (has-left _ (head_place l ∷ ys) zs
        (chain-last (next_of w) (prev_of w) ys (head_place l) (first_or (head_place l) zs) (chain-left (next_of w) (prev_of w) ys zs (head_place l) (head_place l) asked)))

    pub link-asks : Asked (first_or (head_place l) zs) id
    link-asks = record {
      at_place = ring-place w (lists_of w) good l _ (low-list l lt) at-in;
      before_place = ring-place w (lists_of w) good l _ (low-list l lt) before-in;
      id_there = low-id id there;
      before_other = free-apart w (lists_of w) good id l _ (home-is id ∙ free) (low-id id there) before-in;
      at_other = free-apart w (lists_of w) good id l _ (home-is id ∙ free) (low-id id there) at-in;
    }

    pub link-leaves : (w' : Web) → IsLinked w w' (first_or (head_place l) zs) id l → Left w' l id (ys ++ id ∷ zs) (Some l)
    link-leaves w' step =
        let put-well = put-linked w (lists_of w) good w' l id ys zs (list-is l ∙ is) (low-list l lt) (home-is id ∙ free) (low-id id there) step in
        record {
          well = linked-well w' _ put-well;
          list = subst (λ u. ListBecomes u (seen w') l (ys ++ id ∷ zs)) e (list-becomes w w' l (ys ++ id ∷ zs) put-well);
          home = subst (λ u. HomeBecomes u (seen w') id (Some l)) e (home-becomes w w' id (Some l) step.home_id step.home_others);
          counts = subst (λ u. SameCounts u (seen w')) e (same-size w w' step.counts.0 step.counts.1);
        }

  module _ (l id : ℕ) (lt : l < list_count v) (there : id < id_count v) (free : home_at v id ≡ None) where
    pub back-asks : Asked (head_place l) id
    back-asks = link-asks l id (list_at v l) [] (sym (append-nil (list_at v l))) lt there free

    pub back-leaves : (w' : Web) → IsLinked w w' (head_place l) id l → Left w' l id (list_at v l ++ id ∷ []) (Some l)
    back-leaves w' step = link-leaves l id (list_at v l) [] (sym (append-nil (list_at v l))) lt there free w' step

    pub front-asks : (at : ℕ) → at ≡ next_of w (head_place l) → Asked at id
    front-asks at f = subst (λ j. Asked j id) (sym (f ∙ first-is l lt)) (link-asks l id [] (list_at v l) refl lt there free)

    pub front-leaves : (w' : Web) (at : ℕ) → at ≡ next_of w (head_place l) → IsLinked w w' at id l → Left w' l id (id ∷ list_at v l) (Some l)
    front-leaves w' at f step = link-leaves l id [] (list_at v l) refl lt there free w' (subst (λ j. IsLinked w w' j id l) (f ∙ first-is l lt) step)

  module _ (next l id : ℕ) (at : home_at v next ≡ Some l) (there : id < id_count v) (free : home_at v id ≡ None) where
    next-parts : (ys : List ℕ) × (zs : List ℕ) × (list_at v l ≡ ys ++ next ∷ zs)
    next-parts = parts-at next (list_at v l) ((is-home l next).0 at)

    list-low : l < list_count v
    list-low = let a = at-home l next at in let f = lists-are in omega (arith, a.2, f)

    pub before-asks : Asked next id
    before-asks = let p = next-parts in link-asks l id p.0 (next ∷ p.1) p.2 list-low there free

    pub before-leaves : (w' : Web) → IsLinked w w' next id l → Left w' l id (put_before next id (list_at v l)) (Some l)
    before-leaves w' step =
        let p = next-parts in
        let o = subst (λ u. Once u) p.2 (apart l) in
        let f : p.0 ++ id ∷ next ∷ p.1 ≡ put_before next id (list_at v l) =
        sym (ap (put_before next id) p.2 ∙ put-parts next id p.0 p.1 (not-has next p.0 (λ k. has-both next (p.0 ++ p.1) (has-left next p.0 p.1 k) (once-middle next p.0 p.1 o)))) in
        subst (λ ids. Left w' l id ids (Some l)) f (link-leaves l id p.0 (next ∷ p.1) p.2 list-low there free w' step)

  -- what taking out asks, and what it leaves
  module _ (l id : ℕ) (home : home_at v id ≡ Some l) where
    whole-parts : (ys : List ℕ) × (zs : List ℕ) × (lists_of w l ≡ ys ++ id ∷ zs)
    whole-parts = parts-at id (lists_of w l) (at-home l id home).0

    pub out-there : id < w.ids
    out-there = (at-home l id home).1

    pub out-before : is_place w.lists w.ids (prev_of w id) ≡ true
    out-before = let p = whole-parts in ring-place w (lists_of w) good l _ (at-home l id home).2
        (in-parts _ (has-left _ (head_place l ∷ p.0) (id ∷ p.1) (chain-last (next_of w) (prev_of w) p.0 (head_place l) id (chain-left (next_of w) (prev_of w) p.0 (id ∷ p.1) (head_place l) (head_place l) chain-parts))))
      where
        chain-parts : Chain (next_of w) (prev_of w) (head_place l) (whole-parts.0 ++ id ∷ whole-parts.1) (head_place l)
        chain-parts = subst (λ u. Chain (next_of w) (prev_of w) (head_place l) u (head_place l)) whole-parts.2 (good.ring l (at-home l id home).2)

        in-parts : (q : ℕ) → has q (head_place l ∷ (whole-parts.0 ++ id ∷ whole-parts.1)) ≡ true → has q (head_place l ∷ lists_of w l) ≡ true
        in-parts q h = subst (λ u. has q (head_place l ∷ u) ≡ true) (sym whole-parts.2) h

    pub out-behind : is_place w.lists w.ids (next_of w id) ≡ true
    out-behind = let p = whole-parts in
        let n = chain-first (next_of w) (prev_of w) p.1 id (head_place l) (chain-right (next_of w) (prev_of w) p.0 (id ∷ p.1) (head_place l) (head_place l)
        (subst (λ u. Chain (next_of w) (prev_of w) (head_place l) u (head_place l)) p.2 (good.ring l (at-home l id home).2))) in
        subst (λ j. is_place w.lists w.ids j ≡ true) (sym n) (first-place p.1 (λ q h. subst (λ u. has q u ≡ true) (sym p.2) (has-right q p.0 (id ∷ p.1) (has-later q id p.1 h))))
      where
        first-place : (vs : List ℕ) → ((q : ℕ) → has q vs ≡ true → has q (lists_of w l) ≡ true) → is_place w.lists w.ids (first_or (head_place l) vs) ≡ true
        first-place [] h = ring-place w (lists_of w) good l _ (at-home l id home).2 (has-first (head_place l) (lists_of w l))
        first-place (z ∷ vs) h = id-is-place z (good.home l z (h z (has-first z vs))).1

    pub out-leaves : (w' : Web) → IsTakenOut w w' id → Left w' l id (without id (list_at v l)) None
    out-leaves w' step =
        let p = whole-parts in
        let well = taken-linked w (lists_of w) good w' l id p.0 p.1 p.2 (at-home l id home).2 step in
        let gone = once-middle id p.0 p.1 (subst (λ u. Once u) p.2 (good.once l)) in
        let f : p.0 ++ p.1 ≡ without id (list_at v l) = sym (without-parts id p.0 p.1 gone) ∙ ap (without id) (sym p.2 ∙ list-is l) in
        record {
          well = linked-well w' _ well;
          list = subst (λ u. ListBecomes u (seen w') l (without id (list_at v l))) e (subst (λ ids. ListBecomes (seen w) (seen w') l ids) f (list-becomes w w' l (p.0 ++ p.1) well));
          home = subst (λ u. HomeBecomes u (seen w') id None) e (home-becomes w w' id None step.home_id step.home_others);
          counts = subst (λ u. SameCounts u (seen w')) e (same-size w w' step.counts.0 step.counts.1);
        }

  -- one id more, in no list, or none
  module _ (w' : Web) (lists : w'.lists ≡ w.lists) (ids : w.ids ≤ w'.ids) (few : w'.ids ≤ 2147483648)
      (next : (q : ℕ) → is_place w.lists w.ids q ≡ true → next_of w' q ≡ next_of w q)
      (prev : (q : ℕ) → is_place w.lists w.ids q ≡ true → prev_of w' q ≡ prev_of w q)
      (home : SameHome w w') where
    grown : Linked w' (lists_of w)
    grown = record {
      ring = λ l lt. let low : l < w.lists = omega (arith, lists, lt) in
          chain-same (next_of w) (prev_of w) (next_of w') (prev_of w') (lists_of w l) (head_place l) (head_place l) (good.ring l low)
          (λ q h. next q (ring-place w (lists_of w) good l q low h))
          (λ q h. prev q (ring-place w (lists_of w) good l q low (has-later q (head_place l) (lists_of w l) h)))
          (prev (head_place l) (ring-place w (lists_of w) good l (head_place l) low (has-first (head_place l) (lists_of w l))));
      once = good.once;
      home = λ l x h. let g = good.home l x h in (home x ∙ g.0, omega (arith, g.1, ids), omega (arith, g.2, lists));
      inside = λ l x h. good.inside l x (sym (home x) ∙ h);
      few_ids = few;
      few_lists = let f = good.few_lists in omega (arith, lists, f);
    }

    pub grown-well : IsLinkedWell w'
    grown-well = linked-well w' (lists_of w) grown

    pub grown-lists : SameLists v (seen w')
    grown-lists l = list-seen w' l ∙ walked w' (lists_of w) grown l ∙ list-is l

    pub grown-homes : (x : ℕ) → home_at (seen w') x ≡ home_at v x
    grown-homes x = home-seen w' x ∙ home x ∙ home-is x

    pub grown-count : list_count (seen w') ≡ list_count v
    grown-count = length-made w'.lists (lists_of w') ∙ lists ∙ lists-are

-- a web with no id
pub empty-linked : (w : Web) → w.ids ≡ 0 → w.lists ≤ 2147483648 → ((l : ℕ) → l < w.lists → next_of w (head_place l) ≡ head_place l)
    → ((l : ℕ) → l < w.lists → prev_of w (head_place l) ≡ head_place l) → Linked w (λ l. [])
empty-linked w none few next prev = record {
  ring = λ l lt. (next l lt, prev l lt);
  once = λ l. tt;
  home = λ l x h. cc;
  inside = λ l x h. absurd (no-home w x l none h);
  few_ids = omega (arith, none);
  few_lists = few;
}
  where
    no-home : (w : Web) (x l : ℕ) → w.ids ≡ 0 → home_of w x ≡ Some l → ⊥
    no-home w x l none h = let f : nat_lt x w.ids ≡ false = out-test x w.ids none in
        let g = ap (λ b. cond b (node_at w.nodes (slot_of w.lists x)).home None) (sym f) ∙ h in cc
      where
        out-test : (x n : ℕ) → n ≡ 0 → nat_lt x n ≡ false
        out-test x n e = grind (arith, nat_tests)

pub empty-list : (w : Web) → Linked w (λ l. []) → (l : ℕ) → list_at (seen w) l ≡ []
empty-list w good l = list-seen w l ∙ walked w (λ l. []) good l
