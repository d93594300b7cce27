-- Linking an id into a list and taking one out keep the web linked to its lists.
use Rattle.std.proofs.Common.{◌≡◌, ◌≢◌, ◌∙◌, sym, ap, subst, refl, ℕ, ◌<◌, true, false, List, [], ◌∷◌, ◌++◌, inl, inr, arith, Some, None}
use Rattle.std.proofs.lemmas.Bool.Decides.{eqb_tells, nat_tests}
use Rattle.link_lists.specs.declared.web.Web.{Web}
use Rattle.link_lists.specs.Places.{head_place, is_place}
use Rattle.link_lists.specs.Web.{next_of, prev_of, home_of, IsLinked, IsTakenOut}
use Rattle.link_lists.specs.Rings.{Chain, Linked}
use Rattle.link_lists.specs.Lists.{has, Once}
use Rattle.link_lists.proofs.Members.{has-first, has-later, has-cons, has-both, has-right, has-left, has-put, has-kept, has-middle, not-has, once-put, once-taken, once-middle, once-left, once-right, once-apart}
use Rattle.link_lists.proofs.Chains.{first_or, Rest, chain-left, chain-right, chain-join, chain-last, chain-first, chain-same, chain-turned}
use Rattle.link_lists.proofs.Seen.{put, put-each}

-- an id of the list, or its head
abbrev In : (ℕ → List ℕ) → ℕ → ℕ → Type 0
In L l q = has q (head_place l ∷ L l) ≡ true

module _ (w : Web) (L : ℕ → List ℕ) (good : Linked w L) where
  pub id-low : (l x : ℕ) → has x (L l) ≡ true → x < 2147483648
  id-low l x h = let k = good.home l x h in let few = good.few_ids in omega (arith, k.1)

  -- the head is no id
  pub head-apart : (l k : ℕ) → has (head_place k) (L l) ≡ true → ⊥
  head-apart l k h = let low = id-low l (head_place k) h in omega (arith, low)

  pub ring-once : (l : ℕ) → Once (head_place l ∷ L l)
  ring-once l = (not-has (head_place l) (L l) (head-apart l l), good.once l)

  some-same : (a b : ℕ) → Some a ≡ Some b → a ≡ b
  some-same a b e = cc

  -- what is in two rings is in one list
  pub rings-apart : (k l q : ℕ) → In L k q → In L l q → k ≡ l
  rings-apart k l q h g = elim (has-cons q (head_place k) (L k) h) as (λ v. k ≡ l) [
    | inl e ↦ elim (has-cons q (head_place l) (L l) g) as (λ v. k ≡ l)
        [ inl f ↦ omega (arith, e, f) | inr b ↦ absurd (head-apart l k (subst (λ j. has j (L l) ≡ true) (sym e) b)) ]
    | inr a ↦ elim (has-cons q (head_place l) (L l) g) as (λ v. k ≡ l) [
      | inl f ↦ absurd (head-apart k l (subst (λ j. has j (L k) ≡ true) (sym f) a))
      | inr b ↦ some-same k l (sym (good.home k q a).0 ∙ (good.home l q b).0)
    ]
  ]

  -- an id without a list is in no ring
  pub free-apart : (id l q : ℕ) → home_of w id ≡ None → id < w.ids → In L l q → q ≢ id
  free-apart id l q free there h e = elim (has-cons q (head_place l) (L l) h) as (λ v. ⊥) [
    | inl f ↦ let few = good.few_ids in omega (arith, e, f, there)
    | inr a ↦ let k : home_of w id ≡ Some l = subst (λ j. home_of w j ≡ Some l) e (good.home l q a).0 in cc
  ]

  pub ring-place : (l q : ℕ) → l < w.lists → In L l q → is_place w.lists w.ids q ≡ true
  ring-place l q lt h = elim (has-cons q (head_place l) (L l) h) as (λ v. is_place w.lists w.ids q ≡ true) [
    | inl e ↦ subst (λ j. is_place w.lists w.ids j ≡ true) e (head-is w.lists w.ids l lt)
    | inr a ↦ id-is w.lists w.ids q (good.home l q a).1
  ]
    where
      head-is : (lists ids l : ℕ) → l < lists → is_place lists ids (head_place l) ≡ true
      head-is lists ids l lt = grind (arith, nat_tests)

      id-is : (lists ids q : ℕ) → q < ids → is_place lists ids q ≡ true
      id-is lists ids q lt = grind (arith, nat_tests)

  -- `id` put between two parts of list l
  module _ (w' : Web) (l id : ℕ) (ys zs : List ℕ) (is : L l ≡ ys ++ zs) (lt : l < w.lists) (free : home_of w id ≡ None) (there : id < w.ids)
      (step : IsLinked w w' (first_or (head_place l) zs) id l) where
    ring-is : Chain (next_of w) (prev_of w) (head_place l) (ys ++ zs) (head_place l)
    ring-is = subst (λ v. Chain (next_of w) (prev_of w) (head_place l) v (head_place l)) is (good.ring l lt)

    once-is : Once (head_place l ∷ (ys ++ zs))
    once-is = subst (λ v. Once (head_place l ∷ v)) is (ring-once l)

    left : Chain (next_of w) (prev_of w) (head_place l) ys (first_or (head_place l) zs)
    left = chain-left (next_of w) (prev_of w) ys zs (head_place l) (head_place l) ring-is

    in-ring : (q : ℕ) → has q (head_place l ∷ (ys ++ zs)) ≡ true → In L l q
    in-ring q h = subst (λ v. has q (head_place l ∷ v) ≡ true) (sym is) h

    in-left : (q : ℕ) → has q (head_place l ∷ ys) ≡ true → In L l q
    in-left q h = in-ring q (has-left q (head_place l ∷ ys) zs h)

    before-in : has (prev_of w (first_or (head_place l) zs)) (head_place l ∷ ys) ≡ true
    before-in = chain-last (next_of w) (prev_of w) ys (head_place l) (first_or (head_place l) zs) left

    at-in : (zs : List ℕ) → has (first_or (head_place l) zs) (head_place l ∷ zs) ≡ true
    at-in [] = has-first (head_place l) []
    at-in (z ∷ zs) = has-later z (head_place l) (z ∷ zs) (has-first z zs)

    at-ring : In L l (first_or (head_place l) zs)
    at-ring = elim (has-cons (first_or (head_place l) zs) (head_place l) zs (at-in zs)) as (λ v. In L l (first_or (head_place l) zs)) [
      | inl e ↦ subst (λ j. In L l j) e (has-first (head_place l) (L l))
      | inr b ↦ in-ring _ (has-later _ (head_place l) (ys ++ zs) (has-right _ ys zs b))
    ]

    prev-place : has (prev_of w (first_or (head_place l) zs)) (head_place l ∷ (ys ++ zs)) ≡ true
    prev-place = has-left _ (head_place l ∷ ys) zs before-in

    at-other : first_or (head_place l) zs ≢ id
    at-other = free-apart id l _ free there at-ring

    -- the ring of another list is as it was
    other-ring : (k : ℕ) → k ≢ l → k < w.lists → Chain (next_of w') (prev_of w') (head_place k) (L k) (head_place k)
    other-ring k ne low = chain-same (next_of w) (prev_of w) (next_of w') (prev_of w') (L k) (head_place k) (head_place k) (good.ring k low)
        (λ q h. step.next_others q (λ e. ne (rings-apart k l q h (subst (λ j. In L l j) (sym e) (in-ring _ prev-place)))) (free-apart id k q free there h))
        (λ q h. step.prev_others q (λ e. ne (rings-apart k l q (has-later q (head_place k) (L k) h) (subst (λ j. In L l j) (sym e) at-ring))) (free-apart id k q free there (has-later q (head_place k) (L k) h)))
        (step.prev_others (head_place k) (λ e. ne (rings-apart k l (head_place k) (has-first (head_place k) (L k)) (subst (λ j. In L l j) (sym e) at-ring))) (free-apart id k (head_place k) free there (has-first (head_place k) (L k))))

    -- members of the first part are not the place behind it
    left-not-at : (q : ℕ) → has q ys ≡ true → q ≢ first_or (head_place l) zs
    left-not-at q h e = elim zs as (λ v. (has q (ys ++ v) ≡ true) → Once (head_place l ∷ (ys ++ v)) → (q ≡ first_or (head_place l) v) → ⊥) [
      | [] ↦ (λ a o f. has-both (head_place l) (ys ++ []) (subst (λ j. has j (ys ++ []) ≡ true) f a) o.0)
      | z ∷ vs ↦ (λ a o f. once-apart q ys (z ∷ vs) o.1 h (subst (λ j. has j (z ∷ vs) ≡ true) (sym f) (has-first z vs)))
    ]
        (has-left q ys zs h) once-is e

    new-left : Chain (next_of w') (prev_of w') (head_place l) ys id
    new-left = chain-turned (next_of w) (prev_of w) (next_of w') (prev_of w') ys (head_place l) (first_or (head_place l) zs) id left
        (once-left (head_place l ∷ ys) zs once-is)
        (λ q h ne. step.next_others q ne (free-apart id l q free there (in-left q h)))
        (λ q h. step.prev_others q (left-not-at q h) (free-apart id l q free there (in-left q (has-later q (head_place l) ys h))))
        step.next_before step.prev_id

    -- the links behind the new id
    new-rest : (vs : List ℕ) → vs ≡ zs → Rest (next_of w') (prev_of w') vs (head_place l)
    new-rest [] e = tt
    new-rest (z ∷ vs) e = chain-same (next_of w) (prev_of w) (next_of w') (prev_of w') vs z (head_place l)
        (subst (λ v. Rest (next_of w) (prev_of w) v (head_place l)) (sym e) (chain-right (next_of w) (prev_of w) ys zs (head_place l) (head_place l) ring-is))
        (λ q h. step.next_others q
        (λ f. once-apart q (head_place l ∷ ys) zs once-is (subst (λ j. has j (head_place l ∷ ys) ≡ true) (sym f) before-in) (subst (λ v. has q v ≡ true) e h))
        (free-apart id l q free there (right-in q (subst (λ v. has q v ≡ true) e h))))
        (λ q h. step.prev_others q
        (λ f. has-both z vs (subst (λ j. has j vs ≡ true) (f ∙ sym (ap (first_or (head_place l)) e)) h) (once-z.0))
        (free-apart id l q free there (right-in q (subst (λ v. has q v ≡ true) e (has-later q z vs h)))))
        (step.prev_others (head_place l)
        (λ f. has-both (head_place l) (ys ++ zs) (has-right _ ys zs (subst (λ v. has (head_place l) v ≡ true) e (subst (λ j. has j (z ∷ vs) ≡ true) (sym (f ∙ sym (ap (first_or (head_place l)) e))) (has-first z vs)))) once-is.0)
        (free-apart id l (head_place l) free there (has-first (head_place l) (L l))))
      where
        once-z : Once (z ∷ vs)
        once-z = subst (λ v. Once v) (sym e) (once-right ys zs once-is.1)

        right-in : (q : ℕ) → has q zs ≡ true → In L l q
        right-in q h = in-ring q (has-later q (head_place l) (ys ++ zs) (has-right q ys zs h))

    new-ring : Chain (next_of w') (prev_of w') (head_place l) (ys ++ id ∷ zs) (head_place l)
    new-ring = chain-join (next_of w') (prev_of w') ys (id ∷ zs) (head_place l) (head_place l) new-left
        (chain-join (next_of w') (prev_of w') [] zs id (head_place l) (step.next_id, step.prev_at) (new-rest zs refl))

    id-out : has id (ys ++ zs) ≡ false
    id-out = not-has id (ys ++ zs) (λ h. free-apart id l id free there (in-ring id (has-later id (head_place l) (ys ++ zs) h)) refl)

    home-kept : (x k : ℕ) → home_of w x ≡ Some k → home_of w' x ≡ Some k
    home-kept x k h = step.home_others x (λ e. let n : home_of w x ≡ None = subst (λ j. home_of w j ≡ None) (sym e) free in cc) ∙ h

    lists-kept : (k : ℕ) → k < w.lists → k < w'.lists
    lists-kept k h = let e = step.counts.1 in omega (arith, e)

    ids-kept : (x : ℕ) → x < w.ids → x < w'.ids
    ids-kept x h = let e = step.counts.0 in omega (arith, e)

    pub put-linked : Linked w' (put L l (ys ++ id ∷ zs))
    put-linked = record {
      ring = put-each (λ k v. k < w'.lists → Chain (next_of w') (prev_of w') (head_place k) v (head_place k)) L l (ys ++ id ∷ zs) (λ low. new-ring)
          (λ k ne low. other-ring k ne (let e = step.counts.1 in omega (arith, e, low)));
      once = put-each (λ k v. Once v) L l (ys ++ id ∷ zs) (once-put id ys zs once-is.1 id-out) (λ k ne. good.once k);
      home = put-each (λ k v. (x : ℕ) → has x v ≡ true → (home_of w' x ≡ Some k) × (x < w'.ids) × (k < w'.lists)) L l (ys ++ id ∷ zs)
          (λ x h. elim (has-put x id ys zs h) as (λ v. (home_of w' x ≡ Some l) × (x < w'.ids) × (l < w'.lists)) [
            | inl e ↦ (subst (λ j. home_of w' j ≡ Some l) e step.home_id, subst (λ j. j < w'.ids) e (ids-kept id there), lists-kept l lt)
            | inr r ↦ kept-home l x (subst (λ v. has x v ≡ true) (sym is) r)
          ])
          (λ k ne x h. kept-home k x h);
      inside = λ k x h. put-each (λ k v. home_of w' x ≡ Some k → has x v ≡ true) L l (ys ++ id ∷ zs)
          (λ h. elim (eqb_tells x id) as (λ v. has x (ys ++ id ∷ zs) ≡ true) [
            | inl t ↦ subst (λ j. has j (ys ++ id ∷ zs) ≡ true) (sym t.1) (has-middle id ys zs)
            | inr f ↦ has-kept x id ys zs (subst (λ v. has x v ≡ true) is (good.inside l x (sym (step.home_others x f.1) ∙ h)))
          ])
          (λ k ne h. good.inside k x (sym (step.home_others x (λ e. ne (some-same k l (sym h ∙ subst (λ j. home_of w' j ≡ Some l) (sym e) step.home_id)))) ∙ h)) k h;
      few_ids = let e = step.counts.0 in let f = good.few_ids in omega (arith, e, f);
      few_lists = let e = step.counts.1 in let f = good.few_lists in omega (arith, e, f);
    }
      where
        kept-home : (k x : ℕ) → has x (L k) ≡ true → (home_of w' x ≡ Some k) × (x < w'.ids) × (k < w'.lists)
        kept-home k x h = let g = good.home k x h in (home-kept x k g.0, ids-kept x g.1, lists-kept k g.2)

  -- `id` taken out from between two parts of list l
  module _ (w' : Web) (l id : ℕ) (ys zs : List ℕ) (is : L l ≡ ys ++ id ∷ zs) (lt : l < w.lists) (step : IsTakenOut w w' id) where
    whole : Chain (next_of w) (prev_of w) (head_place l) (ys ++ id ∷ zs) (head_place l)
    whole = subst (λ v. Chain (next_of w) (prev_of w) (head_place l) v (head_place l)) is (good.ring l lt)

    whole-once : Once (head_place l ∷ (ys ++ id ∷ zs))
    whole-once = subst (λ v. Once (head_place l ∷ v)) is (ring-once l)

    part-once : Once (head_place l ∷ (ys ++ zs))
    part-once = once-taken id (head_place l ∷ ys) zs whole-once

    front : Chain (next_of w) (prev_of w) (head_place l) ys id
    front = chain-left (next_of w) (prev_of w) ys (id ∷ zs) (head_place l) (head_place l) whole

    back : Chain (next_of w) (prev_of w) id zs (head_place l)
    back = chain-right (next_of w) (prev_of w) ys (id ∷ zs) (head_place l) (head_place l) whole

    next-is : next_of w id ≡ first_or (head_place l) zs
    next-is = chain-first (next_of w) (prev_of w) zs id (head_place l) back

    of-whole : (q : ℕ) → has q (head_place l ∷ (ys ++ id ∷ zs)) ≡ true → In L l q
    of-whole q h = subst (λ v. has q (head_place l ∷ v) ≡ true) (sym is) h

    prev-front : has (prev_of w id) (head_place l ∷ ys) ≡ true
    prev-front = chain-last (next_of w) (prev_of w) ys (head_place l) id front

    pub prev-ring : In L l (prev_of w id)
    prev-ring = of-whole _ (has-left _ (head_place l ∷ ys) (id ∷ zs) prev-front)

    first-in : (zs : List ℕ) → has (first_or (head_place l) zs) (head_place l ∷ zs) ≡ true
    first-in [] = has-first (head_place l) []
    first-in (z ∷ zs) = has-later z (head_place l) (z ∷ zs) (has-first z zs)

    pub next-ring : In L l (next_of w id)
    next-ring = subst (λ j. In L l j) (sym next-is) (elim (has-cons (first_or (head_place l) zs) (head_place l) zs (first-in zs)) as (λ v. In L l (first_or (head_place l) zs)) [
      | inl e ↦ subst (λ j. In L l j) e (has-first (head_place l) (L l))
      | inr b ↦ of-whole _ (has-later _ (head_place l) (ys ++ id ∷ zs) (has-right _ ys (id ∷ zs) (has-later _ id zs b)))
    ])

    far-ring : (k : ℕ) → k ≢ l → k < w.lists → Chain (next_of w') (prev_of w') (head_place k) (L k) (head_place k)
    far-ring k ne low = chain-same (next_of w) (prev_of w) (next_of w') (prev_of w') (L k) (head_place k) (head_place k) (good.ring k low)
        (λ q h. step.next_others q (λ e. ne (rings-apart k l q h (subst (λ j. In L l j) (sym e) prev-ring))))
        (λ q h. step.prev_others q (λ e. ne (rings-apart k l q (has-later q (head_place k) (L k) h) (subst (λ j. In L l j) (sym e) next-ring))))
        (step.prev_others (head_place k) (λ e. ne (rings-apart k l (head_place k) (has-first (head_place k) (L k)) (subst (λ j. In L l j) (sym e) next-ring))))

    front-not-next : (q : ℕ) → has q ys ≡ true → q ≢ first_or (head_place l) zs
    front-not-next q h e = elim zs as (λ v. (has q (ys ++ v) ≡ true) → Once (head_place l ∷ (ys ++ v)) → (q ≡ first_or (head_place l) v) → ⊥) [
      | [] ↦ (λ a o f. has-both (head_place l) (ys ++ []) (subst (λ j. has j (ys ++ []) ≡ true) f a) o.0)
      | z ∷ vs ↦ (λ a o f. once-apart q ys (z ∷ vs) o.1 h (subst (λ j. has j (z ∷ vs) ≡ true) (sym f) (has-first z vs)))
    ]
        (has-left q ys zs h) part-once e

    short-front : Chain (next_of w') (prev_of w') (head_place l) ys (first_or (head_place l) zs)
    short-front = chain-turned (next_of w) (prev_of w) (next_of w') (prev_of w') ys (head_place l) id (first_or (head_place l) zs) front
        (once-left (head_place l ∷ ys) (id ∷ zs) whole-once)
        (λ q h ne. step.next_others q ne)
        (λ q h. step.prev_others q (λ e. front-not-next q h (e ∙ next-is)))
        (step.next_before ∙ next-is) (subst (λ j. prev_of w' j ≡ prev_of w id) next-is step.prev_behind)

    short-rest : (vs : List ℕ) → vs ≡ zs → Rest (next_of w') (prev_of w') vs (head_place l)
    short-rest [] e = tt
    short-rest (z ∷ vs) e = chain-same (next_of w) (prev_of w) (next_of w') (prev_of w') vs z (head_place l)
        (subst (λ v. Chain (next_of w) (prev_of w) id v (head_place l)) (sym e) back).2
        (λ q h. step.next_others q
        (λ f. once-apart q (head_place l ∷ ys) zs part-once (subst (λ j. has j (head_place l ∷ ys) ≡ true) (sym f) prev-front) (subst (λ v. has q v ≡ true) e h)))
        (λ q h. step.prev_others q (λ f. has-both z vs (subst (λ j. has j vs ≡ true) (f ∙ next-z) h) once-z.0))
        (step.prev_others (head_place l)
        (λ f. has-both (head_place l) (ys ++ zs) (has-right _ ys zs (subst (λ v. has (head_place l) v ≡ true) e (subst (λ j. has j (z ∷ vs) ≡ true) (sym (f ∙ next-z)) (has-first z vs)))) part-once.0))
      where
        once-z : Once (z ∷ vs)
        once-z = subst (λ v. Once v) (sym e) (once-right ys zs part-once.1)

        next-z : next_of w id ≡ z
        next-z = next-is ∙ sym (ap (first_or (head_place l)) e)

    id-gone : has id (ys ++ zs) ≡ false
    id-gone = once-middle id ys zs whole-once.1

    stays : (x k : ℕ) → x ≢ id → home_of w x ≡ Some k → home_of w' x ≡ Some k
    stays x k ne h = step.home_others x ne ∙ h

    id-home : home_of w id ≡ Some l
    id-home = (good.home l id (subst (λ v. has id v ≡ true) (sym is) (has-middle id ys zs))).0

    not-id : (k x : ℕ) → home_of w' x ≡ Some k → x ≢ id
    not-id k x h e = let n : home_of w' x ≡ None = subst (λ j. home_of w' j ≡ None) (sym e) step.home_id in cc

    pub taken-linked : Linked w' (put L l (ys ++ zs))
    taken-linked = record {
      ring = put-each (λ k v. k < w'.lists → Chain (next_of w') (prev_of w') (head_place k) v (head_place k)) L l (ys ++ zs)
          (λ low. chain-join (next_of w') (prev_of w') ys zs (head_place l) (head_place l) short-front (short-rest zs refl))
          (λ k ne low. far-ring k ne (let e = step.counts.1 in omega (arith, e, low)));
      once = put-each (λ k v. Once v) L l (ys ++ zs) part-once.1 (λ k ne. good.once k);
      home = put-each (λ k v. (x : ℕ) → has x v ≡ true → (home_of w' x ≡ Some k) × (x < w'.ids) × (k < w'.lists)) L l (ys ++ zs)
          (λ x h. has-home l x (λ e. has-both id (ys ++ zs) (subst (λ j. has j (ys ++ zs) ≡ true) e h) id-gone) (subst (λ v. has x v ≡ true) (sym is) (has-kept x id ys zs h)))
          (λ k ne x h. has-home k x (λ e. ne (some-same k l (sym (subst (λ j. home_of w j ≡ Some k) e (good.home k x h).0) ∙ id-home))) h);
      inside = λ k x h. put-each (λ k v. home_of w' x ≡ Some k → has x v ≡ true) L l (ys ++ zs)
          (λ h. elim (has-put x id ys zs (subst (λ v. has x v ≡ true) is (good.inside l x (sym (step.home_others x (not-id l x h)) ∙ h)))) as (λ v. has x (ys ++ zs) ≡ true)
          [ inl e ↦ absurd (not-id l x h (sym e)) | inr r ↦ r ])
          (λ k ne h. good.inside k x (sym (step.home_others x (not-id k x h)) ∙ h)) k h;
      few_ids = let e = step.counts.0 in let f = good.few_ids in omega (arith, e, f);
      few_lists = let e = step.counts.1 in let f = good.few_lists in omega (arith, e, f);
    }
      where
        has-home : (k x : ℕ) → x ≢ id → has x (L k) ≡ true → (home_of w' x ≡ Some k) × (x < w'.ids) × (k < w'.lists)
        has-home k x ne h = let g = good.home k x h in let e = step.counts.0 in let f = step.counts.1 in (stays x k ne g.0, omega (arith, e, g.1), omega (arith, f, g.2))
