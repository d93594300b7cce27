-- Trees of threads found along waits.
use Rattle.std.proofs.Common.{◌≡◌, ◌≢◌, ◌∙◌, sym, ap, subst, refl, ℕ, zero, suc, ◌+◌, ◌<◌, ◌≤◌, ◌==◌, Bool, true, false, if◌then◌else◌, nat_eq, ◌||◌, List, [], ◌∷◌, ◌++◌, length, reverse, slice_index, arith, ◌⊎◌, inl, inr}
use Rattle.std.proofs.lemmas.Bool.Decides.{eqb_tells, Decides-eqb}
use Rattle.std.proofs.lemmas.Bool.{ne_eqb}
use Rattle.std.proofs.lemmas.List.{length_push, reverse-append}
use Rattle.std.specs.List.{list_any}
use Rattle.indexmap.specs.IndexSet.{insert_key}
use Rattle.ids_base.specs.Waits.{WaitInTurn}
use Rattle.link_lists.specs.Lists.{Once}
use Rattle.link_lists.proofs.Members.{once-few}
use Rattle.wait_graph.specs.Cycles.{IsCycle}
use Rattle.wait_graph.specs.Targets.{among}
use Rattle.wait_graph.specs.Search.{Waits, IsTree, IsClosedAt, IsLonger}

-- ---- places and membership
pub among-cons : (b x : ℕ) (xs : List ℕ) → among b (x ∷ xs) ≡ true → (x ≡ b) ⊎ (among b xs ≡ true)
among-cons b x xs h = elim (eqb_tells x b) as (λ v. (x ≡ b) ⊎ (among b xs ≡ true))
    [ inl t ↦ inl t.1 | inr f ↦ inr (subst (λ c. (c || among b xs) ≡ true) f.0 h) ]

pub among-first : (b : ℕ) (xs : List ℕ) → among b (b ∷ xs) ≡ true
among-first b xs = ap (λ c. c || among b xs) ((Decides-eqb b b).1 refl)

pub or-right : (b c : Bool) → c ≡ true → (b || c) ≡ true
or-right true c h = refl
or-right false c h = h

pub among-later : (b x : ℕ) (xs : List ℕ) → among b xs ≡ true → among b (x ∷ xs) ≡ true
among-later b x xs h = or-right (x == b) (among b xs) h

pub among-push : (b : ℕ) (xs : List ℕ) → among b (xs ++ b ∷ []) ≡ true
among-push b [] = among-first b []
among-push b (x ∷ xs) = among-later b x (xs ++ b ∷ []) (among-push b xs)

pub among-kept : (b y : ℕ) (xs : List ℕ) → among b xs ≡ true → among b (xs ++ y ∷ []) ≡ true
among-kept b y [] h = cc
among-kept b y (x ∷ xs) h = elim (among-cons b x xs h) as (λ v. among b (x ∷ (xs ++ y ∷ [])) ≡ true)
    [ inl e ↦ subst (λ k. among k (x ∷ (xs ++ y ∷ [])) ≡ true) e (among-first x (xs ++ y ∷ [])) | inr r ↦ among-later b x (xs ++ y ∷ []) (among-kept b y xs r) ]

pub among-place : (b : ℕ) (xs : List ℕ) → among b xs ≡ true → (j : ℕ) × (j < length xs) × (slice_index xs j ≡ b)
among-place b [] h = cc
among-place b (x ∷ xs) h = elim (among-cons b x xs h) as (λ v. (j : ℕ) × (j < length (x ∷ xs)) × (slice_index (x ∷ xs) j ≡ b))
    [ inl e ↦ (0, omega arith, e) | inr r ↦ let p = among-place b xs r in (suc p.0, (let q = p.1 in omega (arith, q)), p.2) ]

pub at-among : (xs : List ℕ) (j : ℕ) → j < length xs → among (slice_index xs j) xs ≡ true
at-among [] j lt = absurd (omega arith)
at-among (x ∷ xs) zero lt = among-first x xs
at-among (x ∷ xs) (suc j) lt = among-later (slice_index xs j) x xs (at-among xs j (omega arith))

pub eqb-either : (a b : ℕ) → (a == b) ≡ (b == a)
eqb-either a b = elim (eqb_tells a b) as (λ v. (a == b) ≡ (b == a))
    [ inl t ↦ t.0 ∙ sym ((Decides-eqb b a).1 (sym t.1)) | inr f ↦ f.0 ∙ sym (ne_eqb b a (λ e. f.1 (sym e))) ]

-- whom a look finds
pub among-either : (b : ℕ) (xs : List ℕ) → list_any (λ x. b == x) xs ≡ among b xs
among-either b [] = refl
among-either b (x ∷ xs) = ap (λ c. c || list_any (λ y. b == y) xs) (eqb-either b x) ∙ ap (λ c. (x == b) || c) (among-either b xs)

pub insert-new : (b : ℕ) (xs : List ℕ) → among b xs ≡ false → insert_key nat_eq xs b ≡ xs ++ b ∷ []
insert-new b xs h = ap (λ c. if c then xs else xs ++ b ∷ []) (among-either b xs ∙ h)

pub push-old : (xs : List ℕ) (y j : ℕ) → j < length xs → slice_index (xs ++ y ∷ []) j ≡ slice_index xs j
push-old [] y j lt = absurd (omega arith)
push-old (x ∷ xs) y zero lt = refl
push-old (x ∷ xs) y (suc j) lt = push-old xs y j (omega arith)

pub push-new : (xs : List ℕ) (y : ℕ) → slice_index (xs ++ y ∷ []) (length xs) ≡ y
push-new [] y = refl
push-new (x ∷ xs) y = push-new xs y

pub longer-same : (xs : List ℕ) → IsLonger xs xs
longer-same xs = record { length_grows = omega arith; same = λ j lt. refl }

pub longer-push : (xs : List ℕ) (y : ℕ) → IsLonger xs (xs ++ y ∷ [])
longer-push xs y = record { length_grows = (let e = length_push xs y in omega (arith, e)); same = λ j lt. push-old xs y j lt }

-- one thread more
pub tree-push : (next : ℕ → List ℕ) (start : ℕ) (found parents : List ℕ) (from b : ℕ) → IsTree next start found parents → from < length found → Waits next (slice_index found from) b
    → among b found ≡ false → b < 4294967296 → IsTree next start (found ++ b ∷ []) (parents ++ from ∷ [])
tree-push next start found parents from b t lt w out small = record {
  same_length = length_push parents from ∙ ap (λ n. n + 1) t.same_length ∙ sym (length_push found b);
  some = let e = length_push found b in omega (arith, e);
  first = push-old found b 0 t.some ∙ t.first;
  parent = λ j pos low. elim (split j low) as (λ v. (slice_index (parents ++ from ∷ []) j < j) × Waits next (slice_index (found ++ b ∷ []) (slice_index (parents ++ from ∷ []) j)) (slice_index (found ++ b ∷ []) j))
      [ inl old ↦ old-parent j pos old | inr e ↦ subst (λ k. (slice_index (parents ++ from ∷ []) k < k) × Waits next (slice_index (found ++ b ∷ []) (slice_index (parents ++ from ∷ []) k)) (slice_index (found ++ b ∷ []) k)) (sym e) new-parent ];
  numbers = λ j low. elim (split j low) as (λ v. slice_index (found ++ b ∷ []) j < 4294967296) [
    | inl old ↦ subst (λ n. n < 4294967296) (sym (push-old found b j old)) (t.numbers j old)
    | inr e ↦ subst (λ n. n < 4294967296) (sym (ap (slice_index (found ++ b ∷ [])) e ∙ push-new found b)) small
  ];
  apart = λ j k jk low e. elim (split k low) as (λ v. ⊥) [
    | inl old ↦ t.apart j k jk old (sym (push-old found b j (omega arith)) ∙ e ∙ push-old found b k old)
    | inr f ↦ let jl : j < length found = omega (arith, f, jk) in
        let g : slice_index found j ≡ b = sym (push-old found b j jl) ∙ e ∙ ap (slice_index (found ++ b ∷ [])) f ∙ push-new found b in
        let h = subst (λ n. among n found ≡ true) g (at-among found j jl) in cc
  ];
}
  where
    split : (j : ℕ) → j < length (found ++ b ∷ []) → (j < length found) ⊎ (j ≡ length found)
    split j low = let e = length_push found b in elim (eqb_tells j (length found)) as (λ v. (j < length found) ⊎ (j ≡ length found)) [ inl t ↦ inr t.1 | inr f ↦ inl (let g = f.1 in omega (arith, e, g, low)) ]

    old-parent : (j : ℕ) → 0 < j → j < length found → (slice_index (parents ++ from ∷ []) j < j) × Waits next (slice_index (found ++ b ∷ []) (slice_index (parents ++ from ∷ []) j)) (slice_index (found ++ b ∷ []) j)
    old-parent j pos old =
        let p = t.parent j pos old in
        let e = push-old parents from j (let s = t.same_length in omega (arith, s, old)) in
        let pl : slice_index parents j < length found = let q = p.0 in omega (arith, q, old) in (
          subst (λ n. n < j) (sym e) p.0,
          subst (λ n. Waits next (slice_index (found ++ b ∷ []) n) (slice_index (found ++ b ∷ []) j)) (sym e)
              (subst (λ n. Waits next n (slice_index (found ++ b ∷ []) j)) (sym (push-old found b (slice_index parents j) pl)) (subst (λ n. Waits next (slice_index found (slice_index parents j)) n) (sym (push-old found b j old)) p.1)),
        )

    new-parent : (slice_index (parents ++ from ∷ []) (length found) < length found) × Waits next (slice_index (found ++ b ∷ []) (slice_index (parents ++ from ∷ []) (length found))) (slice_index (found ++ b ∷ []) (length found))
    new-parent =
        let e : slice_index (parents ++ from ∷ []) (length found) ≡ from = ap (slice_index (parents ++ from ∷ [])) (sym t.same_length) ∙ push-new parents from in (
          subst (λ n. n < length found) (sym e) lt,
          subst (λ n. Waits next (slice_index (found ++ b ∷ []) n) (slice_index (found ++ b ∷ []) (length found))) (sym e)
              (subst (λ n. Waits next n (slice_index (found ++ b ∷ []) (length found))) (sym (push-old found b from lt)) (subst (λ n. Waits next (slice_index found from) n) (sym (push-new found b)) w)),
        )

-- ---- no cycle where all is closed
pub none-closed : (next : ℕ → List ℕ) (start : ℕ) (found : List ℕ) → ((j : ℕ) → j < length found → IsClosedAt next start found j) → among start found ≡ true
    → (threads : List ℕ) → IsCycle (Waits next) start threads → ⊥
none-closed next start found closed has threads c = walk c.others start has (subst (λ v. WaitInTurn (Waits next) start v) c.starts c.in_turn)
  where
    step : (a b : ℕ) → among a found ≡ true → Waits next a b → (b ≢ start) × (among b found ≡ true)
    step a b h w = let p = among-place a found h in closed p.0 p.1 b (subst (λ n. Waits next n b) (sym p.2) w)

    walk : (xs : List ℕ) (a : ℕ) → among a found ≡ true → WaitInTurn (Waits next) start (a ∷ xs) → ⊥
    walk [] a h w = (step a start h w).0 refl
    walk (b ∷ xs) a h w = walk xs b (step a b h w.0).1 w.1

-- ---- the path back to the start
pub record IsTail (next : ℕ → List ℕ) (start : ℕ) (found : List ℕ) (at : ℕ) (path : List ℕ) : Type 0 where
  pub rest : List ℕ
  pub heads : path ≡ slice_index found at ∷ rest
  pub once : Once path
  pub in_turn : WaitInTurn (Waits next) start path
  pub below : (j : ℕ) → j < at → among (slice_index found j) path ≡ false

not-among : (b : ℕ) (xs : List ℕ) → (among b xs ≡ true → ⊥) → among b xs ≡ false
not-among b xs never = elim (among b xs) as (λ v. (v ≡ true → ⊥) → v ≡ false) [ true ↦ (λ f. absurd (f refl)) | false ↦ (λ f. refl) ] never

pub tail-start : (next : ℕ → List ℕ) (start : ℕ) (found parents : List ℕ) (at : ℕ) → IsTree next start found parents → at < length found → Waits next (slice_index found at) start
    → IsTail next start found at (slice_index found at ∷ [])
tail-start next start found parents at t lt w = record {
  rest = [];
  heads = refl;
  once = (refl, tt);
  in_turn = w;
  below = λ j jl. not-among (slice_index found j) (slice_index found at ∷ []) (λ h. elim (among-cons _ _ [] h) as (λ v. ⊥) [ inl e ↦ t.apart j at jl lt (sym e) | inr f ↦ cc ]);
}

pub tail-more : (next : ℕ → List ℕ) (start : ℕ) (found parents : List ℕ) (at : ℕ) (path : List ℕ) → IsTree next start found parents → 0 < at → at < length found → IsTail next start found at path
    → IsTail next start found (slice_index parents at) (slice_index found (slice_index parents at) ∷ path)
tail-more next start found parents at path t pos lt i =
    let p = t.parent at pos lt in
    let up = slice_index parents at in
    record {
      rest = path;
      heads = refl;
      once = (i.below up p.0, i.once);
      in_turn = subst (λ v. WaitInTurn (Waits next) start (slice_index found up ∷ v)) (sym i.heads) (p.1, subst (λ v. WaitInTurn (Waits next) start v) i.heads i.in_turn);
      below = λ j jl. not-among (slice_index found j) (slice_index found up ∷ path) (λ h. elim (among-cons _ _ path h) as (λ v. ⊥)
          [ inl e ↦ t.apart j up jl (let q = p.0 in omega (arith, q, lt)) (sym e) | inr r ↦ let b = i.below j (let q = p.0 in omega (arith, q, jl)) in cc ]);
    }

-- the same, where the path is kept from its end on
pub tail-pushed : (next : ℕ → List ℕ) (start : ℕ) (found parents : List ℕ) (at up : ℕ) (path new : List ℕ) → IsTree next start found parents → 0 < at → at < length found → up ≡ slice_index parents at
    → new ≡ path ++ slice_index found up ∷ [] → IsTail next start found at (reverse path) → IsTail next start found up (reverse new)
tail-pushed next start found parents at up path new t pos lt e g i =
    subst (λ v. IsTail next start found up (reverse v)) (sym g)
    (subst (λ v. IsTail next start found up v) (sym (reverse-append path (slice_index found up ∷ [])))
    (subst (λ n. IsTail next start found n (slice_index found n ∷ reverse path)) (sym e) (tail-more next start found parents at (reverse path) t pos lt i)))

pub tail-whole : (next : ℕ → List ℕ) (start : ℕ) (found parents : List ℕ) (at : ℕ) (path : List ℕ) → IsTree next start found parents → at ≡ 0 → IsTail next start found at path → IsCycle (Waits next) start path
tail-whole next start found parents at path t e i = record {
  others = i.rest;
  starts = i.heads ∙ ap (λ n. n ∷ i.rest) (ap (slice_index found) e ∙ t.first);
  once = i.once;
  in_turn = i.in_turn;
}

-- ---- steps of the search
pub longer-then : (a b c : List ℕ) → IsLonger a b → IsLonger b c → IsLonger a c
longer-then a b c x y = record { length_grows = (let p = x.length_grows in let q = y.length_grows in omega (arith, p, q)); same = λ j lt. y.same j (let p = x.length_grows in omega (arith, p, lt)) ∙ x.same j lt }

pub among-longer : (b : ℕ) (old new : List ℕ) → IsLonger old new → among b old ≡ true → among b new ≡ true
among-longer b old new l h = let p = among-place b old h in
    subst (λ n. among n new ≡ true) (l.same p.0 p.1 ∙ p.2) (at-among new p.0 (let q = p.1 in let g = l.length_grows in omega (arith, q, g)))

pub closed-longer : (next : ℕ → List ℕ) (start : ℕ) (old new : List ℕ) (j : ℕ) → j < length old → IsLonger old new → IsClosedAt next start old j → IsClosedAt next start new j
closed-longer next start old new j lt l c b w = let q = c b (subst (λ n. Waits next n b) (l.same j lt) w) in (q.0, among-longer b old new l q.1)

-- ---- threads have different numbers below 2 ^ 32, so they are few
apart-once : (xs : List ℕ) → ((j k : ℕ) → j < k → k < length xs → slice_index xs j ≢ slice_index xs k) → Once xs
apart-once [] f = tt
apart-once (x ∷ xs) f = (
  not-among x xs (λ h. let p = among-place x xs h in f 0 (suc p.0) (omega arith) (let q = p.1 in omega (arith, q)) (sym p.2)),
  apart-once xs (λ j k jk low. f (suc j) (suc k) (omega (arith, jk)) (omega (arith, low))),
)

pub tree-few : (next : ℕ → List ℕ) (start : ℕ) (found parents : List ℕ) → IsTree next start found parents → length found ≤ 4294967296
tree-few next start found parents t =
    once-few found 4294967296 (apart-once found t.apart) (λ q h. let p = among-place q found h in subst (λ n. n < 4294967296) p.2 (t.numbers p.0 p.1))
