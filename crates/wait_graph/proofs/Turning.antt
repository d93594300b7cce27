-- Circles turned, and circles of edges that go on.
use Rattle.std.proofs.Common.{◌≡◌, ◌∙◌, sym, subst, refl, ℕ, List, [], ◌∷◌, ◌++◌, append-nil, inl, inr}
use Rattle.ids_base.specs.Waits.{WaitInTurn}
use Rattle.link_lists.specs.Lists.{Once}
use Rattle.link_lists.proofs.Members.{has-append, has-left, has-right, once-put, not-has, has-both}
use Rattle.wait_graph.specs.Cycles.{IsCycle}

-- each in a circle waits for some thread
pub out-of : (V : ℕ → ℕ → Type 0) (start a : ℕ) (rest : List ℕ) → WaitInTurn V start (a ∷ rest) → (c : ℕ) × V a c
out-of V start a [] h = (start, h)
out-of V start a (b ∷ rest) h = (b, h.0)

pub start-out : (V : ℕ → ℕ → Type 0) (start : ℕ) (threads : List ℕ) → IsCycle V start threads → (c : ℕ) × V start c
start-out V start threads cycle = out-of V start start cycle.others (subst (λ v. WaitInTurn V start v) cycle.starts cycle.in_turn)

-- an edge that another goes on from is one of W
module _ (V W : ℕ → ℕ → Type 0) (onward : (a b c : ℕ) → V a b → V b c → W a b) where
  turn-onward : (start c : ℕ) → V start c → (xs : List ℕ) → WaitInTurn V start xs → WaitInTurn W start xs
  turn-onward start c out [] h = tt
  turn-onward start c out (a ∷ []) h = onward a start c h out
  turn-onward start c out (a ∷ b ∷ rest) h = let next = out-of V start b rest h.1 in (onward a b next.0 h.0 next.1, turn-onward start c out (b ∷ rest) h.1)

  pub cycle-onward : (start : ℕ) (threads : List ℕ) → IsCycle V start threads → IsCycle W start threads
  cycle-onward start threads cycle =
      let out = start-out V start threads cycle in
      record { others = cycle.others; starts = cycle.starts; once = cycle.once; in_turn = turn-onward start out.0 out.1 threads cycle.in_turn }

-- ---- a circle begins with any of its threads
module _ (V : ℕ → ℕ → Type 0) where
  turn-first : (start x : ℕ) (xs ys : List ℕ) → WaitInTurn V start (xs ++ x ∷ ys) → WaitInTurn V x xs
  turn-first start x [] ys h = tt
  turn-first start x (a ∷ []) ys h = h.0
  turn-first start x (a ∷ b ∷ xs) ys h = (h.0, turn-first start x (b ∷ xs) ys h.1)

  turn-last : (start x : ℕ) (xs ys : List ℕ) → WaitInTurn V start (xs ++ x ∷ ys) → WaitInTurn V start (x ∷ ys)
  turn-last start x [] ys h = h
  turn-last start x (a ∷ []) ys h = h.1
  turn-last start x (a ∷ b ∷ xs) ys h = turn-last start x (b ∷ xs) ys h.1

  turn-joined : (start x : ℕ) (ys xs : List ℕ) → WaitInTurn V start ys → WaitInTurn V x (start ∷ xs) → WaitInTurn V x (ys ++ start ∷ xs)
  turn-joined start x [] xs h g = g
  turn-joined start x (a ∷ []) xs h g = (h, g)
  turn-joined start x (a ∷ b ∷ ys) xs h g = (h.0, turn-joined start x (b ∷ ys) xs h.1 g)

  once-turned : (xs ys : List ℕ) → Once (xs ++ ys) → Once (ys ++ xs)
  once-turned [] ys o = subst Once (sym (append-nil ys)) o
  once-turned (x ∷ xs) ys o = once-put x ys xs (once-turned xs ys o.1)
      (not-has x (ys ++ xs) (λ h. elim (has-append x ys xs h) as (λ v. ⊥) [ inl l ↦ has-both x (xs ++ ys) (has-right x xs ys l) o.0 | inr r ↦ has-both x (xs ++ ys) (has-left x xs ys r) o.0 ]))

  -- turned so that x comes first
  pub turned : (start x : ℕ) (threads before behind : List ℕ) → IsCycle V start threads → threads ≡ before ++ x ∷ behind → IsCycle V x (x ∷ behind ++ before)
  turned start x threads [] behind cycle is =
      let first : start ≡ x = (let e = sym cycle.starts ∙ is in cc) in
      let whole = is ∙ sym (append-nil (x ∷ behind)) in
      record {
        others = behind ++ [];
        starts = refl;
        once = subst Once whole cycle.once;
        in_turn = subst (λ s. WaitInTurn V s (x ∷ behind ++ [])) first (subst (λ v. WaitInTurn V start v) whole cycle.in_turn);
      }
  turned start x threads (a ∷ before) behind cycle is =
      let first : a ≡ start = (let e = sym is ∙ cycle.starts in cc) in
      let turn = subst (λ v. WaitInTurn V start v) is cycle.in_turn in
      record {
        others = behind ++ a ∷ before;
        starts = refl;
        once = once-turned (a ∷ before) (x ∷ behind) (subst Once is cycle.once);
        in_turn = subst (λ s. WaitInTurn V x (x ∷ behind ++ s ∷ before)) (sym first)
            (turn-joined start x (x ∷ behind) before (turn-last start x (a ∷ before) behind turn)
            (subst (λ s. WaitInTurn V x (s ∷ before)) first (turn-first start x (a ∷ before) behind turn)));
      }
