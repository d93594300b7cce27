-- Entries of a key with a row id, of one transaction after another.
use Rattle.std.specs.Option.{MatchOption}
use Rattle.std.proofs.Common.{◌≡◌, Option, Some, None, ℕ, ◌+◌, ◌≤◌, ◌<◌, ◌^◌, List, [], ◌∷◌, ◌++◌, refl, ap, sym, subst, inl, inr, ⊎_elim, ◌⊎◌, ◌∙◌, arith}
use Rattle.std.proofs.lemmas.Bool.{cases_eq}
use Rattle.table_space.specs.declared.emptied.EmptyEntry.{EmptyEntry}
use Rattle.table_space.specs.Emptied.{Stands, IsNextTx, IsLike, IsWhole}
use Rattle.table_space.specs.Ordered.{Each}
use Rattle.table_space.proofs.Ordered.{each-weaker}
use Rattle.table_space.proofs.EmptyLists.{at-stands}

stands-behind : (x : EmptyEntry) (xs : List EmptyEntry) (e : EmptyEntry) → Stands xs e → Stands (x ∷ xs) e
stands-behind x xs e s = record { before = x ∷ s.before; behind = s.behind; is = ap (λ ys. x ∷ ys) s.is }

-- what holds of each that stands there holds of each
pub each-stands : (P : EmptyEntry → Type 0) (xs : List EmptyEntry) → ((e : EmptyEntry) → Stands xs e → P e) → Each P xs
each-stands P [] f = tt
each-stands P (x ∷ xs) f = (f x (record { before = []; behind = xs; is = refl }), each-stands P xs (λ e s. f e (stands-behind x xs e s)))

pub few-transactions : (xs : List EmptyEntry) → Each IsWhole xs → Each (λ (e : EmptyEntry). e.tx < 2 ^ 64) xs
few-transactions xs w = each-weaker IsWhole (λ (e : EmptyEntry). e.tx < 2 ^ 64) xs (λ e h. h.1) w

-- no entry from a transaction on is like one
abbrev pub NoneLike : EmptyEntry → ℕ → List EmptyEntry → Type 0
NoneLike like from xs = Each (λ (e : EmptyEntry). from ≤ e.tx → ¬ IsLike like e) xs

module _ (like entry : EmptyEntry) (from tx : ℕ) (xs : List EmptyEntry) (is : entry ≡ record like { tx = tx }) (next : IsNextTx xs from tx) (none : Stands xs entry → ⊥) where
  likes : (e : EmptyEntry) → Stands xs e → e.tx ≡ tx → IsLike like e → ⊥
  likes e s t l =
      let same : e ≡ entry = (λ i. record { tx = t i; vacant_in = l.vacant_in i; row = l.row i; table = l.table i; key = l.key i }) ∙ sym is in
      none (subst (Stands xs) same s)

  -- where the next transaction has none, and none after it, there is none
  pub none-like : NoneLike like (tx + 1) xs → NoneLike like from xs
  none-like above = each-stands _ xs (λ e s low l.
      ⊎_elim
      (λ (same : e.tx ≡ tx). likes e s same l)
      (λ (other : e.tx ≡ tx → ⊥). ⊎_elim (λ p. omega (arith, p, low)) (λ p. at-stands _ xs e s above (omega (arith, p, other)) l) (at-stands _ xs e s next.least))
      (cases_eq e.tx tx))

  pub none-like-last : Each (λ (e : EmptyEntry). e.tx < 2 ^ 64) xs → 2 ^ 64 ≤ tx + 1 → NoneLike like from xs
  none-like-last few last = none-like (each-weaker _ (λ (e : EmptyEntry). tx + 1 ≤ e.tx → ¬ IsLike like e) xs (λ e h p. absurd (omega (arith, h, p, last))) few)

  pub like-found : (o : Option EmptyEntry) → MatchOption o (NoneLike like (tx + 1) xs) (λ e. Stands xs e × IsLike like e) → MatchOption o (NoneLike like from xs) (λ e. Stands xs e × IsLike like e)
  like-found None h = none-like h
  like-found (Some e) h = h

-- where all are of earlier transactions
pub none-like-below : (like : EmptyEntry) (from : ℕ) (xs : List EmptyEntry) → Each (λ (e : EmptyEntry). e.tx < from) xs → NoneLike like from xs
none-like-below like from xs h = each-weaker _ (λ (e : EmptyEntry). from ≤ e.tx → ¬ IsLike like e) xs (λ e l p. absurd (omega (arith, l, p))) h
