-- What the root of a tree of limits knows is the first of them all.
use Rattle.std.proofs.Common.{◌≡◌, ◌∙◌, ℕ, zero, suc, ◌+◌, ◌*◌, ◌-◌, ◌/◌, ◌<◌, ◌≤◌, Bool, true, false, cond, List, length, map, refl, ap, sym, subst, arith, ◌⊎◌, inl, inr, Option, Some, None}
use Rattle.std.proofs.Math.ListN.{get_or-map}
use Rattle.std.proofs.lemmas.List.{get_or_past}
use Rattle.std.proofs.lemmas.Bool.{cases_eq, cases_lt}
use Rattle.std.proofs.lemmas.Bool.Decides.{nat_tests}
use Rattle.thread_queues.specs.declared.event.Due.{Due}
use Rattle.thread_queues.specs.declared.limits.Node.{Node}
use Rattle.thread_queues.specs.Ticks.{is_before}
use Rattle.thread_queues.specs.Firsts.{least, due_at, IsBehind, IsFirst}
use Rattle.thread_queues.specs.Tree.{no_node, own_at, first_at, first_below, IsTree}

-- neither comes before the other's
pub not-before-trans : (d e f : Due) → is_before d e ≡ false → is_before e f ≡ false → is_before d f ≡ false
not-before-trans d e f h g = grind (arith, nat_tests)

before-not : (d x y : Due) → is_before d x ≡ false → is_before y x ≡ true → is_before d y ≡ false
before-not d x y h g = grind (arith, nat_tests)

chosen-left : (d x y : Due) (b : Bool) → is_before y x ≡ b → is_before d x ≡ false → is_before d (cond b y x) ≡ false
chosen-left d x y true e h = before-not d x y h e
chosen-left d x y false e h = h

chosen-right : (d x y : Due) (b : Bool) → is_before y x ≡ b → is_before d y ≡ false → is_before d (cond b y x) ≡ false
chosen-right d x y true e h = h
chosen-right d x y false e h = not-before-trans d y x h e

behind-left : (d : Due) (a b : Option Due) → IsBehind d a → IsBehind d (least a b)
behind-left d a None h = h
behind-left d None (Some y) h = absurd h
behind-left d (Some x) (Some y) h = chosen-left d x y (is_before y x) refl h

behind-right : (d : Due) (a b : Option Due) → IsBehind d b → IsBehind d (least a b)
behind-right d a None h = absurd h
behind-right d None (Some y) h = h
behind-right d (Some x) (Some y) h = chosen-right d x y (is_before y x) refl h

-- what a place knows, the root knows or knows better
climb : (ns : List Node) → IsTree ns → (d : Due) (m k : ℕ) → k ≤ m → k < length ns → IsBehind d (first_at ns k) → IsBehind d (first_at ns 0)
climb ns tree d zero k le lt h = subst (λ (j : ℕ). IsBehind d (first_at ns j)) (omega arith) h
climb ns tree d (suc m) k le lt h = elim (cases_eq k 0) [
  | inl e ↦ subst (λ (j : ℕ). IsBehind d (first_at ns j)) e h
  | inr ne ↦ climb ns tree d m ((k - 1) / 2) (omega (arith, ne, le)) (omega (arith, ne, lt)) (subst (λ (x : Option Due). IsBehind d x) (sym (tree ((k - 1) / 2) (omega (arith, ne, lt)))) (side ((k - 1) / 2) (odd k ne)))
]
  where
    odd : (k : ℕ) → (k ≡ 0 → ⊥) → (k ≡ 2 * ((k - 1) / 2) + 1) ⊎ (k ≡ 2 * ((k - 1) / 2) + 2)
    odd k ne = elim (cases_eq k (2 * ((k - 1) / 2) + 1)) [ inl e ↦ inl e | inr other ↦ inr (omega (arith, ne, other)) ]

    side : (p : ℕ) → (k ≡ 2 * p + 1) ⊎ (k ≡ 2 * p + 2) → IsBehind d (first_below ns p)
    side p (inl e) = behind-left d (least (own_at ns p) (first_at ns (2 * p + 1))) (first_at ns (2 * p + 2)) (behind-right d (own_at ns p) (first_at ns (2 * p + 1)) (subst (λ (j : ℕ). IsBehind d (first_at ns j)) e h))
    side p (inr e) = behind-right d (least (own_at ns p) (first_at ns (2 * p + 1))) (first_at ns (2 * p + 2)) (subst (λ (j : ℕ). IsBehind d (first_at ns j)) e h)

least-among : (a b : Option Due) (d : Due) → least a b ≡ Some d → (a ≡ Some d) ⊎ (b ≡ Some d)
least-among a None d e = inl e
least-among None (Some y) d e = inr e
least-among (Some x) (Some y) d e = elim (is_before y x) as (λ (c : Bool). Some (cond c y x) ≡ Some d → (Some x ≡ Some d) ⊎ (Some y ≡ Some d)) [ true ↦ (λ h. inr h) | false ↦ (λ h. inl h) ] e

no-first : (ns : List Node) (d : Due) (k : ℕ) → length ns ≤ k → first_at ns k ≡ Some d → ⊥
no-first ns d k far e = none-some (first_at ns k) d (ap (λ (n : Node). n.first) (get_or_past ns k no_node far)) e
  where
    none-some : (x : Option Due) (d : Due) → x ≡ None → x ≡ Some d → ⊥
    none-some x d n s = cc

-- what a place knows is the limit of some place
sink : (ns : List Node) → IsTree ns → (d : Due) (m k : ℕ) → length ns ≤ k + m → first_at ns k ≡ Some d → (j : ℕ) × (own_at ns j ≡ Some d)
sink ns tree d zero k le e = absurd (no-first ns d k (omega (arith, le)) e)
sink ns tree d (suc m) k le e = elim (cases_lt k (length ns)) [
  | inr far ↦ absurd (no-first ns d k far e)
  | inl lt ↦ elim (least-among (least (own_at ns k) (first_at ns (2 * k + 1))) (first_at ns (2 * k + 2)) d (sym (tree k lt) ∙ e)) [
    | inr r ↦ sink ns tree d m (2 * k + 2) (omega (arith, le)) r
    | inl p ↦ elim (least-among (own_at ns k) (first_at ns (2 * k + 1)) d p) [ inl o ↦ (k, o) | inr l ↦ sink ns tree d m (2 * k + 1) (omega (arith, le)) l ]
  ]
]

due-own : (ns : List Node) (k : ℕ) → due_at (map (λ n. n.own) ns) k ≡ own_at ns k
due-own ns k = get_or-map (λ (n : Node). n.own) ns k no_node

pub root-first : (ns : List Node) → IsTree ns → IsFirst (map (λ n. n.own) ns) (first_at ns 0)
root-first ns tree = record {
  among = λ d e. let s = sink ns tree d (length ns) 0 (omega arith) e in (s.0, due-own ns s.0 ∙ s.1);
  behind = λ k d e. elim (cases_lt k (length ns)) [
    | inl lt ↦ climb ns tree d k k (omega arith) lt (subst (λ (x : Option Due). IsBehind d x) (sym (tree k lt)) (own-behind k d (sym (due-own ns k) ∙ e)))
    | inr far ↦ absurd (none-some (ap (λ (n : Node). n.own) (get_or_past ns k no_node far)) (sym (due-own ns k) ∙ e))
  ];
}
  where
    none-some : {x : Option Due} {d : Due} → x ≡ None → x ≡ Some d → ⊥
    none-some n s = cc

    own-behind : (k : ℕ) (d : Due) → own_at ns k ≡ Some d → IsBehind d (first_below ns k)
    own-behind k d e = behind-left d (least (own_at ns k) (first_at ns (2 * k + 1))) (first_at ns (2 * k + 2)) (behind-left d (own_at ns k) (first_at ns (2 * k + 1)) (subst (λ (x : Option Due). IsBehind d x) (sym e) (not-self d)))
      where
        not-self : (d : Due) → is_before d d ≡ false
        not-self d = grind (arith, nat_tests)
