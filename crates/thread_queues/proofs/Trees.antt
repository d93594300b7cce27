-- A tree of limits: one place changes, one is added, and what the root knows.
use Rattle.std.proofs.Common.{◌≡◌, ◌≢◌, ◌∙◌, ℕ, zero, suc, ◌+◌, ◌*◌, ◌/◌, ◌<◌, ◌≤◌, List, [], ◌∷◌, ◌++◌, length, get_or, refl, ap, sym, subst, arith, inl, inr, Option, None}
use Rattle.std.proofs.Math.ListN.{set}
use Rattle.std.proofs.lemmas.List.{get_or-set_same, get_or-set_other, length-set, get_or_past}
use Rattle.std.proofs.lemmas.Bool.{cases_eq, cases_lt}
use Rattle.thread_queues.specs.declared.event.Due.{Due}
use Rattle.thread_queues.specs.declared.limits.Node.{Node}
use Rattle.thread_queues.specs.Firsts.{least}
use Rattle.thread_queues.specs.Tree.{no_node, own_at, first_at, first_below, IsTree}

first-same : (ns : List Node) (k : ℕ) (n : Node) → k < length ns → first_at (set ns k n) k ≡ n.first
first-same ns k n h = ap (λ (x : Node). x.first) (get_or-set_same ns k n no_node h)

first-other : (ns : List Node) (k j : ℕ) (n : Node) → j ≢ k → first_at (set ns k n) j ≡ first_at ns j
first-other ns k j n ne = ap (λ (x : Node). x.first) (get_or-set_other ns k j n no_node ne)

own-same : (ns : List Node) (k : ℕ) (n : Node) → k < length ns → own_at (set ns k n) k ≡ n.own
own-same ns k n h = ap (λ (x : Node). x.own) (get_or-set_same ns k n no_node h)

own-other : (ns : List Node) (k j : ℕ) (n : Node) → j ≢ k → own_at (set ns k n) j ≡ own_at ns j
own-other ns k j n ne = ap (λ (x : Node). x.own) (get_or-set_other ns k j n no_node ne)

-- what stands below a place depends on three places
below-is : (ns ms : List Node) (j : ℕ) → own_at ms j ≡ own_at ns j → first_at ms (2 * j + 1) ≡ first_at ns (2 * j + 1) → first_at ms (2 * j + 2) ≡ first_at ns (2 * j + 2) → first_below ms j ≡ first_below ns j
below-is ns ms j o l r = ap (λ (x : Option Due). least (least x (first_at ms (2 * j + 1))) (first_at ms (2 * j + 2))) o ∙ ap (λ (x : Option Due). least (least (own_at ns j) x) (first_at ms (2 * j + 2))) l ∙ ap (λ (x : Option Due). least (least (own_at ns j) (first_at ns (2 * j + 1))) x) r

-- each place but one knows the first of all below it
abbrev pub SettledBut : List Node → ℕ → Type 0
SettledBut ns at = (j : ℕ) → j < length ns → suc j ≢ at → first_at ns j ≡ first_below ns j

-- a new limit of its own, and it knows what it knew
pub settle-own : (ns : List Node) (k : ℕ) (own : Option Due) → k < length ns → IsTree ns → SettledBut (set ns k (record { own = own; first = first_at ns k })) (k + 1)
settle-own ns k own h tree j lt other =
    let ne : j ≢ k = λ e. other (omega (arith, e)) in
    let low : j < length ns = omega (arith, lt, length-set ns k (record { own = own; first = first_at ns k })) in
    firsts j ∙ tree j low ∙ sym (below-is ns (set ns k (record { own = own; first = first_at ns k })) j (own-other ns k j (record { own = own; first = first_at ns k }) ne) (firsts (2 * j + 1)) (firsts (2 * j + 2)))
  where
    firsts : (i : ℕ) → first_at (set ns k (record { own = own; first = first_at ns k })) i ≡ first_at ns i
    firsts i = elim (cases_eq i k) [
      | inl e ↦ subst (λ (m : ℕ). first_at (set ns k (record { own = own; first = first_at ns k })) m ≡ first_at ns m) (sym e) (first-same ns k (record { own = own; first = first_at ns k }) h)
      | inr ne ↦ first-other ns k i (record { own = own; first = first_at ns k }) ne
    ]

-- one place learns what stands below it, and only the one above may know too little
pub settle-up : (ns : List Node) (at k : ℕ) → at ≡ k + 1 → k < length ns → SettledBut ns at → SettledBut (set ns k (record { own = own_at ns k; first = first_below ns k })) (at / 2)
settle-up ns at k is h but j lt other = elim (cases_eq j k) [
  | inl e ↦ subst (λ (m : ℕ). first_at ms m ≡ first_below ms m) (sym e) (first-same ns k n h ∙ sym (below-is ns ms k (own-same ns k n h) (first-other ns k (2 * k + 1) n (λ e. omega (arith, e))) (first-other ns k (2 * k + 2) n (λ e. omega (arith, e)))))
  | inr ne ↦
      let low : j < length ns = omega (arith, lt, length-set ns k n) in
      first-other ns k j n ne ∙ but j low (λ e. ne (omega (arith, e, is))) ∙ sym (below-is ns ms j (own-other ns k j n ne) (first-other ns k (2 * j + 1) n (λ e. other (omega (arith, e, is)))) (first-other ns k (2 * j + 2) n (λ e. other (omega (arith, e, is)))))
]
  where
    n : Node
    n = record { own = own_at ns k; first = first_below ns k }

    ms : List Node
    ms = set ns k n

more-at : (ns : List Node) (k : ℕ) → get_or (ns ++ no_node ∷ []) k no_node ≡ get_or ns k no_node
more-at [] zero = refl
more-at [] (suc k) = refl
more-at (n ∷ ns) zero = refl
more-at (n ∷ ns) (suc k) = more-at ns k

-- one place more, with no limit
pub tree-more : (ns : List Node) → IsTree ns → IsTree (ns ++ no_node ∷ [])
tree-more ns tree k lt = firsts k ∙ elim (cases_lt k (length ns)) [
  | inl low ↦ tree k low
  | inr far ↦ none k far ∙ sym (
      ap (λ (x : Option Due). least (least x (first_at ns (2 * k + 1))) (first_at ns (2 * k + 2))) (ap (λ (n : Node). n.own) (get_or_past ns k no_node far))
      ∙ ap (λ (x : Option Due). least (least None x) (first_at ns (2 * k + 2))) (none (2 * k + 1) (omega (arith, far)))
      ∙ ap (λ (x : Option Due). least (least None None) x) (none (2 * k + 2) (omega (arith, far))))
] ∙ sym (below-is ns (ns ++ no_node ∷ []) k (ap (λ (n : Node). n.own) (more-at ns k)) (firsts (2 * k + 1)) (firsts (2 * k + 2)))
  where
    firsts : (i : ℕ) → first_at (ns ++ no_node ∷ []) i ≡ first_at ns i
    firsts i = ap (λ (n : Node). n.first) (more-at ns i)

    none : (i : ℕ) → length ns ≤ i → first_at ns i ≡ None
    none i h = ap (λ (n : Node). n.first) (get_or_past ns i no_node h)
