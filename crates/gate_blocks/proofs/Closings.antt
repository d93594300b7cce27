-- What closing those gates leaves that are open.
use Rattle.std.proofs.Common.{◌≡◌, ◌≢◌, ◌⊎◌, inl, inr, ℕ, ◌+◌, ◌<◌, ◌≤◌, List, [], ◌∷◌, get_or, Some, None, cond, sym, ◌∙◌, ap, subst, arith, eq-eqb}
use Rattle.std.proofs.lemmas.Bool.{cases_eq, ne_eqb}
use Rattle.ids_outside.specs.Images.{Image, SameBut, Written}
use Rattle.gate_blocks.proofs.Images.{both, wider, bytes_of-one}
use Rattle.gate_blocks.proofs.OneBlock.{block-open, block-closed, closed-gate, block-same, body-alone}
use Rattle.gate_blocks.specs.Gates.{place, gate, shut, body, block, Within, GatePlaces, Closing, OpenGate, OpenGates}
use Rattle.gate_blocks.specs.declared.region.Region.{Region}

-- what closing makes of a gate that is open, and of one that is not
pub shut_open : (b : ℕ) → b ≡ 165 → shut b ≡ 0
shut_open b is = ap (λ v. cond v 0 b) (eq-eqb b 165 is)

pub shut_other : (b : ℕ) → b ≢ 165 → shut b ≡ b
shut_other b is_not = ap (λ v. cond v 0 b) (ne_eqb b 165 is_not)

module _ (r : Region) where
  -- a gate that was written over
  pub wrote_zero : (k : ℕ) (x y : Image) → Written r.chunk (place r k + 2047) (0 ∷ []) x y → gate r k y ≡ 0
  wrote_zero k x y written = ap (λ (l : List ℕ). get_or l 0 0) (sym (bytes_of-one y r.chunk (place r k + 2047)) ∙ written.there)

  pub wrote_gate : (k : ℕ) (x y : Image) → Written r.chunk (place r k + 2047) (0 ∷ []) x y → gate r k y ≢ 165
  wrote_gate k x y written is = omega (arith, wrote_zero k x y written, is)

  -- a gate that is not among these
  pub gate-beside : (at n k : ℕ) (x y z : Image) → ¬ Within at n k → SameBut (OpenGates r at n x) y z → gate r k z ≡ gate r k y
  gate-beside at n k x y z outside same = same.bytes r.chunk (place r k + 2047) (λ h.
      let here : h.0 ≡ k = omega (arith, h.2.1) in
      outside (subst (λ (q : ℕ). Within at n q) here h.1))

  -- a gate that was closed in x
  gate-closed : (at n k : ℕ) (x y z : Image) → gate r k x ≢ 165 → SameBut (OpenGates r at n x) y z → gate r k z ≡ gate r k y
  gate-closed at n k x y z shut same = same.bytes r.chunk (place r k + 2047) (λ h.
      let here : h.0 ≡ k = omega (arith, h.2.1) in
      shut (subst (λ (q : ℕ). gate r q x ≡ 165) here h.2.2))

  body-under : (at n k : ℕ) (x y z : Image) → SameBut (OpenGates r at n x) y z → body r k z ≡ body r k y
  body-under at n k x y z same = body-alone r k (OpenGates r at n x) y z (λ i le lt h. omega (arith, h.2.1, le, lt)) same

  -- one gate more
  pub one_more : (at n : ℕ) (x e y z w : Image) → SameBut (OpenGates r at n x) y z → SameBut (OpenGate r (at + n) e) z w → gate r (at + n) e ≡ gate r (at + n) x
      → SameBut (OpenGates r at (n + 1) x) y w
  one_more at n x e y z w first second same = both (OpenGates r at n x) (OpenGate r (at + n) e) (OpenGates r at (n + 1) x) y z w first second
      (λ j i h. (h.0, (h.1.0, omega (arith, h.1.1)), h.2)) (λ j i h. (at + n, (omega arith, omega arith), (h.0, h.1, sym same ∙ h.2)))

  -- fewer gates are some of more
  pub more_gates : (at m n : ℕ) (x y z : Image) → m ≤ n → SameBut (OpenGates r at m x) y z → SameBut (OpenGates r at n x) y z
  more_gates at m n x y z le same = wider (OpenGates r at m x) (OpenGates r at n x) y z same (λ j i h. (h.0, (h.1.0, omega (arith, h.1.1, le)), h.2))

  -- Closing the gates that are open in x, where each of them is open in y.
  pub closing : (at n : ℕ) (x y z : Image) → ((k : ℕ) → Within at n k → block r k y ≡ None → block r k x ≡ None) → SameBut (OpenGates r at n x) y z → Closing r at n y z
  closing at n x y z stable same = record {
    elsewhere = wider (OpenGates r at n x) (GatePlaces r at n) y z same (λ j i h. (h.2.0, (h.0, h.1, h.2.1)));
    others = λ k out. block-same r k y z (gate-beside at n k x y z out same) (body-under at n k x y z same);
    each = λ k inside. each k inside (cases_eq (gate r k x) 165) (cases_eq (gate r k z) 165);
  }
    where
      each : (k : ℕ) → Within at n k → (gate r k x ≡ 165) ⊎ (gate r k x ≢ 165) → (gate r k z ≡ 165) ⊎ (gate r k z ≢ 165) → (block r k z ≡ None) ⊎ (block r k z ≡ block r k y)
      each k inside was (inr shut) = inl (block-closed r k z shut)
      each k inside (inl open_x) (inl open_z) =
          let open_y : gate r k y ≡ 165 = elim (cases_eq (gate r k y) 165) [
            | inl is ↦ is
            | inr shut ↦ absurd (closed-gate r k x (stable k inside (block-closed r k y shut)) open_x)
          ] in
          inr (block-open r k z open_z ∙ ap (λ (b : List ℕ). Some b) (body-under at n k x y z same) ∙ sym (block-open r k y open_y))
      each k inside (inr shut_x) (inl open_z) =
          inr (block-same r k y z (gate-closed at n k x y z shut_x same) (body-under at n k x y z same))

  -- one gate more is zero where it was open
  pub next_zeroed : (at i : ℕ) (x e y : Image) → ((k : ℕ) → k < i → gate r (at + k) e ≡ shut (gate r (at + k) x)) → SameBut (OpenGate r (at + i) e) e y
      → gate r (at + i) y ≡ shut (gate r (at + i) e) → gate r (at + i) e ≡ gate r (at + i) x → (k : ℕ) → k < i + 1 → gate r (at + k) y ≡ shut (gate r (at + k) x)
  next_zeroed at i x e y so_far same here was k below = elim (cases_eq k i) [
    | inl is ↦ subst (λ (q : ℕ). gate r (at + q) y ≡ shut (gate r (at + q) x)) (sym is) (here ∙ ap shut was)
    | inr other ↦
        let beside : gate r (at + k) y ≡ gate r (at + k) e = same.bytes r.chunk (place r (at + k) + 2047) (λ h. other (omega (arith, h.1))) in
        beside ∙ so_far k (omega (arith, below, other))
  ]

  -- one gate more is closed
  pub next_closed : (at i : ℕ) (e y : Image) → ((k : ℕ) → k < i → gate r (at + k) e ≢ 165) → SameBut (OpenGate r (at + i) e) e y → gate r (at + i) y ≢ 165
      → (k : ℕ) → k < i + 1 → gate r (at + k) y ≢ 165
  next_closed at i e y so_far same here k below = elim (cases_eq k i) [
    | inl is ↦ subst (λ (q : ℕ). gate r (at + q) y ≢ 165) (sym is) here
    | inr other ↦
        let beside : gate r (at + k) y ≡ gate r (at + k) e = same.bytes r.chunk (place r (at + k) + 2047) (λ h. other (omega (arith, h.1))) in
        (λ is. so_far k (omega (arith, below, other)) (sym beside ∙ is))
  ]
