-- What writes of bodies, and writes of open gates, leave.
use Rattle.std.proofs.Common.{◌≡◌, ◌≢◌, ◌⊎◌, inl, inr, ℕ, suc, ◌+◌, ◌<◌, List, [], ◌∷◌, length, get_or, Some, None, sym, ◌∙◌, ap, subst, arith}
use Rattle.std.proofs.lemmas.Bool.{cases_eq}
use Rattle.ids_outside.specs.Images.{Image, bytes_of, SameBut, Range, Written}
use Rattle.gate_blocks.proofs.Images.{bytes_of-one}
use Rattle.gate_blocks.proofs.OneBlock.{within_cases, block-open, block-closed, closed-gate, block-same, body-alone}
use Rattle.gate_blocks.specs.Gates.{place, gate, body, block, Within, BodyPlaces, GatePlaces, Staged, Opening}
use Rattle.gate_blocks.specs.declared.region.Region.{Region}

module _ (r : Region) where
  -- a body's range lies in the bodies' places
  pub body_range : (at n k o j i : ℕ) → Within at n k → o ≡ place r k → Range r.chunk o 2047 j i → BodyPlaces r at n j i
  body_range at n k o j i inside is h = (h.0, (k, inside, omega (arith, is, h.1), omega (arith, is, h.2)))

  gate-under_bodies : (at n k : ℕ) (x y : Image) → SameBut (BodyPlaces r at n) x y → gate r k y ≡ gate r k x
  gate-under_bodies at n k x y same = same.bytes r.chunk (place r k + 2047) (λ h. omega (arith, h.1.2, h.1.3))

  pub body-under_bodies : (at n k : ℕ) (x y : Image) → ¬ Within at n k → SameBut (BodyPlaces r at n) x y → body r k y ≡ body r k x
  body-under_bodies at n k x y outside same = body-alone r k (BodyPlaces r at n) x y (λ i le lt h.
      let here : h.1.0 ≡ k = omega (arith, h.1.2, h.1.3, le, lt) in
      outside (subst (λ (q : ℕ). Within at n q) here h.1.1)) same

  pub staged : (at n : ℕ) (x y : Image) → ((k : ℕ) → Within at n k → block r k x ≡ None) → SameBut (BodyPlaces r at n) x y → Staged r at n x y
  staged at n x y closed same = record {
    elsewhere = same;
    blocks = λ k. blocks k (within_cases at n k);
  }
    where
      blocks : (k : ℕ) → Within at n k ⊎ ¬ Within at n k → block r k y ≡ block r k x
      blocks k (inl inside) =
          block-closed r k y (λ h. closed-gate r k x (closed k inside) (sym (gate-under_bodies at n k x y same) ∙ h)) ∙ sym (closed k inside)
      blocks k (inr out) = block-same r k x y (gate-under_bodies at n k x y same) (body-under_bodies at n k x y out same)

  body-beside : (k q : ℕ) (x y : Image) → k ≢ q → SameBut (Range r.chunk (place r q) 2047) x y → body r k y ≡ body r k x
  body-beside k q x y other same = body-alone r k (Range r.chunk (place r q) 2047) x y (λ i le lt h.
      let here : k ≡ q = omega (arith, h.1, h.2, le, lt) in other here) same

  -- one more body
  pub next_body : (at : ℕ) (bodies : List (List ℕ)) (i : ℕ) (e y : Image) → length (get_or bodies i []) ≡ 2047
      → ((k : ℕ) → k < i → body r (at + k) e ≡ get_or bodies k [])
      → Written r.chunk (place r (at + i)) (get_or bodies i []) e y
      → (k : ℕ) → k < suc i → body r (at + k) y ≡ get_or bodies k []
  unfolding body
  next_body at bodies i e y long so_far written k below =
      let one : SameBut (Range r.chunk (place r (at + i)) 2047) e y = subst (λ (len : ℕ). SameBut (Range r.chunk (place r (at + i)) len) e y) long written.elsewhere in
      let new : bytes_of y r.chunk (place r (at + i)) 2047 ≡ get_or bodies i [] = subst (λ (len : ℕ). bytes_of y r.chunk (place r (at + i)) len ≡ get_or bodies i []) long written.there in
      elim (cases_eq k i) [
        | inl is ↦ subst (λ (q : ℕ). bytes_of y r.chunk (place r (at + q)) 2047 ≡ get_or bodies q []) (sym is) new
        | inr other ↦ body-beside (at + k) (at + i) e y (λ h. other (omega (arith, h))) one ∙ so_far k (omega (arith, below, other))
      ]

  -- a gate's range lies in the gates' places
  pub gate_range : (at n k o j i : ℕ) → Within at n k → o ≡ place r k + 2047 → Range r.chunk o 1 j i → GatePlaces r at n j i
  gate_range at n k o j i inside is h = (h.0, (k, inside, omega (arith, is, h.1, h.2)))

  gate-under_gates : (at n k : ℕ) (x y : Image) → ¬ Within at n k → SameBut (GatePlaces r at n) x y → gate r k y ≡ gate r k x
  gate-under_gates at n k x y outside same = same.bytes r.chunk (place r k + 2047) (λ h.
      let here : h.1.0 ≡ k = omega (arith, h.1.2) in
      outside (subst (λ (q : ℕ). Within at n q) here h.1.1))

  pub body-under_gates : (at n k : ℕ) (x y : Image) → SameBut (GatePlaces r at n) x y → body r k y ≡ body r k x
  body-under_gates at n k x y same = body-alone r k (GatePlaces r at n) x y (λ i le lt h. omega (arith, h.1.2, le, lt)) same

  pub opened : (at n k : ℕ) (x y : Image) → SameBut (GatePlaces r at n) x y → gate r k y ≡ 165 → block r k y ≡ Some (body r k x)
  opened at n k x y same is = block-open r k y is ∙ ap (λ (b : List ℕ). Some b) (body-under_gates at n k x y same)

  pub opening : (at n : ℕ) (x y : Image) → SameBut (GatePlaces r at n) x y → Opening r at n x y
  opening at n x y same = record {
    elsewhere = same;
    others = λ k out. block-same r k x y (gate-under_gates at n k x y out same) (body-under_gates at n k x y same);
    each = λ k inside. elim (cases_eq (gate r k y) 165) [
      | inl is ↦ inr (opened at n k x y same is)
      | inr shut ↦ inl (block-closed r k y shut)
    ];
  }

  -- one more gate
  pub next_gate : (at i : ℕ) (e y : Image)
      → ((k : ℕ) → k < i → gate r (at + k) e ≡ 165)
      → Written r.chunk (place r (at + i) + 2047) (165 ∷ []) e y
      → (k : ℕ) → k < suc i → gate r (at + k) y ≡ 165
  next_gate at i e y so_far written k below =
      let new : gate r (at + i) y ≡ 165 = ap (λ (l : List ℕ). get_or l 0 0) (sym (bytes_of-one y r.chunk (place r (at + i) + 2047)) ∙ written.there) in
      elim (cases_eq k i) [
        | inl is ↦ subst (λ (q : ℕ). gate r (at + q) y ≡ 165) (sym is) new
        | inr other ↦ written.elsewhere.bytes r.chunk (place r (at + k) + 2047) (λ h. other (omega (arith, h.1, h.2))) ∙ so_far k (omega (arith, below, other))
      ]
