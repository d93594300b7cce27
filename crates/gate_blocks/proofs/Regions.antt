-- Changes in a region, beside others.
use Rattle.std.proofs.Common.{◌≡◌, inl, inr, ℕ, ◌+◌, ◌<◌, ◌≤◌, sym, arith}
use Rattle.ids_outside.specs.Images.{Image, SameBut}
use Rattle.gate_blocks.proofs.OneBlock.{block-alone, body-alone}
use Rattle.gate_blocks.specs.Gates.{place, body, block, RegionPlaces, Apart}
use Rattle.gate_blocks.specs.declared.region.Region.{Region}

-- a place of one region is no place of the other
beside : (r s : Region) (k i : ℕ) → Apart r s → k < s.count → place s k ≤ i → i < place s k + 2048 → ¬ RegionPlaces r s.chunk i
beside r s k i (inl other) lt from below h = other (sym h.0)
beside r s k i (inr (inl before)) lt from below h = omega (arith, from, h.2, before)
beside r s k i (inr (inr behind)) lt from below h = omega (arith, below, lt, h.1, behind)

pub block-apart : (r s : Region) (x y : Image) → Apart r s → SameBut (RegionPlaces r) x y → (k : ℕ) → k < s.count → block s k y ≡ block s k x
block-apart r s x y away same k lt = block-alone s k (RegionPlaces r) x y (λ i from below. beside r s k i away lt from below) same

pub body-apart : (r s : Region) (x y : Image) → Apart r s → SameBut (RegionPlaces r) x y → (k : ℕ) → k < s.count → body s k y ≡ body s k x
body-apart r s x y away same k lt = body-alone s k (RegionPlaces r) x y (λ i from below. beside r s k i away lt from (omega (arith, below))) same
