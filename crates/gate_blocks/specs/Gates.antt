-- Blocks of a region, which count only where their gates are open, and what the calls on them may leave.
use Rattle.std.specs.Prelude.{◌<◌, ◌≡◌, ◌⊎◌, ℕ, ◌+◌, ◌*◌, ◌≤◌, List, [], length, get_or, Option, Some, None, if◌then◌else◌, ◌==◌}
use Rattle.ids_outside.specs.Images.{Image, byte, bytes_of, SameBut}
use Rattle.gate_blocks.specs.declared.region.Region.{Region}

-- where block k of a region begins
abbrev pub place : Region → ℕ → ℕ
place r k = 2048 * (r.first + k)

-- its last byte
abbrev pub gate : Region → ℕ → Image → ℕ
gate r k x = byte x r.chunk (place r k + 2047)

-- what closing makes of a gate: 0 of an open one; any other stays
abbrev pub shut : ℕ → ℕ
shut b = if b == 165 then 0 else b

-- the bytes before it
unfoldable pub body : Region → ℕ → Image → List ℕ
body r k x = bytes_of x r.chunk (place r k) 2047

-- what a block stands for: its body, where the gate is open
unfoldable pub block : Region → ℕ → Image → Option (List ℕ)
block r k x = if gate r k x == 165 then Some (body r k x) else None

-- one of n blocks from the first one named on
abbrev pub Within : ℕ → ℕ → ℕ → Type 0
Within at n k = (at ≤ k) × (k < at + n)

-- the places of the bodies of these blocks
abbrev pub BodyPlaces : Region → ℕ → ℕ → ℕ → ℕ → Type 0
BodyPlaces r at n j i = (j ≡ r.chunk) × ((k : ℕ) × Within at n k × (place r k ≤ i) × (i < place r k + 2047))

-- the places of their gates
abbrev pub GatePlaces : Region → ℕ → ℕ → ℕ → ℕ → Type 0
GatePlaces r at n j i = (j ≡ r.chunk) × ((k : ℕ) × Within at n k × (i ≡ place r k + 2047))

-- the places of a whole region
abbrev pub RegionPlaces : Region → ℕ → ℕ → Type 0
RegionPlaces r j i = (j ≡ r.chunk) × (place r 0 ≤ i) × (i < place r r.count)

-- no block of one region is one of the other
abbrev pub Apart : Region → Region → Type 0
Apart r s = (¬ (r.chunk ≡ s.chunk)) ⊎ (r.first + r.count ≤ s.first) ⊎ (s.first + s.count ≤ r.first)

-- each block of the first region is one of the second
abbrev pub Inside : Region → Region → Type 0
Inside r s = (r.chunk ≡ s.chunk) × (s.first ≤ r.first) × (r.first + r.count ≤ s.first + s.count)

-- other bodies behind closed gates: each block stands for what it stood for
pub record Staged (r : Region) (at n : ℕ) (x y : Image) : Type 0 where
  pub elsewhere : SameBut (BodyPlaces r at n) x y
  pub blocks : (k : ℕ) → block r k y ≡ block r k x

-- gates that are being opened: each of these blocks is closed, or has the body that stood there
pub record Opening (r : Region) (at n : ℕ) (x y : Image) : Type 0 where
  pub elsewhere : SameBut (GatePlaces r at n) x y
  pub others : (k : ℕ) → ¬ Within at n k → block r k y ≡ block r k x
  pub each : (k : ℕ) → Within at n k → (block r k y ≡ None) ⊎ (block r k y ≡ Some (body r k x))

-- gates that are being closed: each of these blocks is closed, or as it was
pub record Closing (r : Region) (at n : ℕ) (x y : Image) : Type 0 where
  pub elsewhere : SameBut (GatePlaces r at n) x y
  pub others : (k : ℕ) → ¬ Within at n k → block r k y ≡ block r k x
  pub each : (k : ℕ) → Within at n k → (block r k y ≡ None) ⊎ (block r k y ≡ block r k x)

-- the bodies of the blocks from the first one named on are these
abbrev pub HasBodies : Region → ℕ → List (List ℕ) → Image → Type 0
HasBodies r at bodies y = (k : ℕ) → k < length bodies → body r (at + k) y ≡ get_or bodies k []

-- the place of a gate that is open in x
abbrev pub OpenGate : Region → ℕ → Image → ℕ → ℕ → Type 0
OpenGate r k x j i = (j ≡ r.chunk) × (i ≡ place r k + 2047) × (gate r k x ≡ 165)

-- the places of the gates of n blocks that are open in x
abbrev pub OpenGates : Region → ℕ → ℕ → Image → ℕ → ℕ → Type 0
OpenGates r at n x j i = (k : ℕ) × Within at n k × OpenGate r k x j i
