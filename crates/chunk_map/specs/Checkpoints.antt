-- The checkpoint pages of an image, and which is the newest.
use Rattle.std.specs.Prelude.{◌≡◌, ◌⊎◌, ◌<◌, ◌≤◌, ◌^◌, ℕ, ◌+◌, ◌-◌, ◌%◌, List, [], ◌∷◌, ◌++◌, Option, Some, None, IsTrue, if◌then◌else◌}
use Rattle.std.specs.Int.{w16, w64, to_be_bytes}
use Rattle.ids_outside.specs.Images.{Image}
use Rattle.gate_blocks.specs.Gates.{block}
use Rattle.gate_blocks.specs.declared.region.Region.{Region}
use Rattle.chunk_map.specs.Layouts.{zeros}
use Rattle.chunk_map.specs.declared.checkpoint.CheckpointPage.{CheckpointPage}

-- a page of the root, and the block that it is
abbrev pub root_page : ℕ → Region
root_page k = record { chunk = 0; first = k; count = 1 }

abbrev pub root_block : ℕ → Image → Option (List ℕ)
root_block k x = block (root_page k) 0 x

-- the 2047 bytes of a checkpoint page: its number, whether it is quiet, and the start of the tail; the rest is zero
unfoldable pub checkpoint_body : CheckpointPage → List ℕ
checkpoint_body p =
    to_be_bytes w64 p.number ++ (if p.quiet then 0 else 1) ∷ [] ++ to_be_bytes w64 p.start.block ++ to_be_bytes w16 p.start.index ++ zeros 2028

-- its numbers have 64 and 16 bits
pub record FitsPage (p : CheckpointPage) : Type 0 where
  pub number : p.number < 2 ^ 64
  pub block : p.start.block < 2 ^ 64
  pub index : p.start.index < 2 ^ 16

-- its numbers are in their ranges
pub record IsCheckpoint (p : CheckpointPage) : Type 0 where
  pub number : 1 ≤ p.number
  pub block : 1 ≤ p.start.block
  pub index : IsTrue p.quiet → p.start.index ≡ 0
  pub fits : FitsPage p

-- where a number stands: an odd one on page 1, an even one on page 2
abbrev pub page_of : ℕ → ℕ
page_of n = 2 - n % 2

-- this checkpoint stands on page c
pub record IsPage (c : ℕ) (p : CheckpointPage) (x : Image) : Type 0 where
  pub block : root_block c x ≡ Some (checkpoint_body p)
  pub checkpoint : IsCheckpoint p
  pub place : page_of p.number ≡ c

abbrev pub IsClosed : ℕ → Image → Type 0
IsClosed c x = root_block c x ≡ None

-- page c is open, and no checkpoint stands on it
pub record IsDamagedPage (c : ℕ) (x : Image) : Type 0 where
  pub not_closed : ¬ IsClosed c x
  pub unread : (p : CheckpointPage) → ¬ IsPage c p x

-- page c is closed, or has a lesser number
abbrev pub IsOlder : ℕ → ℕ → Image → Type 0
IsOlder c n x = IsClosed c x ⊎ ((q : CheckpointPage) × IsPage c q x × (q.number < n))

-- the newest checkpoint: it stands on its page, and the other page is closed or has a lesser number
pub record IsNewest (p : CheckpointPage) (x : Image) : Type 0 where
  pub page : IsPage (page_of p.number) p x
  pub other : IsOlder (3 - page_of p.number) p.number x

abbrev pub NoCheckpoint : Image → Type 0
NoCheckpoint x = IsClosed 1 x × IsClosed 2 x

-- the damaged page that comes first
abbrev pub IsFirstDamaged : ℕ → Image → Type 0
IsFirstDamaged c x = ((c ≡ 1) × IsDamagedPage 1 x) ⊎ ((c ≡ 2) × ¬ IsDamagedPage 1 x × IsDamagedPage 2 x)

-- one more than the newest number, or 1 where there is none
abbrev pub IsNext : ℕ → Image → Type 0
IsNext n x = ((p : CheckpointPage) × IsNewest p x × (n ≡ p.number + 1)) ⊎ (NoCheckpoint x × (n ≡ 1))
