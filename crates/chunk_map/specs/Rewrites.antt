-- What rewriting a page of the root may leave.
use Rattle.std.specs.Prelude.{◌≡◌, ◌⊎◌, ℕ, ◌-◌, List, Some, None}
use Rattle.ids_outside.specs.Images.{Image, SameBut}
use Rattle.gate_blocks.specs.Gates.{RegionPlaces}
use Rattle.chunk_map.specs.Checkpoints.{root_page, root_block, page_of, IsNewest, NoCheckpoint}
use Rattle.chunk_map.specs.declared.checkpoint.CheckpointPage.{CheckpointPage}

-- a page that is being rewritten is as it was, closed, or has its new body; and all else is as it was
pub record Rewrites (k : ℕ) (body : List ℕ) (x y : Image) : Type 0 where
  pub elsewhere : SameBut (RegionPlaces (root_page k)) x y
  pub block : (root_block k y ≡ root_block k x) ⊎ (root_block k y ≡ None) ⊎ (root_block k y ≡ Some body)

-- the checkpoint pages stand for the same
abbrev pub SamePages : Image → Image → Type 0
SamePages x y = (root_block 1 y ≡ root_block 1 x) × (root_block 2 y ≡ root_block 2 x)

-- the newest checkpoint is the same, if there is one
abbrev pub SameNewest : Image → Image → Type 0
SameNewest x y = ((q : CheckpointPage) × IsNewest q x × IsNewest q y) ⊎ (NoCheckpoint x × NoCheckpoint y)

-- A new checkpoint is being written: the newest is the old one or it; the other page is as it was.
pub record Renews (p : CheckpointPage) (x y : Image) : Type 0 where
  pub elsewhere : SameBut (RegionPlaces (root_page (page_of p.number))) x y
  pub other : root_block (3 - page_of p.number) y ≡ root_block (3 - page_of p.number) x
  pub newest : SameNewest x y ⊎ IsNewest p y
