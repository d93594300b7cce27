-- Images that are formatted, and what the calls answer of others.
use Rattle.std.specs.Prelude.{◌≡◌, ◌⊎◌, ℕ, List, take, codes, Some}
use Rattle.ids_outside.specs.Images.{Image, pages_of}
use Rattle.ids_base.specs.declared.status.Place.TheVariants.{Identity, Checkpoint}
use Rattle.chunk_map.specs.Layouts.{IsLayout, HasPages, identity_body}
use Rattle.chunk_map.specs.Checkpoints.{root_block, NoCheckpoint, IsFirstDamaged}
use Rattle.chunk_map.specs.declared.fault.MapFault.{MapFault}
use Rattle.chunk_map.specs.declared.fault.MapFault.TheVariants.{NotFormatted, Damaged, Disk}
use Rattle.chunk_map.specs.declared.layout.Layout.{Layout}

-- page 0 is there, its gate is open, and it begins with the mark
abbrev pub HasIdentity : Image → Type 0
HasIdentity x = (b : List ℕ) × (root_block 0 x ≡ Some b) × (take 4 b ≡ codes "IDSR")

abbrev pub IsFormatted : Image → Type 0
IsFormatted x = HasIdentity x × ¬ NoCheckpoint x

-- the identity page says this layout, and the chunks have the pages that it names
pub record HasLayout (l : Layout) (x : Image) : Type 0 where
  pub layout : IsLayout l
  pub block : root_block 0 x ≡ Some (identity_body l)
  pub pages : HasPages (pages_of x) l

-- it is formatted, and its identity page says no layout that it has
abbrev pub IsIdentityDamaged : Image → Type 0
IsIdentityDamaged x = IsFormatted x × ((l : Layout) → ¬ HasLayout l x)

-- what it means that the identity is not had
abbrev pub IdentityFault : Image → MapFault → Type 0
IdentityFault x NotFormatted = ¬ IsFormatted x
IdentityFault x (Damaged place) = IsIdentityDamaged x
IdentityFault x Disk = Unit {0}

-- what it means that the newest checkpoint is not had
abbrev pub NewestFault : Image → MapFault → Type 0
NewestFault x NotFormatted = NoCheckpoint x
NewestFault x (Damaged place) = (c : ℕ) × (place ≡ Checkpoint c) × IsFirstDamaged c x
NewestFault x Disk = Unit {0}

-- the places that are named
abbrev pub NamesIdentity : MapFault → Type 0
NamesIdentity NotFormatted = Unit {0}
NamesIdentity (Damaged place) = place ≡ Identity
NamesIdentity Disk = Unit {0}

abbrev pub NamesPages : MapFault → Type 0
NamesPages NotFormatted = Unit {0}
NamesPages (Damaged place) = (place ≡ Checkpoint 1) ⊎ (place ≡ Checkpoint 2)
NamesPages Disk = Unit {0}
