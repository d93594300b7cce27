-- What is found on a checkpoint page.
use Rattle.std.specs.Prelude.{◌≡◌, ℕ}
use Rattle.ids_outside.specs.Images.{Image}
use Rattle.chunk_map.specs.Checkpoints.{IsCheckpoint, IsPage, IsClosed, IsDamagedPage, page_of}
use Rattle.chunk_map.specs.declared.checkpoint.Found.{Found}
use Rattle.chunk_map.specs.declared.checkpoint.Found.TheVariants.{Closed, Damaged, Page}

abbrev pub StandsOn : ℕ → Found → Image → Type 0
StandsOn c Closed x = IsClosed c x
StandsOn c Damaged x = IsDamagedPage c x
StandsOn c (Page p) x = IsPage c p x

-- whether it is one that may stand there
abbrev pub MayStandOn : ℕ → Found → Type 0
MayStandOn c Closed = Unit {0}
MayStandOn c Damaged = Unit {0}
MayStandOn c (Page p) = IsCheckpoint p × (page_of p.number ≡ c)
