-- What a stop may leave, by all that a disk means.
use Rattle.ids_outside.specs.Images.{Image}
use Rattle.ids_outside.specs.Stops.{Leaves}
use Rattle.ids_outside.specs.declared.disk.Disk.{Ghosts}

-- from one state of a disk to another, each image that can be left, or could at a moment between, comes by this step from one that could be left before
abbrev pub Within : {D : Type 0} → Ghosts D → D → D → (Image → Image → Type 0) → Type 0
Within d old new step = Leaves d.now d.can_leave d.left_at old new step
