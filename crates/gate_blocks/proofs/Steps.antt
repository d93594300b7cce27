-- What the steps of runs over blocks are named by.
use Rattle.std.specs.Prelude.{ℕ}
use Rattle.ids_outside.specs.Images.{Image}
use Rattle.gate_blocks.specs.declared.region.Region.{Region}

-- some blocks of a region: the first and how many
abbrev pub Blocks : Type 0
Blocks = Region × ℕ × ℕ

-- some blocks of a region, as an image has them
abbrev pub BlocksOf : Type 0
BlocksOf = Region × ℕ × ℕ × Image

-- a block of a region, as an image has it
abbrev pub BlockOf : Type 0
BlockOf = Region × ℕ × Image
