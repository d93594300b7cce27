-- Counts of 32 bits.
use Rattle.std.specs.Prelude.{ℕ, min}

-- a number as far as 32 bits can tell
abbrev pub up_to_max : ℕ → ℕ
up_to_max n = min n 4294967295
