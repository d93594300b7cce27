use Rattle.std.proofs.Common.{◌≡◌, ◌≤◌, take}
use Rattle.sql_reader.specs.Tokens.{value}
use Rattle.sql_reader.proofs.convert.number_of.Given as goal

abbrev pub invariant-loop-byte : goal.invariant-loop-byte
invariant-loop-byte l = (l.number ≡ value 0 (take l.byte-index l.token)) × (l.number ≤ 2147483647)
