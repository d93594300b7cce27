use Rattle.std.proofs.Common.{◌≡◌, map, take, length}
use Rattle.sql_reader.specs.Tokens.{lower}
use Rattle.sql_reader.proofs.convert.name_of.Given as goal

abbrev pub invariant-loop-i : goal.invariant-loop-i
invariant-loop-i l = (length l.text ≡ 18) × (take l.i l.text ≡ map lower (take l.i l.token))
