use Rattle.sql_reader.proofs.Meanings.{Unquoting}
use Rattle.sql_reader.proofs.convert.without_quotes.Given as goal

abbrev pub invariant-loop-byte : goal.invariant-loop-byte
invariant-loop-byte l = Unquoting l.sign l.bytes.items l.seen l.byte-items l.byte-index
