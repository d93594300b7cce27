use Rattle.std.proofs.Common.{◌≡◌, ◌+◌, ◌*◌, ◌++◌, length, take}
use Rattle.std.specs.List.{flat_map}
use Rattle.std.specs.Int.{w16}
use Rattle.log_records.specs.Naming.{all_named}
use Rattle.log_records.specs.Spelling.{number_bytes, named_bytes}
use Rattle.log_records.proofs.writing.put_list.Given as goal

abbrev pub invariant-loop-open_tx : goal.invariant-loop-open_tx
invariant-loop-open_tx l = record {
  place : l.next ≡ l.at + 2 + 18 * l.open_tx-index;
  front : take l.next l.into ≡ take l.at l.fn.into ++ (number_bytes w16 (length l.list) ++ flat_map named_bytes (all_named (take l.open_tx-index l.list)));
}
