use Rattle.std.proofs.Common.{arith}
use Rattle.std.proofs.lemmas.Nat.Bits.{bit_at_ones}
use Rattle.table_space.specs.PageMarks.{tx_mark, place_mark}
use Rattle.table_space.proofs.reserves.Reserved.with_slot.Goals as goal

-- all marks are there
pub returns-then-slot-eq-MANY-clause-here : goal.returns-then-slot-eq-MANY-clause-here
returns-then-slot-eq-MANY-clause-here c = λ tx may. record { by_tx = bit_at_ones 64 (tx_mark tx) (omega arith); by_place = λ table own. bit_at_ones 64 (place_mark table tx) (omega arith) }

pub returns-then-slot-eq-MANY-clause-kept : goal.returns-then-slot-eq-MANY-clause-kept
returns-then-slot-eq-MANY-clause-kept c = λ tx is. record { by_tx = bit_at_ones 64 (tx_mark tx) (omega arith); by_place = λ table own. bit_at_ones 64 (place_mark table tx) (omega arith) }
