-- Transactions are numbered rising: a BEGIN has a greater number than each record before it. So a transaction that has ended never begins again, also where several are open at once.
use Rattle.std.specs.Prelude.{ℕ, max, nat_lt, Bool, true, ◌&&◌, List, [], ◌∷◌}
use Rattle.log_records.specs.Entries.{Entry, Begin, Commit, Rollback, HInsert, HDelete, HUpdate, Ckpoint}
use Rattle.log_records.specs.Spelling.{tx_of}

-- behind records whose greatest number of a transaction is `last`, a BEGIN has a greater one
abbrev pub rises : ℕ → Entry → Bool
rises last (Begin tx session) = nat_lt last tx
rises last (Commit tx) = true
rises last (Rollback tx) = true
rises last (HInsert tx table slot after) = true
rises last (HDelete tx table slot before) = true
rises last (HUpdate tx table slot before after) = true
rises last (Ckpoint named) = true

-- each of these records does
abbrev pub all_rise : ℕ → List Entry → Bool
all_rise last [] = true
all_rise last (e ∷ es) = rises last e && all_rise (max last (tx_of e)) es

-- the greatest number of a transaction after these records, where it was `last` before
abbrev pub greatest_after : ℕ → List Entry → ℕ
greatest_after last [] = last
greatest_after last (e ∷ es) = greatest_after (max last (tx_of e)) es

-- the greatest number of a transaction in a log, or 0
abbrev pub greatest_in : List Entry → ℕ
greatest_in log = greatest_after 0 log
