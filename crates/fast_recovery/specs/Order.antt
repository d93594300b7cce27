-- A log of one session has one transaction at a time: BEGIN, its changes, and COMMIT or ROLLBACK.
use Rattle.std.specs.Prelude.{ℕ, ◌==◌, if◌then◌else◌, List, [], ◌∷◌, Option, Some, None, option_and_then}
use Rattle.log_records.specs.Entries.{Entry, Begin, Commit, Rollback, HInsert, HDelete, HUpdate, Ckpoint}

-- the open transaction stays so after its own record, or is ended by it; no record of another is in order
abbrev pub stays : Option ℕ → ℕ → Option (Option ℕ)
stays None tx = None
stays (Some o) tx = if o == tx then Some (Some o) else None

abbrev pub ends : Option ℕ → ℕ → Option (Option ℕ)
ends None tx = None
ends (Some o) tx = if o == tx then Some None else None

abbrev pub starts : Option ℕ → ℕ → Option (Option ℕ)
starts None tx = Some (Some tx)
starts (Some o) tx = None

-- which transaction is open after a record, where this one was before; none of both where the record is out of order
abbrev pub open_by : Option ℕ → Entry → Option (Option ℕ)
open_by o (Begin tx session) = starts o tx
open_by o (Commit tx) = ends o tx
open_by o (Rollback tx) = ends o tx
open_by o (HInsert tx table slot after) = stays o tx
open_by o (HDelete tx table slot before) = stays o tx
open_by o (HUpdate tx table slot before after) = stays o tx
open_by o (Ckpoint named) = Some o

-- and after records
abbrev pub open_in : Option ℕ → List Entry → Option (Option ℕ)
open_in o [] = Some o
open_in o (e ∷ es) = option_and_then (λ p. open_in p es) (open_by o e)

-- what closes a log: a ROLLBACK of the transaction that is open
abbrev pub closing : Option ℕ → List Entry
closing None = []
closing (Some tx) = Rollback tx ∷ []
