-- No threads wait in a circle: what keeps it so.
use Rattle.std.specs.Prelude.{◌≡◌, ℕ, List, []}
use Rattle.ids_base.specs.declared.lock.LockName.{LockName}
use Rattle.ids_base.specs.declared.lock.LockMode.{LockMode}
use Rattle.lock_table.specs.Table.{Table, line, queue, Becomes, IsTold, WaitsAt, WaitsNowhere}
use Rattle.lock_table.specs.Requests.{wanted, taken, queued, withdrawn, released, all_released}
use Rattle.lock_table.specs.Sound.{IsSound}
use Rattle.wait_graph.specs.Cycles.{IsCycle}
use Rattle.wait_graph.specs.Queued.{WaitsSomewhere, ClosesCycle}

-- no threads wait in a circle
abbrev pub HasNoCycle : Table → Type 0
HasNoCycle t = (start : ℕ) (threads : List ℕ) → IsCycle (WaitsSomewhere t (queue t)) start threads → ⊥

-- so it is where there are no entries
abbrev pub EmptyHasNoCycle : Type 0
EmptyHasNoCycle = (t : Table) → t.held ≡ [] → t.waiting ≡ [] → HasNoCycle t

-- where nothing changed: a request that is covered or refused, and where no grant is left to tell
abbrev pub UnchangedKeepsNoCycle : Type 0
UnchangedKeepsNoCycle = (old new : Table) → HasNoCycle old → new ≡ old → HasNoCycle new

-- a request that was granted
abbrev pub GrantKeepsNoCycle : Type 0
GrantKeepsNoCycle = (old new : Table) (thread : ℕ) (name : LockName) (mode : LockMode) → IsSound old → HasNoCycle old
    → WaitsNowhere old thread
    → Becomes old new name (taken (line old name) (wanted (line old name) thread name mode))
    → HasNoCycle new

-- a request that waits, and would close no cycle
abbrev pub WaitKeepsNoCycle : Type 0
WaitKeepsNoCycle = (old new : Table) (thread : ℕ) (name : LockName) (mode : LockMode) → HasNoCycle old
    → ((threads : List ℕ) → ClosesCycle old thread name mode threads → ⊥)
    → Becomes old new name (queued (line old name) (wanted (line old name) thread name mode))
    → HasNoCycle new

-- a thread that waits no more
abbrev pub WithdrawKeepsNoCycle : Type 0
WithdrawKeepsNoCycle = (old new : Table) (thread : ℕ) → IsSound old → HasNoCycle old
    → (name : LockName) × WaitsAt old thread name
    → ((name : LockName) → WaitsAt old thread name → Becomes old new name (withdrawn (line old name) thread))
    → HasNoCycle new

-- a lock given back
abbrev pub ReleaseKeepsNoCycle : Type 0
ReleaseKeepsNoCycle = (old new : Table) (thread : ℕ) (name : LockName) → IsSound old → HasNoCycle old
    → Becomes old new name (released (line old name) thread)
    → HasNoCycle new

-- all locks of a thread given back
abbrev pub ReleaseAllKeepsNoCycle : Type 0
ReleaseAllKeepsNoCycle = (old new : Table) (thread : ℕ) → IsSound old → HasNoCycle old
    → ((name : LockName) → line new name ≡ all_released (line old name) thread)
    → HasNoCycle new

-- a grant that is told
abbrev pub TellKeepsNoCycle : Type 0
TellKeepsNoCycle = (old new : Table) (woken : ℕ) → HasNoCycle old → IsTold old new woken → HasNoCycle new
