-- Which thread waits for which, with a request looked at as if it stood in its queue.
use Rattle.std.specs.Prelude.{◌≡◌, ℕ, List, cond}
use Rattle.ids_base.specs.declared.lock.LockName.{LockName}
use Rattle.ids_base.specs.declared.lock.LockMode.{LockMode}
use Rattle.ids_base.specs.declared.lock.LockEntry.{LockEntry}
use Rattle.ids_base.specs.LockNames.{is_same_name}
use Rattle.ids_base.specs.Waits.{WaitsFor}
use Rattle.wait_graph.specs.Cycles.{IsCycle}
use Rattle.lock_table.specs.Table.{Table, line, holders, queue, WaitsNowhere}
use Rattle.lock_table.specs.Requests.{wanted, queued}
use Rattle.lock_table.specs.Sound.{IsSound}
use Rattle.wait_graph.specs.declared.asked.Asked.{Asked}

-- the queue of each name, with the request in its place
abbrev pub queue_with : Table → LockEntry → LockName → List LockEntry
queue_with t request name = cond (is_same_name name request.name) (queued (line t request.name) request).queue (queue t name)

-- for some name, a stands in the queue and waits there for b
pub record WaitsSomewhere (t : Table) (queues : LockName → List LockEntry) (a b : ℕ) : Type 0 where
  pub name : LockName
  pub waits : WaitsFor (holders t name) (queues name) a b

-- with the request queued, these threads wait in a circle, from the requester on
abbrev pub ClosesCycle : Table → ℕ → LockName → LockMode → List ℕ → Type 0
ClosesCycle t thread name mode threads = IsCycle (WaitsSomewhere t (queue_with t (wanted (line t name) thread name mode))) thread threads

-- the request stands in its place in the queue, and its thread waits for no lock yet
pub record IsAsked (t : Table) (asked : Asked) : Type 0 where
  pub sound : IsSound t
  pub waits_nowhere : WaitsNowhere t asked.start
  pub mode : LockMode
  pub queued : asked.queue.items ≡ (queued (line t asked.name) (wanted (line t asked.name) asked.start asked.name mode)).queue
