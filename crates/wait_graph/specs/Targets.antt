-- Whom a thread waits for, as a list.
use Rattle.std.specs.Prelude.{ℕ, ◌==◌, Bool, cond, List, [], ◌∷◌, ◌++◌, map, filter, Option, Some}
use Rattle.std.specs.List.{list_any, find}
use Rattle.std.specs.Option.{option_map, option_map_or}
use Rattle.ids_base.specs.declared.lock.LockName.{LockName}
use Rattle.ids_base.specs.declared.lock.LockEntry.{LockEntry}
use Rattle.ids_base.specs.LockNames.{is_same_name}
use Rattle.ids_base.specs.Waits.{conflicts}
use Rattle.lock_table.specs.Table.{Table, is_of, holders, queue}
use Rattle.wait_graph.specs.declared.asked.Asked.{Asked}

-- the threads of the entries that are against w
abbrev pub against_of : LockEntry → List LockEntry → List ℕ
against_of w es = map (λ e. e.thread) (filter (conflicts w) es)

-- the threads that a waits for by these waiters, who stand behind `earlier`
abbrev pub targets_from : List LockEntry → List LockEntry → ℕ → List LockEntry → List ℕ
targets_from held earlier a [] = []
targets_from held earlier a (w ∷ ws) = cond (w.thread == a) (against_of w (held ++ earlier)) [] ++ targets_from held (earlier ++ w ∷ []) a ws

abbrev pub targets : List LockEntry → List LockEntry → ℕ → List ℕ
targets held waiting a = targets_from held [] a waiting

-- b is among these
abbrev pub among : ℕ → List ℕ → Bool
among b xs = list_any (λ x. x == b) xs

-- the queue of a name, with the request in its place
abbrev pub queue_at : Table → Asked → LockName → List LockEntry
queue_at t asked name = cond (is_same_name name asked.name) asked.queue.items (queue t name)

-- the name that a thread waits for, with the request in its place
abbrev pub name_waited : Table → Asked → ℕ → Option LockName
name_waited t asked a = cond (a == asked.start) (Some asked.name) (option_map (λ e. e.name) (find (is_of a) t.waiting))

-- the threads that a waits for, with the request in its place
unfoldable pub next : Table → Asked → ℕ → List ℕ
next t asked a = option_map_or (λ name. targets (holders t name) (queue_at t asked name) a) (name_waited t asked a) []
