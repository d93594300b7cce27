-- Which threads are due, and what the passing of a tick makes of them.
use Rattle.std.specs.Prelude.{ℕ, suc, zero, ◌+◌, ◌==◌, Bool, ◌&&◌, ◌||◌, if◌then◌else◌, nat_lt, nat_le, Option, Some, None, List, [], ◌∷◌, ◌++◌, length, map, filter}
use Rattle.std.specs.List.{flat_map}
use Rattle.thread_queues.specs.declared.event.Waiter.{Waiter}
use Rattle.thread_queues.specs.declared.event.Sleeper.{Sleeper}
use Rattle.thread_queues.specs.declared.event.Due.{Due}
use Rattle.thread_queues.specs.Placed.{Placed, woken}

-- when a thread with this limit is due: never without one
abbrev pub due_by : ℕ → Option ℕ → List Due
due_by t None = []
due_by t (Some tick) = record { tick = tick; thread = t } ∷ []

abbrev pub limits_of_waits : List Waiter → List Due
limits_of_waits ws = flat_map (λ w. due_by w.thread w.due) ws

abbrev pub limits_of_sleeps : List Sleeper → List Due
limits_of_sleeps ss = map (λ s. record { tick = s.due; thread = s.thread }) ss

-- those of which the tick has come
abbrev pub reached : ℕ → List Due → List Due
reached now ds = filter (λ d. nat_le d.tick now) ds

-- when each thread is due that waits with a limit or sleeps
abbrev pub limits : Placed → List Due
limits p = limits_of_waits p.waits ++ limits_of_sleeps p.sleeps

-- those that are due
abbrev pub due_threads : Placed → List Due
due_threads p = reached p.tick (limits p)

-- the lesser due tick comes first, then the lesser number
abbrev pub is_before : Due → Due → Bool
is_before a b = nat_lt a.tick b.tick || (a.tick == b.tick && nat_lt a.thread b.thread)

-- the same of sleeping threads
abbrev pub is_due_before : Sleeper → Sleeper → Bool
is_due_before a b = nat_lt a.due b.due || (a.due == b.due && nat_lt a.thread b.thread)

abbrev pub earlier : Option Due → Due → Option Due
earlier None d = Some d
earlier (Some first) d = Some (if is_before d first then d else first)

-- the first of a list and of one that is known already
abbrev pub first_of : Option Due → List Due → Option Due
first_of first [] = first
first_of first (d ∷ ds) = first_of (earlier first d) ds

-- the due thread that is woken first
abbrev pub first_due : Placed → Option Due
first_due p = first_of None (due_threads p)

-- how many threads wait or sleep
abbrev pub still_count : Placed → ℕ
still_count p = length p.waits + length p.sleeps

-- while a thread is due, the first one is woken; as often as told, at most
abbrev pub with_first_woken : (Placed → Placed) → Placed → Option Due → Placed
with_first_woken rest p None = p
with_first_woken rest p (Some d) = rest (woken p d.thread)

abbrev pub due_woken : ℕ → Placed → Placed
due_woken zero p = p
due_woken (suc n) p = with_first_woken (due_woken n) p (first_due p)

abbrev pub raised : Placed → Placed
raised p = record p { tick = p.tick + 1 }

-- the tick rises by one, and the due threads are woken, by due tick and then by number
abbrev pub ticked : Placed → Placed
ticked p = due_woken (still_count p) (raised p)
