-- In which orders threads are told.
use Rattle.std.specs.Prelude.{Bool, true, if◌then◌else◌, nat_lt, Option, Some, None, List, [], ◌∷◌}
use Rattle.thread_queues.specs.declared.event.Event.{Event}
use Rattle.thread_queues.specs.declared.event.Waiter.{Waiter}
use Rattle.thread_queues.specs.declared.order.Order.{Order}
use Rattle.thread_queues.specs.declared.order.Order.TheVariants.{Number, Events, Ticks}
use Rattle.thread_queues.specs.Events.{is_event, is_event_before}
use Rattle.thread_queues.specs.Shown.{sleeper}
use Rattle.thread_queues.specs.Ticks.{is_due_before}

-- whether one thread comes before another
abbrev pub comes_before : Order → Waiter → Waiter → Bool
comes_before Number a b = nat_lt a.thread b.thread
comes_before Events a b = is_event_before a.event b.event
comes_before Ticks a b = is_due_before (sleeper a) (sleeper b)

-- whether a thread waits for the event, if one is named
abbrev pub counts : Option Event → Waiter → Bool
counts None w = true
counts (Some event) w = is_event w.event event

-- whether a thread is behind one, if one is named
abbrev pub is_behind : Order → Option Waiter → Waiter → Bool
is_behind order None w = true
is_behind order (Some from) w = comes_before order from w

-- the first of one that is known and another
abbrev pub first_of_two : Order → Option Waiter → Waiter → Option Waiter
first_of_two order None w = Some w
first_of_two order (Some first) w = Some (if comes_before order w first then w else first)

abbrev pub least_of : Order → Option Waiter → Option Waiter → Waiter → Option Waiter
least_of order from first w = if is_behind order from w then first_of_two order first w else first

-- the first of one that is known and those of a list that are behind one
abbrev pub first_from : Order → Option Waiter → Option Waiter → List Waiter → Option Waiter
first_from order from first [] = first
first_from order from first (w ∷ ws) = first_from order from (least_of order from first w) ws
