-- What the threads in six queues and on the processors are seen as.
use Rattle.std.specs.Prelude.{ℕ, List, Option, map, unwrap_or}
use Rattle.ids_base.specs.declared.class.Class.{Class}
use Rattle.ids_base.specs.declared.class.Class.TheVariants.{Cpu, Lio, Pio, Aio}
use Rattle.thread_queues.specs.declared.event.Waiter.{Waiter}
use Rattle.thread_queues.specs.declared.event.Sleeper.{Sleeper}
use Rattle.thread_queues.specs.Placed.{Placed, Queues}
use Rattle.thread_queues.specs.Slotted.{Slotted, queue_at, threads_of}

-- the ready queue of a class
abbrev pub class_queue : Class → ℕ
class_queue Cpu = 0
class_queue Lio = 1
class_queue Pio = 2
class_queue Aio = 3

abbrev pub sleeper : Waiter → Sleeper
sleeper w = record { due = unwrap_or w.due 0; thread = w.thread; class = w.class }

abbrev pub ready_of : Slotted → Queues
ready_of s = record { cpu = threads_of (queue_at s 0); lio = threads_of (queue_at s 1); pio = threads_of (queue_at s 2); aio = threads_of (queue_at s 3) }

-- the first four queues are the ready ones of the classes, then come those that wait and those that sleep
abbrev pub shown : ℕ → ℕ → Slotted → List (Option ℕ) → Placed
shown cpu tick s run =
    record { cpu = cpu; tick = tick; live = s.live; ready = ready_of s; waits = queue_at s 4; sleeps = map sleeper (queue_at s 5); running = run }
