-- Whether two events are the same, and in which order events come.
use Rattle.std.specs.Prelude.{ℕ, ◌+◌, Bool, true, false, ◌==◌, nat_lt}
use Rattle.thread_queues.specs.declared.event.Event.{Event}
use Rattle.thread_queues.specs.declared.event.Event.TheVariants.{Lock, Latch, Page, LogFlush, PhysFlush, LogSpace, Checkpoint, Critical, Cleaning}

abbrev pub is_event : Event → Event → Bool
is_event Lock Lock = true
is_event (Latch f) (Latch g) = f == g
is_event (Page p) (Page q) = p == q
is_event LogFlush LogFlush = true
is_event PhysFlush PhysFlush = true
is_event LogSpace LogSpace = true
is_event Checkpoint Checkpoint = true
is_event Critical Critical = true
is_event Cleaning Cleaning = true
is_event e f = false

-- the number of an event in the order of the type: by kind, then by the number of the frame or page
abbrev pub number_of : Event → ℕ
number_of Lock = 0
number_of (Latch f) = 1 + f
number_of (Page p) = 4294967297 + p
number_of LogFlush = 8589934593
number_of PhysFlush = 8589934594
number_of LogSpace = 8589934595
number_of Checkpoint = 8589934596
number_of Critical = 8589934597
number_of Cleaning = 8589934598

abbrev pub is_event_before : Event → Event → Bool
is_event_before d e = nat_lt (number_of d) (number_of e)
