-- Where each thread stands, and what each call makes of it.
use Rattle.std.specs.Prelude.{ℕ, ◌+◌, ◌≡◌, ◌<◌, ◌≤◌, ◌==◌, Bool, if◌then◌else◌, Option, Some, None, IsSome, IsNone, List, [], ◌∷◌, ◌++◌, map, drop, slice_get, slice_set, slice_index_or, replicate, find, filter, option_to_list, unwrap_or}
use Rattle.std.specs.List.{flat_map}
use Rattle.ids_base.specs.declared.class.Class.{Class}
use Rattle.ids_base.specs.declared.class.Class.TheVariants.{Cpu, Lio, Pio, Aio}
use Rattle.ids_base.specs.Classes.{class_of}
use Rattle.thread_queues.specs.declared.event.Event.{Event}
use Rattle.thread_queues.specs.declared.event.Place.{Place}
use Rattle.thread_queues.specs.declared.event.Place.TheVariants.{Ready, Waits, Sleeps, Runs}
use Rattle.thread_queues.specs.declared.event.Waiter.{Waiter}
use Rattle.thread_queues.specs.declared.event.Sleeper.{Sleeper}
use Rattle.thread_queues.specs.Events.{is_event}

-- the ready queues of the classes
pub record Queues : Type 0 where
  pub cpu : List ℕ
  pub lio : List ℕ
  pub pio : List ℕ
  pub aio : List ℕ

abbrev pub queue : Queues → Class → List ℕ
queue q Cpu = q.cpu
queue q Lio = q.lio
queue q Pio = q.pio
queue q Aio = q.aio

abbrev pub with_queue : Queues → Class → List ℕ → Queues
with_queue q Cpu xs = record q { cpu = xs }
with_queue q Lio xs = record q { lio = xs }
with_queue q Pio xs = record q { pio = xs }
with_queue q Aio xs = record q { aio = xs }

-- how many processors run threads, the tick, the threads that were spawned and have not ended, the ready queues, the waiting and the sleeping threads in the order in which they began to, and what each processor runs
pub record Placed : Type 0 where
  pub cpu : ℕ
  pub tick : ℕ
  pub live : List ℕ
  pub ready : Queues
  pub waits : List Waiter
  pub sleeps : List Sleeper
  pub running : List (Option ℕ)

-- how often a number stands in a list
abbrev pub times : ℕ → List ℕ → ℕ
times n [] = 0
times n (x ∷ xs) = (if x == n then 1 else 0) + times n xs

-- all queues and processors, joined
abbrev pub places : Placed → List ℕ
places p = p.ready.cpu ++ (p.ready.lio ++ (p.ready.pio ++ (p.ready.aio ++ (map (λ w. w.thread) p.waits ++ (map (λ s. s.thread) p.sleeps ++ flat_map option_to_list p.running)))))

-- each live thread stands in one place, once, and no other thread in any
pub record IsPlaced (p : Placed) : Type 0 where
  pub once : (n : ℕ) → times n p.live ≤ 1
  pub placed : (n : ℕ) → times n (places p) ≡ times n p.live

-- the wait queue of an event
abbrev pub queue_of : Placed → Event → List Waiter
queue_of p event = filter (λ w. is_event w.event event) p.waits

-- what a processor runs
abbrev pub running_at : Placed → ℕ → Option ℕ
running_at p vp = slice_index_or p.running vp None

abbrev pub thread_at : Placed → ℕ → ℕ
thread_at p vp = unwrap_or (running_at p vp) 0

-- the items but the first that passes
abbrev pub without_first : {X : Type 0} → (X → Bool) → List X → List X
without_first p [] = []
without_first p (x ∷ xs) = if p x then xs else x ∷ without_first p xs

-- no thread, tick 0
abbrev pub idle : ℕ → Placed
idle cpu = record { cpu = cpu; tick = 0; live = []; ready = record { cpu = []; lio = []; pio = []; aio = [] }; waits = []; sleeps = []; running = replicate (cpu + 3) None }

-- a thread goes to the end of its class's ready queue
abbrev pub readied : Placed → Class → ℕ → Placed
readied p class t = record p { ready = with_queue p.ready class (queue p.ready class ++ t ∷ []) }

abbrev pub spawned : Placed → ℕ → Class → Placed
spawned p t class = readied (record p { live = p.live ++ t ∷ [] }) class t

-- the head of the ready queue of the processor's class runs there, if there is one
abbrev pub dispatched : Placed → ℕ → Placed
dispatched p vp = record p {
  ready = with_queue p.ready (class_of p.cpu vp) (drop 1 (queue p.ready (class_of p.cpu vp)));
  running = slice_set p.running vp (slice_get (queue p.ready (class_of p.cpu vp)) 0);
}

-- the processor runs nothing
abbrev pub stopped : Placed → ℕ → Placed
stopped p vp = record p { running = slice_set p.running vp None }

abbrev pub yielded : Placed → ℕ → Placed
yielded p vp = readied (stopped p vp) (class_of p.cpu vp) (thread_at p vp)

abbrev pub waiting : Placed → ℕ → Event → Option ℕ → Placed
waiting p vp event due = record (stopped p vp) {
  waits = p.waits ++ record { event = event; thread = thread_at p vp; class = class_of p.cpu vp; due = due } ∷ [];
}

abbrev pub sleeping : Placed → ℕ → ℕ → Placed
sleeping p vp due = record (stopped p vp) {
  sleeps = p.sleeps ++ record { due = due; thread = thread_at p vp; class = class_of p.cpu vp } ∷ [];
}

abbrev pub ended : Placed → ℕ → Placed
ended p vp = record (stopped p vp) { live = without_first (λ t. t == thread_at p vp) p.live }

-- the first waiter that passes is ready, and waits no more
abbrev pub woken_waiter : Placed → (Waiter → Bool) → Option Waiter → Placed
woken_waiter p test None = p
woken_waiter p test (Some w) = readied (record p { waits = without_first test p.waits }) w.class w.thread

-- the one that waits longest for an event
abbrev pub first_waiter : Placed → Event → Option Waiter
first_waiter p event = find (λ w. is_event w.event event) p.waits

abbrev pub woken_one : Placed → Event → Placed
woken_one p event = woken_waiter p (λ w. is_event w.event event) (first_waiter p event)

-- the sleeper that passes is ready, and sleeps no more
abbrev pub roused : Placed → (Sleeper → Bool) → Option Sleeper → Placed
roused p test None = p
roused p test (Some s) = readied (record p { sleeps = without_first test p.sleeps }) s.class s.thread

abbrev pub waiter_of : Placed → ℕ → Option Waiter
waiter_of p t = find (λ w. w.thread == t) p.waits

abbrev pub sleeper_of : Placed → ℕ → Option Sleeper
sleeper_of p t = find (λ s. s.thread == t) p.sleeps

-- a thread waits or sleeps
abbrev pub IsStill : Placed → ℕ → Type 0
IsStill p t = IsNone (waiter_of p t) → IsSome (sleeper_of p t)

-- a thread that waits or sleeps is ready
abbrev pub woken_still : Placed → ℕ → Option Waiter → Placed
woken_still p t None = roused p (λ s. s.thread == t) (sleeper_of p t)
woken_still p t (Some w) = woken_waiter p (λ x. x.thread == t) (Some w)

abbrev pub woken : Placed → ℕ → Placed
woken p t = woken_still p t (waiter_of p t)

-- a thread is in this place
abbrev pub IsAt : Placed → ℕ → Place → Type 0
IsAt p t (Ready class) = 0 < times t (queue p.ready class)
IsAt p t (Waits event) = 0 < times t (map (λ w. w.thread) (queue_of p event))
IsAt p t Sleeps = 0 < times t (map (λ s. s.thread) p.sleeps)
IsAt p t (Runs vp) = running_at p vp ≡ Some t
