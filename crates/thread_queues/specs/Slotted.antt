-- Threads in queues, by number.
use Rattle.std.specs.Prelude.{ℕ, ◌≡◌, ◌==◌, nat_lt, if◌then◌else◌, Option, Some, None, List, [], ◌∷◌, ◌++◌, map, drop, slice_get, slice_set, slice_index_or, replicate, option_map, unwrap_or}
use Rattle.thread_queues.specs.declared.event.Waiter.{Waiter}
use Rattle.thread_queues.specs.declared.event.Due.{Due}
use Rattle.thread_queues.specs.Firsts.{IsBehind}
use Rattle.thread_queues.specs.Placed.{times, without_first}

-- the threads that live, and six queues of threads, each thread with what is known of it there
pub record Slotted : Type 0 where
  pub live : List ℕ
  pub queues : List (List Waiter)

abbrev pub queue_at : Slotted → ℕ → List Waiter
queue_at s q = slice_index_or s.queues q []

abbrev pub threads_of : List Waiter → List ℕ
threads_of ws = map (λ w. w.thread) ws

-- when a thread is due
abbrev pub limit_of : Waiter → Option Due
limit_of w = option_map (λ t. record { tick = t; thread = w.thread }) w.due

-- when a thread is due that sleeps: at once where no tick is told
abbrev pub sleep_limit : Waiter → Due
sleep_limit w = record { tick = unwrap_or w.due 0; thread = w.thread }

-- when a thread in a queue is due: never in one of the first four, in queue 4 where it has a limit, and always in those behind
abbrev pub limit_in : Option ℕ → Waiter → Option Due
limit_in None w = None
limit_in (Some q) w = if nat_lt q 4 then None else if q == 4 then limit_of w else Some (sleep_limit w)

-- no thread
abbrev pub nothing : Slotted
nothing = record { live = []; queues = replicate 6 [] }

-- a thread goes to the end of a queue
abbrev pub put_in : Slotted → ℕ → Waiter → Slotted
put_in s q w = record { live = s.live; queues = slice_set s.queues q (queue_at s q ++ w ∷ []) }

-- a thread leaves a queue
abbrev pub taken_from : Slotted → ℕ → ℕ → Slotted
taken_from s q t = record { live = s.live; queues = slice_set s.queues q (without_first (λ w. w.thread == t) (queue_at s q)) }

-- the head leaves a queue
abbrev pub popped_from : Slotted → ℕ → Slotted
popped_from s q = record { live = s.live; queues = slice_set s.queues q (drop 1 (queue_at s q)) }

-- one thread more lives, or one less
abbrev pub with_thread : Slotted → ℕ → Slotted
with_thread s t = record { live = s.live ++ t ∷ []; queues = s.queues }

abbrev pub without_thread : Slotted → ℕ → Slotted
without_thread s t = record { live = without_first (λ x. x == t) s.live; queues = s.queues }

-- a thread stands in no queue
abbrev pub IsApart : Slotted → ℕ → Type 0
IsApart s t = (q : ℕ) → times t (threads_of (queue_at s q)) ≡ 0

-- it is when a thread in a queue is due, and no thread in a queue is due before it; there is none only where none is due ever
pub record IsFirstOf (s : Slotted) (first : Option Due) : Type 0 where
  pub among : (d : Due) → first ≡ Some d → (q : ℕ) × (k : ℕ) × (w : Waiter) × (slice_get (queue_at s q) k ≡ Some w) × (limit_in (Some q) w ≡ Some d)
  pub behind : (q k : ℕ) (w : Waiter) (d : Due) → slice_get (queue_at s q) k ≡ Some w → limit_in (Some q) w ≡ Some d → IsBehind d first
