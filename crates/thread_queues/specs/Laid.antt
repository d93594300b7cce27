-- What lists of ids, blocks and limits stand for.
use Rattle.std.specs.Prelude.{ℕ, ◌+◌, ◌-◌, ◌%◌, ◌≡◌, ◌≤◌, ◌<◌, ◌==◌, ◌&&◌, ◌↔◌, if◌then◌else◌, Option, Some, None, List, [], ◌∷◌, ◌++◌, length, map, filter, slice_index_or}
use Rattle.ids_base.specs.declared.class.Class.TheVariants.{Cpu}
use Rattle.link_lists.specs.Lists.{Lists, list_at, home_at, list_count, id_count, IsSound}
use Rattle.thread_queues.specs.declared.event.Due.{Due}
use Rattle.thread_queues.specs.declared.event.Event.{Event}
use Rattle.thread_queues.specs.declared.event.Event.TheVariants.{Lock, Latch, Page, LogFlush, PhysFlush, LogSpace, Checkpoint, Critical, Cleaning}
use Rattle.thread_queues.specs.declared.event.Waiter.{Waiter}
use Rattle.thread_queues.specs.Firsts.{due_at}
use Rattle.thread_queues.specs.Slotted.{Slotted, limit_in}

abbrev pub no_waiter : Waiter
no_waiter = record { event = Lock; thread = 0; class = Cpu; due = None }

-- the block of an id, and the number of its thread
abbrev pub block_at : List Waiter → ℕ → Waiter
block_at bs x = slice_index_or bs x no_waiter

abbrev pub number_at : List Waiter → ℕ → ℕ
number_at bs x = (block_at bs x).thread

-- the bucket of an event, where there are n: one for each event without a number, and the others for latches and pages by their numbers
abbrev pub bucket_of : ℕ → Event → ℕ
bucket_of n Lock = 0
bucket_of n LogFlush = 1
bucket_of n PhysFlush = 2
bucket_of n LogSpace = 3
bucket_of n Checkpoint = 4
bucket_of n Critical = 5
bucket_of n Cleaning = 6
bucket_of n (Latch f) = 7 + f % (n - 7)
bucket_of n (Page p) = 7 + p % (n - 7)

-- what is in bucket k, where x goes into queue q and, if it waits there, into bucket b
abbrev pub bucket_put : ℕ → ℕ → ℕ → ℕ → List ℕ → List ℕ
bucket_put q b x k ids = if (q == 4) && (b == k) then ids ++ x ∷ [] else ids

-- the buckets have the threads that wait, each bucket those of its events in the order of waiting; latches and pages have at least as many buckets as there are places
pub record IsBucketed (queues buckets : Lists) (blocks : List Waiter) : Type 0 where
  pub sound : IsSound buckets
  pub wide : 7 < list_count buckets
  pub many : id_count buckets + 7 ≤ list_count buckets
  pub waiting : (b : ℕ) → list_at buckets b ≡ filter (λ x. bucket_of (list_count buckets) (block_at blocks x).event == b) (list_at queues 4)

-- no more threads live at once
abbrev pub most_threads : ℕ
most_threads = 1000000000

-- as many as there are places, or one more
abbrev pub IsRoom : ℕ → ℕ → Type 0
IsRoom places n = (places ≤ n) × (n ≤ places + 1)

-- there is room for each place; each place is that of a live thread or a free one
pub record HasRoom (alive queues buckets : Lists) (blocks limits : ℕ) : Type 0 where
  pub queue_room : IsRoom (id_count alive) (id_count queues)
  pub bucket_room : IsRoom (id_count alive) (id_count buckets)
  pub block_room : IsRoom (id_count alive) blocks
  pub limit_room : IsRoom (id_count alive) limits
  pub full : id_count alive ≡ length (list_at alive 0) + length (list_at alive 1)
  pub few : id_count alive ≤ most_threads

-- the first list of the first lists has the ids of live threads; queue 4 has those that wait
abbrev pub slotted : Lists → Lists → List Waiter → Slotted
slotted alive queues blocks =
    record { live = map (number_at blocks) (list_at alive 0); queues = map (λ ids. map (block_at blocks) ids) queues.lists }

-- ids of queues are those of live threads; each thread is found by its number; the buckets have those that wait; and the limits are those of the threads in queues
pub record IsLaid (alive queues buckets : Lists) (blocks : List Waiter) (limits : List (Option Due)) (id_of : ℕ → Option ℕ) : Type 0 where
  pub alive_sound : IsSound alive
  pub queues_sound : IsSound queues
  pub alive_count : list_count alive ≡ 2
  pub queue_count : list_count queues ≡ 6
  pub room : HasRoom alive queues buckets (length blocks) (length limits)
  pub lives : (x q : ℕ) → home_at queues x ≡ Some q → home_at alive x ≡ Some 0
  pub found : (t x : ℕ) → (id_of t ≡ Some x) ↔ ((home_at alive x ≡ Some 0) × (number_at blocks x ≡ t))
  pub bucketed : IsBucketed queues buckets blocks
  pub limited : (x : ℕ) → due_at limits x ≡ limit_in (home_at queues x) (block_at blocks x)
