-- Places are added, and the same threads stay where they are.
use Rattle.std.specs.Prelude.{ℕ, ◌≡◌, ◌≤◌, Option, Some, List, length}
use Rattle.link_lists.specs.Lists.{Lists, list_at, home_at, list_count, id_count, IsSound}
use Rattle.thread_queues.specs.declared.event.Due.{Due}
use Rattle.thread_queues.specs.declared.event.Waiter.{Waiter}
use Rattle.thread_queues.specs.Firsts.{due_at}
use Rattle.thread_queues.specs.Laid.{block_at, HasRoom, IsBucketed}

-- places more, of which no list has one
pub record IsMore (old new : Lists) : Type 0 where
  pub lists : list_count new ≡ list_count old
  pub ids : id_count old ≤ id_count new
  pub same : (k : ℕ) → list_at new k ≡ list_at old k
  pub homes : (x : ℕ) → home_at new x ≡ home_at old x
  pub sound : IsSound new

-- the same threads live, at the same places
pub record HasSameLive (old new : Lists) : Type 0 where
  pub lists : list_count new ≡ list_count old
  pub live : list_at new 0 ≡ list_at old 0
  pub stays : (x : ℕ) → home_at old x ≡ Some 0 → home_at new x ≡ Some 0
  pub was : (x : ℕ) → home_at new x ≡ Some 0 → home_at old x ≡ Some 0
  pub sound : IsSound new

-- all that is kept of threads stays, and there is room for each place
pub record IsGrown (alive queues : Lists) (blocks : List Waiter) (limits : List (Option Due)) (alive' queues' buckets' : Lists) (blocks' : List Waiter) (limits' : List (Option Due)) : Type 0 where
  pub live : HasSameLive alive alive'
  pub more : IsMore queues queues'
  pub same_blocks : (x : ℕ) → block_at blocks' x ≡ block_at blocks x
  pub same_limits : (x : ℕ) → due_at limits' x ≡ due_at limits x
  pub bucketed : IsBucketed queues' buckets' blocks'
  pub room : HasRoom alive' queues' buckets' (length blocks') (length limits')
