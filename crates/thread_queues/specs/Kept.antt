-- What is kept of threads: each in one place.
use Rattle.std.specs.Prelude.{ℕ, ◌+◌, ◌≡◌, ◌≤◌, List, length, map, option_to_list}
use Rattle.std.specs.List.{flat_map}
use Rattle.thread_queues.specs.Placed.{Placed, times}
use Rattle.thread_queues.specs.Shown.{shown}
use Rattle.thread_queues.specs.declared.places.Threads.TheInside.{Inside}

-- a count of all places, part by part
abbrev pub all_places : (List ℕ → ℕ) → Placed → ℕ
all_places f p =
    f p.ready.cpu + (f p.ready.lio + (f p.ready.pio + (f p.ready.aio
    + (f (map (λ w. w.thread) p.waits) + (f (map (λ s. s.thread) p.sleeps) + f (flat_map option_to_list p.running))))))

abbrev pub placed_of : Inside → Placed
placed_of a = shown a.cpu a.tick a.slots a.running.items

-- no live thread twice; the places hold the live threads, as many as there are
pub record IsCounted (p : Placed) : Type 0 where
  pub once : (n : ℕ) → times n p.live ≤ 1
  pub placed : (n : ℕ) → all_places (times n) p ≡ times n p.live
  pub size : all_places length p ≡ length p.live
  pub processors : length p.running ≡ p.cpu + 3

pub record IsKept (a : Inside) : Type 0 where
  pub counted : IsCounted (placed_of a)
  pub six : length a.slots.queues ≡ 6
  pub few : a.cpu ≤ 16
  pub live : a.live ≡ length a.slots.live
