-- What threads are seen as, where a queue changes.
use Rattle.std.proofs.Common.{◌≡◌, ◌∙◌, ℕ, zero, suc, ◌<◌, ◌==◌, Bool, true, false, cond, List, [], ◌∷◌, ◌++◌, length, map, drop, refl, ap, sym, arith, ◌↔◌, IsTrue, inl, inr, is_some, Option, Some}
use Rattle.std.specs.List.{find}
use Rattle.std.proofs.lemmas.Bool.Decides.{eqb_tells}
use Rattle.std.proofs.lemmas.List.{map-append, get_or_past}
use Rattle.ids_base.specs.declared.class.Class.{Class}
use Rattle.ids_base.specs.declared.class.Class.TheVariants.{Cpu, Lio, Pio, Aio}
use Rattle.thread_queues.specs.declared.event.Waiter.{Waiter}
use Rattle.thread_queues.specs.declared.event.Sleeper.{Sleeper}
use Rattle.thread_queues.specs.Placed.{Placed, Queues, queue, with_queue, times, without_first, readied}
use Rattle.thread_queues.specs.Slotted.{Slotted, queue_at, threads_of, put_in, taken_from, popped_from, IsApart}
use Rattle.thread_queues.specs.Shown.{shown, sleeper, ready_of, class_queue}
use Rattle.thread_queues.proofs.Counting.{in_queues, queues-parts}

-- a fact of six queues holds of a list of six
pub on-six : {X : Type 0} (P : List X → Type 0) → ((a b c d e f : X) → P (a ∷ b ∷ c ∷ d ∷ e ∷ f ∷ [])) → (qs : List X) → length qs ≡ 6 → P qs
on-six P h [] len = absurd (omega (arith, len))
on-six P h (a ∷ []) len = absurd (omega (arith, len))
on-six P h (a ∷ b ∷ []) len = absurd (omega (arith, len))
on-six P h (a ∷ b ∷ c ∷ []) len = absurd (omega (arith, len))
on-six P h (a ∷ b ∷ c ∷ d ∷ []) len = absurd (omega (arith, len))
on-six P h (a ∷ b ∷ c ∷ d ∷ e ∷ []) len = absurd (omega (arith, len))
on-six P h (a ∷ b ∷ c ∷ d ∷ e ∷ f ∷ []) len = h a b c d e f
on-six P h (a ∷ b ∷ c ∷ d ∷ e ∷ f ∷ g ∷ qs) len = absurd (omega (arith, len))

-- the threads of a queue with one more
threads-more : (ws : List Waiter) (w : Waiter) → threads_of (ws ++ w ∷ []) ≡ threads_of ws ++ w.thread ∷ []
threads-more ws w = map-append (λ (v : Waiter). v.thread) ws (w ∷ [])

module _ (cpu tick : ℕ) (live : List ℕ) (run : List (Option ℕ)) where
  abbrev at : List (List Waiter) → Slotted
  at qs = record { live = live; queues = qs }

  pub ready-shown : (qs : List (List Waiter)) → length qs ≡ 6 → (class : Class) (w : Waiter) → shown cpu tick (put_in (at qs) (class_queue class) w) run ≡ readied (shown cpu tick (at qs) run) class w.thread
  ready-shown qs len Cpu w = on-six (λ qs. shown cpu tick (put_in (at qs) 0 w) run ≡ readied (shown cpu tick (at qs) run) Cpu w.thread)
      (λ a b c d e f. ap (λ (ts : List ℕ). shown-with a b c d e f (record { cpu = ts; lio = threads_of b; pio = threads_of c; aio = threads_of d })) (threads-more a w)) qs len
    where
      shown-with : (a b c d e f : List Waiter) → Queues → Placed
      shown-with a b c d e f r = record (shown cpu tick (at (a ∷ b ∷ c ∷ d ∷ e ∷ f ∷ [])) run) { ready = r }
  ready-shown qs len Lio w = on-six (λ qs. shown cpu tick (put_in (at qs) 1 w) run ≡ readied (shown cpu tick (at qs) run) Lio w.thread)
      (λ a b c d e f. ap (λ (ts : List ℕ). record (shown cpu tick (at (a ∷ b ∷ c ∷ d ∷ e ∷ f ∷ [])) run) { ready = record { cpu = threads_of a; lio = ts; pio = threads_of c; aio = threads_of d } }) (threads-more b w)) qs len
  ready-shown qs len Pio w = on-six (λ qs. shown cpu tick (put_in (at qs) 2 w) run ≡ readied (shown cpu tick (at qs) run) Pio w.thread)
      (λ a b c d e f. ap (λ (ts : List ℕ). record (shown cpu tick (at (a ∷ b ∷ c ∷ d ∷ e ∷ f ∷ [])) run) { ready = record { cpu = threads_of a; lio = threads_of b; pio = ts; aio = threads_of d } }) (threads-more c w)) qs len
  ready-shown qs len Aio w = on-six (λ qs. shown cpu tick (put_in (at qs) 3 w) run ≡ readied (shown cpu tick (at qs) run) Aio w.thread)
      (λ a b c d e f. ap (λ (ts : List ℕ). record (shown cpu tick (at (a ∷ b ∷ c ∷ d ∷ e ∷ f ∷ [])) run) { ready = record { cpu = threads_of a; lio = threads_of b; pio = threads_of c; aio = ts } }) (threads-more d w)) qs len

  pub wait-shown : (qs : List (List Waiter)) → length qs ≡ 6 → (w : Waiter) → shown cpu tick (put_in (at qs) 4 w) run ≡ record (shown cpu tick (at qs) run) { waits = queue_at (at qs) 4 ++ w ∷ [] }
  wait-shown qs len w = on-six (λ qs. shown cpu tick (put_in (at qs) 4 w) run ≡ record (shown cpu tick (at qs) run) { waits = queue_at (at qs) 4 ++ w ∷ [] }) (λ a b c d e f. refl) qs len

  pub sleep-shown : (qs : List (List Waiter)) → length qs ≡ 6 → (w : Waiter) → shown cpu tick (put_in (at qs) 5 w) run ≡ record (shown cpu tick (at qs) run) { sleeps = map sleeper (queue_at (at qs) 5) ++ sleeper w ∷ [] }
  sleep-shown qs len w = on-six (λ qs. shown cpu tick (put_in (at qs) 5 w) run ≡ record (shown cpu tick (at qs) run) { sleeps = map sleeper (queue_at (at qs) 5) ++ sleeper w ∷ [] })
      (λ a b c d e f. ap (λ (ss : List Sleeper). record (shown cpu tick (at (a ∷ b ∷ c ∷ d ∷ e ∷ f ∷ [])) run) { sleeps = ss }) (map-append sleeper f (w ∷ []))) qs len

  drop-threads : (ws : List Waiter) → threads_of (drop 1 ws) ≡ drop 1 (threads_of ws)
  drop-threads [] = refl
  drop-threads (w ∷ ws) = refl

  pub pop-shown : (qs : List (List Waiter)) → length qs ≡ 6 → (class : Class) → shown cpu tick (popped_from (at qs) (class_queue class)) run ≡ record (shown cpu tick (at qs) run) { ready = with_queue (ready_of (at qs)) class (drop 1 (queue (ready_of (at qs)) class)) }
  pop-shown qs len Cpu = on-six (λ qs. shown cpu tick (popped_from (at qs) 0) run ≡ record (shown cpu tick (at qs) run) { ready = with_queue (ready_of (at qs)) Cpu (drop 1 (queue (ready_of (at qs)) Cpu)) })
      (λ a b c d e f. ap (λ (ts : List ℕ). record (shown cpu tick (at (a ∷ b ∷ c ∷ d ∷ e ∷ f ∷ [])) run) { ready = record { cpu = ts; lio = threads_of b; pio = threads_of c; aio = threads_of d } }) (drop-threads a)) qs len
  pop-shown qs len Lio = on-six (λ qs. shown cpu tick (popped_from (at qs) 1) run ≡ record (shown cpu tick (at qs) run) { ready = with_queue (ready_of (at qs)) Lio (drop 1 (queue (ready_of (at qs)) Lio)) })
      (λ a b c d e f. ap (λ (ts : List ℕ). record (shown cpu tick (at (a ∷ b ∷ c ∷ d ∷ e ∷ f ∷ [])) run) { ready = record { cpu = threads_of a; lio = ts; pio = threads_of c; aio = threads_of d } }) (drop-threads b)) qs len
  pop-shown qs len Pio = on-six (λ qs. shown cpu tick (popped_from (at qs) 2) run ≡ record (shown cpu tick (at qs) run) { ready = with_queue (ready_of (at qs)) Pio (drop 1 (queue (ready_of (at qs)) Pio)) })
      (λ a b c d e f. ap (λ (ts : List ℕ). record (shown cpu tick (at (a ∷ b ∷ c ∷ d ∷ e ∷ f ∷ [])) run) { ready = record { cpu = threads_of a; lio = threads_of b; pio = ts; aio = threads_of d } }) (drop-threads c)) qs len
  pop-shown qs len Aio = on-six (λ qs. shown cpu tick (popped_from (at qs) 3) run ≡ record (shown cpu tick (at qs) run) { ready = with_queue (ready_of (at qs)) Aio (drop 1 (queue (ready_of (at qs)) Aio)) })
      (λ a b c d e f. ap (λ (ts : List ℕ). record (shown cpu tick (at (a ∷ b ∷ c ∷ d ∷ e ∷ f ∷ [])) run) { ready = record { cpu = threads_of a; lio = threads_of b; pio = threads_of c; aio = ts } }) (drop-threads d)) qs len

  pub head-shown : (qs : List (List Waiter)) (class : Class) → threads_of (queue_at (at qs) (class_queue class)) ≡ queue (ready_of (at qs)) class
  head-shown qs Cpu = refl
  head-shown qs Lio = refl
  head-shown qs Pio = refl
  head-shown qs Aio = refl

  pub waits-taken : (qs : List (List Waiter)) → length qs ≡ 6 → (t : ℕ) → shown cpu tick (taken_from (at qs) 4 t) run ≡ record (shown cpu tick (at qs) run) { waits = without_first (λ w. w.thread == t) (queue_at (at qs) 4) }
  waits-taken qs len t = on-six (λ qs. shown cpu tick (taken_from (at qs) 4 t) run ≡ record (shown cpu tick (at qs) run) { waits = without_first (λ w. w.thread == t) (queue_at (at qs) 4) }) (λ a b c d e f. refl) qs len

  sleepers-less : (t : ℕ) (ws : List Waiter) → map sleeper (without_first (λ w. w.thread == t) ws) ≡ without_first (λ s. s.thread == t) (map sleeper ws)
  sleepers-less t [] = refl
  sleepers-less t (w ∷ ws) = by-test (w.thread == t) (sleepers-less t ws)
    where
      by-test : (b : Bool) → map sleeper (without_first (λ w. w.thread == t) ws) ≡ without_first (λ s. s.thread == t) (map sleeper ws) → map sleeper (cond b ws (w ∷ without_first (λ w. w.thread == t) ws)) ≡ cond b (map sleeper ws) (sleeper w ∷ without_first (λ s. s.thread == t) (map sleeper ws))
      by-test true rest = refl
      by-test false rest = ap (λ (ss : List Sleeper). sleeper w ∷ ss) rest

  pub sleeps-taken : (qs : List (List Waiter)) → length qs ≡ 6 → (t : ℕ) → shown cpu tick (taken_from (at qs) 5 t) run ≡ record (shown cpu tick (at qs) run) { sleeps = without_first (λ s. s.thread == t) (map sleeper (queue_at (at qs) 5)) }
  sleeps-taken qs len t = on-six (λ qs. shown cpu tick (taken_from (at qs) 5 t) run ≡ record (shown cpu tick (at qs) run) { sleeps = without_first (λ s. s.thread == t) (map sleeper (queue_at (at qs) 5)) })
      (λ a b c d e f. ap (λ (ss : List Sleeper). record (shown cpu tick (at (a ∷ b ∷ c ∷ d ∷ e ∷ f ∷ [])) run) { sleeps = ss }) (sleepers-less t f)) qs len

pub sleepers-threads : (ws : List Waiter) → map (λ s. s.thread) (map sleeper ws) ≡ threads_of ws
sleepers-threads [] = refl
sleepers-threads (w ∷ ws) = ap (λ (ts : List ℕ). w.thread ∷ ts) (sleepers-threads ws)

-- a thread that is counted in no queue stands in none
pub apart-six : (s : Slotted) → length s.queues ≡ 6 → (t : ℕ) → in_queues (times t) (ready_of s) ≡ 0 → times t (threads_of (queue_at s 4)) ≡ 0 → times t (map (λ x. x.thread) (map sleeper (queue_at s 5))) ≡ 0 → IsApart s t
apart-six s len t ready waits sleeps q = at q
  where
    five : times t (threads_of (queue_at s 5)) ≡ 0
    five = ap (times t) (sym (sleepers-threads (queue_at s 5))) ∙ sleeps

    at : (q : ℕ) → times t (threads_of (queue_at s q)) ≡ 0
    at zero = omega (arith, ready, queues-parts (times t) (ready_of s))
    at (suc zero) = omega (arith, ready, queues-parts (times t) (ready_of s))
    at (suc (suc zero)) = omega (arith, ready, queues-parts (times t) (ready_of s))
    at (suc (suc (suc zero))) = omega (arith, ready, queues-parts (times t) (ready_of s))
    at (suc (suc (suc (suc zero)))) = waits
    at (suc (suc (suc (suc (suc zero))))) = five
    at (suc (suc (suc (suc (suc (suc k)))))) = ap (λ (ws : List Waiter). times t (threads_of ws)) (get_or_past s.queues (suc (suc (suc (suc (suc (suc k)))))) [] (omega (arith, len)))

-- a number is found exactly where it is counted
pub found-counted : {X : Type 0} (g : X → ℕ) (t : ℕ) (xs : List X) (b : Bool) → (IsTrue b ↔ (0 < times t (map g xs))) → b ≡ is_some (find (λ y. g y == t) xs)
found-counted {X} g t xs b told = same b (is_some (find (λ y. g y == t) xs)) (λ h. there xs (told.0 h)) (λ h. told.1 (counted xs h))
  where
    same : (b c : Bool) → (b ≡ true → c ≡ true) → (c ≡ true → b ≡ true) → b ≡ c
    same true c f g = sym (f refl)
    same false true f g = g refl
    same false false f g = refl

    there : (xs : List X) → 0 < times t (map g xs) → is_some (find (λ y. g y == t) xs) ≡ true
    there [] h = absurd (omega arith)
    there (x ∷ xs) h = elim (eqb_tells (g x) t) as (λ v. is_some (find (λ y. g y == t) (x ∷ xs)) ≡ true) [
      | inl e ↦ ap (λ (c : Bool). is_some (cond c (Some x) (find (λ y. g y == t) xs))) e.0
      | inr ne ↦ ap (λ (c : Bool). is_some (cond c (Some x) (find (λ y. g y == t) xs))) ne.0 ∙ there xs (let none : cond (g x == t) 1 0 ≡ 0 = ap {B = ℕ} (λ (c : Bool). cond c 1 0) ne.0 in omega (arith, h, none))
    ]

    counted : (xs : List X) → is_some (find (λ y. g y == t) xs) ≡ true → 0 < times t (map g xs)
    counted [] h = cc
    counted (x ∷ xs) h = elim (eqb_tells (g x) t) as (λ v. 0 < times t (map g (x ∷ xs))) [
      | inl e ↦ let one : cond (g x == t) 1 0 ≡ 1 = ap {B = ℕ} (λ (c : Bool). cond c 1 0) e.0 in omega (arith, one)
      | inr ne ↦ let more = counted xs (sym (ap (λ (c : Bool). is_some (cond c (Some x) (find (λ y. g y == t) xs))) ne.0) ∙ h) in omega (arith, more)
    ]
