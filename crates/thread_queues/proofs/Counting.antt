-- Counts of all places, as one thread moves.
use Rattle.std.proofs.Common.{◌≡◌, ℕ, zero, suc, ◌+◌, ◌<◌, ◌≤◌, List, [], ◌∷◌, ◌++◌, length, map, get_or, drop, refl, ap, sym, ◌∙◌, arith, inl, inr, Option, Some, None, IsSome, option_to_list, length-append, replicate}
use Rattle.std.specs.List.{flat_map, slice_get}
use Rattle.std.proofs.Math.ListN.{set}
use Rattle.std.proofs.lemmas.List.{get_or_past, length-replicate, map-append}
use Rattle.std.proofs.lemmas.Bool.{cases_lt}
use Rattle.std.proofs.lemmas.Bool.Decides.{nat_tests}
use Rattle.ids_base.specs.declared.class.Class.{Class}
use Rattle.ids_base.specs.declared.class.Class.TheVariants.{Cpu, Lio, Pio, Aio}
use Rattle.thread_queues.specs.declared.event.Waiter.{Waiter}
use Rattle.thread_queues.specs.declared.event.Sleeper.{Sleeper}
use Rattle.thread_queues.specs.Placed.{Placed, Queues, queue, with_queue, times, IsPlaced}
use Rattle.thread_queues.specs.Kept.{all_places, IsCounted}

-- a count that adds up over joined lists
pub record Additive (f : List ℕ → ℕ) : Type 0 where
  pub nil : f [] ≡ 0
  pub app : (xs ys : List ℕ) → f (xs ++ ys) ≡ f xs + f ys

times-append : (n : ℕ) (xs ys : List ℕ) → times n (xs ++ ys) ≡ times n xs + times n ys
times-append n [] ys = omega arith
times-append n (x ∷ xs) ys = omega (arith, times-append n xs ys)

pub Additive-times : (n : ℕ) → Additive (times n)
Additive-times n = record { nil = refl; app = times-append n }

pub Additive-length : Additive length
Additive-length = record { nil = refl; app = λ xs ys. length-append xs ys }

pub in_queues : (List ℕ → ℕ) → Queues → ℕ
in_queues f q = f q.cpu + (f q.lio + (f q.pio + f q.aio))

pub queues-parts : (f : List ℕ → ℕ) (q : Queues) → in_queues f q ≡ f q.cpu + (f q.lio + (f q.pio + f q.aio))
unfolding in_queues
queues-parts f q = refl

pub queues-push : (f : List ℕ → ℕ) → Additive f → (q : Queues) (class : Class) (t : ℕ) → in_queues f (with_queue q class (queue q class ++ t ∷ [])) ≡ in_queues f q + f (t ∷ [])
unfolding in_queues
queues-push f a q Cpu t = omega (arith, a.app q.cpu (t ∷ []))
queues-push f a q Lio t = omega (arith, a.app q.lio (t ∷ []))
queues-push f a q Pio t = omega (arith, a.app q.pio (t ∷ []))
queues-push f a q Aio t = omega (arith, a.app q.aio (t ∷ []))

head-rest : (f : List ℕ → ℕ) → Additive f → (xs : List ℕ) → f (drop 1 xs) + f (option_to_list (slice_get xs 0)) ≡ f xs
head-rest f a [] = omega (arith, a.nil)
head-rest f a (x ∷ xs) = let e : f (x ∷ xs) ≡ f (x ∷ []) + f xs = a.app (x ∷ []) xs in omega (arith, e)

pub queues-pop : (f : List ℕ → ℕ) → Additive f → (q : Queues) (class : Class) → in_queues f (with_queue q class (drop 1 (queue q class))) + f (option_to_list (slice_get (queue q class) 0)) ≡ in_queues f q
unfolding in_queues
queues-pop f a q Cpu = omega (arith, head-rest f a q.cpu)
queues-pop f a q Lio = omega (arith, head-rest f a q.lio)
queues-pop f a q Pio = omega (arith, head-rest f a q.pio)
queues-pop f a q Aio = omega (arith, head-rest f a q.aio)

pub running-set : (f : List ℕ → ℕ) → Additive f → (xs : List (Option ℕ)) (i : ℕ) (y : Option ℕ) → i < length xs → f (flat_map option_to_list (set xs i y)) + f (option_to_list (get_or xs i None)) ≡ f (flat_map option_to_list xs) + f (option_to_list y)
running-set f a [] i y h = absurd (omega arith)
running-set f a (x ∷ xs) zero y h = omega (arith, a.app (option_to_list x) (flat_map option_to_list xs), a.app (option_to_list y) (flat_map option_to_list xs))
running-set f a (x ∷ xs) (suc i) y h = omega (arith, a.app (option_to_list x) (flat_map option_to_list xs), a.app (option_to_list x) (flat_map option_to_list (set xs i y)), running-set f a xs i y (omega arith))

pub mapped-push : {X : Type 0} (f : List ℕ → ℕ) → Additive f → (g : X → ℕ) (xs : List X) (x : X) → f (map g (xs ++ x ∷ [])) ≡ f (map g xs) + f (g x ∷ [])
mapped-push f a g xs x = ap f (map-append g xs (x ∷ [])) ∙ a.app (map g xs) (g x ∷ [])

pub none-some : {A : Type 0} (o : Option A) → o ≡ None → IsSome o → ⊥
none-some None e h = cc
none-some (Some a) e h = cc

-- a processor that runs a thread is there
pub runs_lt : (xs : List (Option ℕ)) (vp : ℕ) → IsSome (get_or xs vp None) → vp < length xs
runs_lt xs vp some = elim (cases_lt vp (length xs)) [ inl h ↦ h | inr h ↦ absurd (none-some (get_or xs vp None) (get_or_past xs vp None h) some) ]

pub counted-step : (p q : Placed) → IsCounted p → q.live ≡ p.live → length q.running ≡ length p.running → q.cpu ≡ p.cpu → ((f : List ℕ → ℕ) → Additive f → all_places f q ≡ all_places f p) → IsCounted q
counted-step p q c live run cpu same = record {
  once = λ n. omega (arith, c.once n, ap (times n) live);
  placed = λ n. same (times n) (Additive-times n) ∙ c.placed n ∙ ap (times n) (sym live);
  size = same length Additive-length ∙ c.size ∙ ap length (sym live);
  processors = omega (arith, run, cpu, c.processors);
}

pub counted-spawn : (p q : Placed) (t : ℕ) → IsCounted p → times t p.live ≡ 0 → q.live ≡ p.live ++ t ∷ [] → length q.running ≡ length p.running → q.cpu ≡ p.cpu → ((f : List ℕ → ℕ) → Additive f → all_places f q ≡ all_places f p + f (t ∷ [])) → IsCounted q
counted-spawn p q t c new live run cpu same = record {
  once = λ n. once n (times n q.live) (ap (times n) live ∙ times-append n p.live (t ∷ [])) (λ e. ap (λ (k : ℕ). times k p.live) (sym e) ∙ new);
  placed = λ n. same (times n) (Additive-times n) ∙ omega (arith, c.placed n, ap (times n) live, times-append n p.live (t ∷ []));
  size = same length Additive-length ∙ omega (arith, c.size, ap length live, length-append p.live (t ∷ []));
  processors = omega (arith, run, cpu, c.processors);
}
  where
    once : (n m : ℕ) → m ≡ times n p.live + times n (t ∷ []) → (t ≡ n → times n p.live ≡ 0) → m ≤ 1
    once n m e none = let before = c.once n in grind (arith, nat_tests)

-- the places, joined
pub placed_of-counted : (p : Placed) → IsCounted p → IsPlaced p
placed_of-counted p c = record {
  once = c.once;
  placed = λ n. omega (
    arith,
    c.placed n,
    times-append n p.ready.cpu (p.ready.lio ++ (p.ready.pio ++ (p.ready.aio ++ (map (λ w. w.thread) p.waits ++ (map (λ s. s.thread) p.sleeps ++ flat_map option_to_list p.running))))),
    times-append n p.ready.lio (p.ready.pio ++ (p.ready.aio ++ (map (λ w. w.thread) p.waits ++ (map (λ s. s.thread) p.sleeps ++ flat_map option_to_list p.running)))),
    times-append n p.ready.pio (p.ready.aio ++ (map (λ w. w.thread) p.waits ++ (map (λ s. s.thread) p.sleeps ++ flat_map option_to_list p.running))),
    times-append n p.ready.aio (map (λ w. w.thread) p.waits ++ (map (λ s. s.thread) p.sleeps ++ flat_map option_to_list p.running)),
    times-append n (map (λ w. w.thread) p.waits) (map (λ s. s.thread) p.sleeps ++ flat_map option_to_list p.running),
    times-append n (map (λ s. s.thread) p.sleeps) (flat_map option_to_list p.running),
  );
}

nothing-runs : (n : ℕ) → flat_map option_to_list (replicate {A = Option ℕ} n None) ≡ []
nothing-runs zero = refl
nothing-runs (suc n) = nothing-runs n

pub counted-idle : (p : Placed) → p.live ≡ [] → p.ready ≡ record { cpu = []; lio = []; pio = []; aio = [] } → p.waits ≡ [] → p.sleeps ≡ [] → p.running ≡ replicate (p.cpu + 3) None → IsCounted p
counted-idle p live ready waits sleeps running = record {
  once = λ n. omega (arith, ap (times n) live);
  placed = λ n. none (times n) refl ∙ sym (ap (times n) live);
  size = none length refl ∙ sym (ap length live);
  processors = ap length running ∙ length-replicate {A = Option ℕ} (p.cpu + 3) None;
}
  where
    none : (f : List ℕ → ℕ) → f [] ≡ 0 → all_places f p ≡ 0
    none f e = omega (
      arith,
      e,
      ap (λ (q : Queues). f q.cpu) ready,
      ap (λ (q : Queues). f q.lio) ready,
      ap (λ (q : Queues). f q.pio) ready,
      ap (λ (q : Queues). f q.aio) ready,
      ap (λ (ws : List Waiter). f (map (λ w. w.thread) ws)) waits,
      ap (λ (ss : List Sleeper). f (map (λ s. s.thread) ss)) sleeps,
      ap (λ (r : List (Option ℕ)). f (flat_map option_to_list r)) running,
      ap f (nothing-runs (p.cpu + 3)),
    )
