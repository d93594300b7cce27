-- A thread that waits or sleeps gets ready.
use Rattle.std.proofs.Common.{◌≡◌, ◌∙◌, ℕ, ◌<◌, ◌≤◌, ◌==◌, Bool, true, false, cond, List, [], ◌∷◌, length, map, refl, ap, sym, subst, arith, IsSome, Option, Some, None, option_map}
use Rattle.std.specs.List.{find}
use Rattle.std.proofs.lemmas.List.{length-set}
use Rattle.std.proofs.lemmas.Bool.{eq-eqb, ne_eqb}
use Rattle.thread_queues.specs.declared.event.Event.{Event}
use Rattle.thread_queues.specs.declared.event.Waiter.{Waiter}
use Rattle.thread_queues.specs.Events.{is_event}
use Rattle.thread_queues.specs.Placed.{Placed, times, without_first, readied, first_waiter, woken_one, woken_waiter, roused, waiter_of}
use Rattle.thread_queues.specs.Slotted.{Slotted, queue_at, threads_of, put_in, taken_from, IsApart}
use Rattle.thread_queues.specs.Shown.{shown, sleeper, class_queue}
use Rattle.thread_queues.specs.Kept.{IsCounted}
use Rattle.thread_queues.proofs.Counting.{Additive-times, in_queues}
use Rattle.thread_queues.proofs.Counted.{first-out, self-once, number-out, waits-live, sleeps-live, counted-woken, counted-roused}
use Rattle.thread_queues.proofs.Placing.{waits-taken, sleeps-taken, ready-shown, apart-six, sleepers-threads}

pub some-of : {X : Type 0} (o : Option X) → IsSome o → (x : X) × (o ≡ Some x)
some-of None h = cc
some-of (Some x) h = (x, refl)

pub is-some : {X : Type 0} (o : Option X) (x : X) → o ≡ Some x → IsSome o
is-some {X = X} o x e = subst (λ (p : Option X). IsSome p) (sym e) refl

-- a number that is found is counted
pub found-times : {X : Type 0} (g : X → ℕ) (xs : List X) (t : ℕ) → IsSome (find (λ y. g y == t) xs) → 0 < times t (map g xs)
found-times g xs t h =
    let f = some-of (find (λ y. g y == t) xs) h in
    let out = number-out g xs t f.0 f.1 in
    let less = out.0 in omega (arith, less)

-- those that sleep are found by the same number
pub find-sleeper : (t : ℕ) (ws : List Waiter) → find (λ s. s.thread == t) (map sleeper ws) ≡ option_map sleeper (find (λ w. w.thread == t) ws)
find-sleeper t [] = refl
find-sleeper t (w ∷ ws) = by-test (w.thread == t) (find-sleeper t ws)
  where
    by-test : (b : Bool) → find (λ s. s.thread == t) (map sleeper ws) ≡ option_map sleeper (find (λ w. w.thread == t) ws)
        → cond b (Some (sleeper w)) (find (λ s. s.thread == t) (map sleeper ws)) ≡ option_map sleeper (cond b (Some w) (find (λ w. w.thread == t) ws))
    by-test true rest = refl
    by-test false rest = rest

pub sleeps-counted : (t : ℕ) (ws : List Waiter) → IsSome (find (λ s. s.thread == t) (map sleeper ws)) → 0 < times t (threads_of ws)
sleeps-counted t ws h = subst (λ (ts : List ℕ). 0 < times t ts) (sleepers-threads ws) (found-times (λ s. s.thread) (map sleeper ws) t h)

module _ (cpu tick : ℕ) (s : Slotted) (run : List (Option ℕ)) (six : length s.queues ≡ 6) (counted : IsCounted (shown cpu tick s run)) (t : ℕ) (w : Waiter) where
  abbrev p : Placed
  p = shown cpu tick s run

  out-six : (q : ℕ) → length (taken_from s q t).queues ≡ 6
  out-six q = length-set s.queues q _ ∙ six

  module _ (e : find (λ y. y.thread == t) (queue_at s 4) ≡ Some w) where
    taken-4 : shown cpu tick (taken_from s 4 t) run ≡ record p { waits = without_first (λ y. y.thread == t) (queue_at s 4) }
    taken-4 = waits-taken cpu tick s.live run s.queues six t

    pub waits-out : (n : ℕ) → n ≡ w.thread → (0 < times n (taken_from s 4 t).live) × IsApart (taken_from s 4 t) n
    waits-out n same =
        let l = waits-live p t w counted e in
        let apart = apart-six (taken_from s 4 t) (out-six 4) t
        (ap (λ (x : Placed). in_queues (times t) x.ready) taken-4 ∙ l.1)
        (ap (λ (x : Placed). times t (map (λ y. y.thread) x.waits)) taken-4 ∙ l.2)
        (ap (λ (x : Placed). times t (map (λ y. y.thread) x.sleeps)) taken-4 ∙ l.3) in
        let is : t ≡ n = sym (same ∙ l.4) in
        (subst (λ (m : ℕ). 0 < times m s.live) is l.0, subst (λ (m : ℕ). IsApart (taken_from s 4 t) m) is apart)

    pub waits-ready : (q : ℕ) (r : Waiter) → q ≡ class_queue w.class → r.thread ≡ w.thread → shown cpu tick (put_in (taken_from s 4 t) q r) run ≡ woken_waiter p (λ y. y.thread == t) (Some w)
    waits-ready q r queue thread =
        ap (λ (n : ℕ). shown cpu tick (put_in (taken_from s 4 t) n r) run) queue
        ∙ ready-shown cpu tick s.live run (taken_from s 4 t).queues (out-six 4) w.class r
        ∙ ap (λ (x : Placed). readied x w.class r.thread) taken-4
        ∙ ap (λ (n : ℕ). readied (record p { waits = without_first (λ y. y.thread == t) (queue_at s 4) }) w.class n) thread

    pub waits-counted : IsCounted (woken_waiter p (λ y. y.thread == t) (Some w))
    waits-counted = counted-woken p (λ y. y.thread == t) w w.class e counted

  module _ (e : find (λ y. y.thread == t) (queue_at s 5) ≡ Some w) where
    sleeps-found : find (λ y. y.thread == t) (map sleeper (queue_at s 5)) ≡ Some (sleeper w)
    sleeps-found = find-sleeper t (queue_at s 5) ∙ ap (option_map sleeper) e

    taken-5 : shown cpu tick (taken_from s 5 t) run ≡ record p { sleeps = without_first (λ y. y.thread == t) (map sleeper (queue_at s 5)) }
    taken-5 = sleeps-taken cpu tick s.live run s.queues six t

    pub sleeps-out : (n : ℕ) → n ≡ w.thread → (0 < times n (taken_from s 5 t).live) × IsApart (taken_from s 5 t) n
    sleeps-out n same =
        let l = sleeps-live p t (sleeper w) counted sleeps-found in
        let apart = apart-six (taken_from s 5 t) (out-six 5) t
        (ap (λ (x : Placed). in_queues (times t) x.ready) taken-5 ∙ l.1)
        (ap (λ (x : Placed). times t (map (λ y. y.thread) x.waits)) taken-5 ∙ l.2)
        (ap (λ (x : Placed). times t (map (λ y. y.thread) x.sleeps)) taken-5 ∙ l.3) in
        let is : t ≡ n = sym (same ∙ l.4) in
        (subst (λ (m : ℕ). 0 < times m s.live) is l.0, subst (λ (m : ℕ). IsApart (taken_from s 5 t) m) is apart)

    pub sleeps-ready : (q : ℕ) (r : Waiter) → q ≡ class_queue w.class → r.thread ≡ w.thread → shown cpu tick (put_in (taken_from s 5 t) q r) run ≡ roused p (λ y. y.thread == t) (Some (sleeper w))
    sleeps-ready q r queue thread =
        ap (λ (n : ℕ). shown cpu tick (put_in (taken_from s 5 t) n r) run) queue
        ∙ ready-shown cpu tick s.live run (taken_from s 5 t).queues (out-six 5) w.class r
        ∙ ap (λ (x : Placed). readied x w.class r.thread) taken-5
        ∙ ap (λ (n : ℕ). readied (record p { sleeps = without_first (λ y. y.thread == t) (map sleeper (queue_at s 5)) }) w.class n) thread

    pub sleeps-kept : IsCounted (roused p (λ y. y.thread == t) (Some (sleeper w)))
    sleeps-kept = counted-roused p (λ y. y.thread == t) (sleeper w) w.class sleeps-found counted

-- where no number stands twice, the first that passes is the first with its number
pub by-number : {X : Type 0} (g : X → ℕ) (test : X → Bool) (xs : List X) (x : X) → find test xs ≡ Some x → times (g x) (map g xs) ≤ 1
    → (find (λ y. g y == g x) xs ≡ Some x) × (without_first (λ y. g y == g x) xs ≡ without_first test xs)
by-number g test [] x e few = cc
by-number {X} g test (y ∷ ys) x e few = by-test (test y) refl (by-number g test ys x)
  where
    some-same : {a b : X} → Some a ≡ Some b → a ≡ b
    some-same k = cc

    by-test : (b : Bool) → test y ≡ b
        → (find test ys ≡ Some x → times (g x) (map g ys) ≤ 1 → (find (λ z. g z == g x) ys ≡ Some x) × (without_first (λ z. g z == g x) ys ≡ without_first test ys))
        → (find (λ z. g z == g x) (y ∷ ys) ≡ Some x) × (without_first (λ z. g z == g x) (y ∷ ys) ≡ without_first test (y ∷ ys))
    by-test true h rest =
        let same : y ≡ x = some-same (sym (ap (λ (b : Bool). cond b (Some y) (find test ys)) h) ∙ e) in
        let is : (g y == g x) ≡ true = eq-eqb (g y) (g x) (ap g same) in (
          ap (λ (b : Bool). cond b (Some y) (find (λ z. g z == g x) ys)) is ∙ ap Some same,
          ap (λ (b : Bool). cond b ys (y ∷ without_first (λ z. g z == g x) ys)) is ∙ sym (ap (λ (b : Bool). cond b ys (y ∷ without_first test ys)) h),
        )
    by-test false h rest =
        let later : find test ys ≡ Some x = sym (ap (λ (b : Bool). cond b (Some y) (find test ys)) h) ∙ e in
        let out = first-out (times (g x)) (Additive-times (g x)) g test ys x later in
        let one = self-once (g x) in
        let apart : (g y == g x) ≡ false = ne_eqb (g y) (g x) (λ k. let two : cond (g y == g x) 1 0 ≡ 1 = ap {B = ℕ} (λ (b : Bool). cond b 1 0) (eq-eqb (g y) (g x) k) in omega (arith, few, out, one, two)) in
        let less : times (g x) (map g ys) ≤ 1 = omega (arith, few) in
        let r = rest later less in (
          ap (λ (b : Bool). cond b (Some y) (find (λ z. g z == g x) ys)) apart ∙ r.0,
          ap (λ (b : Bool). cond b ys (y ∷ without_first (λ z. g z == g x) ys)) apart ∙ ap (λ (zs : List X). y ∷ zs) r.1 ∙ sym (ap (λ (b : Bool). cond b ys (y ∷ without_first test ys)) h),
        )

-- the thread that waits longest for an event, woken by its number
pub first-woken : (p : Placed) (event : Event) (t : ℕ) → IsCounted p → Some t ≡ option_map (λ w. w.thread) (first_waiter p event)
    → IsSome (waiter_of p t) × (woken_waiter p (λ w. w.thread == t) (waiter_of p t) ≡ woken_one p event)
first-woken p event t c e = by-waiter (first_waiter p event) refl e
  where
    some-same : {a b : ℕ} → Some a ≡ Some b → a ≡ b
    some-same k = cc

    by-waiter : (o : Option Waiter) → first_waiter p event ≡ o → Some t ≡ option_map (λ w. w.thread) o → IsSome (waiter_of p t) × (woken_waiter p (λ w. w.thread == t) (waiter_of p t) ≡ woken_one p event)
    by-waiter None is h = cc
    by-waiter (Some w) is h =
        let once = c.once w.thread in
        let all = c.placed w.thread in
        let r = by-number (λ x. x.thread) (λ x. is_event x.event event) p.waits w is (omega (arith, once, all)) in
        subst (λ (n : ℕ). IsSome (waiter_of p n) × (woken_waiter p (λ w. w.thread == n) (waiter_of p n) ≡ woken_one p event)) (sym (some-same h)) (
          is-some (waiter_of p w.thread) w r.0,
          ap (woken_waiter p (λ x. x.thread == w.thread)) r.0 ∙ ap (λ (ws : List Waiter). readied (record p { waits = ws }) w.class w.thread) r.1 ∙ sym (ap (woken_waiter p (λ x. is_event x.event event)) is),
        )
