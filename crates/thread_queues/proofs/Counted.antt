-- Each thread stays in one place, as one moves.
use Rattle.std.proofs.Common.{◌≡◌, ◌∙◌, ℕ, ◌+◌, ◌<◌, ◌==◌, Bool, true, false, cond, List, [], ◌∷◌, ◌++◌, length, map, drop, refl, ap, sym, subst, arith, inl, inr, Option, Some, None, IsSome, option_to_list}
use Rattle.std.proofs.Math.ListN.{set}
use Rattle.std.specs.List.{flat_map, slice_get, find}
use Rattle.std.proofs.lemmas.List.{length-set}
use Rattle.std.proofs.lemmas.Bool.{eq-eqb, eqb-true}
use Rattle.std.proofs.lemmas.Bool.Decides.{eqb_tells}
use Rattle.ids_base.specs.declared.class.Class.{Class}
use Rattle.thread_queues.specs.declared.event.Waiter.{Waiter}
use Rattle.thread_queues.specs.declared.event.Sleeper.{Sleeper}
use Rattle.thread_queues.specs.Placed.{Placed, queue, with_queue, times, without_first, running_at, stopped, readied}
use Rattle.thread_queues.specs.Kept.{all_places, IsCounted}
use Rattle.thread_queues.proofs.Counting.{Additive, Additive-times, Additive-length, in_queues, queues-parts, queues-push, queues-pop, running-set, mapped-push, runs_lt, counted-step, counted-spawn}

readied-sum : (f : List ℕ → ℕ) → Additive f → (p : Placed) (class : Class) (t : ℕ) → all_places f (readied p class t) ≡ all_places f p + f (t ∷ [])
readied-sum f ad p class t = omega (arith, queues-push f ad p.ready class t, queues-parts f p.ready, queues-parts f (with_queue p.ready class (queue p.ready class ++ t ∷ [])))

runs-there : (p : Placed) (vp t : ℕ) → running_at p vp ≡ Some t → vp < length p.running
runs-there p vp t e = runs_lt p.running vp (subst (λ (o : Option ℕ). IsSome o) (sym e) refl)

stopped-sum : (f : List ℕ → ℕ) → Additive f → (p : Placed) (vp t : ℕ) → running_at p vp ≡ Some t → f (flat_map option_to_list (set p.running vp None)) + f (t ∷ []) ≡ f (flat_map option_to_list p.running)
stopped-sum f ad p vp t e =
    let at = ap (λ (o : Option ℕ). f (option_to_list o)) e in
    omega (arith, running-set f ad p.running vp None (runs-there p vp t e), at, ad.nil)

pub counted-yielded : (p : Placed) (vp t : ℕ) (class : Class) → IsCounted p → running_at p vp ≡ Some t → IsCounted (readied (stopped p vp) class t)
counted-yielded p vp t class c e = counted-step p (readied (stopped p vp) class t) c refl (length-set p.running vp None) refl (λ f ad. omega (arith, readied-sum f ad (stopped p vp) class t, stopped-sum f ad p vp t e))

pub counted-waits : (p : Placed) (vp t : ℕ) (w : Waiter) → w.thread ≡ t → IsCounted p → running_at p vp ≡ Some t → IsCounted (record (stopped p vp) { waits = p.waits ++ w ∷ [] })
counted-waits p vp t w is c e = counted-step p (record (stopped p vp) { waits = p.waits ++ w ∷ [] }) c refl (length-set p.running vp None) refl
    (λ f ad. omega (arith, mapped-push f ad (λ w. w.thread) p.waits w, ap (λ (n : ℕ). f (n ∷ [])) is, stopped-sum f ad p vp t e))

pub counted-sleeps : (p : Placed) (vp t : ℕ) (s : Sleeper) → s.thread ≡ t → IsCounted p → running_at p vp ≡ Some t → IsCounted (record (stopped p vp) { sleeps = p.sleeps ++ s ∷ [] })
counted-sleeps p vp t s is c e = counted-step p (record (stopped p vp) { sleeps = p.sleeps ++ s ∷ [] }) c refl (length-set p.running vp None) refl
    (λ f ad. omega (arith, mapped-push f ad (λ s. s.thread) p.sleeps s, ap (λ (n : ℕ). f (n ∷ [])) is, stopped-sum f ad p vp t e))

pub counted-spawned : (p : Placed) (t : ℕ) (class : Class) → times t p.live ≡ 0 → IsCounted p → IsCounted (readied (record p { live = p.live ++ t ∷ [] }) class t)
counted-spawned p t class new c = counted-spawn p (readied (record p { live = p.live ++ t ∷ [] }) class t) t c new refl refl refl (λ f ad. readied-sum f ad p class t)

pub counted-dispatched : (p : Placed) (vp : ℕ) (class : Class) → vp < length p.running → running_at p vp ≡ None → IsCounted p
    → IsCounted (record p { ready = with_queue p.ready class (drop 1 (queue p.ready class)); running = set p.running vp (slice_get (queue p.ready class) 0) })
counted-dispatched p vp class there free c = counted-step p (record p { ready = with_queue p.ready class (drop 1 (queue p.ready class)); running = set p.running vp (slice_get (queue p.ready class) 0) }) c refl (length-set p.running vp (slice_get (queue p.ready class) 0)) refl (λ f ad.
    let none = ap (λ (o : Option ℕ). f (option_to_list o)) free in
    omega (arith, queues-pop f ad p.ready class, none, ad.nil, queues-parts f p.ready, queues-parts f (with_queue p.ready class (drop 1 (queue p.ready class))), running-set f ad p.running vp (slice_get (queue p.ready class) 0) there))

-- the first that passes is taken out
pub first-out : {X : Type 0} (f : List ℕ → ℕ) → Additive f → (g : X → ℕ) (test : X → Bool) (xs : List X) (x : X) → find test xs ≡ Some x → f (map g (without_first test xs)) + f (g x ∷ []) ≡ f (map g xs)
first-out f ad g test [] x e = cc
first-out {X} f ad g test (y ∷ ys) x e = by-test (test y) refl (first-out f ad g test ys x)
  where
    by-test : (b : Bool) → test y ≡ b → (find test ys ≡ Some x → f (map g (without_first test ys)) + f (g x ∷ []) ≡ f (map g ys)) → f (map g (without_first test (y ∷ ys))) + f (g x ∷ []) ≡ f (map g (y ∷ ys))
    by-test true h rest =
        let same : y ≡ x = some-same (sym (ap (λ (b : Bool). cond b (Some y) (find test ys)) h) ∙ e) in
        let left : f (map g (without_first test (y ∷ ys))) ≡ f (map g ys) = ap (λ (b : Bool). f (map g (cond b ys (y ∷ without_first test ys)))) h in
        omega (arith, left, ap (λ (z : X). f (g z ∷ [])) same, ad.app (g y ∷ []) (map g ys))
      where
        some-same : {a b : X} → Some a ≡ Some b → a ≡ b
        some-same e = cc
    by-test false h rest =
        let later = rest (sym (ap (λ (b : Bool). cond b (Some y) (find test ys)) h) ∙ e) in
        let left : f (map g (without_first test (y ∷ ys))) ≡ f (g y ∷ map g (without_first test ys)) = ap (λ (b : Bool). f (map g (cond b ys (y ∷ without_first test ys)))) h in
        omega (arith, left, later, ad.app (g y ∷ []) (map g ys), ad.app (g y ∷ []) (map g (without_first test ys)))

pub counted-woken : (p : Placed) (test : Waiter → Bool) (w : Waiter) (class : Class) → find test p.waits ≡ Some w → IsCounted p → IsCounted (readied (record p { waits = without_first test p.waits }) class w.thread)
counted-woken p test w class e c = counted-step p (readied (record p { waits = without_first test p.waits }) class w.thread) c refl refl refl
    (λ f ad. omega (arith, readied-sum f ad (record p { waits = without_first test p.waits }) class w.thread, first-out f ad (λ w. w.thread) test p.waits w e))

pub counted-roused : (p : Placed) (test : Sleeper → Bool) (s : Sleeper) (class : Class) → find test p.sleeps ≡ Some s → IsCounted p → IsCounted (readied (record p { sleeps = without_first test p.sleeps }) class s.thread)
counted-roused p test s class e c = counted-step p (readied (record p { sleeps = without_first test p.sleeps }) class s.thread) c refl refl refl
    (λ f ad. omega (arith, readied-sum f ad (record p { sleeps = without_first test p.sleeps }) class s.thread, first-out f ad (λ s. s.thread) test p.sleeps s e))

-- a number that is counted is taken out once
number-gone : (f : List ℕ → ℕ) → Additive f → (xs : List ℕ) (t : ℕ) → 0 < times t xs → f (without_first (λ x. x == t) xs) + f (t ∷ []) ≡ f xs
number-gone f ad [] t h = absurd (omega arith)
number-gone f ad (x ∷ xs) t h = elim (eqb_tells x t) [
  | inl e ↦ let left : f (without_first (λ y. y == t) (x ∷ xs)) ≡ f xs = ap (λ (b : Bool). f (cond b xs (x ∷ without_first (λ y. y == t) xs))) e.0 in
      omega (arith, left, ap (λ (n : ℕ). f (n ∷ [])) e.1, ad.app (x ∷ []) xs)
  | inr ne ↦ let none : cond (x == t) 1 0 ≡ 0 = ap {B = ℕ} (λ (b : Bool). cond b 1 0) ne.0 in
      let later = number-gone f ad xs t (omega (arith, h, none)) in
      let left : f (without_first (λ y. y == t) (x ∷ xs)) ≡ f (x ∷ without_first (λ y. y == t) xs) = ap (λ (b : Bool). f (cond b xs (x ∷ without_first (λ y. y == t) xs))) ne.0 in
      omega (arith, left, later, ad.app (x ∷ []) xs, ad.app (x ∷ []) (without_first (λ y. y == t) xs))
]

pub one-gone : (xs : List ℕ) (t : ℕ) → 0 < times t xs → length (without_first (λ x. x == t) xs) + 1 ≡ length xs
one-gone xs t h = number-gone length Additive-length xs t h

pub counted-ended : (p : Placed) (vp t : ℕ) → IsCounted p → running_at p vp ≡ Some t → 0 < times t p.live → IsCounted (record (stopped p vp) { live = without_first (λ x. x == t) p.live })
counted-ended p vp t c e live = record {
  once = λ n. omega (arith, c.once n, number-gone (times n) (Additive-times n) p.live t live);
  placed = λ n. omega (arith, c.placed n, stopped-sum (times n) (Additive-times n) p vp t e, number-gone (times n) (Additive-times n) p.live t live);
  size = omega (arith, c.size, stopped-sum length Additive-length p vp t e, number-gone length Additive-length p.live t live);
  processors = length-set p.running vp None ∙ c.processors;
}

-- a number is counted once by itself
pub self-once : (t : ℕ) → times t (t ∷ []) ≡ 1
self-once t = let e = eq-eqb t t refl in omega (arith, ap {B = ℕ} (λ (b : Bool). cond b 1 0) e)

-- a thread that a processor runs is live, and stands in no queue
pub runs-live : (p : Placed) (vp t : ℕ) → IsCounted p → running_at p vp ≡ Some t → (0 < times t p.live) × (in_queues (times t) p.ready ≡ 0) × (times t (map (λ w. w.thread) p.waits) ≡ 0) × (times t (map (λ s. s.thread) p.sleeps) ≡ 0)
runs-live p vp t c e =
    let stop = stopped-sum (times t) (Additive-times t) p vp t e in
    let self : times t (t ∷ []) ≡ 1 = self-once t in
    let one = c.once t in
    let all = c.placed t in
    (omega (arith, stop, self, one, all), omega (arith, stop, self, one, all, queues-parts (times t) p.ready), omega (arith, stop, self, one, all), omega (arith, stop, self, one, all))

-- a thread that does not live stands in no queue
pub absent : (p : Placed) (t : ℕ) → IsCounted p → times t p.live ≡ 0 → (in_queues (times t) p.ready ≡ 0) × (times t (map (λ w. w.thread) p.waits) ≡ 0) × (times t (map (λ s. s.thread) p.sleeps) ≡ 0)
absent p t c none = let all = c.placed t in (omega (arith, all, none, queues-parts (times t) p.ready), omega (arith, all, none), omega (arith, all, none))

-- what is found passes
pub find-passes : {X : Type 0} (test : X → Bool) (xs : List X) (x : X) → find test xs ≡ Some x → test x ≡ true
find-passes test [] x e = cc
find-passes {X} test (y ∷ ys) x e = by-test (test y) refl (find-passes test ys x)
  where
    some-same : {a b : X} → Some a ≡ Some b → a ≡ b
    some-same k = cc

    by-test : (b : Bool) → test y ≡ b → (find test ys ≡ Some x → test x ≡ true) → test x ≡ true
    by-test true h rest = ap test (sym (some-same (sym (ap (λ (b : Bool). cond b (Some y) (find test ys)) h) ∙ e))) ∙ h
    by-test false h rest = rest (sym (ap (λ (b : Bool). cond b (Some y) (find test ys)) h) ∙ e)

-- the first with a number is taken out: it is counted once less
pub number-out : {X : Type 0} (g : X → ℕ) (xs : List X) (t : ℕ) (x : X) → find (λ y. g y == t) xs ≡ Some x → (times t (map g (without_first (λ y. g y == t) xs)) + 1 ≡ times t (map g xs)) × (g x ≡ t)
number-out g xs t x e =
    let is : g x ≡ t = eqb-true (g x) t (find-passes (λ y. g y == t) xs x e) in
    let out = first-out (times t) (Additive-times t) g (λ y. g y == t) xs x e in
    let one : times t (g x ∷ []) ≡ 1 = ap (λ (n : ℕ). times t (n ∷ [])) is ∙ self-once t in
    (omega (arith, out, one), is)

-- a thread that waits lives, and stands nowhere else
pub waits-live : (p : Placed) (t : ℕ) (w : Waiter) → IsCounted p → find (λ y. y.thread == t) p.waits ≡ Some w
    → (0 < times t p.live) × (in_queues (times t) p.ready ≡ 0) × (times t (map (λ x. x.thread) (without_first (λ y. y.thread == t) p.waits)) ≡ 0) × (times t (map (λ s. s.thread) p.sleeps) ≡ 0) × (w.thread ≡ t)
waits-live p t w c e =
    let out = number-out (λ x. x.thread) p.waits t w e in
    let less = out.0 in
    let one = c.once t in
    let all = c.placed t in
    (omega (arith, less, all), omega (arith, less, one, all, queues-parts (times t) p.ready), omega (arith, less, one, all), omega (arith, less, one, all), out.1)

pub sleeps-live : (p : Placed) (t : ℕ) (s : Sleeper) → IsCounted p → find (λ y. y.thread == t) p.sleeps ≡ Some s
    → (0 < times t p.live) × (in_queues (times t) p.ready ≡ 0) × (times t (map (λ x. x.thread) p.waits) ≡ 0) × (times t (map (λ x. x.thread) (without_first (λ y. y.thread == t) p.sleeps)) ≡ 0) × (s.thread ≡ t)
sleeps-live p t s c e =
    let out = number-out (λ x. x.thread) p.sleeps t s e in
    let less = out.0 in
    let one = c.once t in
    let all = c.placed t in
    (omega (arith, less, all), omega (arith, less, one, all, queues-parts (times t) p.ready), omega (arith, less, one, all), omega (arith, less, one, all), out.1)

-- a thread that is added lives
pub added-lives : (ts : List ℕ) (t : ℕ) → 0 < times t (ts ++ t ∷ [])
added-lives ts t = omega (arith, (Additive-times t).app ts (t ∷ []), self-once t)
