-- The first of the due threads: found item by item, and woken.
use Rattle.std.proofs.Common.{◌≡◌, ◌==◌, ℕ, zero, suc, List, [], ◌∷◌, ◌++◌, length, get_or, Bool, true, false, cond, refl, ap, sym, subst, ◌∙◌, arith, Option, Some, None, IsSome, IsNone, All, find, nat_le, unwrap_or}
use Rattle.std.proofs.lemmas.Bool.{eq-eqb}
use Rattle.std.proofs.lemmas.List.Elements.{All-nil, All-cons, All-head, All-tail, All-append, All-filter}
use Rattle.thread_queues.specs.declared.event.Waiter.{Waiter}
use Rattle.thread_queues.specs.declared.event.Sleeper.{Sleeper}
use Rattle.thread_queues.specs.declared.event.Due.{Due}
use Rattle.thread_queues.specs.Placed.{Placed, waiter_of, sleeper_of, running_at, thread_at, sleeping, without_first, woken, woken_still, roused, IsStill}
use Rattle.thread_queues.specs.Ticks.{due_by, limits_of_waits, limits_of_sleeps, due_threads, is_before, first_of, first_due, still_count, with_first_woken, due_woken}

-- one that is known stays, or makes room for another
first_of-some : (first : Due) (ds : List Due) → IsSome (first_of (Some first) ds)
first_of-some first [] = refl
first_of-some first (d ∷ ds) = first_of-some (cond (is_before d first) d first) ds

none-some : {A : Type 0} (o : Option A) → o ≡ None → IsSome o → ⊥
none-some None e h = cc
none-some (Some a) e h = cc

-- where there is no first one there is none
pub first_of-none : (ds : List Due) → first_of None ds ≡ None → ds ≡ []
first_of-none [] e = refl
first_of-none (d ∷ ds) e = absurd (none-some (first_of (Some d) ds) e (first_of-some d ds))

picked : (P : Due → Type 0) (b : Bool) (x y : Due) → P x → P y → P (cond b x y)
picked P true x y h k = h
picked P false x y h k = k

first_of-holds : (P : Due → Type 0) (first d : Due) (ds : List Due) → P first → All P ds → first_of (Some first) ds ≡ Some d → P d
first_of-holds P first d [] h all e = let s : first ≡ d = cc in subst P s h
first_of-holds P first d (x ∷ xs) h all e = first_of-holds P (cond (is_before x first) x first) d xs (picked P (is_before x first) x first (All-head P x xs all) h) (All-tail P x xs all) e

-- the first one is one of them
pub first_of-all : (P : Due → Type 0) (d : Due) (ds : List Due) → All P ds → first_of None ds ≡ Some d → P d
first_of-all P d [] all e = cc
first_of-all P d (x ∷ xs) all e = first_of-holds P x d xs (All-head P x xs all) (All-tail P x xs all) e

some-here : {X : Type 0} (b : Bool) (x : X) (o : Option X) → b ≡ true → IsSome (cond b (Some x) o)
some-here true x o e = refl
some-here false x o e = cc

some-later : {X : Type 0} (b : Bool) (x : X) (o : Option X) → IsSome o → IsSome (cond b (Some x) o)
some-later true x o h = refl
some-later false x o h = h

-- each item is found by its number
found : {X : Type 0} (g : X → ℕ) (xs : List X) → All (λ w. IsSome (find (λ x. g x == g w) xs)) xs
found g [] k d lt = absurd (omega arith)
found g (x ∷ xs) zero d lt = some-here (g x == g x) x _ (eq-eqb (g x) (g x) refl)
found g (x ∷ xs) (suc k) d lt = some-later (g x == g (get_or xs k d)) x _ (found g xs k d (omega arith))

due_by-all : (Q : ℕ → Type 0) (t : ℕ) (o : Option ℕ) → Q t → All (λ d. Q d.thread) (due_by t o)
due_by-all Q t None h = All-nil (λ d. Q d.thread)
due_by-all Q t (Some tick) h = All-cons (λ d. Q d.thread) (record { tick = tick; thread = t }) [] h (All-nil (λ d. Q d.thread))

waits-all : (Q : ℕ → Type 0) (ws : List Waiter) → All (λ w. Q w.thread) ws → All (λ d. Q d.thread) (limits_of_waits ws)
waits-all Q [] all = All-nil (λ d. Q d.thread)
waits-all Q (w ∷ ws) all = All-append (λ d. Q d.thread) (due_by w.thread w.due) (limits_of_waits ws) (due_by-all Q w.thread w.due (All-head (λ x. Q x.thread) w ws all)) (waits-all Q ws (All-tail (λ x. Q x.thread) w ws all))

sleeps-all : (Q : ℕ → Type 0) (ss : List Sleeper) → All (λ s. Q s.thread) ss → All (λ d. Q d.thread) (limits_of_sleeps ss)
sleeps-all Q [] all = All-nil (λ d. Q d.thread)
sleeps-all Q (s ∷ ss) all = All-cons (λ d. Q d.thread) (record { tick = s.due; thread = s.thread }) (limits_of_sleeps ss) (All-head (λ x. Q x.thread) s ss all) (sleeps-all Q ss (All-tail (λ x. Q x.thread) s ss all))

not-none : {A : Type 0} (o : Option A) → IsSome o → IsNone o → ⊥
not-none None h k = cc
not-none (Some a) h k = cc

-- a due thread waits or sleeps
pub due-still : (p : Placed) (d : Due) → first_due p ≡ Some d → IsStill p d.thread
due-still p d e = first_of-all (λ x. IsStill p x.thread) d (due_threads p) (All-filter (λ x. nat_le x.tick p.tick) (λ x. IsStill p x.thread) _ (All-append (λ x. IsStill p x.thread) (limits_of_waits p.waits) (limits_of_sleeps p.sleeps)
    (waits-all (IsStill p) p.waits (λ k w lt none. absurd (not-none _ (found (λ (x : Waiter). x.thread) p.waits k w lt) none)))
    (sleeps-all (IsStill p) p.sleeps (λ k s lt none. found (λ (x : Sleeper). x.thread) p.sleeps k s lt)))) e

without-fewer : {X : Type 0} (test : X → Bool) (xs : List X) → IsSome (find test xs) → length xs ≡ suc (length (without_first test xs))
without-fewer test [] h = cc
without-fewer test (x ∷ xs) h = split (test x) (without-fewer test xs) h
  where
    split : (b : Bool) → (IsSome (find test xs) → length xs ≡ suc (length (without_first test xs))) → IsSome (cond b (Some x) (find test xs)) → suc (length xs) ≡ suc (length (cond b xs (x ∷ without_first test xs)))
    split true f h = refl
    split false f h = ap suc (f h)

-- waking takes one thread from those that wait or sleep
pub woken-fewer : (p : Placed) (t : ℕ) → IsStill p t → still_count p ≡ suc (still_count (woken p t))
woken-fewer p t still = waiter (waiter_of p t) refl still
  where
    sleeper : (o : Option Sleeper) → o ≡ sleeper_of p t → IsSome o → still_count p ≡ suc (still_count (roused p (λ s. s.thread == t) o))
    sleeper None e h = cc
    sleeper (Some s) e h = let f = without-fewer (λ (x : Sleeper). x.thread == t) p.sleeps (subst IsSome e refl) in omega (arith, f)

    waiter : (o : Option Waiter) → o ≡ waiter_of p t → (IsNone o → IsSome (sleeper_of p t)) → still_count p ≡ suc (still_count (woken_still p t o))
    waiter None e h = sleeper (sleeper_of p t) refl (h refl)
    waiter (Some w) e h = let f = without-fewer (λ (x : Waiter). x.thread == t) p.waits (subst IsSome e refl) in omega (arith, f)

pub woken-next : (p : Placed) (d : Due) → first_due p ≡ Some d → due_woken (still_count p) p ≡ due_woken (still_count (woken p d.thread)) (woken p d.thread)
woken-next p d e = ap (λ (n : ℕ). due_woken n p) (woken-fewer p d.thread (due-still p d e)) ∙ ap (with_first_woken (due_woken (still_count (woken p d.thread))) p) e

find-last : {X : Type 0} (test : X → Bool) (xs : List X) (x : X) → test x ≡ true → IsSome (find test (xs ++ x ∷ []))
find-last test [] x e = some-here (test x) x None e
find-last test (y ∷ xs) x e = some-later (test y) y _ (find-last test xs x e)

-- a thread that begins to sleep may be woken by its number
pub sleeping_still : (p : Placed) (vp due t : ℕ) → Some t ≡ running_at p vp → IsStill (sleeping p vp due) t
sleeping_still p vp due t e none = find-last (λ (s : Sleeper). s.thread == t) p.sleeps _ (eq-eqb (thread_at p vp) t (ap (λ (o : Option ℕ). unwrap_or o 0) (sym e)))
