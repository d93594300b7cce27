-- The first of all limits is the due thread that is woken first, where its tick has come.
use Rattle.std.proofs.Common.{◌≡◌, ◌∙◌, ℕ, zero, suc, Bool, true, false, cond, nat_le, nat_lt, List, [], ◌∷◌, ◌++◌, length, map, get_or, refl, ap, sym, subst, arith, ◌⊎◌, inl, inr, Option, Some, None, option_map, All}
use Rattle.std.specs.List.{slice_get, Contains}
use Rattle.std.proofs.lemmas.Bool.Decides.{nat_tests}
use Rattle.std.proofs.lemmas.List.{get_or_past}
use Rattle.std.proofs.lemmas.List.Elements.{All-nil, All-cons, All-head, All-tail, All-append, All-filter, All-map, All-weaker}
use Rattle.thread_queues.specs.declared.event.Waiter.{Waiter}
use Rattle.thread_queues.specs.declared.event.Due.{Due}
use Rattle.thread_queues.specs.Firsts.{IsBehind}
use Rattle.thread_queues.specs.Least.{IsNotBefore, IsLeast}
use Rattle.thread_queues.specs.Slotted.{Slotted, queue_at, limit_of, limit_in, sleep_limit, IsFirstOf}
use Rattle.thread_queues.specs.Shown.{sleeper}
use Rattle.thread_queues.specs.Ticks.{due_by, limits_of_waits, limits_of_sleeps, reached, is_before, first_of}

some-same : {X : Type 0} {a b : X} → Some a ≡ Some b → a ≡ b
some-same e = cc

-- one of a list
abbrev pub IsAmong : Due → List Due → Type 0
IsAmong d [] = ⊥
IsAmong d (x ∷ xs) = (x ≡ d) ⊎ IsAmong d xs

among-left : (d : Due) (xs ys : List Due) → IsAmong d xs → IsAmong d (xs ++ ys)
among-left d [] ys h = absurd h
among-left d (x ∷ xs) ys h = elim h [ inl e ↦ inl e | inr r ↦ inr (among-left d xs ys r) ]

among-right : (d : Due) (xs ys : List Due) → IsAmong d ys → IsAmong d (xs ++ ys)
among-right d [] ys h = h
among-right d (x ∷ xs) ys h = inr (among-right d xs ys h)

among-reached : (now : ℕ) (d : Due) (xs : List Due) → nat_le d.tick now ≡ true → IsAmong d xs → IsAmong d (reached now xs)
among-reached now d [] low h = absurd h
among-reached now d (x ∷ xs) low h = by-test (nat_le x.tick now) refl h (among-reached now d xs low)
  where
    by-test : (b : Bool) → nat_le x.tick now ≡ b → (x ≡ d) ⊎ IsAmong d xs → (IsAmong d xs → IsAmong d (reached now xs)) → IsAmong d (cond b (x ∷ reached now xs) (reached now xs))
    by-test true e (inl k) rest = inl k
    by-test true e (inr r) rest = inr (rest r)
    by-test false e (inl k) rest = clash (sym e ∙ ap (λ (y : Due). nat_le y.tick now) k ∙ low)
      where
        clash : {A : Type 0} → false ≡ true → A
        clash c = cc
    by-test false e (inr r) rest = rest r

-- of two, neither of which comes first, one is the other
same-due : (x d : Due) → is_before x d ≡ false → is_before d x ≡ false → x ≡ d
same-due x d h k =
    let tick : x.tick ≡ d.tick = ticks in
    let thread : x.thread ≡ d.thread = threads in
    ap (λ (n : ℕ). record { tick = n; thread = x.thread }) tick ∙ ap (λ (n : ℕ). record { tick = d.tick; thread = n }) thread
  where
    ticks : x.tick ≡ d.tick
    ticks = grind (arith, nat_tests)

    threads : x.thread ≡ d.thread
    threads = grind (arith, nat_tests)

not-before-self : (d : Due) → is_before d d ≡ false
not-before-self d = grind (arith, nat_tests)

-- the one that none comes before is the first
first-least : (d x : Due) (ds : List Due) → is_before x d ≡ false → (is_before d x ≡ false) ⊎ IsAmong d ds → All (λ y. is_before y d ≡ false) ds → first_of (Some x) ds ≡ Some d
first-least d x [] h (inl k) all = ap Some (same-due x d h k)
first-least d x [] h (inr r) all = absurd r
first-least d x (y ∷ ys) h here all =
    by-test (is_before y x) refl here (λ z k there. first-least d z ys k there (All-tail (λ z. is_before z d ≡ false) y ys all))
  where
    low : is_before y d ≡ false
    low = All-head (λ z. is_before z d ≡ false) y ys all

    by-test : (b : Bool) → is_before y x ≡ b → (is_before d x ≡ false) ⊎ IsAmong d (y ∷ ys) → ((z : Due) → is_before z d ≡ false → (is_before d z ≡ false) ⊎ IsAmong d ys → first_of (Some z) ys ≡ Some d) → first_of (Some (cond b y x)) ys ≡ Some d
    by-test true e (inl k) rest = rest y low (inl (after e k))
      where
        after : is_before y x ≡ true → is_before d x ≡ false → is_before d y ≡ false
        after e k = let same = same-due x d h k in clash (sym e ∙ ap (is_before y) same ∙ low)
          where
            clash : {A : Type 0} → true ≡ false → A
            clash c = cc
    by-test true e (inr (inl k)) rest = rest y low (inl (ap (is_before d) k ∙ not-before-self d))
    by-test true e (inr (inr r)) rest = rest y low (inr r)
    by-test false e (inl k) rest = rest x h (inl k)
    by-test false e (inr (inl k)) rest = rest x h (inl (ap (λ (z : Due). is_before z x) (sym k) ∙ e))
    by-test false e (inr (inr r)) rest = rest x h (inr r)

first-is : (d : Due) (ds : List Due) → IsAmong d ds → All (λ y. is_before y d ≡ false) ds → first_of None ds ≡ Some d
first-is d [] h all = absurd h
first-is d (x ∷ xs) h all = first-least d x xs (All-head (λ z. is_before z d ≡ false) x xs all) (here h) (All-tail (λ z. is_before z d ≡ false) x xs all)
  where
    here : (x ≡ d) ⊎ IsAmong d xs → (is_before d x ≡ false) ⊎ IsAmong d xs
    here (inl e) = inl (ap (is_before d) e ∙ not-before-self d)
    here (inr r) = inr r

none-reached : (now : ℕ) (ds : List Due) → All (λ d. nat_le d.tick now ≡ false) ds → reached now ds ≡ []
none-reached now [] all = refl
none-reached now (d ∷ ds) all = ap (λ (b : Bool). cond b (d ∷ reached now ds) (reached now ds)) (All-head (λ z. nat_le z.tick now ≡ false) d ds all) ∙ none-reached now ds (All-tail (λ z. nat_le z.tick now ≡ false) d ds all)

-- what is true of all limits of a queue
waits-limits : (P : Due → Type 0) (ws : List Waiter) → ((k : ℕ) (w : Waiter) (d : Due) → slice_get ws k ≡ Some w → limit_of w ≡ Some d → P d) → All P (limits_of_waits ws)
waits-limits P [] h = All-nil P
waits-limits P (w ∷ ws) h = All-append P (due_by w.thread w.due) (limits_of_waits ws) (by-due w.due refl) (waits-limits P ws (λ k. h (suc k)))
  where
    by-due : (o : Option ℕ) → w.due ≡ o → All P (due_by w.thread o)
    by-due None e = All-nil P
    by-due (Some t) e = All-cons P (record { tick = t; thread = w.thread }) [] (h zero w (record { tick = t; thread = w.thread }) refl (ap (option_map (λ t. record { tick = t; thread = w.thread })) e)) (All-nil P)

sleeps-limits : (P : Due → Type 0) (ws : List Waiter) → ((k : ℕ) (w : Waiter) → slice_get ws k ≡ Some w → P (sleep_limit w)) → All P (limits_of_sleeps (map sleeper ws))
sleeps-limits P [] h = All-nil P
sleeps-limits P (w ∷ ws) h = All-cons P (sleep_limit w) (limits_of_sleeps (map sleeper ws)) (h zero w refl) (sleeps-limits P ws (λ k. h (suc k)))

-- a limit of a thread in a queue is among those of the queue
waits-among : (d : Due) (ws : List Waiter) (k : ℕ) (w : Waiter) → slice_get ws k ≡ Some w → limit_of w ≡ Some d → IsAmong d (limits_of_waits ws)
waits-among d [] k w e is = cc
waits-among d (v ∷ vs) (suc k) w e is = among-right d (due_by v.thread v.due) (limits_of_waits vs) (waits-among d vs k w e is)
waits-among d (v ∷ vs) zero w e is = among-left d (due_by v.thread v.due) (limits_of_waits vs) (by-due v.due refl)
  where
    same : limit_of v ≡ Some d
    same = ap limit_of (some-same e) ∙ is

    by-due : (o : Option ℕ) → v.due ≡ o → IsAmong d (due_by v.thread o)
    by-due None f = clash (sym (ap (option_map (λ t. record { tick = t; thread = v.thread })) f) ∙ same)
      where
        clash : {A : Type 0} → None ≡ Some d → A
        clash c = cc
    by-due (Some t) f = inl (some-same (sym (ap (option_map (λ t. record { tick = t; thread = v.thread })) f) ∙ same))

sleeps-among : (d : Due) (ws : List Waiter) (k : ℕ) (w : Waiter) → slice_get ws k ≡ Some w → sleep_limit w ≡ d → IsAmong d (limits_of_sleeps (map sleeper ws))
sleeps-among d [] k w e is = cc
sleeps-among d (v ∷ vs) (suc k) w e is = inr (sleeps-among d vs k w e is)
sleeps-among d (v ∷ vs) zero w e is = inl (ap sleep_limit (some-same e) ∙ is)

contained : (d : Due) (ds : List Due) → IsAmong d ds → Contains (map (λ x. x.tick) ds) d.tick
contained d [] h = absurd h
contained d (x ∷ xs) (inl e) = (0, omega arith, ap (λ (y : Due). y.tick) e)
contained d (x ∷ xs) (inr r) = let k = contained d xs r in (suc k.0, omega (arith, k.1), k.2)

module _ (s : Slotted) (six : length s.queues ≡ 6) (now : ℕ) (first : Option Due) (i : IsFirstOf s first) where
  abbrev limits : List Due
  limits = limits_of_waits (queue_at s 4) ++ limits_of_sleeps (map sleeper (queue_at s 5))

  all-behind : All (λ d. IsBehind d first) limits
  all-behind = All-append (λ d. IsBehind d first) (limits_of_waits (queue_at s 4)) (limits_of_sleeps (map sleeper (queue_at s 5)))
      (waits-limits (λ d. IsBehind d first) (queue_at s 4) (λ k w d. i.behind 4 k w d))
      (sleeps-limits (λ d. IsBehind d first) (queue_at s 5) (λ k w e. i.behind 5 k w (sleep_limit w) e refl))

  among-all : (d : Due) → first ≡ Some d → IsAmong d limits
  among-all d e = let a = i.among d e in at a.0 a.1 a.2 a.3 a.4
    where
      clash : {A : Type 0} → None ≡ Some d → A
      clash c = cc

      at : (q k : ℕ) (w : Waiter) → slice_get (queue_at s q) k ≡ Some w → limit_in (Some q) w ≡ Some d → IsAmong d limits
      at zero k w e is = clash is
      at (suc zero) k w e is = clash is
      at (suc (suc zero)) k w e is = clash is
      at (suc (suc (suc zero))) k w e is = clash is
      at (suc (suc (suc (suc zero)))) k w e is = among-left d (limits_of_waits (queue_at s 4)) (limits_of_sleeps (map sleeper (queue_at s 5))) (waits-among d (queue_at s 4) k w e is)
      at (suc (suc (suc (suc (suc zero))))) k w e is = among-right d (limits_of_waits (queue_at s 4)) (limits_of_sleeps (map sleeper (queue_at s 5))) (sleeps-among d (queue_at s 5) k w e (some-same is))
      at (suc (suc (suc (suc (suc (suc q)))))) k w e is = none (sym (ap (λ (ws : List Waiter). slice_get ws k) (get_or_past s.queues (suc (suc (suc (suc (suc (suc q)))))) [] (omega (arith, six)))) ∙ e)
        where
          none : {A : Type 0} → slice_get [] k ≡ Some w → A
          none c = cc

  -- its tick has come: it is woken first
  pub first-come : (d : Due) → first ≡ Some d → nat_le d.tick now ≡ true → first_of None (reached now limits) ≡ Some d
  first-come d e low = first-is d (reached now limits) (among-reached now d limits low (among-all d e))
      (All-filter (λ x. nat_le x.tick now) (λ x. is_before x d ≡ false) limits (subst (λ (o : Option Due). All (λ x. IsBehind x o) limits) e all-behind))

  -- its tick has not come: no thread is due
  pub first-later : (d : Due) → first ≡ Some d → nat_le d.tick now ≡ false → first_of None (reached now limits) ≡ None
  first-later d e high = ap (first_of None) (none-reached now limits (λ k x lt. later (get_or limits k x) (behind k x lt)))
    where
      behind : All (λ x. is_before x d ≡ false) limits
      behind = subst (λ (o : Option Due). All (λ x. IsBehind x o) limits) e all-behind

      later : (x : Due) → is_before x d ≡ false → nat_le x.tick now ≡ false
      later x h = grind (arith, nat_tests)

  -- there is none: no thread is due
  pub first-never : first ≡ None → first_of None (reached now limits) ≡ None
  first-never e = ap (first_of None) (none-reached now limits (λ k x lt. absurd (never k x lt)))
    where
      never : All (λ x. ⊥) limits
      never = subst (λ (o : Option Due). All (λ x. IsBehind x o) limits) e all-behind

  -- its tick is the least of all
  pub first-tick : IsLeast nat_lt (map (λ d. d.tick) limits) (option_map (λ d. d.tick) first)
  first-tick = by-first first refl
    where
      by-first : (o : Option Due) → first ≡ o → IsLeast nat_lt (map (λ d. d.tick) limits) (option_map (λ d. d.tick) o)
      by-first None e = record {
        among = tt;
        least = All-map (IsNotBefore nat_lt None) (λ d. d.tick) limits (subst (λ (o : Option Due). All (λ x. IsBehind x o) limits) e all-behind);
      }
      by-first (Some d) e = record {
        among = contained d limits (among-all d e);
        least = All-map (IsNotBefore nat_lt (Some d.tick)) (λ d. d.tick) limits (All-weaker (λ x. is_before x d ≡ false) (λ x. nat_lt x.tick d.tick ≡ false) not-less limits (subst (λ (o : Option Due). All (λ x. IsBehind x o) limits) e all-behind));
      }
        where
          not-less : (x : Due) → is_before x d ≡ false → nat_lt x.tick d.tick ≡ false
          not-less x h = grind (arith, nat_tests)
