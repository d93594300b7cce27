-- Where a live thread is.
use Rattle.std.proofs.Common.{◌≡◌, ◌∙◌, ℕ, suc, ◌<◌, ◌==◌, Bool, true, false, cond, List, [], ◌∷◌, length, map, get_or, refl, ap, sym, subst, arith, inl, inr, Option, Some, None, option_to_list}
use Rattle.std.specs.List.{flat_map, filter, find}
use Rattle.std.proofs.lemmas.Bool.{cases_lt, eq-eqb}
use Rattle.std.proofs.lemmas.Bool.Decides.{eqb_tells}
use Rattle.std.proofs.lemmas.List.{get_or_past}
use Rattle.thread_queues.specs.declared.event.Event.{Event}
use Rattle.thread_queues.specs.declared.event.Event.TheVariants.{Lock, Latch, Page, LogFlush, PhysFlush, LogSpace, Checkpoint, Critical, Cleaning}
use Rattle.thread_queues.specs.declared.event.Waiter.{Waiter}
use Rattle.thread_queues.specs.Events.{is_event}
use Rattle.thread_queues.specs.Placed.{times}
use Rattle.thread_queues.specs.Slotted.{Slotted, queue_at, threads_of, IsApart}
use Rattle.thread_queues.specs.Shown.{shown, sleeper}
use Rattle.thread_queues.specs.Kept.{IsCounted}
use Rattle.thread_queues.proofs.Placing.{sleepers-threads}

-- a thread that lives and stands in no queue runs
pub apart-runs : (cpu tick : ℕ) (s : Slotted) (run : List (Option ℕ)) (t : ℕ) → IsCounted (shown cpu tick s run) → 0 < times t s.live → IsApart s t → 0 < times t (flat_map option_to_list run)
apart-runs cpu tick s run t c live apart = omega (arith, live, c.placed t, apart 0, apart 1, apart 2, apart 3, apart 4, apart 5, ap (times t) (sleepers-threads (queue_at s 5)))

-- what runs is on a processor
pub runs-at : (t : ℕ) (run : List (Option ℕ)) → 0 < times t (flat_map option_to_list run) → (k : ℕ) × (k < length run) × (get_or run k None ≡ Some t)
runs-at t [] h = absurd (omega arith)
runs-at t (None ∷ run) h = let r = runs-at t run h in (suc r.0, omega (arith, r.1), r.2)
runs-at t (Some u ∷ run) h = elim (eqb_tells u t) [
  | inl e ↦ (0, omega arith, ap Some e.1)
  | inr ne ↦ let none : cond (u == t) 1 0 ≡ 0 = ap {B = ℕ} (λ (b : Bool). cond b 1 0) ne.0 in
      let r = runs-at t run (omega (arith, h, none)) in (suc r.0, omega (arith, r.1), r.2)
]

same-event : (e : Event) → is_event e e ≡ true
same-event Lock = refl
same-event (Latch f) = eq-eqb f f refl
same-event (Page p) = eq-eqb p p refl
same-event LogFlush = refl
same-event PhysFlush = refl
same-event LogSpace = refl
same-event Checkpoint = refl
same-event Critical = refl
same-event Cleaning = refl

-- a thread that waits is among those that wait for its event
pub waits-for : (t : ℕ) (ws : List Waiter) (v : Waiter) → find (λ w. w.thread == t) ws ≡ Some v → 0 < times t (map (λ w. w.thread) (filter (λ w. is_event w.event v.event) ws))
waits-for t [] v e = cc
waits-for t (w ∷ ws) v e = elim (eqb_tells w.thread t) [
  | inl s ↦ here (some-same (sym (ap (λ (b : Bool). cond b (Some w) (find (λ w. w.thread == t) ws)) s.0) ∙ e)) s.0
  | inr ne ↦ more (is_event w.event v.event) (waits-for t ws v (sym (ap (λ (b : Bool). cond b (Some w) (find (λ w. w.thread == t) ws)) ne.0) ∙ e))
]
  where
    some-same : {X : Type 0} {a b : X} → Some a ≡ Some b → a ≡ b
    some-same e = cc

    here : w ≡ v → (w.thread == t) ≡ true → 0 < times t (map (λ w. w.thread) (filter (λ w. is_event w.event v.event) (w ∷ ws)))
    here s k =
        let passes : is_event w.event v.event ≡ true = ap (λ (u : Waiter). is_event w.event u.event) (sym s) ∙ same-event w.event in
        let one : cond (w.thread == t) 1 0 ≡ 1 = ap {B = ℕ} (λ (b : Bool). cond b 1 0) k in
        subst (λ (b : Bool). 0 < times t (map (λ w. w.thread) (cond b (w ∷ filter (λ w. is_event w.event v.event) ws) (filter (λ w. is_event w.event v.event) ws)))) (sym passes) (omega (arith, one))

    more : (b : Bool) → 0 < times t (map (λ w. w.thread) (filter (λ w. is_event w.event v.event) ws)) → 0 < times t (map (λ w. w.thread) (cond b (w ∷ filter (λ w. is_event w.event v.event) ws) (filter (λ w. is_event w.event v.event) ws)))
    more true h = omega (arith, h)
    more false h = h

-- there are six queues
pub in-six : (s : Slotted) (q t : ℕ) → length s.queues ≡ 6 → 0 < times t (threads_of (queue_at s q)) → q < 6
in-six s q t six h = elim (cases_lt q 6) [ inl k ↦ k | inr k ↦ absurd (none (ap (λ (ws : List Waiter). times t (threads_of ws)) (get_or_past s.queues q [] (omega (arith, k, six))))) ]
  where
    none : times t (threads_of (queue_at s q)) ≡ 0 → ⊥
    none e = omega (arith, e, h)

-- those of the last sleep
pub last-sleeps : (s : Slotted) (t q : ℕ) → length s.queues ≡ 6 → 4 < q → 0 < times t (threads_of (queue_at s q)) → 0 < times t (map (λ x. x.thread) (map sleeper (queue_at s 5)))
last-sleeps s t q six high h =
    let low = in-six s q t six h in
    let five : q ≡ 5 = omega (arith, low, high) in
    let at : times t (threads_of (queue_at s q)) ≡ times t (threads_of (queue_at s 5)) = ap (λ (k : ℕ). times t (threads_of (queue_at s k))) five in
    omega (arith, h, at, ap (times t) (sleepers-threads (queue_at s 5)))
