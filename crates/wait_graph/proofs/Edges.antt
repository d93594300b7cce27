-- The targets of a thread are those that it waits for.
use Rattle.std.proofs.Common.{◌≡◌, ◌∙◌, sym, ap, subst, refl, ℕ, zero, suc, ◌<◌, ◌==◌, Bool, true, false, cond, List, [], ◌∷◌, ◌++◌, length, map, slice_index_or, arith, ◌⊎◌, inl, inr, append_assoc, append-nil, Option, Some, None}
use Rattle.std.specs.List.{Contains, filter}
use Rattle.std.specs.Option.{option_map_or}
use Rattle.std.proofs.lemmas.Bool.Decides.{Decides-eqb}
use Rattle.ids_base.specs.declared.lock.LockEntry.{LockEntry}
use Rattle.ids_base.specs.declared.lock.LockName.{LockName}
use Rattle.ids_base.specs.LockNames.{is_same_name}
use Rattle.lock_table.specs.Table.{Table, line, holders, queue, has_thread, WaitsNowhere}
use Rattle.lock_table.specs.Requests.{put_first, queued}
use Rattle.lock_table.specs.Sound.{IsSound}
use Rattle.wait_graph.specs.declared.asked.Asked.{Asked}
use Rattle.wait_graph.specs.Queued.{WaitsSomewhere, queue_with}
use Rattle.ids_base.specs.Waits.{conflicts, WaitsFor, WaitInTurn}
use Rattle.wait_graph.specs.Cycles.{IsCycle}
use Rattle.wait_graph.specs.Targets.{against_of, targets_from, targets, among, queue_at, name_waited, next}
use Rattle.wait_graph.specs.Search.{Waits}
use Rattle.wait_graph.proofs.Trees.{among-cons, among-first, among-later}
use Rattle.wait_graph.proofs.Named.{has-stands, waited-at}

pub record Against (w : LockEntry) (es : List LockEntry) (b : ℕ) : Type 0 where
  pub other : LockEntry
  pub there : Contains es other
  pub against : conflicts w other ≡ true
  pub of_b : other.thread ≡ b

here-first : (e : LockEntry) (es : List LockEntry) → Contains (e ∷ es) e
here-first e es = (0, omega arith, refl)

there-later : (x e : LockEntry) (es : List LockEntry) → Contains es e → Contains (x ∷ es) e
there-later x e es c = (suc c.0, (let l = c.1 in omega (arith, l)), c.2)

later-against : (w x : LockEntry) (es : List LockEntry) (b : ℕ) → Against w es b → Against w (x ∷ es) b
later-against w x es b a = record { other = a.other; there = there-later x a.other es a.there; against = a.against; of_b = a.of_b }

pub against-from : (w : LockEntry) (es : List LockEntry) (b : ℕ) → among b (against_of w es) ≡ true → Against w es b
against-from w [] b h = cc
against-from w (e ∷ es) b h = by-test (conflicts w e) refl h (λ k. against-from w es b k)
  where
    by-test : (t : Bool) → conflicts w e ≡ t → among b (map (λ x. x.thread) (cond t (e ∷ filter (conflicts w) es) (filter (conflicts w) es))) ≡ true
        → (among b (against_of w es) ≡ true → Against w es b) → Against w (e ∷ es) b
    by-test true is h more = elim (among-cons b e.thread (against_of w es) h) as (λ v. Against w (e ∷ es) b)
        [ inl f ↦ record { other = e; there = here-first e es; against = is; of_b = f } | inr r ↦ later-against w e es b (more r) ]
    by-test false is h more = later-against w e es b (more h)

pub against-to : (w : LockEntry) (es : List LockEntry) (b : ℕ) (e : LockEntry) → (k : ℕ) → k < length es → slice_index_or es k e ≡ e → conflicts w e ≡ true → e.thread ≡ b → among b (against_of w es) ≡ true
against-to w [] b e k lt is c f = absurd (omega arith)
against-to w (x ∷ es) b e zero lt is c f =
    ap (λ t. among b (map (λ y. y.thread) (cond t (x ∷ filter (conflicts w) es) (filter (conflicts w) es)))) (ap (conflicts w) is ∙ c)
    ∙ subst (λ n. among n (x.thread ∷ against_of w es) ≡ true) (ap (λ y. y.thread) is ∙ f) (among-first x.thread (against_of w es))
against-to w (x ∷ es) b e (suc k) lt is c f = by-test (conflicts w x) (against-to w es b e k (omega arith) is c f)
  where
    by-test : (t : Bool) → among b (against_of w es) ≡ true → among b (map (λ y. y.thread) (cond t (x ∷ filter (conflicts w) es) (filter (conflicts w) es))) ≡ true
    by-test true h = among-later b x.thread (against_of w es) h
    by-test false h = h

among-append : (b : ℕ) (xs ys : List ℕ) → among b (xs ++ ys) ≡ true → (among b xs ≡ true) ⊎ (among b ys ≡ true)
among-append b [] ys h = inr h
among-append b (x ∷ xs) ys h = elim (among-cons b x (xs ++ ys) h) as (λ v. (among b (x ∷ xs) ≡ true) ⊎ (among b ys ≡ true)) [
  | inl e ↦ inl (subst (λ n. among n (x ∷ xs) ≡ true) e (among-first x xs))
  | inr r ↦ elim (among-append b xs ys r) as (λ v. (among b (x ∷ xs) ≡ true) ⊎ (among b ys ≡ true)) [ inl a ↦ inl (among-later b x xs a) | inr c ↦ inr c ]
]

among-left : (b : ℕ) (xs ys : List ℕ) → among b xs ≡ true → among b (xs ++ ys) ≡ true
among-left b [] ys h = cc
among-left b (x ∷ xs) ys h = elim (among-cons b x xs h) as (λ v. among b (x ∷ (xs ++ ys)) ≡ true)
    [ inl e ↦ subst (λ n. among n (x ∷ (xs ++ ys)) ≡ true) e (among-first x (xs ++ ys)) | inr r ↦ among-later b x (xs ++ ys) (among-left b xs ys r) ]

among-right : (b : ℕ) (xs ys : List ℕ) → among b ys ≡ true → among b (xs ++ ys) ≡ true
among-right b [] ys h = h
among-right b (x ∷ xs) ys h = among-later b x (xs ++ ys) (among-right b xs ys h)

pub waits-from : (held earlier ws : List LockEntry) (a b : ℕ) → among b (targets_from held earlier a ws) ≡ true → WaitsFor held (earlier ++ ws) a b
waits-from held earlier [] a b h = cc
waits-from held earlier (w ∷ ws) a b h =
    elim (among-append b (cond (w.thread == a) (against_of w (held ++ earlier)) []) (targets_from held (earlier ++ w ∷ []) a ws) h) as (λ v. WaitsFor held (earlier ++ w ∷ ws) a b) [
      | inl f ↦ first (w.thread == a) refl f
      | inr r ↦ subst (λ v. WaitsFor held v a b) (append_assoc earlier (w ∷ []) ws) (waits-from held (earlier ++ w ∷ []) ws a b r)
    ]
  where
    first : (t : Bool) → (w.thread == a) ≡ t → among b (cond t (against_of w (held ++ earlier)) []) ≡ true → WaitsFor held (earlier ++ w ∷ ws) a b
    first true is f = let g = against-from w (held ++ earlier) b f in
        record { waiter = w; before = earlier; after = ws; stands = refl; of_a = (Decides-eqb w.thread a).0 is; other = g.other; of_b = g.of_b; there = g.there; against = g.against }
    first false is f = cc

pub waits-to : (held earlier before : List LockEntry) (w : LockEntry) (after : List LockEntry) (a b : ℕ) → w.thread ≡ a → Against w (held ++ (earlier ++ before)) b
    → among b (targets_from held earlier a (before ++ w ∷ after)) ≡ true
waits-to held earlier [] w after a b is g =
    among-left b (cond (w.thread == a) (against_of w (held ++ earlier)) []) (targets_from held (earlier ++ w ∷ []) a after)
    (ap (λ t. among b (cond t (against_of w (held ++ earlier)) [])) ((Decides-eqb w.thread a).1 is)
    ∙ (let c : Contains (held ++ earlier) g.other = subst (λ v. Contains (held ++ v) g.other) (append-nil earlier) g.there in against-to w (held ++ earlier) b g.other c.0 c.1 c.2 g.against g.of_b))
waits-to held earlier (x ∷ before) w after a b is g =
    among-right b (cond (x.thread == a) (against_of x (held ++ earlier)) []) (targets_from held (earlier ++ x ∷ []) a (before ++ w ∷ after))
    (waits-to held (earlier ++ x ∷ []) before w after a b is (subst (λ v. Against w (held ++ v) b) (sym (append_assoc earlier (x ∷ []) before)) g))

-- the threads that a thread waits for are found from the name that it waits for
pub edge-from : (t : Table) (asked : Asked) (a b : ℕ) → Waits (next t asked) a b → WaitsSomewhere t (queue_at t asked) a b
unfolding next
edge-from t asked a b h = by-name (name_waited t asked a) h
  where
    by-name : (o : Option LockName) → among b (option_map_or (λ name. targets (holders t name) (queue_at t asked name) a) o []) ≡ true → WaitsSomewhere t (queue_at t asked) a b
    by-name None h = cc
    by-name (Some name) h = record { name = name; waits = waits-from (holders t name) [] (queue_at t asked name) a b h }

at-to : (held waiting : List LockEntry) (a b : ℕ) → WaitsFor held waiting a b → among b (targets held waiting a) ≡ true
at-to held waiting a b w = subst (λ v. among b (targets_from held [] a v) ≡ true) (sym w.stands)
    (waits-to held [] w.before w.waiter w.after a b w.of_a (record { other = w.other; there = w.there; against = w.against; of_b = w.of_b }))

pub edge-to : (t : Table) (asked : Asked) (p : LockEntry → Bool) (w : LockEntry) → IsSound t → WaitsNowhere t asked.start → asked.queue.items ≡ put_first p w (queue t asked.name) → w.thread ≡ asked.start
    → (a b : ℕ) → WaitsSomewhere t (queue_at t asked) a b → Waits (next t asked) a b
unfolding next
edge-to t asked p w s never q of-start a b e =
    let stands : has_thread a (queue_at t asked e.name) ≡ true = ap (has_thread a) e.waits.stands ∙ has-stands a e.waits.before e.waits.waiter e.waits.after e.waits.of_a in
    ap (λ o. among b (option_map_or (λ name. targets (holders t name) (queue_at t asked name) a) o [])) (waited-at t asked p w s never q of-start a e.name stands)
    ∙ at-to (holders t e.name) (queue_at t asked e.name) a b e.waits

-- the queues differ by nothing but how the asked one was found
same-queues : (t : Table) (asked : Asked) (w : LockEntry) → asked.name ≡ w.name → asked.queue.items ≡ (queued (line t w.name) w).queue → (name : LockName) → queue_at t asked name ≡ queue_with t w name
same-queues t asked w e q name = ap (λ v. cond (is_same_name name v) asked.queue.items (queue t name)) e ∙ ap (λ v. cond (is_same_name name w.name) v (queue t name)) q

pub as-asked : (t : Table) (asked : Asked) (w : LockEntry) → asked.name ≡ w.name → asked.queue.items ≡ (queued (line t w.name) w).queue
    → (a b : ℕ) → WaitsSomewhere t (queue_at t asked) a b → WaitsSomewhere t (queue_with t w) a b
as-asked t asked w e q a b x = record { name = x.name; waits = subst (λ v. WaitsFor (holders t x.name) v a b) (same-queues t asked w e q x.name) x.waits }

pub from-asked : (t : Table) (asked : Asked) (w : LockEntry) → asked.name ≡ w.name → asked.queue.items ≡ (queued (line t w.name) w).queue
    → (a b : ℕ) → WaitsSomewhere t (queue_with t w) a b → WaitsSomewhere t (queue_at t asked) a b
from-asked t asked w e q a b x = record { name = x.name; waits = subst (λ v. WaitsFor (holders t x.name) v a b) (sym (same-queues t asked w e q x.name)) x.waits }

turn-mapped : (V W : ℕ → ℕ → Type 0) → ((a b : ℕ) → V a b → W a b) → (start : ℕ) (xs : List ℕ) → WaitInTurn V start xs → WaitInTurn W start xs
turn-mapped V W f start [] h = tt
turn-mapped V W f start (a ∷ []) h = f a start h
turn-mapped V W f start (a ∷ b ∷ rest) h = (f a b h.0, turn-mapped V W f start (b ∷ rest) h.1)

pub cycle-mapped : (V W : ℕ → ℕ → Type 0) → ((a b : ℕ) → V a b → W a b) → (start : ℕ) (xs : List ℕ) → IsCycle V start xs → IsCycle W start xs
cycle-mapped V W f start xs c = record { others = c.others; starts = c.starts; once = c.once; in_turn = turn-mapped V W f start xs c.in_turn }
