-- A line taken from the table.
use Rattle.std.proofs.Common.{◌≡◌, ◌∙◌, sym, ap, subst, ℕ, ◌+◌, ◌≤◌, true, List, [], ◌∷◌, ◌++◌, length, Vec, Global, nat_eq, arith, inl, inr, Some, None, IsSome}
use Rattle.std.specs.Option.{option_map_or}
use Rattle.std.proofs.lemmas.List.{length_push}
use Rattle.indexmap.specs.IndexMap.{IndexMap, get}
use Rattle.ids_base.specs.declared.lock.LockEntry.{LockEntry}
use Rattle.ids_base.specs.declared.lock.LockName.{LockName}
use Rattle.lock_table.specs.Table.{Table, holders, has_thread}
use Rattle.wait_graph.specs.declared.asked.Asked.{Asked}
use Rattle.wait_graph.specs.declared.reached.Reached.{Reached}
use Rattle.wait_graph.specs.declared.reached.Spot.{Spot}
use Rattle.wait_graph.specs.Queued.{IsAsked}
use Rattle.wait_graph.specs.Reached.{IsAt, IsNewSpot, HasSpots, HasLines, StandsAt, StandsIn}
use Rattle.wait_graph.specs.Search.{Waits}
use Rattle.wait_graph.specs.Targets.{among, targets, next, queue_at, name_waited}
use Rattle.wait_graph.proofs.Edges.{waits-from}
use Rattle.wait_graph.proofs.Named.{has-stands}
use Rattle.wait_graph.proofs.Places.{at-push, at-right}
use Rattle.wait_graph.proofs.Standing.{has-place, stands-at}

stands-old : (next : ℕ → List ℕ) (old new : Reached) (line : Vec LockEntry Global) → new.lines.items ≡ old.lines.items ++ line ∷ [] → length new.scanned.items ≡ length new.lines.items
    → (a : ℕ) (s : Spot) → StandsIn next old a s → StandsIn next new a s
stands-old next old new line is same a s st = record {
  inside = (let i = st.inside in let e = ap length is ∙ length_push old.lines.items line in omega (arith, i, e));
  scanned = same;
  stands = λ v at. elim (at-push old.lines.items line s.line v (subst (λ l. IsAt l s.line v) is at)) as (λ w. StandsAt next v.items a s.at)
      [ inl o ↦ st.stands v o | inr n ↦ absurd (let i = st.inside in let e = n.0 in omega (arith, i, e)) ];
}

stands-new : (t : Table) (asked : Asked) → IsAsked t asked → (name : LockName) (old new : Reached) (line : Vec LockEntry Global) → new.lines.items ≡ old.lines.items ++ line ∷ [] → length new.scanned.items ≡ length new.lines.items
    → line.items ≡ holders t name ++ queue_at t asked name → (a : ℕ) (s : Spot) → IsNewSpot line.items (length old.lines.items) (length (holders t name)) a s → StandsIn (next t asked) new a s
stands-new t asked ok name old new line is same filled a s spot = record {
  inside = (let i = spot.in_line in let e = ap length is ∙ length_push old.lines.items line in omega (arith, i, e));
  scanned = same;
  stands = λ v at. elim (at-push old.lines.items line s.line v (subst (λ l. IsAt l s.line v) is at)) as (λ w. StandsAt (next t asked) v.items a s.at) [
    | inl o ↦ absurd (let i = o.0 in let e = spot.in_line in omega (arith, i, e))
    | inr n ↦ subst (λ (w : Vec LockEntry Global). StandsAt (next t asked) w.items a s.at) (sym n.1)
        (subst (λ l. StandsAt (next t asked) l a s.at) (sym filled)
        (subst (λ m. StandsAt (next t asked) (holders t name ++ queue_at t asked name) m s.at) spot.of_a
        (stands-at t asked ok name s.at spot.waiter spot.behind (subst (λ l. IsAt l s.at spot.waiter) filled spot.there))))
  ];
}

pub lines-pushed : (t : Table) (asked : Asked) → IsAsked t asked → (name : LockName) (old new : Reached) (line : Vec LockEntry Global) (number first : ℕ) → HasLines (next t asked) old
    → new.lines.items ≡ old.lines.items ++ line ∷ [] → length new.scanned.items ≡ length old.scanned.items + 1 → line.items ≡ holders t name ++ queue_at t asked name
    → number ≡ length old.lines.items → first ≡ length (holders t name)
    → ((a : ℕ) (s : Spot) → get nat_eq new.spots a ≡ Some s → HasSpots old.spots line.items number first a s) → HasLines (next t asked) new
lines-pushed t asked ok name old new line number first h is grown filled at-end behind each =
    let same : length new.scanned.items ≡ length new.lines.items = (let e = ap length is ∙ length_push old.lines.items line in let o = h.scanned in omega (arith, e, o, grown)) in
    record {
      scanned = same;
      spots = λ a s g. elim (each a s g) as (λ w. StandsIn (next t asked) new a s) [
        | inl o ↦ stands-old (next t asked) old new line is same a s (h.spots a s o)
        | inr n ↦ stands-new t asked ok name old new line is same filled a s
            (subst (λ m. IsNewSpot line.items (length old.lines.items) m a s) behind (subst (λ m. IsNewSpot line.items m first a s) at-end n))
      ];
    }

-- each waiter of the queue has a spot
pub all-noted : {S : Type 0} (spots : IndexMap ℕ Spot S) (held queue line : List LockEntry) (first : ℕ) → line ≡ held ++ queue → first ≡ length held
    → ((k : ℕ) (e : LockEntry) → first ≤ k → IsAt line k e → IsSome (get nat_eq spots e.thread)) → (a : ℕ) → has_thread a queue ≡ true → IsSome (get nat_eq spots a)
all-noted spots held queue line first is behind all a h =
    let m = has-place a queue h in
    subst (λ n. IsSome (get nat_eq spots n)) m.of_a
    (all (length held + m.place) m.entry (omega (arith, behind)) (subst (λ l. IsAt l (length held + m.place) m.entry) (sym is) (at-right held queue m.place m.entry m.there)))

-- ---- who waits for none
pub nowhere-waits : (t : Table) (asked : Asked) (a : ℕ) → name_waited t asked a ≡ None → (b : ℕ) → Waits (next t asked) a b → ⊥
unfolding next
nowhere-waits t asked a none b edge =
    let e : among b [] ≡ true = ap (λ o. among b (option_map_or (λ name. targets (holders t name) (queue_at t asked name) a) o [])) (sym none) ∙ edge in cc

pub waits-queued : (t : Table) (asked : Asked) (a : ℕ) (name : LockName) → name_waited t asked a ≡ Some name → (b : ℕ) → Waits (next t asked) a b → has_thread a (queue_at t asked name) ≡ true
unfolding next
waits-queued t asked a name is b edge =
    let e : among b (targets (holders t name) (queue_at t asked name) a) ≡ true = ap (λ o. among b (option_map_or (λ name. targets (holders t name) (queue_at t asked name) a) o [])) (sym is) ∙ edge in
    let w = waits-from (holders t name) [] (queue_at t asked name) a b e in
    ap (has_thread a) w.stands ∙ has-stands a w.before w.waiter w.after w.of_a
