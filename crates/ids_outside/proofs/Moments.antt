-- Time goes on by the calls of a disk in memory.
use Rattle.std.proofs.Common.{◌≡◌, inl, inr, Bool, true, false, ℕ, ◌<◌, ◌≤◌, List, [], ◌∷◌, ◌++◌, refl, sym, ◌∙◌, ap, subst, arith, nat_le, le-leb, leb-true, le_refl}
use Rattle.std.proofs.lemmas.Bool.{and_parts, and_from, lt-leb}
use Rattle.std.specs.Bool.{if◌then◌else◌}
use Rattle.ids_outside.specs.Counts.{last_count, next_count}
use Rattle.ids_outside.specs.Images.{Image, IsImage}
use Rattle.ids_outside.specs.Stops.{Elapses}
use Rattle.ids_outside.specs.MemoryDisk.{State, CanLeave, settled, after, replay, all_by, state, CouldLeave}
use Rattle.ids_outside.specs.declared.record.Call.{Call}
use Rattle.ids_outside.specs.declared.record.Entry.{Entry}
use Rattle.ids_outside.proofs.Overlays.{order}
use Rattle.ids_outside.proofs.States.{IsSound, after-sound, settled_sound}

-- each state that is reached is sound
pub replay-sound : (m : ℕ) (s : State) (entries : List Entry) → IsSound s → IsSound (replay m s entries)
replay-sound m s [] sound = sound
replay-sound m s (e ∷ entries) sound = replay-sound m (if nat_le e.moment m then after e.call s else s) entries (either (nat_le e.moment m))
  where
    either : (b : Bool) → IsSound (if b then after e.call s else s)
    either true = after-sound e.call s sound
    either false = sound

pub state-sound : (first : Image) (entries : List Entry) (m : ℕ) → IsImage first → IsSound (state first entries m)
state-sound first entries m is = replay-sound m (settled first) entries (settled_sound first is)

-- an entry more
pub replay-append : (m : ℕ) (s : State) (entries : List Entry) (e : Entry)
    → replay m s (entries ++ e ∷ []) ≡ (if nat_le e.moment m then after e.call (replay m s entries) else replay m s entries)
replay-append m s [] e = refl
replay-append m s (d ∷ entries) e = replay-append m (if nat_le d.moment m then after d.call s else s) entries e

-- a moment later nothing else was made
pub replay_later : (m now : ℕ) (s : State) (entries : List Entry) → all_by now entries ≡ true → now ≤ m → replay m s entries ≡ replay now s entries
replay_later m now s [] all le = refl
replay_later m now s (e ∷ entries) all le =
    let parts = and_parts (nat_le e.moment now) (all_by now entries) all in
    let early : e.moment ≤ now = leb-true e.moment now parts.0 in
    let same : nat_le e.moment m ≡ nat_le e.moment now = le-leb e.moment m (omega (arith, early, le)) ∙ sym parts.0 in
    ap (λ (b : Bool). replay m (if b then after e.call s else s) entries) same
    ∙ replay_later m now (if nat_le e.moment now then after e.call s else s) entries parts.1 le

-- what was made by a moment was made by a later one
pub all_by_later : (m now : ℕ) (entries : List Entry) → all_by now entries ≡ true → now ≤ m → all_by m entries ≡ true
all_by_later m now [] all le = refl
all_by_later m now (e ∷ entries) all le =
    let parts = and_parts (nat_le e.moment now) (all_by now entries) all in
    and_from (nat_le e.moment m) (all_by m entries) (le-leb e.moment m (omega (arith, leb-true e.moment now parts.0, le))) (all_by_later m now entries parts.1 le)

pub all_by_append : (m : ℕ) (entries : List Entry) (e : Entry) → all_by m entries ≡ true → e.moment ≤ m → all_by m (entries ++ e ∷ []) ≡ true
all_by_append m [] e all le = and_from (nat_le e.moment m) true (le-leb e.moment m le) refl
all_by_append m (d ∷ entries) e all le =
    let parts = and_parts (nat_le d.moment m) (all_by m entries) all in
    and_from (nat_le d.moment m) (all_by m (entries ++ e ∷ [])) parts.0 (all_by_append m entries e parts.1 le)

-- the state behind a call that is noted now
pub noted : (first : Image) (entries : List Entry) (now later : ℕ) (call : Call) → all_by now entries ≡ true → now ≤ later
    → state first (entries ++ record { moment = later; call = call } ∷ []) later ≡ after call (state first entries now)
noted first entries now later call all le =
    replay-append later (settled first) entries (record { moment = later; call = call })
    ∙ ap (λ (b : Bool). if b then after call (state first entries later) else state first entries later) (le-leb later later (le_refl later))
    ∙ ap (λ (s : State). after call s) (replay_later later now (settled first) entries all le)

-- before it, nothing of it is seen
unseen : (first : Image) (entries : List Entry) (m later : ℕ) (call : Call) → m < later
    → state first (entries ++ record { moment = later; call = call } ∷ []) m ≡ state first entries m
unseen first entries m later call lt =
    replay-append m (settled first) entries (record { moment = later; call = call })
    ∙ ap (λ (b : Bool). if b then after call (state first entries m) else state first entries m) (lt-leb later m lt)

-- time goes on by a call of which nothing is noted
pub nothing_noted : (first : Image) (entries : List Entry) (now later : ℕ) → all_by now entries ≡ true → now ≤ last_count → later ≡ next_count now
    → Elapses now later (CouldLeave first entries now) (CouldLeave first entries later) (CanLeave (state first entries later))
nothing_noted first entries now later all fits is = record {
  later = omega (arith, fits, is);
  nothing_else = λ below m c left. elim (order now m) [
    | inr early ↦ inl (early, left.1)
    | inl late ↦
        let here : m ≡ later = omega (arith, late, left.0, is, below) in
        inr (omega (arith, late), subst (λ (k : ℕ). CanLeave (state first entries k) c) here left.1)
  ];
  keeps = λ below m c left. (omega (arith, left.0, is, fits), left.1);
}

-- time goes on by a call that is noted
pub one_noted : (first : Image) (entries : List Entry) (now later : ℕ) (call : Call) → now ≤ last_count → later ≡ next_count now
    → Elapses now later (CouldLeave first entries now) (CouldLeave first (entries ++ record { moment = later; call = call } ∷ []) later)
    (CanLeave (state first (entries ++ record { moment = later; call = call } ∷ []) later))
one_noted first entries now later call fits is = record {
  later = omega (arith, fits, is);
  nothing_else = λ below m c left. elim (order now m) [
    | inr early ↦ inl (early, subst (λ (s : State). CanLeave s c) (unseen first entries m later call (omega (arith, early, is, below))) left.1)
    | inl late ↦
        let here : m ≡ later = omega (arith, late, left.0, is, below) in
        inr (omega (arith, late), subst (λ (k : ℕ). CanLeave (state first (entries ++ record { moment = later; call = call } ∷ []) k) c) here left.1)
  ];
  keeps = λ below m c left. (
    omega (arith, left.0, is, fits),
    subst (λ (s : State). CanLeave s c) (sym (unseen first entries m later call (omega (arith, left.0, is, below)))) left.1,
  );
}
