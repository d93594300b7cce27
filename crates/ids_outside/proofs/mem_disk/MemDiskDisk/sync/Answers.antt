use Rattle.std.proofs.Common.{◌≡◌, ◌∙◌, ◌≤◌, sym, subst, arith, refl}
use Rattle.ids_outside.specs.Counts.{last_count, next_count}
use Rattle.ids_outside.specs.MemoryDisk.{state, State, CanLeave}
use Rattle.ids_outside.specs.Held.{first_of, image_of, state_at}
use Rattle.ids_outside.specs.declared.record.Call.TheVariants.{Synced}
use Rattle.ids_outside.proofs.States.{settled_only}
use Rattle.ids_outside.proofs.Kept.{Good, good_same, same_state, good_noted, noted_state, noted_time}
use Rattle.ids_outside.proofs.Disks.{held}
use Rattle.ids_outside.proofs.mem_disk.MemDiskDisk.sync.Goals as goal

pub invariant_of-self : goal.invariant_of-self
invariant_of-self c =
    let d = c.args.self.now in
    let le : d.moment ≤ c.saturating_add-self.result = omega arith in
    let good = good_same (image_of d) (image_of d) (first_of d) (first_of d) d.entries.items d.moment c.saturating_add-self.result (held d) le refl refl in
    record { in_time = good.in_time; few = d.few; first_few = d.first_few; small = good.small; shown = good.shown; left = good.left; whole = good.whole }

pub returns-then-next_fails-clause-stop : goal.returns-then-next_fails-clause-stop
returns-then-next_fails-clause-stop c = λ x left.
    let d = c.args.self.now in
    let le : d.moment ≤ c.saturating_add-self.result = omega arith in
    subst (λ (s : State). CanLeave s x) (same_state (image_of d) (image_of d) (first_of d) (first_of d) d.entries.items d.moment c.saturating_add-self.result (held d) le refl) left

pub invariant_of-self-then-not-note : goal.invariant_of-self-then-not-note
invariant_of-self-then-not-note c =
    let d = c.args.self.now in
    let le : d.moment ≤ c.saturating_add-self.result = omega arith in
    let same = c.if-not-note.ensures.refused refl in
    let good = subst (λ l. Good (image_of d) (first_of d) l c.saturating_add-self.result) (sym same)
    (good_same (image_of d) (image_of d) (first_of d) (first_of d) d.entries.items d.moment c.saturating_add-self.result (held d) le refl refl) in
    record { in_time = good.in_time; few = d.few; first_few = d.first_few; small = good.small; shown = good.shown; left = good.left; whole = good.whole }

pub returns-then-not-note-clause-stop : goal.returns-then-not-note-clause-stop
returns-then-not-note-clause-stop c = λ x left.
    let d = c.args.self.now in
    let le : d.moment ≤ c.saturating_add-self.result = omega arith in
    let same = c.if-not-note.ensures.refused refl in
    subst (λ (s : State). CanLeave s x) (same_state (image_of d) (image_of d) (first_of d) (first_of d) d.entries.items d.moment c.saturating_add-self.result (held d) le refl)
    (subst (λ l. CanLeave (state (first_of d) l c.saturating_add-self.result) x) same left)

pub invariant_of-self-else-not-note : goal.invariant_of-self-else-not-note
invariant_of-self-else-not-note c =
    let d = c.args.self.now in
    let le : d.moment ≤ c.saturating_add-self.result = omega arith in
    let good = good_noted (image_of d) (image_of d) (first_of d) (first_of d) d.entries.items d.moment c.saturating_add-self.result c.note.new.entries.items Synced
    (held d) le refl (c.if-not-note.ensures.noted refl) d.shown d.small in
    record { in_time = good.in_time; few = d.few; first_few = d.first_few; small = good.small; shown = good.shown; left = good.left; whole = good.whole }

pub returns-clause-durable : goal.returns-clause-durable
returns-clause-durable c = λ x left.
    let d = c.args.self.now in
    let le : d.moment ≤ c.saturating_add-self.result = omega arith in
    let new = noted_state (image_of d) (image_of d) (first_of d) (first_of d) d.entries.items d.moment c.saturating_add-self.result c.note.new.entries.items Synced
    (held d) le refl (c.if-not-note.ensures.noted refl) in
    let seen = (state_at d d.moment).shown in
    settled_only seen x (subst (λ i. CanLeave (state_at d d.moment) i) d.shown d.left).image (subst (λ (s : State). CanLeave s x) new left) ∙ sym d.shown

pub returns-clause-stop : goal.returns-clause-stop
returns-clause-stop c = λ x left.
    let d = c.args.self.now in
    let le : d.moment ≤ c.saturating_add-self.result = omega arith in
    let new = noted_state (image_of d) (image_of d) (first_of d) (first_of d) d.entries.items d.moment c.saturating_add-self.result c.note.new.entries.items Synced
    (held d) le refl (c.if-not-note.ensures.noted refl) in
    let seen = (state_at d d.moment).shown in
    let shown = subst (λ i. CanLeave (state_at d d.moment) i) d.shown d.left in
    let is = settled_only seen x shown.image (subst (λ (s : State). CanLeave s x) new left) in
    subst (λ i. CanLeave (state_at d d.moment) i) (sym is) shown

pub returns-clause-time : goal.returns-clause-time
returns-clause-time c =
    let d = c.args.self.now in
    let fits : d.moment ≤ last_count = omega arith in
    let next : c.saturating_add-self.result ≡ next_count d.moment = omega arith in
    noted_time (image_of d) (image_of d) (first_of d) (first_of d) d.entries.items d.moment c.saturating_add-self.result c.note.new.entries.items Synced
    refl (c.if-not-note.ensures.noted refl) fits next
