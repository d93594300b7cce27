use Rattle.std.proofs.Common.{◌≡◌, ◌∙◌, ◌<◌, ◌≤◌, ◌^◌, ◌-◌, ◌/◌, ⊎_elim, ℕ, length, get_or, ap, sym, subst, arith, refl, if◌then◌else◌}
use Rattle.ids_outside.specs.Counts.{last_count, next_count}
use Rattle.ids_outside.specs.Images.{pages_of, Torn, Written}
use Rattle.ids_outside.specs.Stops.{Follows, Elapses}
use Rattle.ids_outside.specs.MemoryDisk.{images, nine, put, state, State, CanLeave, CouldLeave}
use Rattle.ids_outside.specs.Held.{first_of, image_of, state_at}
use Rattle.ids_outside.specs.declared.record.Call.TheVariants.{Wrote, Tore}
use Rattle.ids_outside.proofs.Images.{same_image}
use Rattle.ids_outside.proofs.Overlays.{overlaid-same, length-overlaid, put-written}
use Rattle.ids_outside.proofs.Vectors.{wrote, first_kept}
use Rattle.ids_outside.proofs.States.{torn-follows}
use Rattle.ids_outside.proofs.Kept.{Good, either, good_same, same_state, same_time, good_noted, noted_state, noted_time}
use Rattle.ids_outside.proofs.Disks.{held}
use Rattle.ids_outside.proofs.mem_disk.MemDiskDisk.write_at.Goals as goal

pub invariant_of-self : goal.invariant_of-self
invariant_of-self c =
    let d = c.args.self.now in let x = image_of d in let f = first_of d in let es = d.entries.items in
    let later = c.saturating_add-self.result in
    let le : d.moment ≤ later = omega arith in
    let good : Good x f c.note.new.entries.items later = ⊎_elim
    (λ is. good_noted x x f f es d.moment later c.note.new.entries.items (Tore c.args.chunk c.args.offset (length c.args.bytes.now)) (held d) le refl is d.shown d.small)
    (λ same. subst (λ l. Good x f l later) (sym same) (good_same x x f f es d.moment later (held d) le refl refl))
    (either c.note.result c.note.ensures.noted c.note.ensures.refused) in
    record { in_time = good.in_time; few = d.few; first_few = d.first_few; small = good.small; shown = good.shown; left = good.left; whole = good.whole }

pub returns-then-next_fails-clause-stop : goal.returns-then-next_fails-clause-stop
returns-then-next_fails-clause-stop c =
    let d = c.args.self.now in let x = image_of d in let f = first_of d in let es = d.entries.items in
    let later = c.saturating_add-self.result in
    let n = length c.args.bytes.now in
    let le : d.moment ≤ later = omega arith in
    let s = state_at d d.moment in
    ⊎_elim
    (λ is y left. torn-follows s s.shown c.args.chunk c.args.offset n (λ j. refl) y
    (subst (λ (t : State). CanLeave t y) (noted_state x x f f es d.moment later c.note.new.entries.items (Tore c.args.chunk c.args.offset n) (held d) le refl is) left))
    (λ same y left. (
      y,
      subst (λ (t : State). CanLeave t y) (same_state x x f f es d.moment later (held d) le refl) (subst (λ l. CanLeave (state f l later) y) same left),
      same_image _ y,
    ))
    (either c.note.result c.note.ensures.noted c.note.ensures.refused)

pub returns-then-next_fails-clause-time : goal.returns-then-next_fails-clause-time
returns-then-next_fails-clause-time c =
    let d = c.args.self.now in let x = image_of d in let f = first_of d in let es = d.entries.items in
    let later = c.saturating_add-self.result in
    let fits : d.moment ≤ last_count = omega arith in
    let next : later ≡ next_count d.moment = omega arith in
    ⊎_elim
    (λ is. noted_time x x f f es d.moment later c.note.new.entries.items (Tore c.args.chunk c.args.offset (length c.args.bytes.now)) refl is fits next)
    (λ same. subst (λ l. Elapses d.moment later (CouldLeave f es d.moment) (CouldLeave f l later) (CanLeave (state f l later))) (sym same)
    (same_time x x f f es d.moment later (held d) refl fits next))
    (either c.note.result c.note.ensures.noted c.note.ensures.refused)

pub invariant_of-self-then-not-start : goal.invariant_of-self-then-not-start
invariant_of-self-then-not-start c =
    let d = c.args.self.now in
    let le : d.moment ≤ c.saturating_add-self.result = omega arith in
    let good = good_same (image_of d) _ (first_of d) _ d.entries.items d.moment c.saturating_add-self.result (held d) le c.start.ensures.same c.start.ensures.first in
    record { in_time = good.in_time; few = c.start.ensures.few; first_few = c.start.ensures.first_few; small = good.small; shown = good.shown; left = good.left; whole = good.whole }

pub returns-then-not-start-clause-stop : goal.returns-then-not-start-clause-stop
returns-then-not-start-clause-stop c = λ y left.
    let d = c.args.self.now in
    let le : d.moment ≤ c.saturating_add-self.result = omega arith in (
      y,
      subst (λ (t : State). CanLeave t y) (same_state (image_of d) (image_of d) (first_of d) _ d.entries.items d.moment c.saturating_add-self.result (held d) le c.start.ensures.first) left,
      same_image _ y,
    )

pub invariant_of-self-then-not-note_write : goal.invariant_of-self-then-not-note_write
invariant_of-self-then-not-note_write c =
    let d = c.args.self.now in
    let later = c.saturating_add-self.result in
    let le : d.moment ≤ later = omega arith in
    let same = c.if-not-note_write.ensures.refused refl in
    let good = subst (λ l. Good (nine (images c.start.new.image.items)) (nine (images (if c.start.new.started then c.start.new.first.items else c.start.new.image.items))) l later) (sym same)
    (good_same (image_of d) _ (first_of d) _ d.entries.items d.moment later (held d) le c.start.ensures.same c.start.ensures.first) in
    record { in_time = good.in_time; few = c.start.ensures.few; first_few = c.start.ensures.first_few; small = good.small; shown = good.shown; left = good.left; whole = good.whole }

pub returns-then-not-note_write-clause-stop : goal.returns-then-not-note_write-clause-stop
returns-then-not-note_write-clause-stop c = λ y left.
    let d = c.args.self.now in
    let later = c.saturating_add-self.result in
    let le : d.moment ≤ later = omega arith in
    let same = c.if-not-note_write.ensures.refused refl in (
      y,
      subst (λ (t : State). CanLeave t y) (same_state (image_of d) (image_of d) (first_of d) _ d.entries.items d.moment later (held d) le c.start.ensures.first)
          (subst (λ l. CanLeave (state (nine (images (if c.start.new.started then c.start.new.first.items else c.start.new.image.items))) l later) y) same left),
      same_image _ y,
    )

pub invariant_of-self-2 : goal.invariant_of-self-2
invariant_of-self-2 c =
    let d = c.args.self.now in
    let first = first_kept c.start.new.started c.start.new.first.items c.start.new.image.items c.write.new.image.items (first_of d) (c.if-not-start.ensures.on refl) c.start.ensures.first in
    let later = c.saturating_add-self.result in
    let le : d.moment ≤ later = omega arith in
    let bytes = c.args.bytes.now in let chunk = c.args.chunk in let at = c.args.offset in
    let note = c.if-not-note_write.ensures.noted refl in
    let seen = wrote c.start.new.image.items c.write.new.image.items (image_of d) chunk at bytes c.start.ensures.same (c.if-not-start.ensures.full refl) c.write.ensures in
    let good = good_noted (image_of d) _ (first_of d) (nine (images (if c.start.new.started then c.start.new.first.items else c.write.new.image.items))) d.entries.items d.moment later c.note_write.new.entries.items (Wrote chunk at note.0) (held d) le first note.2
    (seen.0 ∙ ap (λ i. put i chunk at bytes) d.shown ∙ ap (λ b. put (state_at d d.moment).shown chunk at b) (sym note.1))
    (λ j. subst (λ n. n < 2 ^ 32) (sym (ap (λ y. pages_of y j) seen.0 ∙ ap (λ n. n / 2048) (length-overlaid (image_of d) chunk at (length bytes) (λ i. get_or bytes (i - at) 0) j))) (d.small j)) in
    record { in_time = good.in_time; few = omega (arith, seen.1); first_few = c.start.ensures.first_few; small = good.small; shown = good.shown; left = good.left; whole = good.whole }

pub returns-clause-written : goal.returns-clause-written
returns-clause-written c =
    let d = c.args.self.now in
    let bytes = c.args.bytes.now in let chunk = c.args.chunk in let at = c.args.offset in
    let seen = wrote c.start.new.image.items c.write.new.image.items (image_of d) chunk at bytes c.start.ensures.same (c.if-not-start.ensures.full refl) c.write.ensures in
    subst (λ y. Written chunk at bytes (image_of d) y) (sym seen.0)
    (put-written (image_of d) chunk at bytes (omega (arith, c.requires, d.left.image.pages chunk)))

pub returns-clause-torn : goal.returns-clause-torn
returns-clause-torn c =
    let d = c.args.self.now in
    let bytes = c.args.bytes.now in let chunk = c.args.chunk in let at = c.args.offset in
    let seen = wrote c.start.new.image.items c.write.new.image.items (image_of d) chunk at bytes c.start.ensures.same (c.if-not-start.ensures.full refl) c.write.ensures in
    subst (λ y. Torn chunk at (length bytes) (image_of d) y) (sym seen.0)
    (overlaid-same (image_of d) chunk at (length bytes) (λ i. get_or bytes (i - at) 0))

pub returns-clause-sizes : goal.returns-clause-sizes
returns-clause-sizes c = λ j.
    let d = c.args.self.now in
    let bytes = c.args.bytes.now in let chunk = c.args.chunk in let at = c.args.offset in
    let seen = wrote c.start.new.image.items c.write.new.image.items (image_of d) chunk at bytes c.start.ensures.same (c.if-not-start.ensures.full refl) c.write.ensures in
    ap (λ y. pages_of y j) seen.0 ∙ ap (λ n. n / 2048) (length-overlaid (image_of d) chunk at (length bytes) (λ i. get_or bytes (i - at) 0) j)

pub returns-clause-stop : goal.returns-clause-stop
returns-clause-stop c =
    let d = c.args.self.now in
    let first = first_kept c.start.new.started c.start.new.first.items c.start.new.image.items c.write.new.image.items (first_of d) (c.if-not-start.ensures.on refl) c.start.ensures.first in
    let later = c.saturating_add-self.result in
    let le : d.moment ≤ later = omega arith in
    let chunk = c.args.chunk in let at = c.args.offset in
    let note = c.if-not-note_write.ensures.noted refl in
    let s = state_at d d.moment in
    let copy = note.0.items in
    subst (λ (n : ℕ). Follows (Torn chunk at n) (CanLeave s) (CanLeave (state (nine (images (if c.start.new.started then c.start.new.first.items else c.write.new.image.items))) c.note_write.new.entries.items later))) (ap (λ l. length l) note.1)
    (λ y left. torn-follows s (put s.shown chunk at copy) chunk at (length copy) (length-overlaid s.shown chunk at (length copy) (λ i. get_or copy (i - at) 0)) y
    (subst (λ (t : State). CanLeave t y)
    (noted_state (image_of d) (image_of d) (first_of d) (nine (images (if c.start.new.started then c.start.new.first.items else c.write.new.image.items))) d.entries.items d.moment later c.note_write.new.entries.items (Wrote chunk at note.0) (held d) le first note.2) left))

pub returns-clause-time : goal.returns-clause-time
returns-clause-time c =
    let d = c.args.self.now in
    let first = first_kept c.start.new.started c.start.new.first.items c.start.new.image.items c.write.new.image.items (first_of d) (c.if-not-start.ensures.on refl) c.start.ensures.first in
    let later = c.saturating_add-self.result in
    let fits : d.moment ≤ last_count = omega arith in
    let next : later ≡ next_count d.moment = omega arith in
    let note = c.if-not-note_write.ensures.noted refl in
    noted_time (image_of d) (image_of d) (first_of d) (nine (images (if c.start.new.started then c.start.new.first.items else c.write.new.image.items))) d.entries.items d.moment later c.note_write.new.entries.items (Wrote c.args.chunk c.args.offset note.0) first note.2 fits next
