use Rattle.std.proofs.Common.{◌≡◌, ◌∙◌, ◌<◌, ◌≤◌, ◌^◌, ◌/◌, ℕ, length, take, ap, sym, subst, arith, refl, if◌then◌else◌}
use Rattle.std.proofs.lemmas.List.{take_at}
use Rattle.ids_outside.specs.Counts.{last_count, next_count}
use Rattle.ids_outside.specs.Images.{Image, chunk_of, pages_of, Grown, Extended}
use Rattle.ids_outside.specs.Stops.{Elapses}
use Rattle.ids_outside.specs.MemoryDisk.{images, nine, extended, state, State, CanLeave, CouldLeave}
use Rattle.ids_outside.specs.Held.{first_of, image_of, state_at}
use Rattle.ids_outside.specs.declared.record.Call.TheVariants.{Grew}
use Rattle.ids_outside.proofs.Extensions.{grown_same, extended-done, extended-grown, length-extended, other-extended, longer-extended, small-extended, pages_enough, pages_rise}
use Rattle.ids_outside.proofs.Vectors.{grew, first_kept}
use Rattle.ids_outside.proofs.States.{grown-follows}
use Rattle.ids_outside.proofs.Kept.{Good, good_same, same_state, same_time, good_noted, noted_state, noted_time}
use Rattle.ids_outside.proofs.Disks.{held}
use Rattle.ids_outside.proofs.mem_disk.MemDiskDisk.grow.Goals as goal

pub invariant_of-self : goal.invariant_of-self
invariant_of-self c =
    let d = c.args.self.now in
    let le : d.moment ≤ c.saturating_add-self.result = omega arith in
    let good = good_same (image_of d) (image_of d) (first_of d) (first_of d) d.entries.items d.moment c.saturating_add-self.result (held d) le refl refl in
    record { in_time = good.in_time; few = d.few; first_few = d.first_few; small = good.small; shown = good.shown; left = good.left; whole = good.whole }

pub returns-then-next_fails-clause-stop : goal.returns-then-next_fails-clause-stop
returns-then-next_fails-clause-stop c = λ y left.
    let d = c.args.self.now in
    let le : d.moment ≤ c.saturating_add-self.result = omega arith in
    (y, subst (λ (t : State). CanLeave t y) (same_state (image_of d) (image_of d) (first_of d) (first_of d) d.entries.items d.moment c.saturating_add-self.result (held d) le refl) left, grown_same c.args.chunk c.args.pages y)

pub invariant_of-self-then-chunk-ge-CHUNKS : goal.invariant_of-self-then-chunk-ge-CHUNKS
invariant_of-self-then-chunk-ge-CHUNKS c =
    let d = c.args.self.now in
    let le : d.moment ≤ c.saturating_add-self.result = omega arith in
    let good = good_same (image_of d) (image_of d) (first_of d) (first_of d) d.entries.items d.moment c.saturating_add-self.result (held d) le refl refl in
    record { in_time = good.in_time; few = d.few; first_few = d.first_few; small = good.small; shown = good.shown; left = good.left; whole = good.whole }

pub returns-then-chunk-ge-CHUNKS-clause-stop : goal.returns-then-chunk-ge-CHUNKS-clause-stop
returns-then-chunk-ge-CHUNKS-clause-stop c = λ y left.
    let d = c.args.self.now in
    let le : d.moment ≤ c.saturating_add-self.result = omega arith in
    (y, subst (λ (t : State). CanLeave t y) (same_state (image_of d) (image_of d) (first_of d) (first_of d) d.entries.items d.moment c.saturating_add-self.result (held d) le refl) left, grown_same c.args.chunk c.args.pages y)

pub invariant_of-self-then-not-start : goal.invariant_of-self-then-not-start
invariant_of-self-then-not-start c =
    let d = c.args.self.now in
    let le : d.moment ≤ c.saturating_add-self.result = omega arith in
    let good = good_same (image_of d) _ (first_of d) _ d.entries.items d.moment c.saturating_add-self.result (held d) le c.start.ensures.same c.start.ensures.first in
    record { in_time = good.in_time; few = c.start.ensures.few; first_few = c.start.ensures.first_few; small = good.small; shown = good.shown; left = good.left; whole = good.whole }

pub returns-then-not-start-clause-stop : goal.returns-then-not-start-clause-stop
returns-then-not-start-clause-stop c = λ y left.
    let d = c.args.self.now in
    let le : d.moment ≤ c.saturating_add-self.result = omega arith in
    (y, subst (λ (t : State). CanLeave t y) (same_state (image_of d) (image_of d) (first_of d) _ d.entries.items d.moment c.saturating_add-self.result (held d) le c.start.ensures.first) left, grown_same c.args.chunk c.args.pages y)

pub invariant_of-self-then-not-note : goal.invariant_of-self-then-not-note
invariant_of-self-then-not-note c =
    let d = c.args.self.now in
    let later = c.saturating_add-self.result in
    let le : d.moment ≤ later = omega arith in
    let good = subst (λ l. Good (nine (images c.start.new.image.items)) (nine (images (if c.start.new.started then c.start.new.first.items else c.start.new.image.items))) l later) (sym (c.if-not-note.ensures.refused refl))
    (good_same (image_of d) _ (first_of d) _ d.entries.items d.moment later (held d) le c.start.ensures.same c.start.ensures.first) in
    record { in_time = good.in_time; few = c.start.ensures.few; first_few = c.start.ensures.first_few; small = good.small; shown = good.shown; left = good.left; whole = good.whole }

pub returns-then-not-note-clause-stop : goal.returns-then-not-note-clause-stop
returns-then-not-note-clause-stop c = λ y left.
    let d = c.args.self.now in
    let later = c.saturating_add-self.result in
    let le : d.moment ≤ later = omega arith in (
      y,
      subst (λ (t : State). CanLeave t y) (same_state (image_of d) (image_of d) (first_of d) _ d.entries.items d.moment later (held d) le c.start.ensures.first)
          (subst (λ l. CanLeave (state (nine (images (if c.start.new.started then c.start.new.first.items else c.start.new.image.items))) l later) y) (c.if-not-note.ensures.refused refl) left),
      grown_same c.args.chunk c.args.pages y,
    )

pub invariant_of-self-in-Ok : goal.invariant_of-self-in-Ok
invariant_of-self-in-Ok c =
    let d = c.args.self.now in
    let later = c.saturating_add-self.result in
    let le : d.moment ≤ later = omega arith in
    let first = first_kept c.start.new.started c.start.new.first.items c.start.new.image.items c.extend.new.image.items (first_of d) (c.if-not-start.ensures.on refl) c.start.ensures.first in
    let seen = grew c.start.new.image.items c.extend.new.image.items (image_of d) c.args.chunk c.args.pages c.start.ensures.same (c.if-not-start.ensures.full refl) c.in-Ok.ensures.done in
    let good = good_noted (image_of d) (nine (images c.extend.new.image.items)) (first_of d) (nine (images (if c.start.new.started then c.start.new.first.items else c.extend.new.image.items))) d.entries.items d.moment later c.note.new.entries.items (Grew c.args.chunk c.args.pages) (held d) le first (c.if-not-note.ensures.noted refl)
    (seen.0 ∙ ap (λ i. extended i c.args.chunk c.args.pages 0) d.shown)
    (subst (λ (y : Image). (j : ℕ) → pages_of y j < 2 ^ 32) (sym seen.0) (small-extended (image_of d) c.args.chunk c.args.pages (2 ^ 32) d.left.image d.small c.ranges.pages.fits)) in
    record { in_time = good.in_time; few = omega (arith, seen.1); first_few = c.start.ensures.first_few; small = good.small; shown = good.shown; left = good.left; whole = good.whole }

pub returns-in-Ok-clause-grown : goal.returns-in-Ok-clause-grown
returns-in-Ok-clause-grown c =
    let d = c.args.self.now in
    let seen = grew c.start.new.image.items c.extend.new.image.items (image_of d) c.args.chunk c.args.pages c.start.ensures.same (c.if-not-start.ensures.full refl) c.in-Ok.ensures.done in
    let there : c.args.chunk < length (image_of d) = omega (arith, c.if-chunk-ge-CHUNKS.false, d.left.image.chunks) in
    subst (λ y. Extended c.args.chunk c.args.pages (image_of d) y) (sym seen.0) (extended-done (image_of d) c.args.chunk c.args.pages there)

pub returns-in-Ok-clause-torn : goal.returns-in-Ok-clause-torn
returns-in-Ok-clause-torn c =
    let d = c.args.self.now in
    let seen = grew c.start.new.image.items c.extend.new.image.items (image_of d) c.args.chunk c.args.pages c.start.ensures.same (c.if-not-start.ensures.full refl) c.in-Ok.ensures.done in
    let there : c.args.chunk < length (image_of d) = omega (arith, c.if-chunk-ge-CHUNKS.false, d.left.image.chunks) in
    subst (λ y. Grown c.args.chunk c.args.pages (image_of d) y) (sym seen.0) (extended-grown (image_of d) c.args.chunk c.args.pages d.left.image there)

pub returns-in-Ok-clause-long : goal.returns-in-Ok-clause-long
returns-in-Ok-clause-long c =
    let d = c.args.self.now in
    let seen = grew c.start.new.image.items c.extend.new.image.items (image_of d) c.args.chunk c.args.pages c.start.ensures.same (c.if-not-start.ensures.full refl) c.in-Ok.ensures.done in
    let there : c.args.chunk < length (image_of d) = omega (arith, c.if-chunk-ge-CHUNKS.false, d.left.image.chunks) in
    subst (λ y. c.args.pages ≤ pages_of y c.args.chunk) (sym seen.0) (pages_enough (length (chunk_of (image_of d) c.args.chunk)) c.args.pages _ (length-extended (image_of d) c.args.chunk c.args.pages 0 there))

pub returns-in-Ok-clause-no_shorter : goal.returns-in-Ok-clause-no_shorter
returns-in-Ok-clause-no_shorter c = λ j.
    let d = c.args.self.now in
    let seen = grew c.start.new.image.items c.extend.new.image.items (image_of d) c.args.chunk c.args.pages c.start.ensures.same (c.if-not-start.ensures.full refl) c.in-Ok.ensures.done in
    subst (λ y. pages_of (image_of d) j ≤ pages_of y j) (sym seen.0) (pages_rise (length (chunk_of (image_of d) j)) _ (longer-extended (image_of d) c.args.chunk c.args.pages 0 j))

pub returns-in-Ok-clause-others : goal.returns-in-Ok-clause-others
returns-in-Ok-clause-others c = λ j other.
    let d = c.args.self.now in
    let seen = grew c.start.new.image.items c.extend.new.image.items (image_of d) c.args.chunk c.args.pages c.start.ensures.same (c.if-not-start.ensures.full refl) c.in-Ok.ensures.done in
    ap (λ y. pages_of y j) seen.0 ∙ ap (λ l. length l / 2048) (other-extended (image_of d) c.args.chunk c.args.pages 0 j other)

pub returns-in-Ok-clause-stop : goal.returns-in-Ok-clause-stop
returns-in-Ok-clause-stop c = λ y left.
    let d = c.args.self.now in
    let later = c.saturating_add-self.result in
    let le : d.moment ≤ later = omega arith in
    let first = first_kept c.start.new.started c.start.new.first.items c.start.new.image.items c.extend.new.image.items (first_of d) (c.if-not-start.ensures.on refl) c.start.ensures.first in
    let s = state_at d d.moment in
    let there : c.args.chunk < 9 = omega (arith, c.if-chunk-ge-CHUNKS.false) in
    grown-follows s c.args.chunk c.args.pages (subst (λ i. CanLeave s i) d.shown d.left) there y
    (subst (λ (t : State). CanLeave t y)
    (noted_state (image_of d) (image_of d) (first_of d) (nine (images (if c.start.new.started then c.start.new.first.items else c.extend.new.image.items))) d.entries.items d.moment later c.note.new.entries.items (Grew c.args.chunk c.args.pages) (held d) le first (c.if-not-note.ensures.noted refl)) left)

pub returns-in-Ok-clause-time : goal.returns-in-Ok-clause-time
returns-in-Ok-clause-time c =
    let d = c.args.self.now in
    let later = c.saturating_add-self.result in
    let first = first_kept c.start.new.started c.start.new.first.items c.start.new.image.items c.extend.new.image.items (first_of d) (c.if-not-start.ensures.on refl) c.start.ensures.first in
    let fits : d.moment ≤ last_count = omega arith in
    let next : later ≡ next_count d.moment = omega arith in
    noted_time (image_of d) (image_of d) (first_of d) (nine (images (if c.start.new.started then c.start.new.first.items else c.extend.new.image.items))) d.entries.items d.moment later c.note.new.entries.items (Grew c.args.chunk c.args.pages) first (c.if-not-note.ensures.noted refl) fits next

pub invariant_of-self-in-Err : goal.invariant_of-self-in-Err
invariant_of-self-in-Err c =
    let d = c.args.self.now in
    let later = c.saturating_add-self.result in
    let le : d.moment ≤ later = omega arith in
    let first = first_kept c.start.new.started c.start.new.first.items c.start.new.image.items c.extend.new.image.items (first_of d) (c.if-not-start.ensures.on refl) c.start.ensures.first in
    let back = c.truncate.ensures.items ∙ ap (λ l. take c.len-count.result l) (c.if-not-note.ensures.noted refl) ∙ take_at d.entries.items _ c.len-count.result (omega (arith, c.len-count.ensures, d.entries.ok.0)) in
    let same = ap nine c.in-Err.ensures.refused ∙ c.start.ensures.same in
    let good = subst (λ l. Good (nine (images c.extend.new.image.items)) (nine (images (if c.start.new.started then c.start.new.first.items else c.extend.new.image.items))) l later) (sym back)
    (good_same (image_of d) (nine (images c.extend.new.image.items)) (first_of d) (nine (images (if c.start.new.started then c.start.new.first.items else c.extend.new.image.items))) d.entries.items d.moment later (held d) le same first) in
    record { in_time = good.in_time; few = omega (arith, c.in-Err.ensures.count, c.start.ensures.few); first_few = c.start.ensures.first_few; small = good.small; shown = good.shown; left = good.left; whole = good.whole }

pub returns-in-Err-clause-stop : goal.returns-in-Err-clause-stop
returns-in-Err-clause-stop c = λ y left.
    let d = c.args.self.now in
    let later = c.saturating_add-self.result in
    let le : d.moment ≤ later = omega arith in
    let first = first_kept c.start.new.started c.start.new.first.items c.start.new.image.items c.extend.new.image.items (first_of d) (c.if-not-start.ensures.on refl) c.start.ensures.first in
    let back = c.truncate.ensures.items ∙ ap (λ l. take c.len-count.result l) (c.if-not-note.ensures.noted refl) ∙ take_at d.entries.items _ c.len-count.result (omega (arith, c.len-count.ensures, d.entries.ok.0)) in (
      y,
      subst (λ (t : State). CanLeave t y) (same_state (image_of d) (image_of d) (first_of d) (nine (images (if c.start.new.started then c.start.new.first.items else c.extend.new.image.items))) d.entries.items d.moment later (held d) le first)
          (subst (λ l. CanLeave (state (nine (images (if c.start.new.started then c.start.new.first.items else c.extend.new.image.items))) l later) y) back left),
      grown_same c.args.chunk c.args.pages y,
    )

pub returns-in-Err-clause-time : goal.returns-in-Err-clause-time
returns-in-Err-clause-time c =
    let d = c.args.self.now in
    let later = c.saturating_add-self.result in
    let first = first_kept c.start.new.started c.start.new.first.items c.start.new.image.items c.extend.new.image.items (first_of d) (c.if-not-start.ensures.on refl) c.start.ensures.first in
    let back = c.truncate.ensures.items ∙ ap (λ l. take c.len-count.result l) (c.if-not-note.ensures.noted refl) ∙ take_at d.entries.items _ c.len-count.result (omega (arith, c.len-count.ensures, d.entries.ok.0)) in
    let fits : d.moment ≤ last_count = omega arith in
    let next : later ≡ next_count d.moment = omega arith in
    subst (λ l. Elapses d.moment later (CouldLeave (first_of d) d.entries.items d.moment) (CouldLeave (nine (images (if c.start.new.started then c.start.new.first.items else c.extend.new.image.items))) l later) (CanLeave (state (nine (images (if c.start.new.started then c.start.new.first.items else c.extend.new.image.items))) l later))) (sym back)
    (same_time (image_of d) (image_of d) (first_of d) (nine (images (if c.start.new.started then c.start.new.first.items else c.extend.new.image.items))) d.entries.items d.moment later (held d) first fits next)
