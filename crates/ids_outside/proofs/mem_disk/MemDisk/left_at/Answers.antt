use Rattle.std.proofs.Common.{◌≡◌, ◌∙◌, ◌+◌, ◌<◌, ◌≤◌, length, get_or, drop, true, false, refl, sym, ap, subst, arith}
use Rattle.ids_outside.specs.Kinds.{calls_by, has_sync, left_by, is_next_second}
use Rattle.ids_outside.specs.MemoryDisk.{images}
use Rattle.ids_outside.specs.Held.{first_of}
use Rattle.ids_outside.specs.Remade.{is_synced}
use Rattle.ids_outside.proofs.Leaving.{Reached, reached_later, reached_more}
use Rattle.ids_outside.proofs.LeavingBy.{none_from, left_later, left_done, left_some}
use Rattle.ids_outside.proofs.mem_disk.MemDisk.left_at.Goals as goal
use Rattle.ids_outside.proofs.mem_disk.MemDisk.left_at.Goals.{then-entry-moment+then-i-synced+in_ok-remake, then-entry-moment+else-i-synced+in_ok-remake-2, else-entry-moment}

pub loop-i-preserved : goal.loop-i-preserved
loop-i-preserved c =
    let d = c.args.self.now in
    let entries = c.deref-entry-items.result.now in
    let m = c.args.moment in
    let leave = c.args.leave in
    let synced = c.synced_entries-synced.result in
    let i = c.loop-i.i in
    let second = c.loop-i.second in
    let e = c.entry-item.result in
    let x = images c.loop-i.image.items in
    let so_far = c.loop-i.invariant in
    let lt : i < length entries = omega (arith, c.loop-i-test.true) in
    let same = c.deref.ensures.value ∙ sym c.deref-entry-items.ensures.value in
    let here : get_or c.deref.result.now i e ≡ e = ap (λ l. get_or l i e) same ∙ sym c.entry-item.is in
    let lt_there : i < length c.deref.result.now = subst (λ l. i < length l) (sym same) lt in
    elim c.if-entry-moment.branch [
      | then-entry-moment+then-i-synced+in_ok-remake w ↦ (
          let made = w.in_ok-remake.ensures.new refl in
          let below = w.if-i-synced.true in
          let sync : has_sync (calls_by m (drop i entries)) ≡ true = subst (λ l. has_sync (calls_by m (drop i l)) ≡ true) same (c.synced_entries-synced.ensures.synced i below) in
          record {
            reached = subst (λ v. Reached (first_of d) entries m synced (i + 1) (images v.items)) (sym w.image-is)
                (reached_more (first_of d) entries m synced i e lt c.entry-item.is x (images w.remake.new.image.items) d.whole w.if-entry-moment.true w.in_ok-remake.ensures.some
                (λ before. made) (λ past. absurd (omega (arith, below, past))) so_far.reached);
            same = so_far.same;
            left = (λ t. left_by leave (w.second-is t) (calls_by m (drop (i + 1) entries)) (images (w.image-is t).items))
                ∙ ap (λ y. left_by leave second (calls_by m (drop (i + 1) entries)) y) made
                ∙ left_done leave second m entries i e x lt c.entry-item.is w.if-entry-moment.true sync ∙ so_far.left;
            no_second = λ le. w.second-is ∙ so_far.no_second (omega (arith, le));
          }
          )
      | then-entry-moment+else-i-synced+in_ok-remake-2 w ↦ (
          let past = w.if-i-synced.false in
          let none_at = c.synced_entries-synced.ensures.last in
          let none : has_sync (calls_by m (drop i entries)) ≡ false = subst (λ l. has_sync (calls_by m (drop i l)) ≡ false) same
          (none_from m c.deref.result.now i (λ j f le below early. none_at j f (omega (arith, past, le)) below early)) in
          record {
            reached = subst (λ v. Reached (first_of d) entries m synced (i + 1) (images v.items)) (sym w.image-is)
                (reached_more (first_of d) entries m synced i e lt c.entry-item.is x (images w.remake-else-i-synced.new.image.items) d.whole w.if-entry-moment.true w.in_ok-remake-2.ensures.some
                (λ below. absurd (omega (arith, below, past)))
                (λ from. subst (λ f. is_synced f.call ≡ false) here (none_at i e from lt_there (subst (λ f. f.moment ≤ m) (sym here) w.if-entry-moment.true)))
                so_far.reached);
            same = so_far.same;
            left = (λ t. left_by leave ((w.second-is ∙ w.is_next_second-second.ensures) t) (calls_by m (drop (i + 1) entries)) (images (w.image-is t).items))
                ∙ ap (λ y. left_by leave (is_next_second second e.call) (calls_by m (drop (i + 1) entries)) y) w.in_ok-remake-2.ensures.left
                ∙ left_some leave second m entries i e x lt c.entry-item.is w.if-entry-moment.true none ∙ so_far.left;
            no_second = λ le. absurd (omega (arith, le, past));
          }
          )
      | else-entry-moment w ↦ record {
        reached = subst (λ v. Reached (first_of d) entries m synced (i + 1) (images v.items)) (sym w.image-is)
            (reached_later (first_of d) entries m synced i e lt c.entry-item.is x w.if-entry-moment.false so_far.reached);
        same = so_far.same;
        left = (λ t. left_by leave (w.second-is t) (calls_by m (drop (i + 1) entries)) (images (w.image-is t).items))
            ∙ left_later leave second m entries i e x lt c.entry-item.is w.if-entry-moment.false ∙ so_far.left;
        no_second = λ le. w.second-is ∙ so_far.no_second (omega (arith, le));
      }
    ]
