use Rattle.std.proofs.Common.{◌≡◌, inl, inr, ◌≤◌, ◌+◌, ◌*◌, ℕ, true, [], ◌++◌, length, Option, Some, None, rules, arith, sym, subst, ap, ◌∙◌, refl}
use Rattle.std.specs.FinMap.{empty}
use Rattle.ids_outside.specs.Images.{Image}
use Rattle.ids_outside.specs.Stops.{Only}
use Rattle.chunk_map.specs.declared.layout.Layout.{Layout}
use Rattle.chunk_map.specs.Formatted.{HasLayout}
use Rattle.chunk_map.specs.Layouts.{IsLayout}
use Rattle.log_files.specs.Log.{body_at, EndsWhole}
use Rattle.log_files.specs.Files.{Files, all_free, taken}
use Rattle.fast_recovery.specs.KeptLog.{KeepsLog}
use Rattle.ids_model.specs.Recovered.{State, nothing, run}
use Rattle.ids_model.specs.Tables.{Tables}
use Rattle.fast_recovery.specs.Images.{log_region, log_in, page_count, Recovers}
use Rattle.fast_recovery.specs.Order.{open_in, closing}
use Rattle.fast_recovery.specs.InPlace.{all_in_place}
use Rattle.fast_recovery.specs.Paged.{IsPaged}
use Rattle.fast_recovery.specs.PagedStates.{IsPagedState}
use Rattle.fast_recovery.specs.Rising.{all_rise, greatest_in}
use Rattle.fast_recovery.specs.LogRead.{OpenCause}
use Rattle.fast_recovery.specs.RowDamaged.{RowsFault}
use Rattle.fast_recovery.specs.Opening.{buffer_blocks, files_from, KeepsTables, WasFormatted, IsWant, ClosingFault, IsRefusal}
use Rattle.fast_recovery.proofs.BlocksRead.{length-held}
use Rattle.fast_recovery.proofs.Accepted.{accepted, want-accepted, closing-accepted}
use Rattle.fast_recovery.proofs.Causes.{closing-cause, rows-cause, is-formatted}
use Rattle.fast_recovery.proofs.Paging.{paged-closing}
use Rattle.fast_recovery.proofs.Results.{err-goes-up, disk-fault, not-failed, at-err}
use Rattle.fast_recovery.proofs.Keeping.{limit-is, same-since, keeps-cleared}
use Rattle.fast_recovery.proofs.Stopping.{each-since, stays-for, read-tables}
use Rattle.fast_recovery.proofs.EmptyBase.{Laws}
use Rattle.fast_recovery.proofs.SeenTables.{closed-standing, keeps-tables}
use Rattle.fast_recovery.proofs.opening.open_log.Goals as goal

pub start_log-requires-clause-held : goal.start_log-requires-clause-held
start_log-requires-clause-held g c = λ tells b from below.
    let was = (c.in_ok-layout.ensures.found tells).read.held b from below in
    (was.0, ap (λ (y : Image). body_at (log_region c.in_ok-layout.layout) b y) c.read_disk.ensures.same ∙ was.1)

pub returns-in_err-layout-clause-any_moment : goal.returns-in_err-layout-clause-any_moment
returns-in_err-layout-clause-any_moment g c =
    let d = g.D.Disk in let old = c.args.disk.now in let mid = c.read_disk.new.disk in
    stays-for d.now d.image d.can_leave d.left_at old mid _ _ (disk-fault c.from_residual.result c.in_err-layout.field-0.0 c.from_residual.ensures.1)
    (read-tables d.now d.image d.can_leave d.left_at g.met.D.Disk.no_later g.met.D.Disk.only_now old mid _ c.read_disk.ensures.any_moment c.in_err-layout.ensures.behind)

pub returns-in_err-layout-clause-was_formatted : goal.returns-in_err-layout-clause-was_formatted
returns-in_err-layout-clause-was_formatted g c =
    let base = g.D.Disk.image c.args.disk.now in
    err-goes-up c.from_residual.result _ (λ e. g.D.Disk.tells → WasFormatted base e) c.from_residual.ensures.1 (λ e is tells.
    let same : e ≡ c.in_err-layout.field-0.0 = is in
    subst (λ k. WasFormatted base k) (sym same) (c.in_err-layout.ensures.was_formatted tells))

pub returns-in_err-note_end-clause-any_moment : goal.returns-in_err-note_end-clause-any_moment
returns-in_err-note_end-clause-any_moment g c =
    let d = g.D.Disk in let old = c.args.disk.now in let mid = c.read_disk.new.disk in
    read-tables d.now d.image d.can_leave d.left_at g.met.D.Disk.no_later g.met.D.Disk.only_now old mid _ c.read_disk.ensures.any_moment
    (inl (not-failed _ _ c.in_ok-layout.ensures.behind))

pub returns-in_err-note_end-clause-was_formatted : goal.returns-in_err-note_end-clause-was_formatted
returns-in_err-note_end-clause-was_formatted g c =
    at-err c.from_residual-in_err-note_end.result _ (λ e tells. is-formatted (g.D.Disk.image c.args.disk.now) e (c.in_ok-layout.ensures.formatted tells))

pub returns-in_err-found-clause-any_moment : goal.returns-in_err-found-clause-any_moment
returns-in_err-found-clause-any_moment g c =
    let d = g.D.Disk in let old = c.args.disk.now in let mid = c.read_disk.new.disk in
    read-tables d.now d.image d.can_leave d.left_at g.met.D.Disk.no_later g.met.D.Disk.only_now old mid _ c.read_disk.ensures.any_moment
    (inl (not-failed _ _ c.in_ok-layout.ensures.behind))

pub returns-in_err-found-clause-was_formatted : goal.returns-in_err-found-clause-was_formatted
returns-in_err-found-clause-was_formatted g c =
    at-err c.from_residual-in_err-found.result _ (λ e tells. is-formatted (g.D.Disk.image c.args.disk.now) e (c.in_ok-layout.ensures.formatted tells))

pub returns-in_err-found-clause-fault : goal.returns-in_err-found-clause-fault
returns-in_err-found-clause-fault g c =
    let base = g.D.Disk.image c.args.disk.now in let l = c.in_ok-layout.layout in let p = c.in_ok-layout.past in
    err-goes-up c.from_residual-in_err-found.result _ (λ e. g.D.Disk.tells → OpenCause base e) c.from_residual-in_err-found.ensures.1 (λ e is tells.
    let same : e ≡ c.in_err-found.field-0.0 = is in
    let found = c.in_ok-layout.ensures.found tells in
    subst (λ k. OpenCause base k) (sym same)
    (rows-cause base l p c.in_err-found.field-0.0 found.layout found.read.after
    (c.runs_join.ensures nothing (log_in l base) (closing p.open_tx))
    (subst (λ (s : State). RowsFault s c.in_err-found.field-0.0) c.in_ok-note_end.ensures c.in_err-found.ensures.fault)))

pub returns-in_err-files-clause-any_moment : goal.returns-in_err-files-clause-any_moment
returns-in_err-files-clause-any_moment g c = λ room.
    let d = g.D.Disk in let old = c.args.disk.now in let base = d.image old in let l = c.in_ok-layout.layout in let p = c.in_ok-layout.past in
    let mid = c.read_disk.new.disk in let new = c.start_log.new.disk in let f = files_from l p.next in
    each-since d.now d.image d.can_leave d.left_at old new _ (λ m y. KeepsTables base y) (λ m y since left.
    let laws : Laws = record { apart = c.apart.ensures.blocks; pages = c.same_pages.ensures.apart; newest = c.same_pages.ensures.newest } in
    let settled : Only base (d.can_leave mid) = subst (λ (w : Image). Only w (d.can_leave mid)) c.read_disk.ensures.same c.in_ok-layout.ensures.settled in
    let found = c.in_ok-layout.ensures.found (g.met.D.Disk.left_tells new m y left) in
    let same = same-since d g.met.D.Disk.no_later g.met.D.Disk.only_now old mid new f found.read.whole c.read_disk.ensures.any_moment (not-failed _ _ c.in_ok-layout.ensures.behind) settled
    c.start_log.ensures.any_moment room m y since left in
    keeps-tables c.runs_join.ensures c.rollbacks_are_seen.ensures laws c.one_of_each.ensures.layout l f p.open_tx [] (closing p.open_tx) base y
    refl refl found.layout found.read.after.order refl same)

pub returns-in_err-close_log-clause-any_moment : goal.returns-in_err-close_log-clause-any_moment
returns-in_err-close_log-clause-any_moment g c = λ room.
    let d = g.D.Disk in let old = c.args.disk.now in let base = d.image old in let l = c.in_ok-layout.layout in let p = c.in_ok-layout.past in
    let mid = c.read_disk.new.disk in let start = c.start_log.new.disk in let new = c.close_log.new.disk in
    each-since d.now d.image d.can_leave d.left_at old new _ (λ m y. KeepsTables base y) (λ m y since left.
    let laws : Laws = record { apart = c.apart.ensures.blocks; pages = c.same_pages.ensures.apart; newest = c.same_pages.ensures.newest } in
    let settled : Only base (d.can_leave mid) = subst (λ (w : Image). Only w (d.can_leave mid)) c.read_disk.ensures.same c.in_ok-layout.ensures.settled in
    let keeps = keeps-cleared d g.met.D.Disk.no_later g.met.D.Disk.only_now old mid start l p.next c.in_ok-files.files c.in_ok-files.buffer buffer_blocks m
    c.in_ok-files.ensures.files c.in_ok-files.ensures.buffer c.in_ok-files.ensures.ready (λ m y left. (c.in_ok-layout.ensures.found (g.met.D.Disk.left_tells start m y left)).read.whole) c.read_disk.ensures.any_moment (not-failed _ _ c.in_ok-layout.ensures.behind) settled c.start_log.ensures.any_moment
    since in
    let found = c.in_ok-layout.ensures.found (g.met.D.Disk.left_tells new m y left) in
    let was = c.in_err-close_log.ensures.outlives m base (log_in l base) keeps room m y (let same : m ≤ m = omega arith in same) left in
    keeps-tables c.runs_join.ensures c.rollbacks_are_seen.ensures laws c.one_of_each.ensures.layout l c.in_ok-files.files p.open_tx was.front was.rest base y
    (ap (λ (t : Files). t.region) c.in_ok-files.ensures.files) (ap (λ (t : Files). t.first) c.in_ok-files.ensures.files) found.layout found.read.after.order was.parts was.log)

pub returns-in_err-files-clause-was_formatted : goal.returns-in_err-files-clause-was_formatted
returns-in_err-files-clause-was_formatted g c =
    at-err c.from_residual-in_err-files.result _ (λ e tells. is-formatted (g.D.Disk.image c.args.disk.now) e (c.in_ok-layout.ensures.formatted tells))

pub returns-in_err-close_log-clause-was_formatted : goal.returns-in_err-close_log-clause-was_formatted
returns-in_err-close_log-clause-was_formatted g c =
    at-err c.from_residual-in_err-close_log.result _ (λ e tells. is-formatted (g.D.Disk.image c.args.disk.now) e (c.in_ok-layout.ensures.formatted tells))

pub returns-in_err-close_log-clause-fault : goal.returns-in_err-close_log-clause-fault
returns-in_err-close_log-clause-fault g c =
    let base = g.D.Disk.image c.args.disk.now in let l = c.in_ok-layout.layout in let p = c.in_ok-layout.past in
    err-goes-up c.from_residual-in_err-close_log.result _ (λ e. g.D.Disk.tells → OpenCause base e) c.from_residual-in_err-close_log.ensures.1 (λ e is tells.
    let same : e ≡ c.in_err-close_log.field-0.0 = is in
    let found = c.in_ok-layout.ensures.found tells in
    subst (λ k. OpenCause base k) (sym same) (closing-cause base _ c.in_err-close_log.field-0.0 (λ full.
    let next : p.next ≡ 1 + l.logs * l.log_size =
    sym (ap (λ (t : Files). t.next) c.in_ok-files.ensures.files) ∙ full.2 ∙ ap (λ (t : Files). t.limit) c.in_ok-files.ensures.files ∙ limit-is l p.next c.in_ok-layout.ensures.to in
    record {
      layout = l;
      has = found.layout;
      tx = full.0;
      standing = found.read.after.order ∙ ap (λ (o : Option ℕ). Some o) full.1;
      in_place = found.read.after.places;
      rising = found.read.after.rising;
      taken = length-held (log_region l) base 1 (l.logs * l.log_size) (λ q from below. found.read.held q from (omega (arith, below, next)));
    }) c.in_err-close_log.ensures.fault))

pub returns-clause-opened : goal.returns-clause-opened
returns-clause-opened g c = λ tells.
    let base = g.D.Disk.image c.args.disk.now in let l = c.in_ok-layout.layout in let p = c.in_ok-layout.past in
    let found = c.in_ok-layout.ensures.found tells in let after = found.read.after in let close = c.in_ok-close_log.ensures in
    record {
      layout = subst (λ (k : Layout). HasLayout k base) (sym close.layout) found.layout;
      newest = found.newest;
      last = p.open_tx;
      in_order = ap (λ (k : Layout). open_in None (log_in k base)) close.layout ∙ after.order;
      in_place = subst (λ (k : Layout). all_in_place (page_count k) empty (log_in k base) ≡ true) (sym close.layout) after.places;
      rising = subst (λ (k : Layout). all_rise 0 (log_in k base) ≡ true) (sym close.layout) after.rising;
      replay = close.replay ∙ c.in_ok-note_end.ensures ∙ ap (λ (s : State). run s (closing p.open_tx)) after.replay ∙ sym (c.runs_join.ensures nothing (log_in l base) (closing p.open_tx))
          ∙ ap (λ (k : Layout). run nothing (log_in k base ++ closing p.open_tx)) (sym close.layout);
      greatest = close.last_tx ∙ after.greatest ∙ ap (λ (k : Layout). greatest_in (log_in k base)) (sym close.layout);
    }

pub returns-clause-paged : goal.returns-clause-paged
returns-clause-paged g c =
    let close = c.in_ok-close_log.ensures in let l = c.in_ok-layout.layout in let p = c.in_ok-layout.past in
    let paged : IsPagedState (page_count l) c.close_log.new.opened.replay =
    subst (λ (s : State). IsPagedState (page_count l) s) (sym (close.replay ∙ c.in_ok-note_end.ensures)) (paged-closing (page_count l) p.replay p.open_tx c.in_ok-layout.ensures.paged) in
    subst (λ (k : Layout). IsPaged (page_count k) c.close_log.new.opened.replay.own c.close_log.new.opened.replay.slots) (sym close.layout) paged.stands

pub returns-clause-ready : goal.returns-clause-ready
returns-clause-ready g c =
    let d = g.D.Disk in let old = c.args.disk.now in let base = d.image old in let l = c.in_ok-layout.layout in let p = c.in_ok-layout.past in
    let mid = c.read_disk.new.disk in let start = c.start_log.new.disk in
    let settled : Only base (d.can_leave mid) = subst (λ (w : Image). Only w (d.can_leave mid)) c.read_disk.ensures.same c.in_ok-layout.ensures.settled in
    let keeps = keeps-cleared d g.met.D.Disk.no_later g.met.D.Disk.only_now old mid start l p.next c.in_ok-files.files c.in_ok-files.buffer buffer_blocks (d.now old + 1)
    c.in_ok-files.ensures.files c.in_ok-files.ensures.buffer c.in_ok-files.ensures.ready (λ m y left. (c.in_ok-layout.ensures.found (g.met.D.Disk.left_tells start m y left)).read.whole) c.read_disk.ensures.any_moment (not-failed _ _ c.in_ok-layout.ensures.behind) settled c.start_log.ensures.any_moment (inr (omega arith)) in
    (c.in_ok-close_log.ensures.keeps (d.now old + 1) base (log_in l base) keeps).1.ready

pub returns-clause-keeps : goal.returns-clause-keeps
returns-clause-keeps g c = λ tells since is.
    let d = g.D.Disk in let old = c.args.disk.now in let base = d.image old in let l = c.in_ok-layout.layout in let p = c.in_ok-layout.past in
    let mid = c.read_disk.new.disk in let start = c.start_log.new.disk in let new = c.close_log.new.disk in
    let o = c.close_log.new.opened in
    let settled : Only base (d.can_leave mid) = subst (λ (w : Image). Only w (d.can_leave mid)) c.read_disk.ensures.same c.in_ok-layout.ensures.settled in
    let kept = c.in_ok-close_log.ensures.keeps since base (log_in l base)
    (keeps-cleared d g.met.D.Disk.no_later g.met.D.Disk.only_now old mid start l p.next c.in_ok-files.files c.in_ok-files.buffer buffer_blocks since
    c.in_ok-files.ensures.files c.in_ok-files.ensures.buffer c.in_ok-files.ensures.ready (λ m y left. (c.in_ok-layout.ensures.found (g.met.D.Disk.left_tells start m y left)).read.whole) c.read_disk.ensures.any_moment (not-failed _ _ c.in_ok-layout.ensures.behind) settled c.start_log.ensures.any_moment is) in
    let found = c.in_ok-layout.ensures.found tells in let lay = c.in_ok-close_log.ensures.layout in
    record {
      last = p.open_tx;
      in_order = ap (λ (k : Layout). open_in None (log_in k base)) lay ∙ found.read.after.order;
      marks = kept.0;
      keeps = subst (λ (k : Layout). KeepsLog d since base (log_in k base) (closing p.open_tx) kept.0 o.files o.buffer new) (sym lay) kept.1;
    }

pub returns-clause-any_moment : goal.returns-clause-any_moment
returns-clause-any_moment g c = λ room.
    let d = g.D.Disk in let old = c.args.disk.now in let base = d.image old in let l = c.in_ok-layout.layout in let p = c.in_ok-layout.past in
    let mid = c.read_disk.new.disk in let start = c.start_log.new.disk in let new = c.close_log.new.disk in
    let o = c.close_log.new.opened in
    each-since d.now d.image d.can_leave d.left_at old new _ (λ m y. KeepsTables base y) (λ m y since left.
    let laws : Laws = record { apart = c.apart.ensures.blocks; pages = c.same_pages.ensures.apart; newest = c.same_pages.ensures.newest } in
    let settled : Only base (d.can_leave mid) = subst (λ (w : Image). Only w (d.can_leave mid)) c.read_disk.ensures.same c.in_ok-layout.ensures.settled in
    let keeps = keeps-cleared d g.met.D.Disk.no_later g.met.D.Disk.only_now old mid start l p.next c.in_ok-files.files c.in_ok-files.buffer buffer_blocks m
    c.in_ok-files.ensures.files c.in_ok-files.ensures.buffer c.in_ok-files.ensures.ready (λ m y left. (c.in_ok-layout.ensures.found (g.met.D.Disk.left_tells start m y left)).read.whole) c.read_disk.ensures.any_moment (not-failed _ _ c.in_ok-layout.ensures.behind) settled c.start_log.ensures.any_moment
    since in
    let found = c.in_ok-layout.ensures.found (g.met.D.Disk.left_tells new m y left) in
    let was = (c.in_ok-close_log.ensures.keeps m base (log_in l base) keeps).1.outlives room m y (let same : m ≤ m = omega arith in same) left in
    let files = c.in_ok-close_log.ensures.files in
    keeps-tables c.runs_join.ensures c.rollbacks_are_seen.ensures laws c.one_of_each.ensures.layout l o.files p.open_tx was.front was.rest base y
    (ap (λ (t : Files). t.region) files ∙ ap (λ (t : Files). t.region) c.in_ok-files.ensures.files)
    (ap (λ (t : Files). t.first) files ∙ ap (λ (t : Files). t.first) c.in_ok-files.ensures.files) found.layout found.read.after.order was.parts was.log)

pub returns-in_err-layout-clause-accepts : goal.returns-in_err-layout-clause-accepts
returns-in_err-layout-clause-accepts g c =
    let base = g.D.Disk.image c.args.disk.now in let fault = c.in_err-layout.field-0.0 in
    err-goes-up c.from_residual.result _ (λ e. g.D.Disk.tells → (T : Tables) → Recovers base T → ¬ IsRefusal e) c.from_residual.ensures.1 (λ e is tells T recovers.
    let same : e ≡ fault = is in
    accepted c.runs_join.ensures c.rollbacks_are_seen.ensures (record { layout = c.one_of_each.ensures.layout; newest = c.one_of_each.ensures.newest }) base T e recovers (subst (OpenCause base) (sym same) (c.in_err-layout.ensures.fault tells)))

pub returns-in_err-files-clause-accepts : goal.returns-in_err-files-clause-accepts
returns-in_err-files-clause-accepts g c =
    let base = g.D.Disk.image c.args.disk.now in let fault = c.in_err-files.field-0.0 in
    err-goes-up c.from_residual-in_err-files.result _ (λ e. g.D.Disk.tells → (T : Tables) → Recovers base T → ¬ IsRefusal e) c.from_residual-in_err-files.ensures.1 (λ e is tells T recovers.
    let same : e ≡ fault = is in
    want-accepted e (subst IsWant (sym same) c.in_err-files.ensures.fault))

pub returns-in_err-close_log-clause-accepts : goal.returns-in_err-close_log-clause-accepts
returns-in_err-close_log-clause-accepts g c =
    let base = g.D.Disk.image c.args.disk.now in let fault = c.in_err-close_log.field-0.0 in
    err-goes-up c.from_residual-in_err-close_log.result _ (λ e. g.D.Disk.tells → (T : Tables) → Recovers base T → ¬ IsRefusal e) c.from_residual-in_err-close_log.ensures.1 (λ e is tells T recovers.
    let same : e ≡ fault = is in
    closing-accepted _ e (subst (ClosingFault _) (sym same) c.in_err-close_log.ensures.fault))

pub returns-in_err-found-clause-accepts : goal.returns-in_err-found-clause-accepts
returns-in_err-found-clause-accepts g c =
    let base = g.D.Disk.image c.args.disk.now in let l = c.in_ok-layout.layout in let p = c.in_ok-layout.past in
    err-goes-up c.from_residual-in_err-found.result _ (λ e. g.D.Disk.tells → (T : Tables) → Recovers base T → ¬ IsRefusal e) c.from_residual-in_err-found.ensures.1 (λ e is tells T recovers.
    let same : e ≡ c.in_err-found.field-0.0 = is in
    let found = c.in_ok-layout.ensures.found tells in
    accepted c.runs_join.ensures c.rollbacks_are_seen.ensures (record { layout = c.one_of_each.ensures.layout; newest = c.one_of_each.ensures.newest }) base T e recovers
    (subst (OpenCause base) (sym same)
    (rows-cause base l p c.in_err-found.field-0.0 found.layout found.read.after
    (c.runs_join.ensures nothing (log_in l base) (closing p.open_tx))
    (subst (λ (s : State). RowsFault s c.in_err-found.field-0.0) c.in_ok-note_end.ensures c.in_err-found.ensures.fault))))

pub start_log-requires-clause-whole : goal.start_log-requires-clause-whole
start_log-requires-clause-whole g c = λ tells.
    subst (λ (y : Image). EndsWhole (log_region c.in_ok-layout.layout) 1 y) (sym c.read_disk.ensures.same) (c.in_ok-layout.ensures.found tells).read.whole

pub returns-in_err-close_log-clause-sizes : goal.returns-in_err-close_log-clause-sizes
returns-in_err-close_log-clause-sizes g c = λ j. c.close_log.ensures.sizes j ∙ c.start_log.ensures.sizes j ∙ c.read_disk.ensures.sizes j

pub returns-clause-sizes : goal.returns-clause-sizes
returns-clause-sizes g c = λ j. c.close_log.ensures.sizes j ∙ c.start_log.ensures.sizes j ∙ c.read_disk.ensures.sizes j

pub returns-clause-in_order : goal.returns-clause-in_order
returns-clause-in_order g c =
    let l = c.in_ok-layout.layout in let p = c.in_ok-layout.past in let close = c.in_ok-close_log.ensures in let lay : l ≡ c.close_log.new.opened.layout = sym close.layout in
    let n : ℕ = length (closing p.open_tx) in
    let files : c.close_log.new.opened.files ≡ taken (all_free (files_from l p.next)) n = close.files ∙ ap (λ (f : Files). taken f n) c.in_ok-files.ensures.files in
    record {
      layout = subst (λ (k : Layout). IsLayout k) lay c.in_ok-layout.ensures.in_range;
      region = ap (λ (f : Files). f.region) files ∙ ap (λ (k : Layout). log_region k) lay;
      file_blocks = ap (λ (f : Files). f.file_blocks) files ∙ ap (λ (k : Layout). k.log_size) lay;
      first = ap (λ (f : Files). f.first) files;
      limit = ap (λ (f : Files). f.limit) files ∙ limit-is l p.next c.in_ok-layout.ensures.to ∙ ap (λ (k : Layout). 1 + k.logs * k.log_size) lay;
      buffer = close.buffer;
      quiet = ap (λ (s : State). s.standing) (close.replay ∙ c.in_ok-note_end.ensures) ∙ closed-standing c.runs_join.ensures c.rollbacks_are_seen.ensures p.replay p.open_tx c.in_ok-layout.ensures.alone;
      found = search rules;
    }
