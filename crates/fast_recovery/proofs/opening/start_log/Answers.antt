use Rattle.std.proofs.Common.{sym, subst, []}
use Rattle.ids_outside.specs.Images.{Image}
use Rattle.log_files.specs.Log.{EndsWhole}
use Rattle.log_files.specs.Files.{Files, IsRead, Clears}
use Rattle.fast_recovery.specs.KeptLog.{tail_entries}
use Rattle.fast_recovery.proofs.LogTails.{log_clears}
use Rattle.fast_recovery.specs.Images.{log_region}
use Rattle.fast_recovery.specs.Opening.{files_from}
use Rattle.fast_recovery.proofs.Keeping.{is-read, same-log}
use Rattle.fast_recovery.proofs.opening.start_log.Goals as goal

pub clear_rest-requires : goal.clear_rest-requires
clear_rest-requires g c =
    let d = g.D.Disk in let old = c.args.disk.now in
    subst (λ (f : Files). IsRead d f old) (sym c.files_of-files.ensures)
    (is-read d d.tells c.args.layout.now c.args.next old c.requires.ranges c.requires.lies c.requires.settled
    (λ x left. g.met.D.Disk.left_tells old (d.now old) x (g.met.D.Disk.counts_now old x left)) c.requires.held c.requires.ends)

pub returns-in_err-clear_rest-clause-any_moment : goal.returns-in_err-clear_rest-clause-any_moment
returns-in_err-clear_rest-clause-any_moment g c =
    let d = g.D.Disk in let old = c.args.disk.now in let l = c.args.layout.now in let f = files_from l c.args.next in
    let whole : (x : Image) → d.can_leave old x → EndsWhole (log_region l) 1 x = λ x left.
    subst (λ (y : Image). EndsWhole (log_region l) 1 y) (sym (c.requires.settled x left)) (c.requires.whole (g.met.D.Disk.left_tells old (d.now old) x (g.met.D.Disk.counts_now old x left))) in
    c.seen_as.ensures c.files_of-files.result f old c.clear_rest.new.disk c.clear_rest.ensures.any_moment (λ x y left clears.
    let here : Clears f x y = subst (λ (t : Files). Clears t x y) c.files_of-files.ensures clears in
    log_clears f x (tail_entries f.region f.first x) [] x y c.requires.from (same-log f x (whole x left)) here)

pub returns-clause-any_moment : goal.returns-clause-any_moment
returns-clause-any_moment g c =
    let d = g.D.Disk in let old = c.args.disk.now in let l = c.args.layout.now in let f = files_from l c.args.next in
    let whole : (x : Image) → d.can_leave old x → EndsWhole (log_region l) 1 x = λ x left.
    subst (λ (y : Image). EndsWhole (log_region l) 1 y) (sym (c.requires.settled x left)) (c.requires.whole (g.met.D.Disk.left_tells old (d.now old) x (g.met.D.Disk.counts_now old x left))) in
    c.seen_as.ensures c.files_of-files.result f old c.clear_rest.new.disk c.clear_rest.ensures.any_moment (λ x y left clears.
    let here : Clears f x y = subst (λ (t : Files). Clears t x y) c.files_of-files.ensures clears in
    log_clears f x (tail_entries f.region f.first x) [] x y c.requires.from (same-log f x (whole x left)) here)

pub returns-in_err-buffer-clause-any_moment : goal.returns-in_err-buffer-clause-any_moment
returns-in_err-buffer-clause-any_moment g c =
    let d = g.D.Disk in let old = c.args.disk.now in let l = c.args.layout.now in let f = files_from l c.args.next in
    let whole : (x : Image) → d.can_leave old x → EndsWhole (log_region l) 1 x = λ x left.
    subst (λ (y : Image). EndsWhole (log_region l) 1 y) (sym (c.requires.settled x left)) (c.requires.whole (g.met.D.Disk.left_tells old (d.now old) x (g.met.D.Disk.counts_now old x left))) in
    c.started.ensures f old (λ x left. same-log f x (whole x left))
