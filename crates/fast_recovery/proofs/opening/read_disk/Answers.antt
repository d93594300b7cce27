use Rattle.std.proofs.Common.{inl, inr, refl, ◌∙◌}
use Rattle.fast_recovery.specs.declared.fault.OpenFault.TheVariants.{Disk}
use Rattle.fast_recovery.proofs.Results.{was-err}
use Rattle.fast_recovery.proofs.Stopping.{behind-opening, failed-sync}
use Rattle.fast_recovery.proofs.opening.read_disk.Goals as goal

pub returns-clause-any_moment : goal.returns-clause-any_moment
returns-clause-any_moment g c =
    let old = c.args.disk.now in let synced = c.sync.new.self in let mid = c.read_layout.new.disk in let new = c.read_log.new.disk in
    let first = c.stays.ensures tt old old synced (c.started.ensures tt old (λ x left. refl)) c.sync.ensures.time c.sync.ensures.stop in
    let second = c.then.ensures tt tt tt old synced mid first c.read_layout.ensures.any_moment (λ d y left one. one) (λ d e y left one left_e two. two ∙ one) in
    c.then.ensures tt tt tt old mid new second c.read_log.ensures.any_moment (λ d y left one. one) (λ d e y left one left_e two. two ∙ one)

pub returns-in_err-sync-clause-behind : goal.returns-in_err-sync-clause-behind
returns-in_err-sync-clause-behind g c =
    let d = g.D.Disk in (inr (
      was-err c.from_residual.result Disk c.from_residual.ensures.1,
      failed-sync d.now d.image d.can_leave d.left_at g.met.D.Disk.no_later g.met.D.Disk.only_now c.args.disk.now c.sync.new.self c.sync.ensures.time c.sync.ensures.stop c.sync.ensures.same,
    ))

pub returns-in_err-layout-clause-behind : goal.returns-in_err-layout-clause-behind
returns-in_err-layout-clause-behind g c =
    let d = g.D.Disk in
    inl (behind-opening d.now d.image d.can_leave d.left_at g.met.D.Disk.no_later g.met.D.Disk.only_now c.args.disk.now c.sync.new.self c.read_layout.new.disk
    c.sync.ensures.time c.sync.ensures.same c.in_ok-sync.ensures.durable c.read_layout.ensures.any_moment)

pub returns-in_err-past-clause-behind : goal.returns-in_err-past-clause-behind
returns-in_err-past-clause-behind g c =
    let d = g.D.Disk in
    inl (behind-opening d.now d.image d.can_leave d.left_at g.met.D.Disk.no_later g.met.D.Disk.only_now c.args.disk.now c.sync.new.self c.read_log.new.disk
    c.sync.ensures.time c.sync.ensures.same c.in_ok-sync.ensures.durable
    (c.then.ensures tt tt tt c.sync.new.self c.read_layout.new.disk c.read_log.new.disk c.read_layout.ensures.any_moment c.read_log.ensures.any_moment
    (λ d y left one. one) (λ d e y left one left_e two. two ∙ one)))

pub returns-clause-behind : goal.returns-clause-behind
returns-clause-behind g c =
    let d = g.D.Disk in
    inl (behind-opening d.now d.image d.can_leave d.left_at g.met.D.Disk.no_later g.met.D.Disk.only_now c.args.disk.now c.sync.new.self c.read_log.new.disk
    c.sync.ensures.time c.sync.ensures.same c.in_ok-sync.ensures.durable
    (c.then.ensures tt tt tt c.sync.new.self c.read_layout.new.disk c.read_log.new.disk c.read_layout.ensures.any_moment c.read_log.ensures.any_moment
    (λ d y left one. one) (λ d e y left one left_e two. two ∙ one)))
