use Rattle.std.proofs.Common.{◌∙◌, refl, sym, ap}
use Rattle.std.specs.FinMap.{empty}
use Rattle.ids_server.specs.Serving.{has_checked}
use Rattle.ids_server.proofs.Told.{scripts_are_run}
use Rattle.ids_server.proofs.Refused.{runs_none}
use Rattle.ids_server.proofs.server.run_source.Goals as goal

pub returns-in-Err-Source-clause-ran : goal.returns-in-Err-Source-clause-ran
returns-in-Err-Source-clause-ran g c =
    let d = g.D.Disk in let left = g.S.Source.left c.args.source.now in (
      empty,
      left,
      λ t. refl,
      runs_none d.tells d.now d.image d.can_leave d.left_at g.met.D.Disk.only_now g.met.D.Disk.no_later c.served_at_start.ensures left c.args.disk.now _ _ _ c.nothing.ensures.journal c.nothing.ensures.given
          (ap has_checked c.nothing.ensures.status) (λ byte why told. let never = sym c.nothing.ensures.status ∙ told in cc),
    )

pub returns-in-Err-TooLong-clause-ran : goal.returns-in-Err-TooLong-clause-ran
returns-in-Err-TooLong-clause-ran g c =
    let d = g.D.Disk in let left = g.S.Source.left c.args.source.now in (
      empty,
      left,
      λ t. refl,
      runs_none d.tells d.now d.image d.can_leave d.left_at g.met.D.Disk.only_now g.met.D.Disk.no_later c.served_at_start.ensures left c.args.disk.now _ _ _ c.nothing-in-Err-TooLong.ensures.journal c.nothing-in-Err-TooLong.ensures.given
          (ap has_checked c.nothing-in-Err-TooLong.ensures.status) (λ byte why told. let never = sym c.nothing-in-Err-TooLong.ensures.status ∙ told in cc),
    )

pub returns-in-Err-Memory-clause-ran : goal.returns-in-Err-Memory-clause-ran
returns-in-Err-Memory-clause-ran g c =
    let d = g.D.Disk in let left = g.S.Source.left c.args.source.now in (
      empty,
      left,
      λ t. refl,
      runs_none d.tells d.now d.image d.can_leave d.left_at g.met.D.Disk.only_now g.met.D.Disk.no_later c.served_at_start.ensures left c.args.disk.now _ _ _ c.nothing-in-Err-Memory.ensures.journal c.nothing-in-Err-Memory.ensures.given
          (ap has_checked c.nothing-in-Err-Memory.ensures.status) (λ byte why told. let never = sym c.nothing-in-Err-Memory.ensures.status ∙ told in cc),
    )

pub returns-in-Ok-clause-own : goal.returns-in-Ok-clause-own
returns-in-Ok-clause-own g c = scripts_are_run c.check_and_run.result.status c.check_and_run.ensures.own
