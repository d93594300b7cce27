use Rattle.std.proofs.Common.{◌≡◌, ◌∙◌, sym, ap, subst}
use Rattle.std.specs.FinMap.{empty}
use Rattle.ids_base.specs.declared.status.Status.TheVariants.{BadScript}
use Rattle.ids_base.specs.declared.status.Why.TheVariants.{Wrong}
use Rattle.sql_reader.specs.Lines.{IsBadAt}
use Rattle.sql_reader.specs.Checks.{MatchFault}
use Rattle.ids_server.specs.Serving.{has_checked}
use Rattle.ids_server.proofs.Refused.{runs_none}
use Rattle.ids_server.proofs.server.check_and_run.Goals as goal

pub returns-in-Ok-clause-ran : goal.returns-in-Ok-clause-ran
returns-in-Ok-clause-ran g c = c.run_script.ensures.ran c.args.bytes.items c.in-Ok.ensures.texts c.in-Ok.ensures.grammar

pub returns-in-Ok-clause-bad_script : goal.returns-in-Ok-clause-bad_script
returns-in-Ok-clause-bad_script g c = λ byte why bad. absurd (c.run_script.ensures.no_bad_script byte why bad)

pub returns-in-Err-Bad-clause-ran : goal.returns-in-Err-Bad-clause-ran
returns-in-Err-Bad-clause-ran g c =
    let d = g.D.Disk in (
      empty,
      runs_none d.tells d.now d.image d.can_leave d.left_at g.met.D.Disk.only_now g.met.D.Disk.no_later c.served_at_start.ensures c.args.bytes.items c.args.disk.now _ _ _ c.nothing.ensures.journal c.nothing.ensures.given
          (ap has_checked c.nothing.ensures.status) (λ byte why told.
          let is : BadScript c.in-Err-Bad.byte c.in-Err-Bad.why ≡ BadScript byte why = sym c.nothing.ensures.status ∙ told in
          let at : c.in-Err-Bad.byte ≡ byte = cc in
          let so : c.in-Err-Bad.why ≡ why = cc in
          let found : IsBadAt c.args.bytes.items c.in-Err-Bad.byte × (c.in-Err-Bad.why ≡ Wrong) =
          subst (MatchFault c.args.bytes.items) c.in-Err-Bad.field-0-is c.in-Err-Bad.ensures.bad in
          (subst (IsBadAt c.args.bytes.items) at found.0, sym so ∙ found.1)),
    )

pub returns-in-Err-Memory-clause-ran : goal.returns-in-Err-Memory-clause-ran
returns-in-Err-Memory-clause-ran g c =
    let d = g.D.Disk in (
      empty,
      runs_none d.tells d.now d.image d.can_leave d.left_at g.met.D.Disk.only_now g.met.D.Disk.no_later c.served_at_start.ensures c.args.bytes.items c.args.disk.now _ _ _ c.nothing-in-Err-Memory.ensures.journal c.nothing-in-Err-Memory.ensures.given
          (ap has_checked c.nothing-in-Err-Memory.ensures.status) (λ byte why told. let never = sym c.nothing-in-Err-Memory.ensures.status ∙ told in cc),
    )

pub returns-in-Ok-clause-untouched : goal.returns-in-Ok-clause-untouched
returns-in-Ok-clause-untouched g c = λ early. cc (early, c.run_script.ensures.looked)
