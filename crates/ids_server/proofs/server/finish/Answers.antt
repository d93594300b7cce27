use Rattle.std.proofs.Common.{◌≡◌, ◌∙◌, sym, ap, subst, ◌++◌, ◌⊎◌}
use Rattle.ids_outside.specs.Counts.{Rose}
use Rattle.ids_server.specs.Printing.{TakesPart}
use Rattle.ids_server.specs.Lines.{status_line}
use Rattle.ids_server.proofs.Carrying.{puts-flushed, ends-behind, ends-whole}
use Rattle.ids_server.proofs.server.finish.Goals as goal
use Rattle.ids_server.proofs.server.finish.Goals.{then-not-has_failed, else-not-has_failed}

pub returns-clause-behind : goal.returns-clause-behind
returns-clause-behind g c = λ before carried sound t. elim c.if-not-has_failed.branch [
  | then-not-has_failed w ↦
      subst (λ s. TakesPart before (g.K.Sink.taken s) (status_line c.args.status.now)) (sym (c.into_sink.ensures ∙ ap (λ p. p.sink) w.printer-is))
      (ends-behind {faults = g.K.Sink.fault_count} c.args.printer w.flush.new.self before (status_line c.args.status.now) c.requires.clean
      (puts-flushed _ _ _ _ w.put_status.ensures w.flush.ensures.grows w.flush.ensures.carries w.flush.ensures.caused) carried sound t)
  | else-not-has_failed w ↦ cc (w.if-not-has_failed.false, c.has_failed.ensures, sound)
]

pub returns-clause-whole : goal.returns-clause-whole
returns-clause-whole g c = λ before first carried caused sound t. elim c.if-not-has_failed.branch [
  | then-not-has_failed w ↦
      subst (λ s. (g.K.Sink.taken s ≡ before ++ status_line c.args.status.now) ⊎ Rose first (g.K.Sink.fault_count s)) (sym (c.into_sink.ensures ∙ ap (λ p. p.sink) w.printer-is))
      (ends-whole c.args.printer w.flush.new.self before (status_line c.args.status.now) first w.flush.ensures.empty
      (puts-flushed _ _ _ _ w.put_status.ensures w.flush.ensures.grows w.flush.ensures.carries w.flush.ensures.caused) carried caused t)
  | else-not-has_failed w ↦ cc (w.if-not-has_failed.false, c.has_failed.ensures, sound)
]
