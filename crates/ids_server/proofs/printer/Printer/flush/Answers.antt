use Rattle.std.proofs.Common.{sym, subst}
use Rattle.ids_server.specs.Printing.{PrinterIsCaused}
use Rattle.ids_server.proofs.printer.Printer.flush.Goals as goal

pub returns-clause-caused : goal.returns-clause-caused
returns-clause-caused g c = λ first h. c.bring-self-inside.ensures.caused first (subst (λ p. PrinterIsCaused g.K.Sink.fault_count p first) (sym c.self.view_is) h)
