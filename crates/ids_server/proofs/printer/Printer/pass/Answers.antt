use Rattle.std.proofs.Common.{◌∙◌, sym, ap, subst}
use Rattle.ids_server.specs.Printing.{IsFront, PrinterCarries, PrinterIsCaused}
use Rattle.ids_server.proofs.Carrying.{carries-passed}
use Rattle.ids_server.proofs.printer.Printer.pass.Goals as goal

pub returns : goal.returns
returns g c = record {
  grows = subst (λ p. g.K.Sink.tells → IsFront (g.K.Sink.taken p.sink) (g.K.Sink.taken c.bring-self-inside.new.sink)) c.self.view_is c.bring-self-inside.ensures.grows;
  carries = λ text h. carries-passed g.K.Sink.tells (g.K.Sink.taken c.self.inside.sink) _ _ _ c.self.inside.failed _
      (ap (λ p. p.gathered) c.self.view_is ∙ c.requires.empty) c.bring-self-inside.ensures.carries text
      (subst (λ p. PrinterCarries g.K.Sink.tells g.K.Sink.taken p text) (sym c.self.view_is) h);
  caused = λ first h. c.bring-self-inside.ensures.caused first (subst (λ p. PrinterIsCaused g.K.Sink.fault_count p first) (sym c.self.view_is) h);
}
