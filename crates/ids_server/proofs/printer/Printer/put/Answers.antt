use Rattle.std.proofs.Common.{refl, sym, subst, ◌++◌}
use Rattle.ids_server.specs.Printing.{IsFront, PrinterGrows, PrinterCarries, PrinterIsCaused}
use Rattle.ids_server.proofs.Carrying.{carries-more, front-self, front-front}
use Rattle.ids_server.proofs.printer.Printer.put.Goals as goal

pub returns-then-gather : goal.returns-then-gather
returns-then-gather g c = record {
  grows = λ t. subst (λ p. IsFront (g.K.Sink.taken c.args.self.now.sink) (g.K.Sink.taken p.sink)) (sym (c.if-gather.ensures.gathered refl)) (front-self (g.K.Sink.taken c.args.self.now.sink));
  carries = λ text h. subst (λ p. PrinterCarries g.K.Sink.tells g.K.Sink.taken p (text ++ c.args.bytes.now)) (sym (c.if-gather.ensures.gathered refl))
      (carries-more _ _ _ _ _ _ h);
  caused = λ first h. subst (λ p. PrinterIsCaused g.K.Sink.fault_count p first) (sym (c.if-gather.ensures.gathered refl)) h;
}

pub returns-then-not-gather : goal.returns-then-not-gather
returns-then-not-gather g c = record {
  grows = λ t. front-front (g.K.Sink.taken c.args.self.now.sink) (g.K.Sink.taken c.flush.new.self.sink) (g.K.Sink.taken c.pass.new.self.sink)
      (subst (λ p. PrinterGrows g.K.Sink.tells g.K.Sink.taken p c.flush.new.self) (c.if-gather.ensures.full refl) c.flush.ensures.grows t)
      (subst (λ p. PrinterGrows g.K.Sink.tells g.K.Sink.taken p c.pass.new.self) (c.if-not-gather.ensures.full refl) c.pass.ensures.grows t);
  carries = λ text h.
      c.pass.ensures.carries text (subst (λ p. PrinterCarries g.K.Sink.tells g.K.Sink.taken p text) (sym (c.if-not-gather.ensures.full refl))
      (c.flush.ensures.carries text (subst (λ p. PrinterCarries g.K.Sink.tells g.K.Sink.taken p text) (sym (c.if-gather.ensures.full refl)) h)));
  caused = λ first h.
      c.pass.ensures.caused first (subst (λ p. PrinterIsCaused g.K.Sink.fault_count p first) (sym (c.if-not-gather.ensures.full refl))
      (c.flush.ensures.caused first (subst (λ p. PrinterIsCaused g.K.Sink.fault_count p first) (sym (c.if-gather.ensures.full refl)) h)));
}

pub returns-else-not-gather : goal.returns-else-not-gather
returns-else-not-gather g c = record {
  grows = λ t. subst (λ p. IsFront (g.K.Sink.taken c.args.self.now.sink) (g.K.Sink.taken p.sink)) (sym (c.if-not-gather.ensures.gathered refl))
      (subst (λ p. PrinterGrows g.K.Sink.tells g.K.Sink.taken p c.flush.new.self) (c.if-gather.ensures.full refl) c.flush.ensures.grows t);
  carries = λ text h. subst (λ p. PrinterCarries g.K.Sink.tells g.K.Sink.taken p (text ++ c.args.bytes.now)) (sym (c.if-not-gather.ensures.gathered refl))
      (carries-more _ _ _ _ _ _
      (c.flush.ensures.carries text (subst (λ p. PrinterCarries g.K.Sink.tells g.K.Sink.taken p text) (sym (c.if-gather.ensures.full refl)) h)));
  caused = λ first h.
      subst (λ p. PrinterIsCaused g.K.Sink.fault_count p first) (sym (c.if-not-gather.ensures.gathered refl))
      (c.flush.ensures.caused first (subst (λ p. PrinterIsCaused g.K.Sink.fault_count p first) (sym (c.if-gather.ensures.full refl)) h));
}
