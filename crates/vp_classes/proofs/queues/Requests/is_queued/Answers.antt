use Rattle.std.proofs.Common.{◌∙◌, sym, ap}
use Rattle.vp_classes.specs.Asked.{Asked, is_queued, queue, taker}
use Rattle.vp_classes.proofs.Queueing.{taker-mark}
use Rattle.vp_classes.proofs.queues.Requests.is_queued.Goals as goal

pub returns : goal.returns
returns c =
    let r = c.args.request in
    c.get.ensures ∙ sym (taker-mark c.self.inside r c.self.invariant) ∙ ap (λ (a : Asked). is_queued r (queue a (taker r))) c.self.view_is
