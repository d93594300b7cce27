use Rattle.std.proofs.Common.{◌<◌, ◌∙◌, ◌↔◌, ℕ, List, IsTrue, map, ap, sym, subst, is_some}
use Rattle.thread_queues.specs.declared.event.Sleeper.{Sleeper}
use Rattle.thread_queues.specs.Placed.{Placed, times, sleeper_of}
use Rattle.thread_queues.specs.Slotted.{queue_at}
use Rattle.thread_queues.specs.Shown.{sleeper}
use Rattle.thread_queues.proofs.Placing.{found-counted, sleepers-threads}
use Rattle.thread_queues.proofs.places.Threads.sleeps.Goals as goal

pub returns : goal.returns
returns c =
    let ws = queue_at c.self.inside.slots 5 in
    found-counted (λ (s : Sleeper). s.thread) c.args.thread (map sleeper ws) c.stands.result (subst (λ (ts : List ℕ). IsTrue c.stands.result ↔ (0 < times c.args.thread ts)) (sym (sleepers-threads ws)) c.stands.ensures)
    ∙ ap (λ (x : Placed). is_some (sleeper_of x c.args.thread)) c.self.view_is
