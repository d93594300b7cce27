use Rattle.std.proofs.Common.{◌∙◌, ◌+◌, length, length-append, ap, [], ◌∷◌, arith}
use Rattle.ids_outside.proofs.Vectors.{nine-push}
use Rattle.ids_outside.proofs.chunks.pad.Goals as goal

pub loop-count-preserved : goal.loop-count-preserved
loop-count-preserved c =
    let pushed = c.in_ok-push.ensures.items in
    record {
      count = ap length pushed ∙ length-append c.loop-count.image.items (c.new.result ∷ []) ∙ ap (λ n. n + 1) c.loop-count.invariant.count;
      same = nine-push c.loop-count.image.items c.push.new.self.items c.new.result c.new.ensures.items (omega (arith, c.loop-count.invariant.count, c.loop-count-test.true)) pushed
          ∙ c.loop-count.invariant.same;
    }
