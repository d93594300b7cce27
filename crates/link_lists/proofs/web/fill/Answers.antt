use Rattle.std.proofs.Common.{arith}
use Rattle.link_lists.proofs.Filled.{all-filled}
use Rattle.link_lists.proofs.web.fill.Goals as goal

pub returns-clause-each : goal.returns-clause-each
returns-clause-each c = λ key lt.
    let same = c.loop-nodes.invariant.capacity in
    let far = c.loop-nodes-test.false in
    let len = c.len.ensures in
    let room = c.capacity.ensures.value in
    let slots = c.capacity.ensures.slots in
    all-filled c.loop-nodes.nodes.slots (omega (arith, len, room, slots, far)) key (omega (arith, same, len, room, slots, far, lt))
