use Rattle.std.proofs.Common.{◌<◌, ◌≡◌, ◌+◌, ◌∙◌, length, ap, sym, arith, drop, length-drop}
use Rattle.mem_pools.specs.Linked.{Linked, list_at, poured, EachOnce}
use Rattle.mem_pools.proofs.Pouring.{length-poured, from-poured, poured-none, poured-more}
use Rattle.mem_pools.proofs.chains.Chains.pour.Goals as goal

pub shift-requires-clause-from_there : goal.shift-requires-clause-from_there
shift-requires-clause-from_there c =
    let kept = ap (λ (d : Linked). length d.lists) c.loop.invariant.so_far ∙ length-poured c.args.self.now c.args.from c.args.to c.loop.counter in
    omega (arith, kept, c.requires.from_there)

pub shift-requires-clause-to_there : goal.shift-requires-clause-to_there
shift-requires-clause-to_there c =
    let kept = ap (λ (d : Linked). length d.lists) c.loop.invariant.so_far ∙ length-poured c.args.self.now c.args.from c.args.to c.loop.counter in
    omega (arith, kept, c.requires.to_there)

pub shift-requires-clause-some : goal.shift-requires-clause-some
shift-requires-clause-some c =
    let left = ap (λ (d : Linked). length (list_at d c.args.from)) c.loop.invariant.so_far ∙ ap length (from-poured c.args.self.now c.args.from c.args.to c.loop.counter c.requires.from_there c.requires.apart) in
    omega (arith, left, length-drop c.loop.counter (list_at c.args.self.now c.args.from), c.loop-test.true, c.requires.some)

pub loop-init : goal.loop-init
loop-init c = record { so_far = sym (poured-none c.args.self.now c.args.from c.args.to); owned = c.requires.owned }

pub loop-preserved : goal.loop-preserved
loop-preserved c = record {
  so_far = c.shift.ensures.shifted ∙ ap (λ (d : Linked). poured d c.args.from c.args.to 1) c.loop.invariant.so_far ∙ poured-more c.args.self.now c.args.from c.args.to c.loop.counter c.requires.from_there c.requires.to_there c.requires.apart (omega (arith, c.loop-test.true, c.requires.some));
  owned = c.shift.ensures.owned;
}
