use Rattle.std.proofs.Common.{◌/◌, arith}
use Rattle.table_space.proofs.MarkTrees.{power-half, below-none, mark-not, next-left, next-right, next-none, left-fits, right-fits}
use Rattle.table_space.proofs.marks.+next_below.Goals as goal

pub returns-then-not-has : goal.returns-then-not-has
returns-then-not-has t c = λ p low lt.
    below-none c.args.nodes.now c.args.mark c.requires.law c.requires.width.of c.args.node c.args.width c.requires.width.is c.requires.some c.requires.within
    (mark-not _ c.args.mark c.has.result c.has.ensures c.if-not-has.true) p lt

pub next_below-requires : goal.next_below-requires
next_below-requires t c =
    let p = power-half c.args.width c.requires.width c.if-width-eq1.false in
    (omega (arith, c.decreases, p.1, p.2), (c.requires.mark, (p.0, (omega (arith, c.requires.some), (left-fits c.args.nodes.now c.args.mark c.args.node c.args.width (c.args.width / 2) c.args.from p.1 c.requires.within, c.requires.law)))))

pub next_below-requires-in-None : goal.next_below-requires-in-None
next_below-requires-in-None t c =
    let p = power-half c.args.width c.requires.width c.if-width-eq1.false in
    (omega (arith, c.decreases, p.1, p.2), (c.requires.mark, (p.0, (omega (arith, c.requires.some), (right-fits c.args.nodes.now c.args.mark c.args.node c.args.width (c.args.width / 2) c.args.from p.1 c.requires.within, c.requires.law)))))

pub returns-in-Some : goal.returns-in-Some
returns-in-Some t c =
    let p = power-half c.args.width c.requires.width c.if-width-eq1.false in
    next-left c.args.nodes.now c.args.mark c.args.node c.args.width (c.args.width / 2) c.args.from p.1 c.in-Some.place c.in-Some.ensures

pub returns-in-Some-next_below : goal.returns-in-Some-next_below
returns-in-Some-next_below t c =
    let p = power-half c.args.width c.requires.width c.if-width-eq1.false in
    next-right c.args.nodes.now c.args.mark c.args.node c.args.width (c.args.width / 2) c.args.from p.1 c.in-Some-next_below.place c.in-None.ensures (rw c.saturating_sub.ensures at c.in-Some-next_below.ensures)

pub returns-in-None-next_below : goal.returns-in-None-next_below
returns-in-None-next_below t c =
    let p = power-half c.args.width c.requires.width c.if-width-eq1.false in
    next-none c.args.nodes.now c.args.mark c.args.node c.args.width (c.args.width / 2) c.args.from p.1 c.in-None.ensures (rw c.saturating_sub.ensures at c.in-None-next_below.ensures)
