use Rattle.std.proofs.Common.{◌^◌, sym, arith}
use Rattle.std.specs.Int.{w16}
use Rattle.log_records.proofs.Numbers.{wide16, number_takes}
use Rattle.log_records.proofs.NameLoops.{checkpoint_is, are_lying}
use Rattle.log_records.proofs.reading.checkpoint.Goals as goal

pub returns : goal.returns
returns c = sym (checkpoint_is c.args.bytes.now c.in_ok-count.count c.in_ok-count.names.now c.in_ok-rest.rest.now (sym c.in_ok-count.ensures) c.if-count-gt-MOST_NAMED.false (sym c.in_ok-rest.ensures))

pub invariant_of-named : goal.invariant_of-named
invariant_of-named c =
    let n = c.in_ok-count in
    let fits = (number_takes w16 (2 ^ 16) wide16 c.args.bytes.now n.count n.names.now (λ i. omega (arith, c.type_inv.bytes i)) (sym n.ensures)).0.fits in
    are_lying n.count n.names.now c.in_ok-rest.rest.now fits c.if-count-gt-MOST_NAMED.false (sym c.in_ok-rest.ensures)
