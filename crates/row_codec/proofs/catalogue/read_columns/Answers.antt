use Rattle.std.proofs.Common.{◌<◌, arith}
use Rattle.std.proofs.lemmas.List.{take_rest}
use Rattle.row_codec.specs.Catalogue.{columns_of}
use Rattle.row_codec.proofs.Columns.{too_many_columns, bad_column, columns_next, rest_long}
use Rattle.row_codec.proofs.catalogue.read_columns.Goals as goal

pub returns-then-count-gt16 : goal.returns-then-count-gt16
returns-then-count-gt16 c = too_many_columns c.args.count c.args.bytes.now c.if-count-gt16.true

pub returns-in_default : goal.returns-in_default
returns-in_default c = bad_column c.loop.columns c.args.count c.loop.counter c.loop.rest.now (columns_of c.args.count c.args.bytes.now) c.loop-test.true c.loop.invariant.read c.in_default.ensures

pub loop-preserved : goal.loop-preserved
loop-preserved c =
    let lt : c.loop.counter < 16 = omega (arith, c.loop-test.true, c.if-count-gt16.false) in
    record {
      long = rest_long c.loop.rest.now _ c.loop.counter (take_rest c.loop.rest.now 21) c.loop.invariant.long lt;
      read = columns_next c.loop.columns c.push.new.self c.args.count c.loop.counter c.loop.rest.now _ c.in-Some.column (columns_of c.args.count c.args.bytes.now) c.loop-test.true c.in-Some.ensures (take_rest c.loop.rest.now 21) c.in_ok-push.ensures.ok c.loop.invariant.read;
    }
