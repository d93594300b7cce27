use Rattle.std.proofs.Common.{None, sym}
use Rattle.log_records.specs.Naming.{named_of}
use Rattle.log_records.specs.Reading.{names_at}
use Rattle.log_records.proofs.NameLoops.{behind, names_go_on, names_stop, names_done}
use Rattle.log_records.proofs.reading.behind_names.Goals as goal

pub returns-in_default : goal.returns-in_default
returns-in_default c =
    sym (names_stop c.args.count c.loop.counter c.loop.last c.loop.rest.now (behind (names_at c.args.count None c.args.bytes.now)) c.loop-test.true (sym c.in_default.ensures) c.loop.invariant)

pub loop-preserved : goal.loop-preserved
loop-preserved c =
    names_go_on c.args.count c.loop.counter c.loop.last c.loop.rest.now (named_of c.in-Some.open_tx) c.in-Some.after.now (behind (names_at c.args.count None c.args.bytes.now)) c.loop-test.true (sym c.in-Some.ensures) c.loop.invariant

pub returns : goal.returns
returns c = sym (names_done c.args.count c.loop.counter c.loop.last c.loop.rest.now (behind (names_at c.args.count None c.args.bytes.now)) c.loop-test.false c.loop.invariant)
