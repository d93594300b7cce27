use Rattle.std.proofs.Common.{sym, ◌∙◌}
use Rattle.log_records.specs.Reading.{entries_at}
use Rattle.log_records.specs.Viewed.{view_entry}
use Rattle.log_records.proofs.EntryLoops.{ends_there, is_some-whole_at, test_goes_on, test_stops, test_done}
use Rattle.log_records.proofs.block_body.are_records.Goals as goal

pub returns-in_default : goal.returns-in_default
returns-in_default c =
    sym (is_some-whole_at c.args.count c.args.bytes.now ∙ test_stops c.args.count c.loop.counter c.loop.rest.now (ends_there (entries_at c.args.count c.args.bytes.now)) c.loop-test.true (sym c.in_default.ensures) c.loop.invariant)

pub loop-preserved : goal.loop-preserved
loop-preserved c =
    test_goes_on c.args.count c.loop.counter c.loop.rest.now (view_entry c.in-Some.field-0-0) c.in-Some.after.now (ends_there (entries_at c.args.count c.args.bytes.now)) c.loop-test.true (sym c.in-Some.ensures) c.loop.invariant

pub returns : goal.returns
returns c =
    c.is_empty.ensures ∙ sym (is_some-whole_at c.args.count c.args.bytes.now ∙ test_done c.args.count c.loop.counter c.loop.rest.now (ends_there (entries_at c.args.count c.args.bytes.now)) c.loop-test.false c.loop.invariant)
