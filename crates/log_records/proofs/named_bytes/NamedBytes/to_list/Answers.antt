use Rattle.std.proofs.Common.{◌-◌, ◌+◌, List, [], sym, subst, ◌∙◌}
use Rattle.std.proofs.lemmas.Option.{none-some}
use Rattle.log_records.specs.Entries.{Named}
use Rattle.log_records.specs.Naming.{named_of}
use Rattle.log_records.specs.Spelling.{AreNamed}
use Rattle.log_records.proofs.ListLoops.{NamesLeft, names_start, name_next, name_put, names_over}
use Rattle.log_records.proofs.named_bytes.NamedBytes.to_list.Goals as goal

pub loop-init : goal.loop-init
loop-init c =
    let start = names_start c.self.inside.count c.self.inside.bytes.now c.self.invariant.read in
    let P : List Named → List Named → Type 0 = λ list whole. NamesLeft (c.self.inside.count - 0) c.self.inside.bytes.now list whole in
    subst (λ (list : List Named). P list c.args.self.now) (sym c.in_ok-list.ensures) (subst (λ (whole : List Named). P [] whole) c.self.view_is start)

pub unreachable-requires : goal.unreachable-requires
unreachable-requires c =
    let next = name_next c.self.inside.count c.loop.counter c.loop.rest.now c.loop.list c.args.self.now c.loop-test.true c.loop.invariant in
    none-some next.first (c.in_default.ensures ∙ next.read)

pub push-requires : goal.push-requires
push-requires c =
    (name_put c.self.inside.count c.loop.counter c.loop.rest.now c.loop.list c.args.self.now (named_of c.in-Some.open_tx) c.in-Some.after.now c.loop-test.true (subst AreNamed c.self.view_is c.self.invariant.named) c.loop.invariant (sym c.in-Some.ensures)).0

pub loop-preserved : goal.loop-preserved
loop-preserved c =
    let step = name_put c.self.inside.count c.loop.counter c.loop.rest.now c.loop.list c.args.self.now (named_of c.in-Some.open_tx) c.in-Some.after.now c.loop-test.true (subst AreNamed c.self.view_is c.self.invariant.named) c.loop.invariant (sym c.in-Some.ensures) in
    subst (λ (list : List Named). NamesLeft (c.self.inside.count - (c.loop.counter + 1)) c.in-Some.after.now list c.args.self.now) (sym c.push.ensures) step.1

pub returns : goal.returns
returns c = names_over c.self.inside.count c.loop.counter c.loop.rest.now c.loop.list c.args.self.now c.loop-test.false c.loop.invariant
