use Rattle.std.proofs.Common.{◌≤◌, sym, ◌∙◌, arith}
use Rattle.std.proofs.lemmas.Option.{none-some}
use Rattle.log_records.specs.Viewed.{view_entry}
use Rattle.log_records.proofs.EntryLoops.{first_left, left_behind}
use Rattle.log_records.proofs.cursor.Records.next.Goals as goal

pub unreachable-requires : goal.unreachable-requires
unreachable-requires c =
    let some : 1 ≤ c.self.inside.count = omega (arith, c.if-self-eq0.false) in
    let f = first_left c.self.inside.count c.self.inside.rest.now some c.self.invariant in
    none-some f.first (c.in_default.ensures ∙ f.read)

pub invariant_of-self : goal.invariant_of-self
invariant_of-self c =
    let some : 1 ≤ c.self.inside.count = omega (arith, c.if-self-eq0.false) in
    (left_behind c.self.inside.count c.self.inside.rest.now (view_entry c.in-Some.view) c.in-Some.after.now some c.self.invariant (sym c.in-Some.ensures)).0

pub returns-clause-next : goal.returns-clause-next
returns-clause-next c =
    let some : 1 ≤ c.self.inside.count = omega (arith, c.if-self-eq0.false) in
    sym c.self.view_is ∙ (left_behind c.self.inside.count c.self.inside.rest.now (view_entry c.in-Some.view) c.in-Some.after.now some c.self.invariant (sym c.in-Some.ensures)).1
