use Rattle.std.proofs.Common.{arith, ◌∙◌, sym, ap, subst}
use Rattle.sql_reader.specs.Grammar.{IsStatementText}
use Rattle.sql_reader.specs.Checks.{text_at}
use Rattle.sql_reader.proofs.Walks.{span_by}
use Rattle.sql_reader.proofs.script.Checked.slice_at.Goals as goal

pub part-requires-clause-ordered : goal.part-requires-clause-ordered
part-requires-clause-ordered c = (span_by c.self.inside.bytes.items c.self.inside.spans.items c.args.self.now c.args.phase c.args.session c.args.statement c.index.result.now c.self.view_is c.self.invariant c.requires.there c.index.ensures).0.ordered

pub part-requires-clause-within : goal.part-requires-clause-within
part-requires-clause-within c =
    let s = (span_by c.self.inside.bytes.items c.self.inside.spans.items c.args.self.now c.args.phase c.args.session c.args.statement c.index.result.now c.self.view_is c.self.invariant c.requires.there c.index.ensures).0 in
    omega (arith, s.within, c.as_slice.ensures.len)

pub returns-clause-statement : goal.returns-clause-statement
returns-clause-statement c =
    let s = (span_by c.self.inside.bytes.items c.self.inside.spans.items c.args.self.now c.args.phase c.args.session c.args.statement c.index.result.now c.self.view_is c.self.invariant c.requires.there c.index.ensures).0 in
    subst IsStatementText (sym (c.part.ensures ∙ ap (λ v. text_at v c.index.result.now) c.as_slice.ensures.value)) s.statement
