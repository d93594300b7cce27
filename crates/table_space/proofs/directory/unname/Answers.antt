use Rattle.std.proofs.Common.{◌≡◌, Some, sym, ◌∙◌, ap}
use Rattle.table_space.specs.Numbers.{number_of}
use Rattle.table_space.proofs.Naming.{unnamed-others, unnamed-kept}
use Rattle.table_space.proofs.directory.unname.Goals as goal

pub returns-then-found-number-clause-others : goal.returns-then-found-number-clause-others
returns-then-found-number-clause-others c =
    let had : number_of c.args.numbers.now c.args.keyed.now.table c.args.keyed.now.key ≡ Some c.args.number = sym c.get.ensures.value ∙ sym c.copied.ensures ∙ c.in-Some.is ∙ ap (λ n. Some n) c.if-found-number.true in
    unnamed-others c.args.numbers.now c.remove.new.self (c.args.keyed.now.table, c.args.keyed.now.key) c.args.number c.remove.ensures.updates.0 had

pub returns-then-found-number-clause-kept : goal.returns-then-found-number-clause-kept
returns-then-found-number-clause-kept c = unnamed-kept c.args.numbers.now c.remove.new.self (c.args.keyed.now.table, c.args.keyed.now.key) c.remove.ensures.updates.0
