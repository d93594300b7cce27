use Rattle.std.proofs.Common.{◌≡◌, ◌+◌, Some, None, ◌∙◌, sym, ap, subst, arith}
use Rattle.std.specs.List.{count_by}
use Rattle.std.proofs.lemmas.List.Sums.{count_by-le-length}
use Rattle.table_space.specs.declared.emptied.EmptyEntry.{EmptyEntry}
use Rattle.table_space.specs.Emptied.{is_at, is_left, MayTell}
use Rattle.table_space.specs.Ordered.{Each}
use Rattle.table_space.proofs.EntriesLeft.{count-some, count-none}
use Rattle.table_space.proofs.index.Index.count_of.Goals as goal

pub overflow_add-result : goal.overflow_add-result
overflow_add-result c =
    let xs = c.args.self.now.empty in
    let t = subst (λ o. Each (MayTell c.args.row o) xs) c.in-Some.is c.requires.told in
    let a = ap (λ o. count_by (is_at c.args.tx o c.args.row) xs) c.in-Some.is in
    omega (arith, c.count_at-untold.ensures.count, c.count_at.ensures.count, a, count-some c.args.tx c.args.row c.in-Some.field-0 xs t, count_by-le-length (is_left c.args.tx c.args.row) xs, c.count_at.ensures.few)

pub returns-in-None : goal.returns-in-None
returns-in-None c = c.count_at-untold.ensures.count ∙ sym (count-none c.args.tx c.args.row c.args.self.now.empty (subst (λ o. Each (MayTell c.args.row o) c.args.self.now.empty) c.in-None.is c.requires.told))

pub returns-in-Some : goal.returns-in-Some
returns-in-Some c =
    let xs = c.args.self.now.empty in
    let t = subst (λ o. Each (MayTell c.args.row o) xs) c.in-Some.is c.requires.told in
    let a = ap (λ o. count_by (is_at c.args.tx o c.args.row) xs) c.in-Some.is in
    omega (arith, c.count_at-untold.ensures.count, c.count_at.ensures.count, a, count-some c.args.tx c.args.row c.in-Some.field-0 xs t)
