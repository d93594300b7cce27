use Rattle.std.proofs.Common.{◌≡◌, sym, ◌∙◌, subst, true, false}
use Rattle.std.specs.Prelude.{nat_eq, ◌&&◌, ◌==◌}
use Rattle.std.specs.Cmp.Lexicographic.{pointwise}
use Rattle.indexmap.specs.IndexMap.{get}
use Rattle.table_space.specs.Ordered.{AreBelow, IsFirstFrom}
use Rattle.table_space.specs.Tables.{name_cmp}
use Rattle.table_space.proofs.ShownNames.{named-none, named-one, named-other}
use Rattle.table_space.proofs.tables.Tables.named.Goals as goal

pub returns-in-None : goal.returns-in-None
returns-in-None c = named-none (λ t. get nat_eq c.args.self.now.entered t) c.args.self.now.shown c.args.name.now c.args.self.now.names c.args.self.now.ordered (subst (λ b. AreBelow name_cmp b c.args.self.now.shown) c.new-first.ensures c.in-None.ensures)

pub returns-in-Some : goal.returns-in-Some
returns-in-Some c =
    let same = subst (λ b. (pointwise nat_eq c.in-Some.found.text b.text && (c.in-Some.found.len == b.len)) ≡ true) c.new-first.ensures (sym c.is_same_name.ensures ∙ c.if-is_same_name.true) in
    named-one (λ t. get nat_eq c.args.self.now.entered t) c.args.self.now.shown c.args.name.now c.args.self.now.names c.args.self.now.ordered c.in-Some.found
    (subst (λ b. IsFirstFrom name_cmp c.args.self.now.shown b c.in-Some.found) c.new-first.ensures c.in-Some.ensures) same

pub returns-in-Some-2 : goal.returns-in-Some-2
returns-in-Some-2 c =
    let other = subst (λ b. (pointwise nat_eq c.in-Some.found.text b.text && (c.in-Some.found.len == b.len)) ≡ false) c.new-first.ensures (sym c.is_same_name.ensures ∙ c.if-is_same_name.false) in
    named-other (λ t. get nat_eq c.args.self.now.entered t) c.args.self.now.shown c.args.name.now c.args.self.now.names c.args.self.now.ordered c.in-Some.found
    (subst (λ b. IsFirstFrom name_cmp c.args.self.now.shown b c.in-Some.found) c.new-first.ensures c.in-Some.ensures) other
