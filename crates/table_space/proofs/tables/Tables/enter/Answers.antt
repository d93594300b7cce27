use Rattle.std.proofs.Common.{◌≡◌, ◌<◌, ◌^◌, false, ap, arith, rules}
use Rattle.std.specs.Prelude.{nat_eq}
use Rattle.indexmap.specs.IndexMap.{get}
use Rattle.table_space.specs.Tables.{is_shown}
use Rattle.table_space.proofs.ShownNames.{shown-hidden, numbers-more}
use Rattle.table_space.proofs.tables.Tables.enter.Goals as goal

pub invariant_of-self : goal.invariant_of-self
invariant_of-self c =
    let few : c.args.number < 2 ^ 32 = omega arith in
    let before : is_shown (get nat_eq c.hide.new.self.entered c.args.number) ≡ false = search rules in
    record {
      numbers = numbers-more (λ t. get nat_eq c.hide.new.self.entered t) (λ t. get nat_eq c.put.new.tables t) c.args.number few c.put.ensures.beside c.hide.new.self.numbers;
      names = shown-hidden (λ t. get nat_eq c.hide.new.self.entered t) (λ t. get nat_eq c.put.new.tables t) c.hide.new.self.shown c.hide.new.self.shown c.args.number c.put.ensures.beside c.hide.new.self.names before (ap is_shown c.put.ensures.here);
      ordered = c.hide.new.self.ordered;
    }
