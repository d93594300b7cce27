use Rattle.std.proofs.Common.{◌∙◌, rules, arith, refl}
use Rattle.std.proofs.lemmas.Grind.{common_steps}
use Rattle.table_space.proofs.FullPages.{rooms-new}
use Rattle.table_space.proofs.Fronts.{fronts-new}
use Rattle.table_space.proofs.Reserving.{reserves-new}
use Rattle.table_space.proofs.ledger.Ledger.new.Goals as goal

pub invariant_of-result-2 : goal.invariant_of-result-2
invariant_of-result-2 c = (
  grind (arith, common_steps),
  grind (arith, common_steps),
  grind (arith, common_steps),
  fronts-new _ c.args.pages _ (c.in_ok-vec.ensures.items_if_clones_equal (λ y h. search rules)) refl c.in_ok-new.ensures,
  rooms-new c.args.pages _ c.enter_table.new.self (c.owners.view_is ∙ c.in_ok-owners.ensures),
  reserves-new _ c.in_ok-reserves.reserves c.in_ok-new.ensures,
)
