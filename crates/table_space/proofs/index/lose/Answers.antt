use Rattle.std.proofs.Common.{◌≡◌, ◌∙◌, sym}
use Rattle.table_space.proofs.KeyStates.{lost-last, none-of}
use Rattle.table_space.proofs.index.lose.Goals as goal

pub returns-then-state-eq1 : goal.returns-then-state-eq1
returns-then-state-eq1 c = lost-last c.args.keys.now c.remove.new.self _ c.args.state c.remove.ensures.updates.0 c.remove.ensures.entries c.remove.ensures.ordered (none-of c.args.state.row c.if-is_none.ensures) c.if-state-eq1.true
