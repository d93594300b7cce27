use Rattle.std.proofs.Common.{sym, ap, ◌∙◌}
use Rattle.table_space.specs.Slots.{may_be_left}
use Rattle.table_space.proofs.Telling.{left-seen}
use Rattle.table_space.proofs.directory.Directory.may_be_left.Goals as goal

-- what is known of the slot decides
pub returns : goal.returns
returns c = λ no r.
    let d = c.args.self.now in
    left-seen d.indexed c.args.row _ (d.counted c.args.row) c.args.tx (ap (may_be_left c.args.tx) (sym c.at.ensures) ∙ sym c.may_be_left.ensures ∙ no) r
