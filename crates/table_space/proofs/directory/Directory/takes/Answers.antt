use Rattle.std.proofs.Common.{sym, ap, ◌∙◌}
use Rattle.table_space.specs.Slots.{known_taken}
use Rattle.table_space.proofs.Telling.{taken-told, taken-seen}
use Rattle.table_space.proofs.directory.Directory.takes.Goals as goal

-- what is known of the slot decides
pub returns : goal.returns
returns c = λ so.
    let d = c.args.self.now in
    taken-seen d.indexed c.args.row (taken-told _ c.args.row d.listed.items (d.counted c.args.row) (ap known_taken (sym c.at.ensures) ∙ sym c.is_taken.ensures ∙ so))
