use Rattle.std.proofs.Common.{sym, ap, ◌∙◌}
use Rattle.table_space.specs.Entries.{blocks}
use Rattle.table_space.specs.Slots.{known_blocks}
use Rattle.table_space.proofs.Telling.{some_has, blocks-told, blocked-seen}
use Rattle.table_space.proofs.directory.Directory.blocks.Goals as goal

-- what is known of the slot decides
pub returns-in-Some : goal.returns-in-Some
returns-in-Some c =
    let d = c.args.self.now in
    blocked-seen d.indexed c.args.row c.args.tx c.in-Some.known
    (blocks-told _ c.args.row d.listed.items (d.counted c.args.row) c.args.tx c.in-Some.known (ap (known_blocks c.args.tx) (sym c.at.ensures) ∙ sym c.blocks-2.ensures ∙ c.in-Some.is))

-- all entries decide
pub returns-in-None : goal.returns-in-None
returns-in-None c = blocked-seen c.args.self.now.indexed c.args.row c.args.tx c.blocked.result (c.blocked.ensures ∙ ap (some_has (blocks c.args.row c.args.tx)) c.deref.ensures.value)
