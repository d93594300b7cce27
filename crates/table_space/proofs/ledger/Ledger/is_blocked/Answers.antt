use Rattle.std.proofs.Common.{◌≤◌, arith}
use Rattle.std.proofs.lemmas.Bool.{leb-true}
use Rattle.ids_base.specs.RowIds.{row_number}
use Rattle.table_space.proofs.Fronts.{unused-free}
use Rattle.table_space.proofs.ledger.Ledger.is_blocked.Goals as goal

pub returns-else-slot-from : goal.returns-else-slot-from
returns-else-slot-from c = (
  λ h. let le : c.args.slot ≤ c.from.result = leb-true c.args.slot c.from.result h in absurd (omega (arith, le, c.if-slot-from.false)),
  λ b. absurd (unused-free (row_number c.args.page c.args.slot) c.args.tx (c.requires.front.used c.args.slot (omega (arith, c.from.ensures, c.if-slot-from.false)) c.requires.small) b),
)
