use Rattle.std.proofs.Common.{rules}
use Rattle.ids_outside.proofs.record.note_write.Goals as goal

pub returns-in-Ok-clause-noted : goal.returns-in-Ok-clause-noted
returns-in-Ok-clause-noted c = λ h. (c.in-Ok.copy, search rules, c.note.ensures.noted h)
