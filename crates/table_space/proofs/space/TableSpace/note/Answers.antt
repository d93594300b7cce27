use Rattle.std.proofs.Common.{◌≡◌, ℕ, Bool, true, false, refl, ap, ◌∙◌, Some, None, if◌then◌else◌, is_some}
use Rattle.std.specs.Prelude.{nat_eq}
use Rattle.indexmap.specs.IndexMap.{get}
use Rattle.ids_base.specs.RowIds.{row_number}
use Rattle.table_space.specs.Noted.{noted}
use Rattle.table_space.specs.Space.{entries_of}
use Rattle.table_space.proofs.Alone.{noted-there}
use Rattle.table_space.proofs.Standing.{there-noted}
use Rattle.table_space.proofs.space.TableSpace.note.Goals as goal

filled-is : (filled : Bool) (row : ℕ) → is_some (if filled then Some row else None) ≡ filled
filled-is true row = refl
filled-is false row = refl

pub invariant_of-self : goal.invariant_of-self
invariant_of-self c =
    let there = noted-there (row_number c.args.row.page c.args.row.slot) c.args.tx c.args.filled (entries_of c.args.self.now c.args.table c.args.key.now) c.requires.found c.requires.alone in
    record {
      there = there-noted c.args.self.now.ledger.directory c.note.new.self.directory (λ t. get nat_eq c.args.self.now.tables.entered t) c.args.self.now.there c.args.table c.args.key.now
          (noted (row_number c.args.row.page c.args.row.slot) c.args.filled c.args.tx (entries_of c.args.self.now c.args.table c.args.key.now)) c.note.ensures.noted
          c.args.filled (λ t. get nat_eq c.note_name.new.tables.entered t) (ap is_some there ∙ filled-is c.args.filled (row_number c.args.row.page c.args.row.slot)) c.note_name.ensures.kept c.note_name.ensures.shown;
    }

pub returns-clause-there : goal.returns-clause-there
returns-clause-there c =
    rw c.note.ensures.noted.here (noted-there (row_number c.args.row.page c.args.row.slot) c.args.tx c.args.filled (entries_of c.args.self.now c.args.table c.args.key.now) c.requires.found c.requires.alone)
