-- The answers: a slot is emptied.
use Rattle.std.proofs.Common.{◌∙◌, ap, sym, ℕ}
use Rattle.std.specs.Option.{option_copied}
use Rattle.ids_base.specs.RowIds.{row_number}
use Rattle.ids_model.specs.Slots.{slot_at}
use Rattle.ids_engine.proofs.KeyedSlots.{empty-alone-now, empty-found, key-fits, empty-moves, empty-directs, empty-already}
use Rattle.ids_engine.proofs.keyed_slots.empty_slot.Goals as goal

pub returns-in_default-clause-pages : goal.returns-in_default-clause-pages
returns-in_default-clause-pages c =
    empty-already c.args.pages.now (row_number c.args.row.page c.args.row.slot)
    (ap (slot_at c.args.pages.now.slots) (sym c.number.ensures) ∙ sym c.row_at.ensures ∙ ap option_copied c.in_default.is)

pub key_in-key-requires-clause-long : goal.key_in-key-requires-clause-long
key_in-key-requires-clause-long c =
    key-fits c.args.pages.now c.args.space.now c.args.owner c.args.row.page c.args.row.slot c.in-Some.bytes.now c.owner.inside.table (ap (λ (x : ℕ × ℕ). x.0) c.owner.view_is) c.requires.slot
    (ap (slot_at c.args.pages.now.slots) (sym c.number.ensures) ∙ sym c.row_at.ensures ∙ ap option_copied c.in-Some.is) c.count.ensures.paged

pub note-requires-clause-found : goal.note-requires-clause-found
note-requires-clause-found c =
    empty-found c.args.pages.now c.args.space.now c.args.owner c.args.row.page c.args.row.slot c.args.tx c.in-Some.bytes.now c.owner.inside.table c.key_in-key.result
    (ap (λ (x : ℕ × ℕ). x.0) c.owner.view_is) c.key_in-key.ensures c.requires.slot (ap (slot_at c.args.pages.now.slots) (sym c.number.ensures) ∙ sym c.row_at.ensures ∙ ap option_copied c.in-Some.is) c.requires.directs

pub note-requires-clause-alone : goal.note-requires-clause-alone
note-requires-clause-alone c =
    empty-alone-now c.args.pages.now c.args.space.now c.args.owner c.args.row.page c.args.row.slot c.args.tx c.in-Some.bytes.now c.owner.inside.table c.key_in-key.result
    (ap (λ (x : ℕ × ℕ). x.0) c.owner.view_is) c.key_in-key.ensures c.requires.slot (ap (slot_at c.args.pages.now.slots) (sym c.number.ensures) ∙ sym c.row_at.ensures ∙ ap option_copied c.in-Some.is) c.requires.directs

pub returns-clause-directs : goal.returns-clause-directs
returns-clause-directs c =
    empty-directs c.args.pages.now c.args.space.now c.args.owner c.args.row.page c.args.row.slot c.args.tx c.in-Some.bytes.now c.owner.inside.table c.key_in-key.result
    (ap (λ (x : ℕ × ℕ). x.0) c.owner.view_is) c.key_in-key.ensures c.requires.slot (ap (slot_at c.args.pages.now.slots) (sym c.number.ensures) ∙ sym c.row_at.ensures ∙ ap option_copied c.in-Some.is) c.requires.directs
    c.note.new.self c.note.ensures.noted c.note.ensures.owned c.note.ensures.tables c.empty.new.self c.empty.ensures.own c.empty.ensures.slots

pub returns-clause-moves : goal.returns-clause-moves
returns-clause-moves c =
    empty-moves c.args.pages.now c.args.space.now c.args.owner c.args.row.page c.args.row.slot c.args.tx c.in-Some.bytes.now c.owner.inside.table c.key_in-key.result
    (ap (λ (x : ℕ × ℕ). x.0) c.owner.view_is) c.key_in-key.ensures c.requires.slot (ap (slot_at c.args.pages.now.slots) (sym c.number.ensures) ∙ sym c.row_at.ensures ∙ ap option_copied c.in-Some.is) c.requires.directs
    c.note.new.self c.note.ensures.noted c.note.ensures.owned c.note.ensures.tables
