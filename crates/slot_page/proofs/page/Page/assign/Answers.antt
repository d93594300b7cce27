use Rattle.std.proofs.Common.{arith}
use Rattle.std.specs.Option.{option_copied}
use Rattle.slot_page.specs.Pages.{with_row}
use Rattle.slot_page.proofs.InSlots.{slot_counted}
use Rattle.slot_page.proofs.PutSlots.{slot_spells}
use Rattle.slot_page.proofs.Spelled.{IsPageBytes-spelled, read_page-spelled}
use Rattle.slot_page.proofs.page.Page.assign.Goals as goal

pub place-at-requires-clause-counted : goal.place-at-requires-clause-counted
place-at-requires-clause-counted c =
    slot_counted c.self.inside.bytes c.args.self.now c.length_in-length.result c.args.slot
    (record { long = c.self.told; page = c.self.invariant; seen = c.self.view_is; sized = c.length_in-length.ensures }) c.requires.slot

pub invariant_of-self : goal.invariant_of-self
invariant_of-self c =
    IsPageBytes-spelled _ (with_row c.args.self.now c.args.slot (option_copied c.args.row))
    (slot_spells c.self.inside.bytes c.write_slot.new.slot c.args.self.now c.length_in-length.result c.args.slot c.place-at.result _ c.args.row
    (record { long = c.self.told; page = c.self.invariant; seen = c.self.view_is; sized = c.length_in-length.ensures })
    c.requires.slot c.requires.length c.place-at.ensures.place (omega (arith, c.from.ensures)) c.write_slot.ensures.written c.write_slot.ensures.bytes)

pub returns : goal.returns
returns c =
    read_page-spelled _ (with_row c.args.self.now c.args.slot (option_copied c.args.row))
    (slot_spells c.self.inside.bytes c.write_slot.new.slot c.args.self.now c.length_in-length.result c.args.slot c.place-at.result _ c.args.row
    (record { long = c.self.told; page = c.self.invariant; seen = c.self.view_is; sized = c.length_in-length.ensures })
    c.requires.slot c.requires.length c.place-at.ensures.place (omega (arith, c.from.ensures)) c.write_slot.ensures.written c.write_slot.ensures.bytes)
