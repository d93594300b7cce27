use Rattle.std.proofs.Common.{◌∙◌}
use Rattle.slot_page.specs.Pages.{formatted}
use Rattle.slot_page.proofs.Empty.{head_spells}
use Rattle.slot_page.proofs.Spelled.{IsPageBytes-spelled, read_page-spelled}
use Rattle.slot_page.proofs.page.Page.format.Goals as goal

pub invariant_of-result : goal.invariant_of-result
invariant_of-result c =
    IsPageBytes-spelled _ (formatted c.args.table c.args.row_len)
    (head_spells c.blank-bytes.result c.copy_from_slice.new.self c.copy_from_slice-2.new.self c.args.table c.args.row_len c.slots_per_page.result
    c.blank-bytes.ensures.len c.blank-bytes.ensures.zero c.requires.table c.ranges.table.fits c.requires.length
    (c.copy_from_slice.ensures.after ∙ c.to_be_bytes.ensures) (c.copy_from_slice-2.ensures.after ∙ c.to_be_bytes-2.ensures) c.slots_per_page.ensures)

pub returns : goal.returns
returns c =
    read_page-spelled _ (formatted c.args.table c.args.row_len)
    (head_spells c.blank-bytes.result c.copy_from_slice.new.self c.copy_from_slice-2.new.self c.args.table c.args.row_len c.slots_per_page.result
    c.blank-bytes.ensures.len c.blank-bytes.ensures.zero c.requires.table c.ranges.table.fits c.requires.length
    (c.copy_from_slice.ensures.after ∙ c.to_be_bytes.ensures) (c.copy_from_slice-2.ensures.after ∙ c.to_be_bytes-2.ensures) c.slots_per_page.ensures)
