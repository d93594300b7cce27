use Rattle.std.proofs.Common.{arith}
use Rattle.slot_page.proofs.InSlots.{place_fits}
use Rattle.slot_page.proofs.page.place.Goals as goal

pub returns-clause-fits : goal.returns-clause-fits
returns-clause-fits c = rw (c.from.ensures, c.from-2.ensures) (omega (arith, place_fits c.args.slot c.args.row_length c.requires.from_one c.requires.counted))
