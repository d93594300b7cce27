use Rattle.std.proofs.Common.{ℕ, ◌-◌, List, ◌∷◌, length, set, Option, sym, ap, ◌∙◌, arith}
use Rattle.std.specs.Option.{option_copied}
use denote.Ref.{Bor}
use borrow.Rule.Slice.PartMut.{put_mid}
use Rattle.slot_page.specs.Pages.{slot_bytes}
use Rattle.slot_page.proofs.HeadBytes.{AreBytes-from_fits}
use Rattle.slot_page.proofs.PutSlots.{row_written}
use Rattle.slot_page.proofs.page.write_slot.Goals as goal

pub returns-in-Some : goal.returns-in-Some
returns-in-Some c =
    let marked = set c.args.slot.now 0 1 in
    record {
      written =
          row_written c.args.slot.now c.copy_from_slice.new.self c.requires.some
          ∙ (ap (λ (xs : List ℕ). 1 ∷ xs) c.copy_from_slice.ensures.after
          ∙ sym (ap (λ (o : Option (Bor (List ℕ))). slot_bytes (length c.args.slot.now - 1) (option_copied o)) c.in-Some.is));
      bytes = AreBytes-from_fits (put_mid 1 (length marked - 1) marked c.copy_from_slice.new.self) (λ i. omega (arith, c.type_inv.slot i));
    }
