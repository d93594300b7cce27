use Rattle.std.proofs.Common.{◌≡◌, ℕ, ◌∙◌, sym, ap, arith, take, drop, inl, inr}
use Rattle.std.proofs.lemmas.List.{take_all, length-drop}
use Rattle.ids_base.specs.RowIds.{slot_count}
use Rattle.slot_page.specs.Pages.{IsTable, unowned}
use Rattle.slot_page.specs.Reading.{owner_of, length_of}
use Rattle.slot_page.specs.Checks.{are_slots}
use Rattle.slot_page.proofs.HeadBytes.{AreBytes-from_fits}
use Rattle.slot_page.proofs.Spelled.{IsPageBytes-spelled}
use Rattle.slot_page.proofs.Accepted.{zeros_spell, zero_where_unowned, count_where_owned, zero_behind_count, slots_where_owned, accepted_owned}
use Rattle.slot_page.proofs.reading.is_page.Goals as goal
use Rattle.slot_page.proofs.reading.is_page.Goals.{else-owner-gt-CATALOGUE-via-then-owner-gt-CATALOGUE+else-owner-lt-FIRST_TABLE, else-owner-gt-CATALOGUE-via-else-owner-gt-CATALOGUE, then-bytes-count-via-then-bytes-count, then-bytes-count-via-else-bytes-count+then-bytes-ne0}

pub returns-then-owner-eq0 : goal.returns-then-owner-eq0
returns-then-owner-eq0 c = (
  λ e. IsPageBytes-spelled c.args.bytes.now unowned (zeros_spell c.args.bytes.now c.told-bytes (sym c.are_zero.ensures ∙ e)),
  λ h. c.are_zero.ensures ∙ zero_where_unowned c.args.bytes.now (sym c.owner_in-owner.ensures ∙ c.if-owner-eq0.true) h,
)

pub returns-then-bytes-count : goal.returns-then-bytes-count
returns-then-bytes-count c =
    let bytes = c.args.bytes.now in
    let some : owner_of bytes ≡ 0 → ⊥ = λ z. c.if-owner-eq0.false (c.owner_in-owner.ensures ∙ z) in
    let count : c.slots_per_page-count.result ≡ slot_count (length_of bytes) = c.slots_per_page-count.ensures ∙ ap slot_count c.length_in-length.ensures in (
      λ e. absurd cc,
      λ h. absurd (elim c.then-bytes-count.branch [
        | then-bytes-count-via-then-bytes-count w ↦ w.if-bytes-count.true (count_where_owned bytes some h ∙ sym count)
        | then-bytes-count-via-else-bytes-count+then-bytes-ne0 w ↦ w.if-bytes-ne0.true (zero_behind_count bytes h)
      ]),
    )

pub returns : goal.returns
returns c =
    let bytes = c.args.bytes.now in
    let some : owner_of bytes ≡ 0 → ⊥ = λ z. c.if-owner-eq0.false (c.owner_in-owner.ensures ∙ z) in
    let size = c.length_in-length.ensures in
    let count : c.slots_per_page-count.result ≡ slot_count (length_of bytes) = c.slots_per_page-count.ensures ∙ ap slot_count size in
    let table : IsTable (owner_of bytes) =
    elim c.else-owner-gt-CATALOGUE.branch [
      | else-owner-gt-CATALOGUE-via-then-owner-gt-CATALOGUE+else-owner-lt-FIRST_TABLE w ↦ inr (omega (arith, c.owner_in-owner.ensures, w.if-owner-lt-FIRST_TABLE.false))
      | else-owner-gt-CATALOGUE-via-else-owner-gt-CATALOGUE w ↦ inl (omega (arith, some, c.owner_in-owner.ensures, w.if-owner-gt-CATALOGUE.false))
    ] in
    let tested : c.are_slots.result ≡ are_slots (length_of bytes) (slot_count (length_of bytes)) (drop 8 bytes) =
    c.are_slots.ensures
    ∙ (ap (λ (n : ℕ). are_slots n c.slots_per_page-count.result (take 2040 (drop 8 bytes))) size
    ∙ (ap (λ (k : ℕ). are_slots (length_of bytes) k (take 2040 (drop 8 bytes))) count
    ∙ ap (are_slots (length_of bytes) (slot_count (length_of bytes))) (take_all 2040 (drop 8 bytes) (omega (arith, length-drop 8 bytes, c.told-bytes))))) in (
      λ e. accepted_owned bytes c.told-bytes (AreBytes-from_fits bytes c.fits-bytes) table
          (record { some = omega (arith, size); few = omega (arith, size) }) (c.if-bytes-count.false ∙ count) c.if-bytes-ne0.false (sym tested ∙ e),
      λ h. tested ∙ slots_where_owned bytes some h,
    )
