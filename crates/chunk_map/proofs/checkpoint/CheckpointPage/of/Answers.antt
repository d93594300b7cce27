use Rattle.std.proofs.Common.{◌≡◌, ◌∙◌, ◌++◌, [], ◌∷◌, List, ℕ, refl, ap, sym, subst, get_or, if◌then◌else◌}
use Rattle.std.specs.Int.{w16, w64, to_be_bytes}
use lib.Dec.{eqb}
use lib.Pointwise.{bytes_decides}
use mathlib.Core.Bool.{true≢false}
use Rattle.chunk_map.proofs.Bodies.{zero_where}
use Rattle.chunk_map.specs.Layouts.{zeros}
use Rattle.chunk_map.specs.Checkpoints.{checkpoint_body, IsCheckpoint}
use Rattle.chunk_map.specs.declared.checkpoint.CheckpointPage.{CheckpointPage}
use Rattle.chunk_map.proofs.checkpoint.CheckpointPage.of.Goals as goal
use Rattle.chunk_map.proofs.checkpoint.CheckpointPage.of.Goals.{else-is_in_range-via-then-is_in_range+else-eq, else-is_in_range-via-else-is_in_range}

pub returns-else-is_in_range-clause-none : goal.returns-else-is_in_range-clause-none
unfolding checkpoint_body
returns-else-is_in_range-clause-none c = λ none p ranges is.
    let index : List ℕ = to_be_bytes w16 p.start.index ++ zeros 2028 in
    let block : List ℕ = to_be_bytes w64 p.start.block ++ index in
    let kind : List ℕ = (if p.quiet then 0 else 1) ∷ block in
    let front_block : List ℕ = to_be_bytes w64 p.number ++ (if p.quiet then 0 else 1) ∷ [] in
    let front_index : List ℕ = front_block ++ to_be_bytes w64 p.start.block in
    let one = c.u64_at.ensures [] kind p.number ranges.fits.number refl is in
    let two = c.u64_at-2.ensures front_block index p.start.block ranges.fits.block refl is in
    let three = c.u16_at.ensures front_index (zeros 2028) p.start.index ranges.fits.index refl is in
    let there : get_or c.args.body.now 8 0 ≡ (if p.quiet then 0 else 1) = ap (λ (l : List ℕ). get_or l 8 0) is in
    let quiet : eqb (get_or c.args.body.now 8 0) 0 ≡ p.quiet = ap (λ (k : ℕ). eqb k 0) there ∙ zero_where p.quiet in
    let same : p ≡ record {
      number = c.u64_at.result;
      quiet = eqb (get_or c.args.body.now 8 0) 0;
      start = record { block = c.u64_at-2.result; index = c.u16_at.result };
    } = (λ i. record { number = sym one i; quiet = sym quiet i; start = record { block = sym two i; index = sym three i } }) in
    elim c.else-is_in_range.branch [
      | else-is_in_range-via-then-is_in_range+else-eq w ↦
          let bytes : w.bytes.result ≡ c.args.body.now = w.bytes.ensures.body ∙ sym (ap (λ (q : CheckpointPage). checkpoint_body q) same) ∙ sym is in
          true≢false (sym ((bytes_decides _ _).1 bytes) ∙ sym w.eq.ensures ∙ w.if-eq.false)
      | else-is_in_range-via-else-is_in_range w ↦
          true≢false (sym (c.is_in_range.ensures.1 (subst (λ (q : CheckpointPage). IsCheckpoint q) same ranges)) ∙ w.if-is_in_range.false)
    ]
