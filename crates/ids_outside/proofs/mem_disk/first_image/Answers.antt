use Rattle.std.proofs.Common.{◌≡◌, ◌∙◌, sym, ap, length}
use Rattle.ids_outside.specs.MemoryDisk.{images, nine}
use Rattle.ids_outside.proofs.Extensions.{nine-full}
use Rattle.ids_outside.proofs.Vectors.{length-images}
use Rattle.ids_outside.proofs.mem_disk.first_image.Goals as goal
use Rattle.ids_outside.proofs.mem_disk.first_image.Goals.{then-started, else-started}

pub returns : goal.returns
returns c =
    let new = images c.pad.new.image.items in
    let full : length new ≡ 9 = length-images c.pad.new.image.items ∙ c.in_ok-pad.ensures.full in
    let padded = sym (nine-full new full) ∙ c.pad.ensures.same ∙ ap nine c.in_ok-copy.ensures in
    elim c.if-started.branch [
      | then-started w ↦ rw w.if-started.true (padded ∙ ap (λ b. nine (images b.now.items)) w.source-is)
      | else-started w ↦ rw w.if-started.false (padded ∙ ap (λ b. nine (images b.now.items)) w.source-is)
    ]
