use Rattle.std.proofs.Common.{◌≡◌, ◌<◌, ◌^◌, ◌*◌, ◌/◌, ap, sym, subst, arith, length, refl, ℕ, [], List}
use Rattle.ids_outside.specs.Images.{IsImage}
use Rattle.ids_outside.specs.MemoryDisk.{images, nine}
use Rattle.ids_outside.specs.declared.record.Entry.{Entry}
use Rattle.ids_outside.proofs.States.{settled-left}
use Rattle.ids_outside.proofs.Extensions.{chunk_of-nine, chunks-nine}
use Rattle.ids_outside.proofs.Vectors.{length-images}
use Rattle.ids_outside.proofs.Kept.{Good}
use Rattle.ids_outside.proofs.mem_disk.MemDisk.from_image.Goals as goal

pub invariant_of-result : goal.invariant_of-result
invariant_of-result c =
    let x = images c.args.image.items in
    let whole : IsImage (nine x) = record {
      chunks = chunks-nine x c.requires.chunks;
      pages = λ j. subst (λ (l : List ℕ). length l ≡ 2048 * (length l / 2048)) (sym (chunk_of-nine x j)) (c.requires.pages j);
    } in
    let fresh : Good (nine x) (nine x) [] 0 = record {
      in_time = refl;
      small = λ j. subst (λ (l : List ℕ). length l / 2048 < 2 ^ 32) (sym (chunk_of-nine x j)) (c.requires.fits j);
      shown = refl;
      left = settled-left (nine x) whole;
      whole = whole;
    } in
    let good = subst (λ (l : List Entry). Good (nine x) (nine x) l 0) (sym c.new-2.ensures.items) fresh in
    record {
      in_time = good.in_time;
      few = omega (arith, c.requires.chunks, length-images c.args.image.items);
      first_few = omega (arith, ap (λ l. length l) c.new.ensures.items);
      small = good.small;
      shown = good.shown;
      left = good.left;
      whole = good.whole;
    }
