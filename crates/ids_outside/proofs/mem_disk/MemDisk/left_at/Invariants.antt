use Rattle.std.proofs.Common.{◌≡◌, ◌≤◌, drop, false}
use Rattle.ids_outside.specs.Kinds.{calls_by, left_by}
use Rattle.ids_outside.specs.MemoryDisk.{images}
use Rattle.ids_outside.specs.Held.{first_of, image_left_by}
use Rattle.ids_outside.proofs.Leaving.{Reached}
use Rattle.ids_outside.proofs.mem_disk.MemDisk.left_at.Given as goal

abbrev pub invariant-loop-i : goal.invariant-loop-i
invariant-loop-i l = record {
  reached : Reached (first_of l.self) l.entry-items l.moment l.synced l.i (images l.image.items);
  same : l.entry-items ≡ l.self.entries.items;
  left : left_by l.leave l.second (calls_by l.moment (drop l.i l.entry-items)) (images l.image.items) ≡ image_left_by l.leave l.self l.moment;
  no_second : l.i ≤ l.synced → l.second ≡ false;
}
