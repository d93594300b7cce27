use Rattle.std.proofs.Common.{◌≡◌, ◌≤◌, ◌<◌, ℕ, get_or, drop, true, false}
use Rattle.ids_outside.specs.Kinds.{calls_by, has_sync}
use Rattle.ids_outside.specs.Remade.{is_synced}
use Rattle.ids_outside.specs.declared.record.Entry.{Entry}
use Rattle.ids_outside.proofs.leave.synced_entries.Given as goal

abbrev pub invariant-loop-i : goal.invariant-loop-i
invariant-loop-i l = record {
  few : l.synced ≤ l.i;
  last : (k : ℕ) (d : Entry) → l.synced ≤ k → k < l.i → (get_or l.entries k d).moment ≤ l.moment → is_synced (get_or l.entries k d).call ≡ false;
  synced : (k : ℕ) → k < l.synced → has_sync (calls_by l.moment (drop k l.entries)) ≡ true;
}
