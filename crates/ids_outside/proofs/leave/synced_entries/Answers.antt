use Rattle.std.proofs.Common.{◌≡◌, ◌∙◌, ◌≤◌, ◌<◌, length, get_or, sym, ap, subst, arith}
use Rattle.ids_outside.specs.Remade.{is_synced}
use Rattle.ids_outside.proofs.LeavingBy.{sync_from, last_more}
use Rattle.ids_outside.proofs.leave.synced_entries.Goals as goal
use Rattle.ids_outside.proofs.leave.synced_entries.Goals.{then-entry-moment+then-is_sync, else-entry-moment, else-entry-moment-via-then-entry-moment+else-is_sync, else-entry-moment-via-else-entry-moment}

pub loop-i-preserved : goal.loop-i-preserved
loop-i-preserved c =
    let entries = c.args.entries.now in
    let m = c.args.moment in
    let i = c.loop-i.i in
    let e = c.index-entries-i.result in
    let lt : i < length entries = omega (arith, c.loop-i-test.true) in
    let is : get_or entries i e ≡ e = sym c.index-entries-i.is in
    record {
      few = elim c.if-entry-moment.branch [
        | then-entry-moment+then-is_sync w ↦ omega (arith, w.synced-is)
        | else-entry-moment w ↦ omega (arith, w.synced-is, c.loop-i.invariant.few)
      ];
      last = elim c.if-entry-moment.branch [
        | then-entry-moment+then-is_sync w ↦ λ k d from below. absurd (omega (arith, from, below, w.synced-is))
        | else-entry-moment w ↦ λ k d from. last_more m entries c.loop-i.synced i e lt is c.loop-i.invariant.last (elim w.else-entry-moment.branch [
          | else-entry-moment-via-then-entry-moment+else-is_sync w' ↦ λ early. sym w'.is_sync.ensures ∙ w'.if-is_sync.false
          | else-entry-moment-via-else-entry-moment w' ↦ λ early. absurd (omega (arith, early, w'.if-entry-moment.false))
        ]) k d (omega (arith, from, w.synced-is))
      ];
      synced = elim c.if-entry-moment.branch [
        | then-entry-moment+then-is_sync w ↦ λ k below. sync_from m entries k i e (omega (arith, below, w.synced-is)) lt
            (subst (λ d. d.moment ≤ m) (sym is) w.if-entry-moment.true) (ap (λ d. is_synced d.call) is ∙ sym w.is_sync.ensures ∙ w.if-is_sync.true)
        | else-entry-moment w ↦ λ k below. c.loop-i.invariant.synced k (omega (arith, below, w.synced-is))
      ];
    }
