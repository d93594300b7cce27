-- A run that was refused before the disk was opened: it gives nothing and commits nothing, and the disk is as it was.
use Rattle.std.proofs.Common.{◌≡◌, refl, sym, ap, subst, inl, inr, ℕ, ◌<◌, ◌≤◌, false, List, [], arith}
use Rattle.std.specs.FinMap.{empty}
use Rattle.ids_base.specs.declared.status.Status.{Status}
use Rattle.ids_base.specs.declared.status.Status.TheVariants.{Done, BadScript}
use Rattle.ids_base.specs.declared.status.Why.{Why}
use Rattle.ids_base.specs.declared.status.Why.TheVariants.{Wrong}
use Rattle.ids_outside.specs.Counts.{last_count}
use Rattle.ids_outside.specs.Images.{Image}
use Rattle.ids_model.specs.declared.journal.Committed.{Committed}
use Rattle.ids_model.specs.declared.journal.Given.{Given}
use Rattle.ids_model.specs.Tables.{Tables}
use Rattle.ids_model.specs.Served.{ServedAtStart}
use Rattle.fast_recovery.specs.Images.{Recovers}
use Rattle.fast_recovery.specs.Opening.{IsSince}
use Rattle.fast_recovery.proofs.Stopping.{each-since}
use Rattle.sql_reader.specs.Lines.{IsBadAt}
use Rattle.ids_server.specs.Serving.{Serves, LeavesFirst, RunsFrom, has_checked}

not_done : (status : Status) → has_checked status ≡ false → ¬ (status ≡ Done)
not_done status unchecked done = cc (unchecked, ap has_checked done)

-- what is told of a bad script is so of these bytes
abbrev pub TellsBad : List ℕ → Status → Type 0
TellsBad bytes status = (byte : ℕ) (why : Why) → status ≡ BadScript byte why → IsBadAt bytes byte × (why ≡ Wrong)

serves_none : ServedAtStart → (bytes : List ℕ) (status : Status) → has_checked status ≡ false → TellsBad bytes status → Serves bytes empty status [] []
serves_none starts bytes status unchecked bad = record {
  matches = λ script is. (starts script 1 empty).matches;
  replies = λ script is. (starts script 1 empty).answered;
  answered = λ done. absurd (not_done status unchecked done);
  ran = λ checked. cc;
  unread = inl (refl, refl);
  bad = bad;
}

module _ {D : Type 0} (tells : Type 0) (now : D → ℕ) (image : D → Image) (can_leave : D → Image → Type 0) (left_at : D → ℕ → Image → Type 0) where
  -- what a stop leaves at this moment is what a read gives, where nothing else can be left; and there is no later one
  left_now : ((d : D) (c : Image) → now d < last_count → left_at d (now d) c → can_leave d c) → ((d : D) (m : ℕ) (c : Image) → left_at d m c → m ≤ now d)
      → (d : D) → now d < last_count → (m : ℕ) (c : Image) → IsSince now image can_leave d m → left_at d m c → c ≡ image d
  left_now only_now no_later d bound m c (inl early) left =
      let no_more : m ≤ now d = no_later d m c left in
      let is : m ≡ now d = omega (arith, early.0) in
      early.1 c (only_now d c bound (subst (λ (k : ℕ). left_at d k c) is left))
  left_now only_now no_later d bound m c (inr late) left = absurd (omega (arith, late, no_later d m c left))

  pub runs_none : ((d : D) (c : Image) → now d < last_count → left_at d (now d) c → can_leave d c) → ((d : D) (m : ℕ) (c : Image) → left_at d m c → m ≤ now d)
      → ServedAtStart → (bytes : List ℕ) (d : D) (status : Status) (journal : List Committed) (given : List Given) → journal ≡ [] → given ≡ []
      → has_checked status ≡ false → TellsBad bytes status → RunsFrom tells now image can_leave left_at bytes empty d d status journal given
  runs_none only_now no_later starts bytes d status journal given none no_reply unchecked bad =
      subst (λ (js : List Committed). RunsFrom tells now image can_leave left_at bytes empty d d status js given) (sym none)
      (subst (λ (gs : List Given). RunsFrom tells now image can_leave left_at bytes empty d d status [] gs) (sym no_reply)
      (record {
        legal = tt;
        serves = serves_none starts bytes status unchecked bad;
        moments = tt;
        opened = λ t T recovers. inl (refl, refl);
        any_moment = λ bound. each-since now image can_leave left_at d d _ (λ m c. (T : Tables) → Recovers (image d) T → LeavesFirst T [] m c) (λ m c since left T recovers.
            record { k = 0; covered = tt; recovers = subst (λ (x : Image). Recovers x T) (sym (left_now only_now no_later d bound m c since left)) recovers });
        at_end = λ done. absurd (not_done status unchecked done);
      }))
