-- What stops leave at the moments of a run of calls whose first is a sync.
use Rattle.std.proofs.Common.{◌≡◌, ◌⊎◌, inl, inr, ℕ, ◌<◌, ◌≤◌, sym, ◌∙◌, subst, arith}
use Rattle.ids_outside.specs.Counts.{last_count}
use Rattle.ids_outside.specs.Images.{Image}
use Rattle.ids_outside.specs.Stops.{AreAmong, Only, Elapses, Leaves}
use Rattle.fast_recovery.specs.Opening.{IsSince, OnlyBehind, IsUnsynced, EachStop, KeepsTables, TablesStay}
use Rattle.fast_recovery.specs.Images.{Recovers}

pub order : (a b : ℕ) → (b ≤ a) ⊎ (a < b)
order a b = grind arith

module _ {D : Type 0} (now : D → ℕ) (image : D → Image) (can_leave : D → Image → Type 0) (left_at : D → ℕ → Image → Type 0) where
  -- so it is, where it is at each moment since the beginning
  pub each-since : (old new : D) (failed : Type 0) (good : ℕ → Image → Type 0) → ((m : ℕ) (c : Image) → IsSince now image can_leave old m → left_at new m c → good m c)
      → EachStop now image can_leave left_at old new failed good
  each-since old new failed good since = record {
    settled = λ only m c from left. since m c (inl (from, only)) left;
    behind = inl (λ m c from left. since m c (inr from) left);
  }

  -- or where nothing was synced, and the image that was read is one
  pub each-unsynced : (old new : D) (failed : Type 0) (good : ℕ → Image → Type 0) → ((m : ℕ) → good m (image old)) → failed → IsUnsynced now image can_leave left_at old new
      → EachStop now image can_leave left_at old new failed good
  each-unsynced old new failed good read fault unsynced = record {
    settled = λ only m c from left. subst (good m) (sym (only c (unsynced.left m c from left))) (read m);
    behind = inr (fault, unsynced);
  }

  -- each stop leaves what follows, too
  pub each-as : (old new : D) (failed other : Type 0) (good also : ℕ → Image → Type 0) → (failed → other) → ((m : ℕ) (c : Image) → good m c → also m c)
      → EachStop now image can_leave left_at old new failed good → EachStop now image can_leave left_at old new other also
  each-as old new failed other good also so gives each = record {
    settled = λ only m c from left. gives m c (each.settled only m c from left);
    behind = at each.behind;
  }
    where
      at : ((m : ℕ) (c : Image) → now old < m → left_at new m c → good m c) ⊎ (failed × IsUnsynced now image can_leave left_at old new)
          → ((m : ℕ) (c : Image) → now old < m → left_at new m c → also m c) ⊎ (other × IsUnsynced now image can_leave left_at old new)
      at (inl stays) = inl (λ m c from left. gives m c (stays m c from left))
      at (inr fault) = inr (so fault.0, fault.1)

  -- so where tables stay, or it failed, they stay, or what follows
  pub stays-for : (old new : D) (failed other : Type 0) → (failed → other) → TablesStay now image can_leave left_at old new failed → TablesStay now image can_leave left_at old new other
  stays-for old new failed other so stays room = each-as old new failed other (λ m c. KeepsTables (image old) c) (λ m c. KeepsTables (image old) c) so (λ m c keeps. keeps) (stays room)

module _ {D : Type 0} (now : D → ℕ) (image : D → Image) (can_leave : D → Image → Type 0) (left_at : D → ℕ → Image → Type 0)
    (no_later : (d : D) (m : ℕ) (c : Image) → left_at d m c → m ≤ now d) (only_now : (d : D) (c : Image) → now d < last_count → left_at d (now d) c → can_leave d c) where
  -- behind a sync nothing is left but what it made durable
  pub behind-sync : (old mid : D) (x : Image) → Elapses (now old) (now mid) (left_at old) (left_at mid) (can_leave mid) → Only x (can_leave mid) → OnlyBehind now left_at x old mid
  behind-sync old mid x elapses only room m c from left = at (elapses.nothing_else room m c left)
    where
      at : left_at old m c ⊎ ((now old ≤ m) × can_leave mid c) → c ≡ x
      at (inl past) = absurd (omega (arith, from, no_later old m c past))
      at (inr here) = only c here.1

  -- what is left behind a sync is left behind reads
  pub behind-reads : (old mid new : D) (x : Image) → OnlyBehind now left_at x old mid → Only x (can_leave mid) → Leaves now can_leave left_at mid new (λ y z. z ≡ y) → OnlyBehind now left_at x old new
  behind-reads old mid new x behind only reads room m c from left = at (order m (now mid))
    where
      at : (now mid ≤ m) ⊎ (m < now mid) → c ≡ x
      at (inl late) = let was = reads.during room m late c left in was.2 ∙ only was.0 was.1
      at (inr early) = behind (omega (arith, room, reads.later)) m c from (reads.before room m early c left)

  -- behind one that succeeded and reads nothing is left but what was read
  pub behind-opening : (old mid new : D) → Elapses (now old) (now mid) (left_at old) (left_at mid) (can_leave mid) → image mid ≡ image old → Only (image mid) (can_leave mid)
      → Leaves now can_leave left_at mid new (λ y z. z ≡ y) → OnlyBehind now left_at (image old) old new
  behind-opening old mid new elapses same durable reads =
      let only : Only (image old) (can_leave mid) = subst (λ (x : Image). Only x (can_leave mid)) same durable in
      behind-reads old mid new (image old) (behind-sync old mid (image old) elapses only) only reads

  -- behind one that failed nothing is left but what could be left before
  pub failed-sync : (old mid : D) → Elapses (now old) (now mid) (left_at old) (left_at mid) (can_leave mid) → AreAmong (can_leave mid) (can_leave old) → image mid ≡ image old
      → now mid < last_count → IsUnsynced now image can_leave left_at old mid
  failed-sync old mid elapses among same room = record { same = same; left = λ m c from left. at m c from (elapses.nothing_else room m c left) }
    where
      at : (m : ℕ) (c : Image) → now old ≤ m → left_at old m c ⊎ ((now old ≤ m) × can_leave mid c) → can_leave old c
      at m c from (inl past) =
          let is : m ≡ now old = omega (arith, from, no_later old m c past) in
          only_now old c (omega (arith, room, elapses.later)) (subst (λ (k : ℕ). left_at old k c) is past)
      at m c from (inr here) = among c here.1

  -- so the tables stay over a sync and reads
  pub read-tables : (old new : D) (failed : Type 0) → Leaves now can_leave left_at old new (λ y z. z ≡ y)
      → OnlyBehind now left_at (image old) old new ⊎ (failed × (now new < last_count → IsUnsynced now image can_leave left_at old new)) → TablesStay now image can_leave left_at old new failed
  read-tables old new failed reads (inr fault) room = each-unsynced now image can_leave left_at old new failed (λ m c. KeepsTables (image old) c) (λ m T recovers. recovers) fault.0 (fault.1 room)
  read-tables old new failed reads (inl behind) room =
      each-since now image can_leave left_at old new failed (λ m c. KeepsTables (image old) c) (λ m c since left T recovers. subst (λ (y : Image). Recovers y T) (sym (at m c since left)) recovers)
    where
      at : (m : ℕ) (c : Image) → IsSince now image can_leave old m → left_at new m c → c ≡ image old
      at m c (inl early) left = let was = reads.during room m early.0 c left in was.2 ∙ early.1 was.0 was.1
      at m c (inr late) left = behind room m c late left
