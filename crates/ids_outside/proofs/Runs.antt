-- How a run of calls goes on.
use Rattle.std.proofs.Common.{◌≡◌, ◌⊎◌, inl, inr, ⊎_elim, ℕ, ◌<◌, ◌≤◌, arith, subst}
use Rattle.ids_outside.specs.Counts.{last_count}
use Rattle.ids_outside.specs.Images.{Image, SameBut, Range, Torn}
use Rattle.ids_outside.specs.Stops.{Follows, AreAmong, Elapses, Leaves}
use Rattle.ids_outside.proofs.Images.{both}

module _ {D X : Type 0} (now : D → ℕ) (can_leave : D → X → Type 0) (left_at : D → ℕ → X → Type 0) where
  -- before the first call
  pub started : (old : D) (step : X → X → Type 0)
      → ((c : X) → now old < last_count → left_at old (now old) c → can_leave old c)
      → ((m : ℕ) (c : X) → left_at old m c → m ≤ now old)
      → ((c : X) → can_leave old c → step c c)
      → Leaves now can_leave left_at old old step
  started old step only_now no_later same = record {
    later = omega arith;
    ends = λ c left. (c, left, same c left);
    during = λ below m le c left.
        let here : m ≡ now old = omega (arith, le, no_later m c left) in
        let left_now = only_now c below (subst (λ (k : ℕ). left_at old k c) here left) in
        (c, left_now, same c left_now);
    before = λ below m lt c left. left;
    kept = λ below m c left. left;
  }

  -- one call more
  pub goes_on : (old mid new : D) (step : X → X → Type 0)
      → Leaves now can_leave left_at old mid step
      → Elapses (now mid) (now new) (left_at mid) (left_at new) (can_leave new)
      → Follows step (can_leave old) (can_leave new)
      → Leaves now can_leave left_at old new step
  goes_on old mid new step so_far time here = record {
    later = omega (arith, so_far.later, time.later);
    ends = here;
    during = λ below m le c left.
        let earlier : now mid < last_count = omega (arith, below, time.later) in
        ⊎_elim (λ past. so_far.during earlier m le c past) (λ now_left. here c now_left.1) (time.nothing_else below m c left);
    before = λ below m lt c left.
        let earlier : now mid < last_count = omega (arith, below, time.later) in
        ⊎_elim (λ past. so_far.before earlier m lt c past) (λ now_left. absurd (omega (arith, lt, so_far.later, now_left.0))) (time.nothing_else below m c left);
    kept = λ below m c left.
        let earlier : now mid < last_count = omega (arith, below, time.later) in
        time.keeps below m c (so_far.kept earlier m c left);
  }

  -- two runs, one after the other
  pub then : (old mid new : D) (first second step : X → X → Type 0)
      → Leaves now can_leave left_at old mid first
      → Leaves now can_leave left_at mid new second
      → ((d c : X) → can_leave old d → first d c → step d c)
      → ((d e c : X) → can_leave old d → first d e → can_leave mid e → second e c → step d c)
      → Leaves now can_leave left_at old new step
  then old mid new first second step one two weaker joined = record {
    later = omega (arith, one.later, two.later);
    ends = λ c left. through c (two.ends c left);
    during = λ below m le c left. during below m le c left (nat_cases m (now mid));
    before = λ below m lt c left. one.before (earlier below) m lt c (two.before below m (omega (arith, lt, one.later)) c left);
    kept = λ below m c left. two.kept below m c (one.kept (earlier below) m c left);
  }
    where
      earlier : now new < last_count → now mid < last_count
      earlier below = omega (arith, below, two.later)

      nat_cases : (a b : ℕ) → (a < b) ⊎ (b ≤ a)
      nat_cases a b = grind arith

      through : (c : X) → (e : X) × can_leave mid e × second e c → (d : X) × can_leave old d × step d c
      through c from =
          let start = one.ends from.0 from.1 in
          (start.0, start.1, joined start.0 from.0 c start.1 start.2 from.1 from.2)

      during : now new < last_count → (m : ℕ) → now old ≤ m → (c : X) → left_at new m c → (m < now mid) ⊎ (now mid ≤ m) → (d : X) × can_leave old d × step d c
      during below m le c left (inl early) =
          let from = one.during (earlier below) m le c (two.before below m early c left) in
          (from.0, from.1, weaker from.0 c from.1 from.2)
      during below m le c left (inr late) = through c (two.during below m late c left)

  -- the same run, seen as another step
  pub seen_as : (old new : D) (first step : X → X → Type 0)
      → Leaves now can_leave left_at old new first
      → ((d c : X) → can_leave old d → first d c → step d c)
      → Leaves now can_leave left_at old new step
  seen_as old new first step run weaker = record {
    later = run.later;
    ends = λ c left. let from = run.ends c left in (from.0, from.1, weaker from.0 c from.1 from.2);
    during = λ below m le c left. let from = run.during below m le c left in (from.0, from.1, weaker from.0 c from.1 from.2);
    before = run.before;
    kept = run.kept;
  }

  -- one sync or read more
  pub stays : (old mid new : D) (step : X → X → Type 0)
      → Leaves now can_leave left_at old mid step
      → Elapses (now mid) (now new) (left_at mid) (left_at new) (can_leave new)
      → AreAmong (can_leave new) (can_leave mid)
      → Leaves now can_leave left_at old new step
  stays old mid new step so_far time same = goes_on old mid new step so_far time (λ c left. so_far.ends c (same c left))

-- one write more, within what may change
pub torn : {D : Type 0} (now : D → ℕ) (can_leave : D → Image → Type 0) (left_at : D → ℕ → Image → Type 0) (old mid new : D) (changed : ℕ → ℕ → Type 0) (chunk at n : ℕ)
    → Leaves now can_leave left_at old mid (SameBut changed)
    → Elapses (now mid) (now new) (left_at mid) (left_at new) (can_leave new)
    → Follows (Torn chunk at n) (can_leave mid) (can_leave new)
    → ((j i : ℕ) → Range chunk at n j i → changed j i)
    → Leaves now can_leave left_at old new (SameBut changed)
torn now can_leave left_at old mid new changed chunk at n so_far time follows inside = goes_on now can_leave left_at old mid new (SameBut changed) so_far time (λ c left.
    let one = follows c left in
    let start = so_far.ends one.0 one.1 in
    (start.0, start.1, both changed (Range chunk at n) changed start.0 one.0 c start.2 one.2 (λ j i h. h) inside))
