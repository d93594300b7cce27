-- How the log is kept from the end of clearing on.
use Rattle.std.proofs.Common.{◌≡◌, ◌⊎◌, inl, inr, ℕ, ◌+◌, ◌*◌, ◌<◌, ◌≤◌, List, [], ◌∷◌, ◌++◌, Some, None, refl, sym, ◌∙◌, ap, subst, arith}
use Rattle.std.specs.List.{AllByRecursion}
use Rattle.std.proofs.Math.Nat.{zero-mod}
use Rattle.std.proofs.lemmas.List.{append-nil}
use Rattle.ids_outside.specs.Counts.{last_count}
use Rattle.ids_outside.specs.Images.{Image}
use Rattle.ids_outside.specs.declared.disk.Disk.{Ghosts}
use Rattle.ids_outside.specs.Stops.{Only}
use Rattle.gate_blocks.specs.Gates.{block}
use Rattle.log_records.specs.Entries.{Entry}
use Rattle.log_records.specs.Bodies.{Body}
use Rattle.log_files.specs.Log.{body_at, EndsWhole}
use Rattle.log_files.specs.Moments.{Within}
use Rattle.log_files.specs.Files.{Files, IsReady, IsRead, all_free}
use Rattle.chunk_map.specs.declared.layout.Layout.{Layout}
use Rattle.chunk_map.specs.Layouts.{IsLayout, HasPages}
use Rattle.log_buffer.specs.Buffers.{Buffer, empty_at}
use Rattle.fast_recovery.specs.KeptLog.{Flushed, HasLog, HoldsFlushed, KeepsLog, Outlives, tail_entries}
use Rattle.fast_recovery.specs.Opening.{SameLog, IsSince, OnlyBehind, files_from}
use Rattle.fast_recovery.specs.Images.{log_region, log_in}
use Rattle.fast_recovery.proofs.Stopping.{order}

-- where block 1 is retained, each place may be taken that is not
pub limit-is : (l : Layout) (next : ℕ) → next ≤ 1 + l.logs * l.log_size → (all_free (files_from l next)).limit ≡ 1 + l.logs * l.log_size
limit-is l next to = omega (arith, zero-mod l.log_size, to)

-- the log was read of an image that alone can be left
pub is-read : {D : Type 0} (means : Ghosts D) (tells : Type 0) (l : Layout) (next : ℕ) (disk : D)
    → IsLayout l → HasPages (means.size disk) l → Only (means.image disk) (means.can_leave disk) → ((x : Image) → means.can_leave disk x → tells)
    → (tells → (b : ℕ) → 1 ≤ b → b < next → (body : Body) × (body_at (log_region l) b (means.image disk) ≡ Some body))
    → (tells → body_at (log_region l) next (means.image disk) ≡ None)
    → IsRead means (files_from l next) disk
is-read means tells l next disk layout pages only told held ends = record {
  lies = omega (arith, layout.enough, pages.root);
  stable = λ x left k below. ap (λ y. block (log_region l) k y) (only x left);
  held = λ x left b from below. let was = held (told x left) b from below in (was.0, ap (λ y. body_at (log_region l) b y) (only x left) ∙ was.1);
  ends = λ x left. ap (λ y. body_at (log_region l) next y) (only x left) ∙ ends (told x left);
}

-- an image whose log ends whole has its own log
pub same-log : (f : Files) (x : Image) → EndsWhole f.region f.first x → SameLog f x x
same-log f x whole = record {
  elsewhere = record { chunks = refl; lengths = λ j. refl; bytes = λ j i no. refl };
  tail = sym (append-nil (tail_entries f.region f.first x));
  whole = whole;
}

-- what was flushed at all was flushed by each moment
all-flushed : (m n : ℕ) (marks : List Flushed) → AllByRecursion (λ (f : Flushed). f.count ≤ n) marks → HoldsFlushed m n marks
all-flushed m n [] each = tt
all-flushed m n (f ∷ marks) each = (λ by. each.0, all-flushed m n marks each.1)

-- where nothing was appended, a front of nothing is a front of anything
pub outlives-more : {D : Type 0} (now : D → ℕ) (left_at : D → ℕ → Image → Type 0) (since : ℕ) (base : Image) (before all : List Entry) (marks : List Flushed) (f : Files) (disk : D)
    → Outlives now left_at since base before [] marks f disk → Outlives now left_at since base before all marks f disk
outlives-more now left_at since base before all marks f disk outlives = λ room m c from left.
    let was = outlives room m c from left in
    record {
      front = was.front;
      rest = all;
      parts = subst (λ (l : List Entry). all ≡ l ++ all) (sym (nothing-front was.front was.rest was.parts)) refl;
      log = was.log;
      flushed = was.flushed;
    }
  where
    nothing-front : (front rest : List Entry) → [] ≡ front ++ rest → front ≡ []
    nothing-front [] rest parts = refl
    nothing-front (e ∷ front) rest parts = cc

-- the disk's image was read from old to mid, and the places behind its log were closed from mid to new
module _ {D : Type 0} (means : Ghosts D)
    (no_later : (d : D) (m : ℕ) (c : Image) → means.left_at d m c → m ≤ means.now d) (only_now : (d : D) (c : Image) → means.now d < last_count → means.left_at d (means.now d) c → means.can_leave d c) where
  -- a stop since the beginning left its log
  pub same-since : (old mid new : D) (f : Files) → EndsWhole f.region f.first (means.image old) → Within means old mid (λ x y. y ≡ x) → OnlyBehind means.now means.left_at (means.image old) old mid → Only (means.image old) (means.can_leave mid)
      → Within means mid new (SameLog f) → means.now new < last_count → (m : ℕ) (c : Image) → IsSince means.now means.image means.can_leave old m → means.left_at new m c → SameLog f (means.image old) c
  same-since old mid new f whole first behind settled last room m c since left = at (order m (means.now mid)) since
    where
      at : (means.now mid ≤ m) ⊎ (m < means.now mid) → IsSince means.now means.image means.can_leave old m → SameLog f (means.image old) c
      at (inl late) since = let was = last.during room m late c left in subst (λ (x : Image). SameLog f x c) (settled was.0 was.1) was.2
      at (inr early) (inl only) =
          let was = first.during (omega (arith, room, last.later)) m only.0 c (last.before room m early c left) in
          subst (λ (y : Image). SameLog f (means.image old) y) (sym (was.2 ∙ only.1 was.0 was.1)) (same-log f (means.image old) whole)
      at (inr early) (inr from) =
          subst (λ (y : Image). SameLog f (means.image old) y) (sym (behind (omega (arith, room, last.later)) m c from (last.before room m early c left))) (same-log f (means.image old) whole)

  -- a later moment is one since the beginning too
  since-later : (old : D) (since m : ℕ) → IsSince means.now means.image means.can_leave old since → since ≤ m → IsSince means.now means.image means.can_leave old m
  since-later old since m (inl only) le = inl (let from : means.now old ≤ m = omega (arith, only.0, le) in from, only.1)
  since-later old since m (inr from) le = inr (omega (arith, from, le))

  -- so it is kept since then
  pub keeps-cleared : (old mid new : D) (l : Layout) (next : ℕ) (f : Files) (b : Buffer) (blocks since : ℕ)
      → f ≡ all_free (files_from l next) → b ≡ empty_at next blocks → IsReady means f new → ((m : ℕ) (c : Image) → means.left_at new m c → EndsWhole (log_region l) 1 (means.image old))
      → Within means old mid (λ x y. y ≡ x) → OnlyBehind means.now means.left_at (means.image old) old mid → Only (means.image old) (means.can_leave mid)
      → Within means mid new (SameLog (files_from l next)) → IsSince means.now means.image means.can_leave old since
      → KeepsLog means since (means.image old) (log_in l (means.image old)) [] [] f b new
  keeps-cleared old mid new l next f b blocks since files buffer ready whole first behind settled last is =
      subst (λ (g : Files). KeepsLog means since base (log_in l base) [] [] g b new) (sym files)
      (subst (λ (a : Buffer). KeepsLog means since base (log_in l base) [] [] free a new) (sym buffer) (record {
        ready = subst (λ (g : Files). IsReady means g new) files ready;
        numbered = refl;
        written = [];
        parts = refl;
        marked = tt;
        held = held;
        outlives = λ room m c from left. record {
          front = [];
          rest = [];
          parts = refl;
          log = of_base c (same-since old mid new (files_from l next) (whole m c left) first behind settled last room m c (since-later old since m is from) left);
          flushed = tt;
        };
      }))
    where
      base : Image
      base = means.image old

      free : Files
      free = all_free (files_from l next)

      of_base : (c : Image) → SameLog (files_from l next) base c → HasLog free base (log_in l base) [] c
      of_base c same = record { elsewhere = same.elsewhere; tail = same.tail; whole = same.whole }

      held : (c : Image) → means.can_leave new c → HasLog free base (log_in l base) [] c
      held c left = let was = last.ends c left in of_base c (subst (λ (x : Image). SameLog (files_from l next) x c) (settled was.0 was.1) was.2)
