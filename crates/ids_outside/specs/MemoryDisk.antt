-- The disk model: a synced image, what a read sees, and the ranges that were written since; and the state
-- after a list of calls.
use Rattle.std.specs.Prelude.{◌<◌, ◌≡◌, ◌⊎◌, ℕ, zero, suc, ◌+◌, ◌-◌, ◌*◌, ◌^◌, ◌≤◌, List, [], ◌∷◌, ◌++◌, length, get_or, map, replicate, Bool, Vec, nat_lt, nat_le, if◌then◌else◌}
use Rattle.std.specs.List.{list_all}
use Rattle.std.proofs.Common.{set}
use Rattle.std.specs.declared.alloc.Global.{Global}
use Rattle.ids_outside.specs.Images.{Image, chunk_of, pages_of, byte, IsImage, Range}
use Rattle.ids_outside.specs.declared.record.Call.{Call}
use Rattle.ids_outside.specs.declared.record.Call.TheVariants.{Wrote, Tore, Grew, Synced}
use Rattle.ids_outside.specs.declared.record.Entry.{Entry}

abbrev pub images : List (Vec ℕ Global) → Image
images vs = map (λ v. v.items) vs

-- with empty chunks up to nine
unfoldable pub nine : Image → Image
nine x = x ++ replicate (9 - length x) []

-- f k, f (k + 1), .. , n of them
abbrev pub table : (ℕ → ℕ) → ℕ → ℕ → List ℕ
table f k zero = []
table f k (suc n) = f k ∷ table f (suc k) n

-- the second number within the span, the first outside
abbrev pub within_span : ℕ → ℕ → ℕ → ℕ → ℕ → ℕ
within_span at n i old new = if nat_lt i at then old else (if nat_lt i (at + n) then new else old)

-- a chunk with other bytes in a span, of the same length
unfoldable pub overlay : ℕ → ℕ → List ℕ → (ℕ → ℕ) → List ℕ
overlay at n xs new = table (λ i. within_span at n i (get_or xs i 0) (new i)) 0 (length xs)

unfoldable pub overlaid : Image → ℕ → ℕ → ℕ → (ℕ → ℕ) → Image
overlaid x chunk at n new = set x chunk (overlay at n (chunk_of x chunk) new)

-- an image with these bytes in a chunk
abbrev pub put : Image → ℕ → ℕ → List ℕ → Image
put x chunk at bytes = overlaid x chunk at (length bytes) (λ i. get_or bytes (i - at) 0)

-- an image with a chunk that has at least so many pages, the new ones filled with a byte
unfoldable pub extended : Image → ℕ → ℕ → ℕ → Image
extended x chunk pages filler = set x chunk (chunk_of x chunk ++ replicate (2048 * pages - length (chunk_of x chunk)) filler)

pub record Span : Type 0 where
  pub chunk : ℕ
  pub at : ℕ
  pub len : ℕ

-- what was synced, what a read sees, and the ranges that were written since the sync
pub record State : Type 0 where
  pub synced : Image
  pub shown : Image
  pub pending : List Span

abbrev pub IsPending : List Span → ℕ → ℕ → Type 0
IsPending [] j i = ⊥
IsPending (s ∷ spans) j i = Range s.chunk s.at s.len j i ⊎ IsPending spans j i

-- A stop leaves the synced bytes outside the pending ranges, and any bytes inside them. A chunk that grew has any
-- number of pages from the synced to the present one, with any bytes in the new ones.
pub record CanLeave (s : State) (c : Image) : Type 0 where
  pub image : IsImage c
  pub no_shorter : (j : ℕ) → length (chunk_of s.synced j) ≤ length (chunk_of c j)
  pub no_longer : (j : ℕ) → length (chunk_of c j) ≤ length (chunk_of s.shown j)
  pub bytes : (j i : ℕ) → i < length (chunk_of s.synced j) → ¬ IsPending s.pending j i → byte c j i ≡ byte s.synced j i

-- nothing is pending
abbrev pub settled : Image → State
settled x = record { synced = x; shown = x; pending = [] }

abbrev pub torn_at : ℕ → ℕ → ℕ → Image → State → State
torn_at chunk at n shown s = record { synced = s.synced; shown = shown; pending = record { chunk = chunk; at = at; len = n } ∷ s.pending }

-- the state after a call
abbrev pub after : Call → State → State
after (Wrote chunk at bytes) s = torn_at chunk at (length bytes.items) (put s.shown chunk at bytes.items) s
after (Tore chunk at n) s = torn_at chunk at n s.shown s
after (Grew chunk pages) s = record { synced = s.synced; shown = extended s.shown chunk pages 0; pending = s.pending }
after Synced s = settled s.shown

-- the state after the entries that were made by a moment
abbrev pub replay : ℕ → State → List Entry → State
replay m s [] = s
replay m s (e ∷ entries) = replay m (if nat_le e.moment m then after e.call s else s) entries

-- whether each entry was made by a moment
abbrev pub all_by : ℕ → List Entry → Bool
all_by m entries = list_all (λ e. nat_le e.moment m) entries

-- The state at a moment of a disk that had an image at first.
abbrev pub state : Image → List Entry → ℕ → State
state first entries m = replay m (settled first) entries

-- what could be left at a moment up to now
abbrev pub CouldLeave : Image → List Entry → ℕ → ℕ → Image → Type 0
CouldLeave first entries now m c = (m ≤ now) × CanLeave (state first entries m) c

-- an image in memory: at most nine chunks, each of whole pages, whose number is one of 32 bits
pub record IsMemoryImage (x : Image) : Type 0 where
  pub chunks : length x ≤ 9
  pub pages : (j : ℕ) → length (chunk_of x j) ≡ 2048 * pages_of x j
  pub fits : (j : ℕ) → pages_of x j < 2 ^ 32
