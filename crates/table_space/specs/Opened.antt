-- What is known of pages before a transaction ends: no slot is known to be taken that it alone has.
use Rattle.std.specs.Prelude.{◌≡◌, ℕ, ◌-◌, ◌≤◌, List, Option, Some, None, length, slice_index_or}
use Rattle.table_space.specs.declared.front.Front.{Front}
use Rattle.table_space.specs.declared.rooms.Rooms.{Rooms}
use Rattle.table_space.specs.Fronts.{AreBlockedTo, AreUnused}
use Rattle.table_space.specs.Rooms.{known_taken}
use Rattle.table_space.specs.Seen.{Entries}

-- of a page
pub record IsFrontFor (entries : Entries) (page : ℕ) (f : Front) (tx : ℕ) : Type 0 where
  pub taken : AreBlockedTo entries page f.taken tx
  pub used : AreUnused entries page f.used

abbrev pub IsRoomFor : Entries → Option ℕ → Rooms → ℕ → ℕ → Type 0
IsRoomFor entries owner rooms page tx = (t : ℕ) → owner ≡ Some t → AreBlockedTo entries page (known_taken rooms t page) tx

pub record IsOpened (entries : Entries) (os : List (Option ℕ)) (fs : List Front) (rooms : Rooms) (tx page : ℕ) : Type 0 where
  pub front : (d : Front) → page ≤ length fs → IsFrontFor entries page (slice_index_or fs (page - 1) d) tx
  pub room : page ≤ length os → IsRoomFor entries (slice_index_or os (page - 1) None) rooms page tx

-- of all pages
abbrev pub AreFrontsFor : Entries → List Front → ℕ → Type 0
AreFrontsFor entries fs tx = (page : ℕ) (d : Front) → 1 ≤ page → page ≤ length fs → IsFrontFor entries page (slice_index_or fs (page - 1) d) tx

abbrev pub AreRoomsFor : Entries → List (Option ℕ) → Rooms → ℕ → Type 0
AreRoomsFor entries os rooms tx = (page : ℕ) → 1 ≤ page → page ≤ length os → IsRoomFor entries (slice_index_or os (page - 1) None) rooms page tx
