-- The lines of the names reached, and what was found in them.
use Rattle.std.specs.Prelude.{◌≡◌, ◌≢◌, ℕ, ◌<◌, ◌≤◌, true, false, List, length, slice_index, slice_index_or, Vec, Some, nat_eq, ◌⊎◌}
use Rattle.std.specs.Global.{Global}
use Rattle.indexmap.specs.IndexMap.{IndexMap, get}
use Rattle.ids_base.specs.Locks.{compatible_modes}
use Rattle.ids_base.specs.declared.lock.LockEntry.{LockEntry}
use Rattle.ids_base.specs.declared.lock.LockMode.{LockMode}
use Rattle.ids_base.specs.declared.lock.LockMode.TheVariants.{IS, IX, S, U, SIX, X}
use Rattle.wait_graph.specs.declared.reached.Spot.{Spot}
use Rattle.wait_graph.specs.declared.reached.Reached.{Reached}
use Rattle.wait_graph.specs.Search.{Waits}
use Rattle.wait_graph.specs.Targets.{among}

-- x is the element at place i
abbrev pub IsAt : {A : Type 0} → List A → ℕ → A → Type 0
IsAt xs i x = (i < length xs) × (slice_index_or xs i x ≡ x)

-- the number of a mode
abbrev pub mode_number : LockMode → ℕ
mode_number IS = 0
mode_number IX = 1
mode_number S = 2
mode_number U = 3
mode_number SIX = 4
mode_number X = 5

-- an entry of another thread than a, in a mode that does not go with this one
abbrev pub IsAgainst : ℕ → LockMode → LockEntry → Type 0
IsAgainst a mode e = (e.thread ≢ a) × (compatible_modes mode e.mode ≡ false)

-- a stands at this place of a line and waits for the threads of the earlier entries that are against it, and for no other
pub record StandsAt (next : ℕ → List ℕ) (line : List LockEntry) (a at : ℕ) : Type 0 where
  pub waiter : LockEntry
  pub there : IsAt line at waiter
  pub of_a : waiter.thread ≡ a
  pub waits : (j : ℕ) (e : LockEntry) → j < at → IsAt line j e → IsAgainst a waiter.mode e → Waits next a e.thread
  pub all : (b : ℕ) → Waits next a b → (j : ℕ) × (e : LockEntry) × (j < at) × IsAt line j e × IsAgainst a waiter.mode e × (e.thread ≡ b)

-- it stands so in the line of its spot
pub record StandsIn (next : ℕ → List ℕ) (r : Reached) (a : ℕ) (s : Spot) : Type 0 where
  pub inside : s.line < length r.lines.items
  pub scanned : length r.scanned.items ≡ length r.lines.items
  pub stands : (v : Vec LockEntry Global) → IsAt r.lines.items s.line v → StandsAt next v.items a s.at

-- each thread that has a spot stands there
pub record HasLines (next : ℕ → List ℕ) (r : Reached) : Type 0 where
  pub scanned : length r.scanned.items ≡ length r.lines.items
  pub spots : (a : ℕ) (s : Spot) → get nat_eq r.spots a ≡ Some s → StandsIn next r a s

-- a new spot of a is a place of this line, behind the first ones
pub record IsNewSpot (line : List LockEntry) (number first a : ℕ) (s : Spot) : Type 0 where
  pub in_line : s.line ≡ number
  pub behind : first ≤ s.at
  pub waiter : LockEntry
  pub there : IsAt line s.at waiter
  pub of_a : waiter.thread ≡ a

-- a has this spot already, or it is a new one of this line
abbrev pub HasSpots : {S : Type 0} → IndexMap ℕ Spot S → List LockEntry → ℕ → ℕ → ℕ → Spot → Type 0
HasSpots old line number first a s = (get nat_eq old a ≡ Some s) ⊎ IsNewSpot line number first a s

-- the thread of this entry is found, and is not the start
abbrev pub IsFound : ℕ → List ℕ → LockEntry → Type 0
IsFound start found e = (e.thread ≢ start) × (among e.thread found ≡ true)

-- of the first k entries, those in a mode that does not go with this one are found
abbrev pub FoundUpTo : ℕ → List ℕ → List LockEntry → LockMode → ℕ → Type 0
FoundUpTo start found line mode k = (j : ℕ) (e : LockEntry) → j < k → IsAt line j e → compatible_modes mode e.mode ≡ false → IsFound start found e

-- for each line and mode, what was looked at is found
abbrev pub ScannedIn : ℕ → List ℕ → List (Vec LockEntry Global) → List (List ℕ) → Type 0
ScannedIn start found lines scanned = (i : ℕ) (v : Vec LockEntry Global) (ends : List ℕ) (mode : LockMode) → IsAt lines i v → IsAt scanned i ends → FoundUpTo start found v.items mode (slice_index ends (mode_number mode))

abbrev pub AreScanned : ℕ → List ℕ → Reached → Type 0
AreScanned start found r = ScannedIn start found r.lines.items r.scanned.items

-- no more was looked at
abbrev pub KeepsScanned : Reached → Reached → Type 0
KeepsScanned old new = (start : ℕ) (found : List ℕ) → AreScanned start found old → AreScanned start found new

-- the entries from `from` to `to` that are against waiter a are found
abbrev pub AgainstFound : ℕ → List ℕ → ℕ → LockMode → List LockEntry → ℕ → ℕ → Type 0
AgainstFound start found a mode line from to = (j : ℕ) (e : LockEntry) → from ≤ j → j < to → IsAt line j e → IsAgainst a mode e → IsFound start found e
