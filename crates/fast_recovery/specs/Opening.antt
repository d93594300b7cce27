-- What opening finds on a disk, and how the log goes on from there.
use Rattle.std.specs.Prelude.{◌≡◌, ◌<◌, ◌≤◌, ◌⊎◌, ℕ, ◌+◌, ◌*◌, true, List, [], ◌++◌, Option, Some, None}
use Rattle.std.specs.FinMap.{empty}
use Rattle.ids_outside.specs.Counts.{last_count}
use Rattle.ids_outside.specs.Images.{Image}
use Rattle.ids_outside.specs.declared.disk.Disk.{Ghosts}
use Rattle.ids_outside.specs.Stops.{Only}
use Rattle.chunk_map.specs.declared.layout.Layout.{Layout}
use Rattle.chunk_map.specs.Layouts.{IsLayout}
use Rattle.chunk_map.specs.Checkpoints.{IsNewest}
use Rattle.chunk_map.specs.Formatted.{HasLayout, IsFormatted}
use Rattle.log_files.specs.Files.{Files}
use Rattle.log_buffer.specs.Buffers.{empty_at}
use Rattle.fast_recovery.specs.KeptLog.{Flushed, HasLog, KeepsLog, tail_entries}
use Rattle.ids_model.specs.Tables.{Tables}
use Rattle.ids_model.specs.Recovered.{nothing, run}
use Rattle.fast_recovery.specs.Found.{IsKept}
use Rattle.fast_recovery.specs.Images.{Recovers, first_checkpoint, log_region, log_in, page_count}
use Rattle.fast_recovery.specs.Order.{open_in, closing}
use Rattle.fast_recovery.specs.InPlace.{all_in_place}
use Rattle.fast_recovery.specs.Rising.{all_rise, greatest_in}
use Rattle.fast_recovery.specs.LogRead.{HasRead}
use Rattle.fast_recovery.specs.declared.past.Past.{Past}
use Rattle.fast_recovery.specs.declared.opening.Opened.{Opened}
use Rattle.fast_recovery.specs.declared.fault.OpenFault.{OpenFault}
use Rattle.fast_recovery.specs.declared.fault.OpenFault.TheVariants.{Disk, Memory, NotFormatted, Damaged, LogFull}

-- the files of a layout, whose blocks from 1 on to before the next are retained, and no other may be taken
abbrev pub files_from : Layout → ℕ → Files
files_from l next = record { region = log_region l; file_blocks = l.log_size; first = 1; next = next; limit = next }

-- for how many blocks the buffer of the log has room
abbrev pub buffer_blocks : ℕ
buffer_blocks = 8

-- the layout of an image, and what the records of its log say
pub record FoundIn (x : Image) (l : Layout) (p : Past) : Type 0 where
  pub layout : HasLayout l x
  pub newest : IsNewest first_checkpoint x
  pub read : HasRead (page_count l) (log_region l) x p

-- the log is as it was, and so is all else
abbrev pub SameLog : Files → Image → Image → Type 0
SameLog f x y = HasLog f x (tail_entries f.region f.first x) [] y

-- what was found in an image: a ROLLBACK of the open transaction is noted
pub record HasOpened (x : Image) (o : Opened) : Type 0 where
  pub layout : HasLayout o.layout x
  pub newest : IsNewest first_checkpoint x
  pub last : Option ℕ
  pub in_order : open_in None (log_in o.layout x) ≡ Some last
  pub in_place : all_in_place (page_count o.layout) empty (log_in o.layout x) ≡ true
  pub rising : all_rise 0 (log_in o.layout x) ≡ true
  pub replay : o.replay ≡ run nothing (log_in o.layout x ++ closing last)
  pub greatest : o.last_tx ≡ greatest_in (log_in o.layout x)

-- the files of the layout from block 1 on, each place of which is retained or may be taken; a buffer without records; nothing stands; and the tables that pages and rows stand for
pub record IsOpened (o : Opened) : Type 0 where
  pub layout : IsLayout o.layout
  pub region : o.files.region ≡ log_region o.layout
  pub file_blocks : o.files.file_blocks ≡ o.layout.log_size
  pub first : o.files.first ≡ 1
  pub limit : o.files.limit ≡ 1 + o.layout.logs * o.layout.log_size
  pub buffer : o.buffer ≡ empty_at o.files.next buffer_blocks
  pub quiet : o.replay.standing ≡ []
  pub found : IsKept o.replay o.found.tables o.found.numbers o.found.greatest

-- the log of an image is kept, with a ROLLBACK of the open transaction behind it
pub record KeepsOpened {D : Type 0} (means : Ghosts D)
    (since : ℕ) (x : Image) (o : Opened) (disk : D) : Type 0 where
  pub last : Option ℕ
  pub in_order : open_in None (log_in o.layout x) ≡ Some last
  pub marks : List Flushed
  pub keeps : KeepsLog means since x (log_in o.layout x) (closing last) marks o.files o.buffer disk

-- a moment since the call began; that of its beginning only where a stop could then leave nothing but the image that was read
abbrev pub IsSince : {D : Type 0} → (D → ℕ) → (D → Image) → (D → Image → Type 0) → D → ℕ → Type 0
IsSince {D} now image can_leave old since = ((now old ≤ since) × Only (image old) (can_leave old)) ⊎ (now old < since)

-- where moments are counted, a stop at one behind the first leaves this image
abbrev pub OnlyBehind : {D : Type 0} → (D → ℕ) → (D → ℕ → Image → Type 0) → Image → D → D → Type 0
OnlyBehind {D} now left_at x old new = now new < last_count → (m : ℕ) (c : Image) → now old < m → left_at new m c → c ≡ x

-- nothing more was made to stay: a read sees what it saw, and each image that a stop could leave at a moment since could have been left as the call began
pub record IsUnsynced {D : Type 0} (now : D → ℕ) (image : D → Image) (can_leave : D → Image → Type 0) (left_at : D → ℕ → Image → Type 0) (old new : D) : Type 0 where
  pub same : image new ≡ image old
  pub left : (m : ℕ) (c : Image) → now old ≤ m → left_at new m c → can_leave old c

-- Each stop since the call began leaves such an image: from the moment of its beginning on where a stop could then leave nothing but the image that was read; else at each moment
-- behind it, or the call failed so and nothing more was made to stay.
pub record EachStop {D : Type 0} (now : D → ℕ) (image : D → Image) (can_leave : D → Image → Type 0) (left_at : D → ℕ → Image → Type 0) (old new : D)
    (failed : Type 0) (good : ℕ → Image → Type 0) : Type 0 where
  pub settled : Only (image old) (can_leave old) → (m : ℕ) (c : Image) → now old ≤ m → left_at new m c → good m c
  pub behind : ((m : ℕ) (c : Image) → now old < m → left_at new m c → good m c) ⊎ (failed × IsUnsynced now image can_leave left_at old new)

-- whatever tables are recovered from the first image are recovered from the second
abbrev pub KeepsTables : Image → Image → Type 0
KeepsTables x y = (T : Tables) → Recovers x T → Recovers y T

-- where moments are counted, each such stop leaves the same tables
abbrev pub TablesStay : {D : Type 0} → (D → ℕ) → (D → Image) → (D → Image → Type 0) → (D → ℕ → Image → Type 0) → D → D → Type 0 → Type 0
TablesStay {D} now image can_leave left_at old new failed =
    now new < last_count → EachStop now image can_leave left_at old new failed (λ m c. KeepsTables (image old) c)

-- the disk failed, or memory was wanting
abbrev pub IsWant : OpenFault → Type 0
IsWant Disk = Unit {0}
IsWant Memory = Unit {0}
IsWant NotFormatted = ⊥
IsWant (Damaged place) = ⊥
IsWant LogFull = ⊥

-- or the files had no room
abbrev pub ClosingFault : Type 0 → OpenFault → Type 0
ClosingFault full Disk = Unit {0}
ClosingFault full Memory = Unit {0}
ClosingFault full NotFormatted = ⊥
ClosingFault full (Damaged place) = ⊥
ClosingFault full LogFull = full

-- the disk is not one that is opened
abbrev pub IsRefusal : OpenFault → Type 0
IsRefusal Disk = ⊥
IsRefusal Memory = ⊥
IsRefusal NotFormatted = Unit {0}
IsRefusal (Damaged place) = Unit {0}
IsRefusal LogFull = ⊥

-- the image is formatted, where it was looked at before this fault came
abbrev pub WasFormatted : Image → OpenFault → Type 0
WasFormatted x Disk = Unit {0}
WasFormatted x Memory = Unit {0}
WasFormatted x NotFormatted = Unit {0}
WasFormatted x (Damaged place) = IsFormatted x
WasFormatted x LogFull = IsFormatted x
