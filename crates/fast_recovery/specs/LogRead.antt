-- What is read of an image at opening, and why it is not opened.
use Rattle.std.specs.Prelude.{◌≡◌, ◌≢◌, ◌<◌, ◌≤◌, ◌⊎◌, ℕ, ◌+◌, ◌*◌, true, false, List, [], ◌∷◌, ◌++◌, length, Option, Some, None}
use Rattle.std.specs.FinMap.{empty}
use Rattle.ids_base.specs.declared.position.LogPos.{LogPos}
use Rattle.ids_base.specs.declared.status.Place.{Place}
use Rattle.ids_base.specs.declared.status.Place.TheVariants.{Identity, Checkpoint, Entry as EntryAt, DataPage, Block, Record, Row}
use Rattle.ids_outside.specs.Images.{Image}
use Rattle.gate_blocks.specs.declared.region.Region.{Region}
use Rattle.chunk_map.specs.declared.layout.Layout.{Layout}
use Rattle.chunk_map.specs.declared.checkpoint.CheckpointPage.{CheckpointPage}
use Rattle.chunk_map.specs.Checkpoints.{IsNewest, IsFirstDamaged, page_of}
use Rattle.chunk_map.specs.Formatted.{HasLayout, IsFormatted, IsIdentityDamaged}
use Rattle.log_records.specs.Entries.{Entry}
use Rattle.log_records.specs.Bodies.{Body}
use Rattle.log_files.specs.Log.{body_at, tail_from, IsBroken, EndsWhole}
use Rattle.fast_recovery.specs.KeptLog.{entries_in, tail_entries}
use Rattle.ids_model.specs.Slots.{own_all}
use Rattle.ids_model.specs.Recovered.{SlotChange, nothing, run, owns, AreOf}
use Rattle.fast_recovery.specs.Images.{first_checkpoint, log_region, log_in, page_count}
use Rattle.fast_recovery.specs.Order.{open_in}
use Rattle.fast_recovery.specs.InPlace.{all_in_place, is_taken}
use Rattle.fast_recovery.specs.Rising.{all_rise, greatest_after, greatest_in}
use Rattle.fast_recovery.specs.RowDamaged.{HasRowDamaged}
use Rattle.fast_recovery.specs.declared.past.Past.{Past}
use Rattle.fast_recovery.specs.declared.fault.OpenFault.{OpenFault}
use Rattle.fast_recovery.specs.declared.fault.OpenFault.TheVariants.{Disk, Memory, NotFormatted, Damaged, LogFull}

-- the records are in order and in their places among so many pages, and rise, and make this state
pub record IsAfter (pages : ℕ) (log : List Entry) (p : Past) : Type 0 where
  pub order : open_in None log ≡ Some p.open_tx
  pub places : all_in_place pages empty log ≡ true
  pub replay : p.replay ≡ run nothing log
  pub rising : all_rise 0 log ≡ true
  pub greatest : p.last_tx ≡ greatest_in log

-- the first past goes on by these records to the second, and each is taken
pub record GoesOn (pages : ℕ) (p : Past) (es : List Entry) (q : Past) : Type 0 where
  pub order : open_in p.open_tx es ≡ Some q.open_tx
  pub places : all_in_place pages p.replay.own es ≡ true
  pub replay : q.replay ≡ run p.replay es
  pub rising : all_rise p.last_tx es ≡ true
  pub greatest : q.last_tx ≡ greatest_after p.last_tx es

-- changes stand of the open transaction alone
abbrev pub AreAlone : Option ℕ → List SlotChange → Type 0
AreAlone None cs = cs ≡ []
AreAlone (Some tx) cs = AreOf tx cs

-- the records are those of the blocks from 1 on to before the next, which does not count and is not broken
pub record HasRead (pages : ℕ) (r : Region) (x : Image) (p : Past) : Type 0 where
  pub after : IsAfter pages (tail_entries r 1 x) p
  pub held : (b : ℕ) → 1 ≤ b → b < p.next → (body : Body) × (body_at r b x ≡ Some body)
  pub ends : body_at r p.next x ≡ None
  pub whole : EndsWhole r 1 x

-- the record at a place, in the block that comes next after this past, is the first of its records that is not taken
pub record IsRefused (pages : ℕ) (p : Past) (es : List Entry) (pos : LogPos) : Type 0 where
  pub block : pos.block ≡ p.next
  pub front : List Entry
  pub entry : Entry
  pub behind : List Entry
  pub records : es ≡ front ++ entry ∷ behind
  pub index : length front ≡ pos.index
  pub last : Past
  pub goes_on : GoesOn pages p front last
  pub refused : is_taken pages last.last_tx last.open_tx last.replay.own entry ≡ false

-- why the records of the next block are not taken
abbrev pub RecordsFault : ℕ → Past → List Entry → OpenFault → Type 0
RecordsFault pages p es Disk = ⊥
RecordsFault pages p es Memory = Unit {0}
RecordsFault pages p es NotFormatted = ⊥
RecordsFault pages p es (Damaged Identity) = ⊥
RecordsFault pages p es (Damaged (Checkpoint c)) = ⊥
RecordsFault pages p es (Damaged (EntryAt k)) = ⊥
RecordsFault pages p es (Damaged (DataPage k)) = ⊥
RecordsFault pages p es (Damaged (Block b)) = ⊥
RecordsFault pages p es (Damaged (Record pos)) = IsRefused pages p es pos
RecordsFault pages p es (Damaged (Row n)) = ⊥
RecordsFault pages p es LogFull = ⊥

-- the record at a place of the log is the first that is not taken
pub record IsFirstDamagedRecord (pages : ℕ) (r : Region) (x : Image) (pos : LogPos) : Type 0 where
  -- the blocks that count from 1 on: some, one with the number of the place, and others
  pub before : List Body
  pub body : Body
  pub rest : List Body
  pub blocks : tail_from r 1 x ≡ before ++ body ∷ rest
  pub number : body.number ≡ pos.block
  -- in it the record has the index of the place
  pub front : List Entry
  pub entry : Entry
  pub behind : List Entry
  pub records : body.entries ≡ front ++ entry ∷ behind
  pub index : length front ≡ pos.index
  -- all records before it are in order and in their places, and rise
  pub last : Option ℕ
  pub in_order : open_in None (entries_in before ++ front) ≡ Some last
  pub in_place : all_in_place pages empty (entries_in before ++ front) ≡ true
  pub rising : all_rise 0 (entries_in before ++ front) ≡ true
  -- and it is not taken
  pub refused : is_taken pages (greatest_in (entries_in before ++ front)) last (own_all empty (owns (entries_in before ++ front))) entry ≡ false

-- the block behind the tail is broken, and has this number; the records before it are in order and in their places, and rise
pub record IsBrokenEnd (pages : ℕ) (r : Region) (x : Image) (b : ℕ) : Type 0 where
  pub behind : b ≡ 1 + length (tail_from r 1 x)
  pub broken : IsBroken r b x
  pub last : Option ℕ
  pub in_order : open_in None (tail_entries r 1 x) ≡ Some last
  pub in_place : all_in_place pages empty (tail_entries r 1 x) ≡ true
  pub rising : all_rise 0 (tail_entries r 1 x) ≡ true

-- why the log of a region is not read
abbrev pub LogFault : ℕ → Region → Image → OpenFault → Type 0
LogFault pages r x Disk = Unit {0}
LogFault pages r x Memory = Unit {0}
LogFault pages r x NotFormatted = ⊥
LogFault pages r x (Damaged Identity) = ⊥
LogFault pages r x (Damaged (Checkpoint c)) = ⊥
LogFault pages r x (Damaged (EntryAt k)) = ⊥
LogFault pages r x (Damaged (DataPage k)) = ⊥
LogFault pages r x (Damaged (Block b)) = IsBrokenEnd pages r x b
LogFault pages r x (Damaged (Record pos)) = IsFirstDamagedRecord pages r x pos
LogFault pages r x (Damaged (Row n)) = ⊥
LogFault pages r x LogFull = ⊥

-- page c is the first damaged one, or the newest checkpoint stands on it and is not the one that formatting writes
abbrev pub IsOtherCheckpoint : ℕ → Image → Type 0
IsOtherCheckpoint c x = IsFirstDamaged c x ⊎ ((p : CheckpointPage) × IsNewest p x × (p ≢ first_checkpoint) × (c ≡ page_of p.number))

-- the record at a place is the first of the image's log that is out of order or not in its place, or does not rise
abbrev pub IsRecordDamaged : LogPos → Image → Type 0
IsRecordDamaged pos x = (l : Layout) × HasLayout l x × IsFirstDamagedRecord (page_count l) (log_region l) x pos

-- the block with this number, behind the tail of the image's log, is broken
abbrev pub IsBlockDamaged : ℕ → Image → Type 0
IsBlockDamaged b x = (l : Layout) × HasLayout l x × IsBrokenEnd (page_count l) (log_region l) x b

-- what is damaged at a place
abbrev pub IsDamagedAt : Image → Place → Type 0
IsDamagedAt x Identity = IsIdentityDamaged x
IsDamagedAt x (Checkpoint c) = IsOtherCheckpoint c x
IsDamagedAt x (EntryAt k) = ⊥
IsDamagedAt x (DataPage k) = ⊥
IsDamagedAt x (Block b) = IsBlockDamaged b x
IsDamagedAt x (Record pos) = IsRecordDamaged pos x
IsDamagedAt x (Row n) = HasRowDamaged x n

-- a transaction is open in the log, and each block of its files is taken
pub record IsLogFull (x : Image) : Type 0 where
  pub layout : Layout
  pub has : HasLayout layout x
  pub tx : ℕ
  pub standing : open_in None (log_in layout x) ≡ Some (Some tx)
  pub in_place : all_in_place (page_count layout) empty (log_in layout x) ≡ true
  pub rising : all_rise 0 (log_in layout x) ≡ true
  pub taken : length (tail_from (log_region layout) 1 x) ≡ layout.logs * layout.log_size

-- why an image is not opened
abbrev pub OpenCause : Image → OpenFault → Type 0
OpenCause x Disk = Unit {0}
OpenCause x Memory = Unit {0}
OpenCause x NotFormatted = ¬ IsFormatted x
OpenCause x (Damaged place) = IsDamagedAt x place
OpenCause x LogFull = IsLogFull x
