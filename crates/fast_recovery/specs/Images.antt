-- What an image holds while the tables are kept by the logical log alone: nothing stands on the pages, and the log begins with block 1.
use Rattle.std.specs.Prelude.{◌≡◌, ◌<◌, ◌≤◌, ℕ, ◌+◌, ◌*◌, true, List, Option, Some, None}
use Rattle.std.specs.FinMap.{empty}
use Rattle.ids_outside.specs.Images.{Image, byte}
use Rattle.gate_blocks.specs.Gates.{block}
use Rattle.gate_blocks.specs.declared.region.Region.{Region}
use Rattle.chunk_map.specs.declared.layout.Layout.{Layout}
use Rattle.chunk_map.specs.declared.checkpoint.CheckpointPage.{CheckpointPage}
use Rattle.chunk_map.specs.Checkpoints.{IsNewest}
use Rattle.chunk_map.specs.Formatted.{HasLayout}
use Rattle.log_records.specs.Entries.{Entry}
use Rattle.log_files.specs.Log.{EndsWhole}
use Rattle.fast_recovery.specs.KeptLog.{tail_entries}
use Rattle.ids_model.specs.Tables.{Tables}
use Rattle.ids_model.specs.Logged.{IsRecovered}
use Rattle.fast_recovery.specs.Order.{open_in}
use Rattle.fast_recovery.specs.InPlace.{all_in_place}
use Rattle.fast_recovery.specs.Rising.{all_rise}

-- the two logs of a layout
abbrev pub phys_region : Layout → Region
phys_region l = record { chunk = 0; first = 3; count = l.phys }

abbrev pub log_region : Layout → Region
log_region l = record { chunk = 0; first = 3 + l.phys; count = l.logs * l.log_size }

-- how many data pages a layout has
abbrev pub page_count : Layout → ℕ
page_count l = l.chunks * l.data_pages

-- the records of the log
abbrev pub log_in : Layout → Image → List Entry
log_in l x = tail_entries (log_region l) 1 x

-- the checkpoint that formatting writes: number 1, quiet, and the log's tail begins with block 1
abbrev pub first_checkpoint : CheckpointPage
first_checkpoint = record { number = 1; quiet = true; start = record { block = 1; index = 0 } }

-- the first bytes of a chunk are zero
abbrev pub IsZero : Image → ℕ → ℕ → Type 0
IsZero x chunk n = (i : ℕ) → i < n → byte x chunk i ≡ 0

-- the newest checkpoint is the one that formatting writes, no entry of the physical log is open, and no data page has an owner
pub record HasEmptyBase (l : Layout) (x : Image) : Type 0 where
  pub layout : HasLayout l x
  pub newest : IsNewest first_checkpoint x
  pub physical : (k : ℕ) → k < l.phys → block (phys_region l) k x ≡ None
  pub unowned : (chunk : ℕ) → 1 ≤ chunk → chunk ≤ l.chunks → IsZero x chunk (2048 * l.data_pages)

-- the tables that are recovered from an image are those that its log stands for, whose records are in order and in their places and rise, and whose rows are well formed; the
-- block behind the log's tail is not broken
pub record Recovers (x : Image) (T : Tables) : Type 0 where
  pub layout : Layout
  pub base : HasEmptyBase layout x
  pub last : Option ℕ
  pub in_order : open_in None (log_in layout x) ≡ Some last
  pub in_place : all_in_place (page_count layout) empty (log_in layout x) ≡ true
  pub rising : all_rise 0 (log_in layout x) ≡ true
  pub whole : EndsWhole (log_region layout) 1 x
  pub tables : IsRecovered (log_in layout x) T
