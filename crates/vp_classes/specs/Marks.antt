-- The marks of requests, and what is counted in them.
use Rattle.std.specs.Prelude.{ℕ, suc, zero, ◌≡◌, ◌+◌, ◌≤◌, ◌<◌, Bool, true, false, ◌&&◌, if◌then◌else◌, length, slice_index_or, replicate}
use Rattle.std.specs.List.{sum_by}
use Rattle.ids_base.specs.declared.class.Class.{Class}
use Rattle.ids_base.specs.declared.class.Class.TheVariants.{Cpu, Lio, Pio, Aio}
use Rattle.vp_classes.specs.declared.request.IoRequest.{IoRequest}
use Rattle.vp_classes.specs.declared.request.IoRequest.TheVariants.{LogFlush, ClearFile, PhysFlush, Page, Clean, Checkpoint}
use Rattle.vp_classes.specs.Asked.{is_same}
use Rattle.vp_classes.specs.declared.marks.Marks.{Marks}

-- one where the test holds
abbrev pub one_if : Bool → ℕ
one_if b = if b then 1 else 0

-- the mark of a request; pages count from 1
abbrev pub mark : Marks → IoRequest → Bool
mark a LogFlush = a.log_flush
mark a ClearFile = a.clear_file
mark a PhysFlush = a.phys_flush
mark a (Page zero) = false
mark a (Page (suc p)) = slice_index_or a.pages.items p false
mark a (Clean f) = slice_index_or a.frames.items f false
mark a Checkpoint = a.checkpoint

-- there is a mark for the request
abbrev pub IsThere : Marks → IoRequest → Type 0
IsThere a LogFlush = Unit {0}
IsThere a ClearFile = Unit {0}
IsThere a PhysFlush = Unit {0}
IsThere a (Page p) = (1 ≤ p) × (p ≤ length a.pages.items)
IsThere a (Clean f) = f < length a.frames.items
IsThere a Checkpoint = Unit {0}

-- whether a class is the one that takes a request
abbrev pub is_taker : Class → IoRequest → Bool
is_taker Lio LogFlush = true
is_taker Lio ClearFile = true
is_taker Pio PhysFlush = true
is_taker Aio (Page p) = true
is_taker Aio (Clean f) = true
is_taker Aio Checkpoint = true
is_taker class r = false

-- how many requests of a class are marked, and how many there are
abbrev pub marked : Marks → Class → ℕ
marked a Cpu = 0
marked a Lio = one_if a.log_flush + one_if a.clear_file
marked a Pio = one_if a.phys_flush
marked a Aio = one_if a.checkpoint + (sum_by one_if a.pages.items + sum_by one_if a.frames.items)

abbrev pub limit : Marks → Class → ℕ
limit a Cpu = 0
limit a Lio = 2
limit a Pio = 1
limit a Aio = length a.pages.items + length a.frames.items + 1

-- no request is marked, of so many pages and frames
abbrev pub no_marks : Marks → ℕ → ℕ → Type 0
no_marks a pages frames =
    (a.log_flush ≡ false) × (a.clear_file ≡ false) × (a.phys_flush ≡ false) × (a.checkpoint ≡ false) × (a.pages.items ≡ replicate pages false) × (a.frames.items ≡ replicate frames false)

-- one mark is set or cleared, and the others stay
pub record Sets (old new : Marks) (r : IoRequest) (to : Bool) : Type 0 where
  pub marks : (s : IoRequest) → mark new s ≡ (if is_same s r then to else mark old s)
  pub pages : length new.pages.items ≡ length old.pages.items
  pub frames : length new.frames.items ≡ length old.frames.items
  pub counted : (class : Class) → marked new class + one_if (is_taker class r && mark old r) ≡ marked old class + one_if (is_taker class r && to)
