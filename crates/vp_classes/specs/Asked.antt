-- What each class was asked for.
use Rattle.std.specs.Prelude.{ℕ, ◌≡◌, ◌<◌, ◌≤◌, ◌==◌, Bool, true, false, if◌then◌else◌, Option, List, [], ◌∷◌, ◌++◌, drop, slice_get}
use Rattle.std.specs.List.{list_any}
use Rattle.ids_base.specs.declared.class.Class.{Class}
use Rattle.ids_base.specs.declared.class.Class.TheVariants.{Cpu, Lio, Pio, Aio}
use Rattle.vp_classes.specs.declared.request.IoRequest.{IoRequest}
use Rattle.vp_classes.specs.declared.request.IoRequest.TheVariants.{LogFlush, ClearFile, PhysFlush, Page, Clean, Checkpoint}

-- how many data pages and frames there are, and the requests of the classes that take some, oldest first
pub record Asked : Type 0 where
  pub pages : ℕ
  pub frames : ℕ
  pub lio : List IoRequest
  pub pio : List IoRequest
  pub aio : List IoRequest

-- the requests of a class, of which CPU has none
abbrev pub queue : Asked → Class → List IoRequest
queue a Cpu = []
queue a Lio = a.lio
queue a Pio = a.pio
queue a Aio = a.aio

abbrev pub with_queue : Asked → Class → List IoRequest → Asked
with_queue a Cpu q = a
with_queue a Lio q = record a { lio = q }
with_queue a Pio q = record a { pio = q }
with_queue a Aio q = record a { aio = q }

-- which class takes a request
abbrev pub taker : IoRequest → Class
taker LogFlush = Lio
taker ClearFile = Lio
taker PhysFlush = Pio
taker (Page p) = Aio
taker (Clean f) = Aio
taker Checkpoint = Aio

-- the page or the frame of a request is there
abbrev pub IsInRange : Asked → IoRequest → Type 0
IsInRange a LogFlush = Unit {0}
IsInRange a ClearFile = Unit {0}
IsInRange a PhysFlush = Unit {0}
IsInRange a (Page p) = (1 ≤ p) × (p ≤ a.pages)
IsInRange a (Clean f) = f < a.frames
IsInRange a Checkpoint = Unit {0}

-- the class takes the request
abbrev pub IsTaken : Asked → Class → IoRequest → Type 0
IsTaken a class r = (class ≡ taker r) × IsInRange a r

-- whether two requests are for the same work
abbrev pub is_same : IoRequest → IoRequest → Bool
is_same LogFlush LogFlush = true
is_same ClearFile ClearFile = true
is_same PhysFlush PhysFlush = true
is_same (Page p) (Page q) = p == q
is_same (Clean f) (Clean g) = f == g
is_same Checkpoint Checkpoint = true
is_same r s = false

-- whether a request is among these
abbrev pub is_queued : IoRequest → List IoRequest → Bool
is_queued r rs = list_any (is_same r) rs

-- no class was asked for anything
abbrev pub none_asked : ℕ → ℕ → Asked
none_asked pages frames = record { pages = pages; frames = frames; lio = []; pio = []; aio = [] }

-- a request goes behind the others of its class, if it is not among them
abbrev pub asked : Asked → Class → IoRequest → Asked
asked a class r = with_queue a class (if is_queued r (queue a class) then queue a class else queue a class ++ r ∷ [])

-- the oldest request of a class, and what is left without it
abbrev pub next_of : Asked → Class → Option IoRequest
next_of a class = slice_get (queue a class) 0

abbrev pub taken : Asked → Class → Asked
taken a class = with_queue a class (drop 1 (queue a class))
