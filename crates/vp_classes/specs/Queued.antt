-- The queues and the marks of what is queued.
use Rattle.std.specs.Prelude.{ℕ, ◌≡◌, ◌+◌, ◌≤◌, ◌&&◌, List, [], ◌∷◌, length}
use Rattle.std.specs.VecDeque.{deque_capacity}
use Rattle.ids_base.specs.declared.class.Class.{Class}
use Rattle.ids_base.specs.declared.class.Class.TheVariants.{Lio, Pio, Aio}
use Rattle.vp_classes.specs.declared.request.IoRequest.{IoRequest}
use Rattle.vp_classes.specs.Asked.{Asked, is_same}
use Rattle.vp_classes.specs.Marks.{one_if, mark, is_taker, marked, IsThere}
use Rattle.vp_classes.specs.declared.marks.Marks.{Marks}
use Rattle.vp_classes.specs.declared.queues.Requests.TheInside.{Inside}

abbrev pub asked_of : Inside → Asked
asked_of a = record { pages = length a.marks.pages.items; frames = length a.marks.frames.items; lio = a.lio.items; pio = a.pio.items; aio = a.aio.items }

-- how often a request stands in a list
abbrev pub times : IoRequest → List IoRequest → ℕ
times r [] = 0
times r (s ∷ ss) = one_if (is_same r s) + times r ss

-- a class's queue has each marked request that the class takes once, and nothing else; so it is as long as there are marks
pub record IsMarked (marks : Marks) (class : Class) (rs : List IoRequest) : Type 0 where
  pub once : (r : IoRequest) → times r rs ≡ one_if (is_taker class r && mark marks r)
  pub len : length rs ≡ marked marks class

-- there is a mark for the first of these requests
abbrev pub HeadIsThere : Marks → List IoRequest → Type 0
HeadIsThere marks [] = Unit {0}
HeadIsThere marks (r ∷ rs) = IsThere marks r

-- the marks say what is queued, and there is room for all
pub record IsKept (a : Inside) : Type 0 where
  pub lio : IsMarked a.marks Lio a.lio.items
  pub pio : IsMarked a.marks Pio a.pio.items
  pub aio : IsMarked a.marks Aio a.aio.items
  pub lio_room : 2 ≤ deque_capacity a.lio
  pub pio_room : 1 ≤ deque_capacity a.pio
  pub aio_room : length a.marks.pages.items + length a.marks.frames.items + 1 ≤ deque_capacity a.aio
