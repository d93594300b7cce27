-- What contracts see of a disk in memory.
use Rattle.std.specs.Prelude.{◌≡◌, ℕ, ◌*◌, false, List, [], map, replicate, take, if◌then◌else◌}
use Rattle.ids_outside.specs.Images.{Image}
use Rattle.ids_outside.specs.MemoryDisk.{images, nine, State, state, CanLeave, CouldLeave}
use Rattle.ids_outside.specs.Kinds.{calls_by, left_by}
use Rattle.ids_outside.specs.declared.leave.Leave.{Leave}
use Rattle.ids_outside.specs.declared.mem_disk.MemDisk.{MemDisk}

-- what it had at first
abbrev pub first_of : MemDisk → Image
first_of d = nine (images (if d.started then d.first.items else d.image.items))

abbrev pub image_of : MemDisk → Image
image_of d = nine (images d.image.items)

abbrev pub moment_of : MemDisk → ℕ
moment_of d = d.moment

abbrev pub faults_of : MemDisk → ℕ
faults_of d = d.failures.faults

-- its calls that fail, and the calls made
abbrev pub listed_of : MemDisk → List ℕ
listed_of d = d.failures.listed.items

abbrev pub calls_of : MemDisk → ℕ
calls_of d = d.failures.calls

-- the synced image, what a read sees and the pending ranges, as they were at a moment
abbrev pub state_at : MemDisk → ℕ → State
state_at d m = state (first_of d) d.entries.items m

-- what a stop can leave now
abbrev pub can_leave_now : MemDisk → Image → Type 0
can_leave_now d c = CanLeave (state_at d d.moment) c

-- what a stop could have left at a moment
abbrev pub could_leave : MemDisk → ℕ → Image → Type 0
could_leave d m c = CouldLeave (first_of d) d.entries.items d.moment m c

-- what a stop of a kind leaves at a moment; the first write behind the last sync is no second one
abbrev pub image_left_by : Leave → MemDisk → ℕ → Image
image_left_by leave d m = left_by leave false (calls_by m d.entries.items) (first_of d)

-- a chunk of zero pages for each of the first nine numbers
abbrev pub zero_image : List ℕ → Image
zero_image pages = map (λ p. replicate (2048 * p) 0) (take 9 pages)

-- a disk that was just made, with nothing pending
pub record IsFresh (d : MemDisk) (x : Image) (fails : List ℕ) : Type 0 where
  pub image : image_of d ≡ nine x
  pub entries : d.entries.items ≡ []
  pub moment : d.moment ≡ 0
  pub faults : d.failures.faults ≡ 0
  pub calls : d.failures.calls ≡ 0
  pub listed : d.failures.listed.items ≡ fails
