-- Images of a disk, and what its calls do to them.
use Rattle.std.specs.Prelude.{◌<◌, ◌≡◌, ℕ, zero, suc, ◌+◌, ◌*◌, ◌/◌, ◌≤◌, max, List, [], ◌∷◌, length, get_or}

-- an image is a list of bytes for each chunk
abbrev pub Image : Type 0
Image = List (List ℕ)

abbrev pub chunk_of : Image → ℕ → List ℕ
chunk_of x chunk = get_or x chunk []

-- the byte at a place of a chunk, and 0 past its end
abbrev pub byte : Image → ℕ → ℕ → ℕ
byte x chunk i = get_or (chunk_of x chunk) i 0

-- n bytes of a chunk
unfoldable pub bytes_of : Image → ℕ → ℕ → ℕ → List ℕ
bytes_of x chunk at zero = []
bytes_of x chunk at (suc n) = byte x chunk at ∷ bytes_of x chunk (suc at) n

-- the whole pages of a chunk
abbrev pub pages_of : Image → ℕ → ℕ
pages_of x chunk = length (chunk_of x chunk) / 2048

-- a disk's image: nine chunks of whole pages
pub record IsImage (x : Image) : Type 0 where
  pub chunks : length x ≡ 9
  pub pages : (j : ℕ) → length (chunk_of x j) ≡ 2048 * pages_of x j

-- the places of a range
abbrev pub Range : ℕ → ℕ → ℕ → ℕ → ℕ → Type 0
Range chunk at n j i = (j ≡ chunk) × (at ≤ i) × (i < at + n)

-- images of the same lengths that differ at these places at most
pub record SameBut (changed : ℕ → ℕ → Type 0) (x y : Image) : Type 0 where
  pub chunks : length y ≡ length x
  pub lengths : (j : ℕ) → length (chunk_of y j) ≡ length (chunk_of x j)
  pub bytes : (j i : ℕ) → ¬ changed j i → byte y j i ≡ byte x j i

-- a write that a stop cuts short leaves any bytes in its range, and the same elsewhere
abbrev pub Torn : ℕ → ℕ → ℕ → Image → Image → Type 0
Torn chunk at n x y = SameBut (Range chunk at n) x y

-- a write that is done leaves its bytes in its range, and the same elsewhere
pub record Written (chunk at : ℕ) (bytes : List ℕ) (x y : Image) : Type 0 where
  pub elsewhere : SameBut (Range chunk at (length bytes)) x y
  pub there : bytes_of y chunk at (length bytes) ≡ bytes

-- a grow that a stop cuts short makes the chunk longer by some pages, up to those that were asked for,
-- with any bytes in them
pub record Grown (chunk pages : ℕ) (x y : Image) : Type 0 where
  pub chunks : length y ≡ length x
  pub others : (j : ℕ) → ¬ (j ≡ chunk) → chunk_of y j ≡ chunk_of x j
  pub longer : (more : ℕ) × (length (chunk_of y chunk) ≡ length (chunk_of x chunk) + 2048 * more)
  pub no_longer : length (chunk_of y chunk) ≤ max (length (chunk_of x chunk)) (2048 * pages)
  pub bytes : (i : ℕ) → i < length (chunk_of x chunk) → byte y chunk i ≡ byte x chunk i

-- a grow that is done makes the chunk at least so many pages long; the new bytes are zero
pub record Extended (chunk pages : ℕ) (x y : Image) : Type 0 where
  pub chunks : length y ≡ length x
  pub others : (j : ℕ) → ¬ (j ≡ chunk) → chunk_of y j ≡ chunk_of x j
  pub longer : length (chunk_of y chunk) ≡ max (length (chunk_of x chunk)) (2048 * pages)
  pub bytes : (i : ℕ) → byte y chunk i ≡ byte x chunk i
