-- A call that is made again on an image, or what a stop leaves of it.
use Rattle.std.specs.Prelude.{◌≡◌, ◌⊎◌, ℕ, length, Bool, true, false}
use Rattle.ids_outside.specs.Images.{Image}
use Rattle.ids_outside.specs.MemoryDisk.{put, overlaid, extended}
use Rattle.ids_outside.specs.declared.record.Call.{Call}
use Rattle.ids_outside.specs.declared.record.Call.TheVariants.{Wrote, Tore, Grew, Synced}

abbrev pub is_synced : Call → Bool
is_synced (Wrote chunk at bytes) = false
is_synced (Tore chunk at n) = false
is_synced (Grew chunk pages) = false
is_synced Synced = true

-- nothing is written, or some bytes in this range
abbrev pub SomeBytes : ℕ → ℕ → ℕ → Image → Image → Type 0
SomeBytes chunk at n x y = (y ≡ x) ⊎ ((new : ℕ → ℕ) × (y ≡ overlaid x chunk at n new))

-- what a stop may leave of a call that is pending
abbrev pub Remade : Call → Image → Image → Type 0
Remade (Wrote chunk at bytes) x y = SomeBytes chunk at (length bytes.items) x y
Remade (Tore chunk at n) x y = SomeBytes chunk at n x y
Remade (Grew chunk pages) x y = (y ≡ x) ⊎ ((filler : ℕ) × (y ≡ extended x chunk pages filler))
Remade Synced x y = y ≡ x

-- a call that is done
abbrev pub done : Call → Image → Image
done (Wrote chunk at bytes) x = put x chunk at bytes.items
done (Tore chunk at n) x = x
done (Grew chunk pages) x = extended x chunk pages 0
done Synced x = x
