-- What a stop of each kind leaves of the calls of a record.
use Rattle.std.specs.Prelude.{ℕ, Bool, not, nat_le, if◌then◌else◌, List, [], ◌∷◌, length, map, filter}
use Rattle.std.specs.List.{list_any}
use Rattle.ids_outside.specs.Images.{Image}
use Rattle.ids_outside.specs.MemoryDisk.{put, overlaid, extended}
use Rattle.ids_outside.specs.Remade.{is_synced, done}
use Rattle.ids_outside.specs.declared.leave.Leave.{Leave}
use Rattle.ids_outside.specs.declared.leave.Leave.TheVariants.{Old, New, Half, Torn}
use Rattle.ids_outside.specs.declared.record.Call.{Call}
use Rattle.ids_outside.specs.declared.record.Call.TheVariants.{Wrote, Tore, Grew, Synced}
use Rattle.ids_outside.specs.declared.record.Entry.{Entry}

-- of a write, by whether it is a second one
abbrev pub write_left : Leave → Bool → ℕ → ℕ → List ℕ → Image → Image
write_left Old second chunk at bytes x = x
write_left New second chunk at bytes x = put x chunk at bytes
write_left Half second chunk at bytes x = if second then put x chunk at bytes else x
write_left (Torn filler) second chunk at bytes x = overlaid x chunk at (length bytes) (λ i. filler)

-- of a write of so many bytes that failed
abbrev pub tear_left : Leave → ℕ → ℕ → ℕ → Image → Image
tear_left Old chunk at n x = x
tear_left New chunk at n x = x
tear_left Half chunk at n x = x
tear_left (Torn filler) chunk at n x = overlaid x chunk at n (λ i. filler)

-- of a grow
abbrev pub grow_left : Leave → ℕ → ℕ → Image → Image
grow_left Old chunk pages x = x
grow_left New chunk pages x = extended x chunk pages 0
grow_left Half chunk pages x = extended x chunk pages 0
grow_left (Torn filler) chunk pages x = extended x chunk pages filler

-- of a call
abbrev pub call_left : Leave → Bool → Call → Image → Image
call_left leave second (Wrote chunk at bytes) x = write_left leave second chunk at bytes.items x
call_left leave second (Tore chunk at n) x = tear_left leave chunk at n x
call_left leave second (Grew chunk pages) x = grow_left leave chunk pages x
call_left leave second Synced x = x

-- whether the next write is a second one, by whether this call would be
abbrev pub is_next_second : Bool → Call → Bool
is_next_second second (Wrote chunk at bytes) = not second
is_next_second second (Tore chunk at n) = second
is_next_second second (Grew chunk pages) = second
is_next_second second Synced = second

-- the calls that were made by a moment
abbrev pub calls_by : ℕ → List Entry → List Call
calls_by m entries = map (λ e. e.call) (filter (λ e. nat_le e.moment m) entries)

-- whether there is a sync among these calls
abbrev pub has_sync : List Call → Bool
has_sync calls = list_any is_synced calls

-- Of an image and calls that were made on it: those up to the last sync stand, and of each later one the kind says what
-- is left.
abbrev pub left_by : Leave → Bool → List Call → Image → Image
left_by leave second [] x = x
left_by leave second (call ∷ calls) x =
    if has_sync (call ∷ calls) then left_by leave second calls (done call x)
    else left_by leave (is_next_second second call) calls (call_left leave second call x)
