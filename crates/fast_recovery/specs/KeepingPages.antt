-- Records in their places keep states whose pages and rows can stand in the pages.
use Rattle.std.specs.Prelude.{◌≡◌, ℕ, true, [], ◌∷◌}
use Rattle.log_records.specs.Entries.{Entry, Begin, Commit, Rollback, HInsert, HDelete, HUpdate, Ckpoint}
use Rattle.log_records.specs.Spelling.{IsEntry}
use Rattle.ids_model.specs.Recovered.{State, run}
use Rattle.fast_recovery.specs.InPlace.{in_place}
use Rattle.fast_recovery.specs.PagedStates.{IsPagedState}

-- the fields of a record that changes a row are in their ranges
abbrev pub HasRanges : Entry → Type 0
HasRanges (Begin tx session) = Unit {0}
HasRanges (Commit tx) = Unit {0}
HasRanges (Rollback tx) = Unit {0}
HasRanges (HInsert tx table row after) = IsEntry (HInsert tx table row after)
HasRanges (HDelete tx table row before) = IsEntry (HDelete tx table row before)
HasRanges (HUpdate tx table row before after) = IsEntry (HUpdate tx table row before after)
HasRanges (Ckpoint named) = Unit {0}

-- a record in its place keeps such a state
abbrev pub RecordsKeepPages : Type 0
RecordsKeepPages = (pages : ℕ) (s : State) (e : Entry) → IsPagedState pages s → in_place pages s.own e ≡ true → HasRanges e → IsPagedState pages (run s (e ∷ []))
