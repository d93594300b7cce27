-- The row id of a key whose entry is filled or emptied, where no other is filled.
use Rattle.std.proofs.Common.{◌≡◌, ℕ, Bool, true, false, not, ◌&&◌, ◌||◌, refl, ◌∙◌, List, [], ◌∷◌, Option, Some, None, if◌then◌else◌}
use Rattle.std.specs.List.{list_any}
use Rattle.std.proofs.lemmas.Bool.{and_parts, and_from}
use Rattle.table_space.specs.declared.entry.Entry.{Entry}
use Rattle.table_space.specs.declared.entry.Held.{Held}
use Rattle.table_space.specs.declared.entry.Held.TheVariants.{Nowhere, Emptied, Filled}
use Rattle.table_space.specs.Entries.{filled_row, is_filled, has_row, is_new}
use Rattle.table_space.specs.Noted.{or_else, row_of, put_first, changed, noted, has_entry_for, is_empty, is_alone, is_alone_from, met_after}

no_row : (h : Held) → not (is_filled h) ≡ true → filled_row h ≡ None
no_row Nowhere h = refl
no_row (Emptied row) h = refl
no_row (Filled row) h = absurd (cc)

none-filled : (es : List Entry) → is_empty es ≡ true → row_of es ≡ None
none-filled [] h = refl
none-filled (e ∷ es) h = let p = and_parts _ _ h in rw (no_row e.held p.0) (none-filled es p.1)

or_none : (o : Option ℕ) → or_else o None ≡ o
or_none None = refl
or_none (Some row) = refl

-- the first with the row id, where no other is filled
first-alone : (row : ℕ) (new : Entry) (es : List Entry) → list_any (has_row row) es ≡ true → is_alone row es ≡ true → row_of (put_first (has_row row) new es) ≡ filled_row new.held
first-alone row new [] some alone = absurd (cc)
first-alone row new (e ∷ es) some alone = at (has_row row e) some alone (first-alone row new es)
  where
    at : (b : Bool) → (b || list_any (has_row row) es) ≡ true → (if b then is_empty es else not (is_filled e.held) && is_alone row es) ≡ true
        → (list_any (has_row row) es ≡ true → is_alone row es ≡ true → row_of (put_first (has_row row) new es) ≡ filled_row new.held)
        → row_of (if b then new ∷ es else e ∷ put_first (has_row row) new es) ≡ filled_row new.held
    at true h a more = rw (none-filled es a) (or_none (filled_row new.held))
    at false h a more = let p = and_parts _ _ a in rw (no_row e.held p.0) (more h p.1)

-- none is filled where none has the row id
no_row-empty : (row : ℕ) (es : List Entry) → list_any (has_row row) es ≡ false → is_alone row es ≡ true → is_empty es ≡ true
no_row-empty row [] none alone = refl
no_row-empty row (e ∷ es) none alone = at (has_row row e) none alone (no_row-empty row es)
  where
    at : (b : Bool) → (b || list_any (has_row row) es) ≡ false → (if b then is_empty es else not (is_filled e.held) && is_alone row es) ≡ true
        → (list_any (has_row row) es ≡ false → is_alone row es ≡ true → is_empty es ≡ true) → (not (is_filled e.held) && is_empty es) ≡ true
    at true h a more = absurd (cc)
    at false h a more = let p = and_parts _ _ a in and_from _ _ p.0 (more h p.1)

new-alone : (new : Entry) (es : List Entry) → list_any is_new es ≡ true → is_empty es ≡ true → row_of (put_first is_new new es) ≡ filled_row new.held
new-alone new [] some empty = absurd (cc)
new-alone new (e ∷ es) some empty = at (is_new e) some (and_parts _ _ empty) (new-alone new es)
  where
    at : (b : Bool) → (b || list_any is_new es) ≡ true → (not (is_filled e.held) ≡ true) × (is_empty es ≡ true)
        → (list_any is_new es ≡ true → is_empty es ≡ true → row_of (put_first is_new new es) ≡ filled_row new.held)
        → row_of (if b then new ∷ es else e ∷ put_first is_new new es) ≡ filled_row new.held
    at true h p more = rw (none-filled es p.1) (or_none (filled_row new.held))
    at false h p more = rw (no_row e.held p.0) (more h p.1)

changed-row : (row tx : ℕ) (filled : Bool) → filled_row (if filled then Filled row else Emptied row) ≡ (if filled then Some row else None)
changed-row row tx true = refl
changed-row row tx false = refl

pub noted-there : (row tx : ℕ) (filled : Bool) (es : List Entry) → has_entry_for row filled es ≡ true → is_alone row es ≡ true → row_of (noted row filled tx es) ≡ (if filled then Some row else None)
noted-there row tx filled es some alone = at (list_any (has_row row) es) refl some
  where
    at : (b : Bool) → list_any (has_row row) es ≡ b → (b || (filled && list_any is_new es)) ≡ true → row_of (put_first (if b then has_row row else is_new) (changed row filled tx) es) ≡ (if filled then Some row else None)
    at true is h = first-alone row (changed row filled tx) es is alone ∙ changed-row row tx filled
    at false is h = new-alone (changed row filled tx) es (and_parts _ _ h).1 (no_row-empty row es is alone) ∙ changed-row row tx filled

-- an entry more, where the first with the row id was met or is still to come
pub next_some : (row : ℕ) (met : Bool) (e : Entry) (es : List Entry) (m : Bool) → met_after row met e ≡ Some m → is_alone_from m row es ≡ is_alone_from met row (e ∷ es)
next_some row met e es m h = at met (has_row row e) (is_filled e.held) refl refl h
  where
    at : (b r f : Bool) → has_row row e ≡ r → is_filled e.held ≡ f → (if not b && r then Some true else (if f then None else Some b)) ≡ Some m
        → is_alone_from m row es ≡ is_alone_from b row (e ∷ es)
    at true r true p q h = absurd (cc)
    at true r false p q h = let same : m ≡ true = cc in rw (same, q) refl
    at false true f p q h = let same : m ≡ true = cc in rw (same, p) refl
    at false false true p q h = absurd (cc)
    at false false false p q h = let same : m ≡ false = cc in rw (same, p, q) refl

pub next_none : (row : ℕ) (met : Bool) (e : Entry) (es : List Entry) → met_after row met e ≡ None → is_alone_from met row (e ∷ es) ≡ false
next_none row met e es h = at met (has_row row e) (is_filled e.held) refl refl h
  where
    at : (b r f : Bool) → has_row row e ≡ r → is_filled e.held ≡ f → (if not b && r then Some true else (if f then None else Some b)) ≡ None
        → is_alone_from b row (e ∷ es) ≡ false
    at true r true p q h = rw q refl
    at true r false p q h = absurd (cc)
    at false true f p q h = absurd (cc)
    at false false true p q h = rw (p, q) refl
    at false false false p q h = absurd (cc)
