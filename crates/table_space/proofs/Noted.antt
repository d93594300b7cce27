-- What an entry written at the place of another leaves.
use Rattle.std.proofs.Common.{◌≡◌, ℕ, suc, ◌+◌, Bool, true, false, not, ◌&&◌, ◌||◌, cond, refl, ap, sym, ◌∙◌, List, [], ◌∷◌, length, set, Some, None, ltb, arith, inl, inr, if◌then◌else◌}
use Rattle.std.specs.Prelude.{slice_set}
use Rattle.std.proofs.Math.Numerals.{one-add}
use Rattle.std.proofs.lemmas.Bool.{cases_lt, lt-ltb, le-ltb}
use Rattle.std.specs.List.{list_any, position, position_or_len}
use Rattle.table_space.specs.declared.entry.Entry.{Entry}
use Rattle.table_space.specs.Entries.{has_row, is_new}
use Rattle.table_space.specs.Noted.{put_first, changed, noted, has_entry_for}

-- an entry written over the first that passes
set-first : (p : Entry → Bool) (new : Entry) (es : List Entry) → set es (position_or_len p es) new ≡ put_first p new es
set-first p new [] = refl
set-first p new (e ∷ es) = at (p e) (set-first p new es)
  where
    at : (b : Bool) → set es (position_or_len p es) new ≡ put_first p new es → set (e ∷ es) (cond (not b) (1 + position_or_len p es) 0) new ≡ (if b then new ∷ es else e ∷ put_first p new es)
    at true h = refl
    at false h = rw one-add (ap (λ xs. e ∷ xs) h)

ltb-more : (a b : ℕ) → ltb (1 + a) (suc b) ≡ ltb a b
ltb-more a b = elim (cases_lt a b) [
  | inl below ↦ lt-ltb (1 + a) (suc b) (omega arith) ∙ sym (lt-ltb a b below)
  | inr above ↦ le-ltb (1 + a) (suc b) (omega arith) ∙ sym (le-ltb a b above)
]

-- there is such a place exactly where an entry passes
first-any : (p : Entry → Bool) (es : List Entry) → ltb (position_or_len p es) (length es) ≡ list_any p es
first-any p [] = refl
first-any p (e ∷ es) = at (p e) (first-any p es)
  where
    at : (b : Bool) → ltb (position_or_len p es) (length es) ≡ list_any p es → ltb (cond (not b) (1 + position_or_len p es) 0) (length (e ∷ es)) ≡ (b || list_any p es)
    at true h = lt-ltb 0 (suc (length es)) (omega arith)
    at false h = ltb-more (position_or_len p es) (length es) ∙ h

-- where there is one, `position` answers it
place-is : (p : Entry → Bool) (es : List Entry) (i : ℕ) → position p es ≡ Some i → (i ≡ position_or_len p es) × (list_any p es ≡ true)
place-is p es i h = let f = at (ltb (position_or_len p es) (length es)) h in (f.0, sym (first-any p es) ∙ f.1)
  where
    at : (b : Bool) → cond b (Some (position_or_len p es)) None ≡ Some i → (i ≡ position_or_len p es) × (b ≡ true)
    at true e = (cc, refl)
    at false e = absurd (cc)

place-none : (p : Entry → Bool) (es : List Entry) → position p es ≡ None → list_any p es ≡ false
place-none p es h = sym (first-any p es) ∙ at (ltb (position_or_len p es) (length es)) h
  where
    at : (b : Bool) → cond b (Some (position_or_len p es)) None ≡ None → b ≡ false
    at true e = absurd (cc)
    at false e = refl

module _ (row : ℕ) (filled : Bool) (tx : ℕ) (es : List Entry) where
  pub noted-row : (i : ℕ) → position (has_row row) es ≡ Some i → slice_set es i (changed row filled tx) ≡ noted row filled tx es
  noted-row i h =
      let q = place-is (has_row row) es i h in
      rw (q.1, q.0) (set-first (has_row row) (changed row filled tx) es)

  pub noted-new : (i : ℕ) → position (has_row row) es ≡ None → position is_new es ≡ Some i → slice_set es i (changed row filled tx) ≡ noted row filled tx es
  noted-new i no_row h =
      let q = place-is is_new es i h in
      rw (place-none (has_row row) es no_row, q.0) (set-first is_new (changed row filled tx) es)

  pub noted-nowhere : position (has_row row) es ≡ None → position is_new es ≡ None → has_entry_for row filled es ≡ true → ⊥
  noted-nowhere no_row no_new h =
      at filled (rw (place-none (has_row row) es no_row, place-none is_new es no_new) at h)
    where
      at : (b : Bool) → (false || (b && false)) ≡ true → ⊥
      at true e = cc
      at false e = cc

-- what is noted is not nothing
pub noted-some : (row : ℕ) (filled : Bool) (tx : ℕ) (es : List Entry) → (es ≡ [] → ⊥) → noted row filled tx es ≡ [] → ⊥
noted-some row filled tx es some none = put-some (if list_any (has_row row) es then has_row row else is_new) (changed row filled tx) es some none
  where
    put-some : (p : Entry → Bool) (new : Entry) (xs : List Entry) → (xs ≡ [] → ⊥) → put_first p new xs ≡ [] → ⊥
    put-some p new [] h e = h refl
    put-some p new (x ∷ xs) h e = at (p x) e
      where
        at : (b : Bool) → (if b then new ∷ xs else x ∷ put_first p new xs) ≡ [] → ⊥
        at true e = cc
        at false e = cc

-- nor is it longer or shorter
pub length-noted : (row : ℕ) (filled : Bool) (tx : ℕ) (es : List Entry) → length (noted row filled tx es) ≡ length es
length-noted row filled tx es = put-length (if list_any (has_row row) es then has_row row else is_new) (changed row filled tx) es
  where
    put-length : (p : Entry → Bool) (new : Entry) (xs : List Entry) → length (put_first p new xs) ≡ length xs
    put-length p new [] = refl
    put-length p new (x ∷ xs) = at (p x) (put-length p new xs)
      where
        at : (b : Bool) → length (put_first p new xs) ≡ length xs → length (if b then new ∷ xs else x ∷ put_first p new xs) ≡ length (x ∷ xs)
        at true h = refl
        at false h = ap (λ n. suc n) h
