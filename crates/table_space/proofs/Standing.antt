-- Which tables are there, where entries change.
use Rattle.std.proofs.Common.{◌≡◌, ℕ, ◌<◌, ◌^◌, ◌==◌, ◌&&◌, ◌||◌, not, Bool, true, false, cond, refl, ap, sym, ◌∙◌, subst, List, [], ◌∷◌, ◌++◌, None, Result, Ok, Err, if◌then◌else◌, is_some}
use Rattle.std.specs.Prelude.{OnOk, OnErr}
use Rattle.std.specs.List.{filter}
use Rattle.std.proofs.lemmas.Bool.{eqb-true, and_parts}
use Rattle.ids_base.specs.declared.lock.Key.{Key}
use Rattle.ids_base.specs.LockNames.{is_same_key}
use Rattle.table_space.specs.declared.directory.Directory.{Directory}
use Rattle.table_space.specs.declared.entry.Entry.{Entry}
use Rattle.table_space.specs.declared.entry.Held.{Held}
use Rattle.table_space.specs.declared.entry.Held.TheVariants.{Nowhere, Emptied, Filled}
use Rattle.table_space.specs.Catalogue.{catalogue_key_of}
use Rattle.table_space.specs.Directory.{entries_at}
use Rattle.table_space.specs.Entries.{filled_row, is_filled, stays}
use Rattle.table_space.specs.Noted.{or_else, row_of, made}
use Rattle.table_space.specs.Seen.{Changes, IsSame, IsOther}
use Rattle.table_space.specs.Tables.{Known, table_in, is_shown}
use Rattle.table_space.specs.There.{AreThere, is_there_in, is_row_of}
use Rattle.table_space.proofs.Keys.{key_itself, keys_told}

-- an entry more that is empty, and those that a transaction leaves
pub row_of-made : (tx : ℕ) (es : List Entry) → row_of (es ++ made tx ∷ []) ≡ row_of es
row_of-made tx [] = refl
row_of-made tx (e ∷ es) = ap (or_else (filled_row e.held)) (row_of-made tx es)

pub row_of-stays : (tx : ℕ) (es : List Entry) → row_of (filter (stays tx) es) ≡ row_of es
row_of-stays tx [] = refl
row_of-stays tx (e ∷ es) = at (stays tx e) refl (row_of-stays tx es)
  where
    gone : (h : Held) (b : Bool) → (is_filled h || b) ≡ false → filled_row h ≡ None
    gone Nowhere b s = refl
    gone (Emptied row) b s = refl
    gone (Filled row) b s = absurd (cc)

    at : (b : Bool) → stays tx e ≡ b → row_of (filter (stays tx) es) ≡ row_of es → row_of (cond b (e ∷ filter (stays tx) es) (filter (stays tx) es)) ≡ or_else (filled_row e.held) (row_of es)
    at true s rest = ap (or_else (filled_row e.held)) rest
    at false s rest = rw (gone e.held (not (e.tx == tx)) s) rest

-- another key than that of a table's row
other-key : (table : ℕ) (key : Key) (t : ℕ) → is_row_of table key t ≡ false → IsOther table key 1 (catalogue_key_of t)
other-key table key t none = λ same.
    let k : is_same_key key (catalogue_key_of t) ≡ true = subst (λ k. is_same_key k (catalogue_key_of t) ≡ true) same.1 (key_itself (catalogue_key_of t)) in
    let n : (table == 1) ≡ true = subst (λ n. (n == 1) ≡ true) same.0 refl in
    absurd (let e : true ≡ false = sym (rw (n, k) refl) ∙ none in cc)

the-row : (table : ℕ) (key : Key) (t : ℕ) → is_row_of table key t ≡ true → (table ≡ 1) × (key ≡ catalogue_key_of t)
the-row table key t is = let p = and_parts _ _ is in (eqb-true table 1 p.0, keys_told key (catalogue_key_of t) p.1)

module _ (was now : Directory) (tables : Known) (are : AreThere was tables) where
  -- all keys have rows or none as before
  pub there-same : ((t : ℕ) (k : Key) → row_of (entries_at now t k) ≡ row_of (entries_at was t k)) → AreThere now tables
  there-same same = λ t few. are t few ∙ ap (λ o. is_some (table_in (tables t)) && is_some o) (sym (same 1 (catalogue_key_of t)))

  module _ (table : ℕ) (key : Key) (es : List Entry) (changes : Changes (entries_at was) (entries_at now) table key es) where
    -- a key has another entry, which is empty
    pub there-more : row_of es ≡ row_of (entries_at was table key) → AreThere now tables
    there-more same = λ t few. are t few ∙ ap (λ o. is_some (table_in (tables t)) && is_some o) (sym (at t (is_row_of table key t) refl))
      where
        at : (t : ℕ) (b : Bool) → is_row_of table key t ≡ b → row_of (entries_at now 1 (catalogue_key_of t)) ≡ row_of (entries_at was 1 (catalogue_key_of t))
        at t true is =
            let p = the-row table key t is in
            subst (λ n. row_of (entries_at now n (catalogue_key_of t)) ≡ row_of (entries_at was n (catalogue_key_of t))) p.0
            (subst (λ k. row_of (entries_at now table k) ≡ row_of (entries_at was table k)) p.1 (ap row_of changes.here ∙ same))
        at t false is = ap row_of (changes.beside 1 (catalogue_key_of t) (other-key table key t is))

    -- a key is filled or emptied, and the name of its table is shown or not
    pub there-noted : (filled : Bool) (shown : Known) → is_some (row_of es) ≡ filled → ((t : ℕ) → table_in (shown t) ≡ table_in (tables t))
        → ((t : ℕ) → t < 2 ^ 32 → is_shown (shown t) ≡ (if is_row_of table key t then is_some (table_in (tables t)) && filled else is_shown (tables t))) → AreThere now shown
    there-noted filled shown there kept shows = λ t few. shows t few ∙ (at t few (is_row_of table key t) refl ∙ ap (λ o. is_some o && is_there_in now t) (sym (kept t)))
      where
        at : (t : ℕ) → t < 2 ^ 32 → (b : Bool) → is_row_of table key t ≡ b → (if b then is_some (table_in (tables t)) && filled else is_shown (tables t)) ≡ (is_some (table_in (tables t)) && is_there_in now t)
        at t few true is =
            let p = the-row table key t is in
            let here : filled ≡ is_some (row_of (entries_at now table key)) = sym there ∙ ap (λ l. is_some (row_of l)) (sym changes.here) in
            ap (λ b. is_some (table_in (tables t)) && b) (subst (λ k. filled ≡ is_some (row_of (entries_at now 1 k))) p.1 (subst (λ n. filled ≡ is_some (row_of (entries_at now n key))) p.0 here))
        at t few false is = are t few ∙ ap (λ l. is_some (table_in (tables t)) && is_some (row_of l)) (sym (changes.beside 1 (catalogue_key_of t) (other-key table key t is)))

  -- a key has one more that is empty, or nothing changed
  pub there-entered : {E : Type 0} (r : Result (Unit {0}) E) (table : ℕ) (key : Key) (tx : ℕ) → OnOk r (Changes (entries_at was) (entries_at now) table key (entries_at was table key ++ made tx ∷ []))
      → OnErr r (IsSame (entries_at was) (entries_at now)) → AreThere now tables
  there-entered (Ok done) table key tx changes same = there-more table key (entries_at was table key ++ made tx ∷ []) changes (row_of-made tx (entries_at was table key))
  there-entered (Err e) table key tx changes same = there-same (λ t k. ap row_of (same t k))
