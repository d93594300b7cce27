-- How the image that a stop of a kind leaves is made from the record, call by call.
use Rattle.std.proofs.Common.{◌⊎◌, inl, inr, Bool, true, false, ◌≡◌, ℕ, zero, suc, ◌+◌, ◌<◌, ◌≤◌, List, [], ◌∷◌, length, get_or, drop, refl, sym, ◌∙◌, ap, subst, arith, le-leb}
use Rattle.std.proofs.lemmas.Bool.{lt-leb}
use Rattle.std.proofs.lemmas.List.{at_drop_more, get_or_default}
use Rattle.ids_outside.specs.Images.{Image}
use Rattle.ids_outside.specs.Kinds.{call_left, is_next_second, calls_by, has_sync, left_by}
use Rattle.ids_outside.specs.Remade.{is_synced, done}
use Rattle.ids_outside.specs.declared.leave.Leave.{Leave}
use Rattle.ids_outside.specs.declared.record.Call.{Call}
use Rattle.ids_outside.specs.declared.record.Entry.{Entry}

module _ (m : ℕ) (e : Entry) (entries : List Entry) where
  pub calls-made : e.moment ≤ m → calls_by m (e ∷ entries) ≡ e.call ∷ calls_by m entries
  calls-made early = let test = le-leb e.moment m early in rw test

  pub calls-later : m < e.moment → calls_by m (e ∷ entries) ≡ calls_by m entries
  calls-later later = let test = lt-leb e.moment m later in rw test

  sync_here : e.moment ≤ m → is_synced e.call ≡ true → has_sync (calls_by m (e ∷ entries)) ≡ true
  sync_here early sync = rw (calls-made early) (rw sync)

  sync_behind : has_sync (calls_by m entries) ≡ true → has_sync (calls_by m (e ∷ entries)) ≡ true
  sync_behind there = grind (arith, there)

  no_sync : (e.moment ≤ m → is_synced e.call ≡ false) → has_sync (calls_by m entries) ≡ false → has_sync (calls_by m (e ∷ entries)) ≡ false
  no_sync here behind = grind (arith, here, behind)

-- a sync at or behind a place
pub sync_from : (m : ℕ) (entries : List Entry) (k i : ℕ) (d : Entry) → k ≤ i → i < length entries
    → (get_or entries i d).moment ≤ m → is_synced (get_or entries i d).call ≡ true → has_sync (calls_by m (drop k entries)) ≡ true
sync_from m [] k i d le lt early sync = absurd (omega (arith, lt))
sync_from m (e ∷ entries) zero zero d le lt early sync = sync_here m e entries early sync
sync_from m (e ∷ entries) zero (suc i) d le lt early sync = sync_behind m e entries (sync_from m entries zero i d (omega arith) (omega (arith, lt)) early sync)
sync_from m (e ∷ entries) (suc k) zero d le lt early sync = absurd (omega (arith, le))
sync_from m (e ∷ entries) (suc k) (suc i) d le lt early sync = sync_from m entries k i d (omega (arith, le)) (omega (arith, lt)) early sync

-- no sync at or behind a place
pub none_from : (m : ℕ) (entries : List Entry) (k : ℕ)
    → ((j : ℕ) (d : Entry) → k ≤ j → j < length entries → (get_or entries j d).moment ≤ m → is_synced (get_or entries j d).call ≡ false)
    → has_sync (calls_by m (drop k entries)) ≡ false
none_from m [] zero none = refl
none_from m [] (suc k) none = refl
none_from m (e ∷ entries) zero none =
    no_sync m e entries (λ early. none 0 e (omega arith) (omega arith) early)
    (none_from m entries zero (λ j d le lt early. none (suc j) d (omega arith) (omega (arith, lt)) early))
none_from m (e ∷ entries) (suc k) none = none_from m entries k (λ j d le lt early. none (suc j) d (omega (arith, le)) (omega (arith, lt)) early)

-- no sync from a place up to one entry more
pub last_more : (m : ℕ) (entries : List Entry) (k i : ℕ) (e : Entry) → i < length entries → get_or entries i e ≡ e
    → ((j : ℕ) (d : Entry) → k ≤ j → j < i → (get_or entries j d).moment ≤ m → is_synced (get_or entries j d).call ≡ false)
    → (e.moment ≤ m → is_synced e.call ≡ false)
    → (j : ℕ) (d : Entry) → k ≤ j → j < i + 1 → (get_or entries j d).moment ≤ m → is_synced (get_or entries j d).call ≡ false
last_more m entries k i e lt is before here j d from below early = elim (lower_or j i below) [
  | inl lower ↦ before j d from lower early
  | inr same ↦ (
      let this : get_or entries j d ≡ e = ap (λ (n : ℕ). get_or entries n d) same ∙ get_or_default entries i d e lt ∙ is in
      ap (λ (f : Entry). is_synced f.call) this ∙ here (subst (λ (f : Entry). f.moment ≤ m) this early)
      )
]
  where
    lower_or : (n top : ℕ) → n < top + 1 → (n < top) ⊎ (n ≡ top)
    lower_or n top lt_top = grind (arith, lt_top)

-- what is left by one entry and those behind it
module _ (leave : Leave) (second : Bool) (m : ℕ) (entries : List Entry) (i : ℕ) (e : Entry) (x : Image) (lt : i < length entries) (is : e ≡ get_or entries i e) where
  abbrev pub all : List Entry → Image
  all es = left_by leave second (calls_by m es) x

  abbrev pub behind : Bool → Image → Image
  behind flag y = left_by leave flag (calls_by m (drop (i + 1) entries)) y

  here : drop i entries ≡ e ∷ drop (i + 1) entries
  here = at_drop_more (λ (es : List Entry). es) entries i e lt ∙ ap (λ (d : Entry). d ∷ drop (i + 1) entries) (sym is)

  -- an entry that was made later
  pub left_later : m < e.moment → behind second x ≡ all (drop i entries)
  left_later later = sym (ap all here ∙ ap (λ (calls : List Call). left_by leave second calls x) (calls-later m e (drop (i + 1) entries) later))

  made : e.moment ≤ m → all (drop i entries) ≡ left_by leave second (e.call ∷ calls_by m (drop (i + 1) entries)) x
  made early = ap all here ∙ ap (λ (calls : List Call). left_by leave second calls x) (calls-made m e (drop (i + 1) entries) early)

  test : e.moment ≤ m → (b : Bool) → has_sync (calls_by m (drop i entries)) ≡ b → has_sync (e.call ∷ calls_by m (drop (i + 1) entries)) ≡ b
  test early b is_b = sym (ap (λ (es : List Entry). has_sync (calls_by m es)) here ∙ ap has_sync (calls-made m e (drop (i + 1) entries) early)) ∙ is_b

  -- one up to the last sync
  pub left_done : e.moment ≤ m → has_sync (calls_by m (drop i entries)) ≡ true → behind second (done e.call x) ≡ all (drop i entries)
  left_done early sync = let t = test early true sync in sym (made early ∙ rw t)

  -- one behind it
  pub left_some : e.moment ≤ m → has_sync (calls_by m (drop i entries)) ≡ false → behind (is_next_second second e.call) (call_left leave second e.call x) ≡ all (drop i entries)
  left_some early none = let t = test early false none in sym (made early ∙ rw t)
