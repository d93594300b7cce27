-- A slot that is filled or emptied, with the entry of its row's key.
use Rattle.std.proofs.Common.{◌≡◌, ◌≤◌, ◌-◌, ℕ, min, true, false, refl, ap, sym, subst, ◌∙◌, Some, None, length, arith}
use Rattle.std.specs.Prelude.{slice_set}
use Rattle.std.specs.List.{list_any}
use Rattle.std.proofs.lemmas.Bool.{or_left}
use Rattle.ids_base.specs.declared.lock.Key.{Key}
use Rattle.ids_base.specs.Shapes.{size_of}
use Rattle.ids_base.specs.RowIds.{page_of, row_number, slot_count}
use Rattle.ids_model.specs.Slots.{Bytes, Own, Slots, own_at, slot_at, set_own, set_slot}
use Rattle.ids_model.specs.Stands.{Holds}
use Rattle.ids_model.specs.Logged.{IsFreeFor}
use Rattle.ids_model.proofs.Setting.{set_there}
use Rattle.ids_model.proofs.Holding.{one_owner}
use Rattle.table_space.specs.declared.space.TableSpace.{TableSpace}
use Rattle.table_space.specs.Entries.{has_row}
use Rattle.table_space.specs.Noted.{row_of, noted, has_entry_for, is_alone}
use Rattle.table_space.specs.Seen.{Changes}
use Rattle.table_space.specs.Space.{entries_of, owners_of, IsSameTables}
use Rattle.ids_engine.specs.Indexed.{key_kind, key_in, Directs, Moves}
use Rattle.ids_engine.specs.Held.{IsSlotOf, IsPlaceIn}
use Rattle.fast_recovery.specs.Paged.{IsPaged}
use Rattle.ids_engine.specs.Paging.{PageMaps}
use Rattle.ids_engine.proofs.EntryLists.{none-empty, empty-alone, some-has}
use Rattle.ids_engine.proofs.Directories.{holds-row}
use Rattle.ids_engine.proofs.IndexParts.{moves-noted}
use Rattle.ids_engine.proofs.IndexLaws.{directs-fills, directs-empties}

min-below : (a b : ℕ) → min a b ≤ b
min-below a b = omega arith

pub few-slots : (slot n : ℕ) → slot ≤ slot_count n → slot ≤ 255
few-slots slot n high = let most : slot_count n ≤ 255 = min-below _ 255 in omega (arith, high, most)

pub page-of : (page slot : ℕ) → slot ≤ 255 → page_of (row_number page slot) ≡ page
page-of page slot few = omega arith

module _ (pages : PageMaps) (s : TableSpace) (owner : ℕ × ℕ) (page slot tx : ℕ) (bytes : Bytes) (t : ℕ) (k : Key) (at_table : t ≡ owner.0) (is : k ≡ key_in s t bytes) where
  abbrev n : ℕ
  n = row_number page slot

  key-is : k ≡ key_in s owner.0 bytes
  key-is = is ∙ ap (λ (x : ℕ). key_in s x bytes) at_table

  module _ (p : IsPlaceIn pages s owner page slot bytes) where
    pub fill-alone : is_alone n (entries_of s t k) ≡ true
    fill-alone = empty-alone n (entries_of s t k) (none-empty (entries_of s t k) ((λ i. row_of (entries_of s (at_table i) (key-is i))) ∙ p.new))

    module _ (s' : TableSpace) (c : Changes (entries_of s) (entries_of s') t k (noted n true tx (entries_of s t k))) (owners : owners_of s' ≡ slice_set (owners_of s) (page - 1) (Some t)) (tables : IsSameTables s s') where
      pub fill-moves : Moves tx s s'
      fill-moves = moves-noted tx s s' n t (page - 1) k true tables owners c

      pub fill-directs : (pages' : PageMaps) → pages'.own ≡ set_own pages.own page owner → pages'.slots ≡ set_slot pages.slots n (Some bytes) → IsPaged pages.count pages.own pages.slots → Directs pages.own pages.slots s → Directs pages'.own pages'.slots s'
      fill-directs pages' own slots paged d =
          let at : page_of n ≡ page = page-of page slot (few-slots slot owner.1 p.high) in
          let first : 1 ≤ page_of n = subst (λ (x : ℕ). 1 ≤ x) (sym at) p.owner_is.first in
          let given : owners_of s' ≡ slice_set (owners_of s) (page_of n - 1) (Some owner.0) = owners ∙ (λ i. slice_set (owners_of s) (sym at i - 1) (Some (at_table i))) in
          let changes = subst (λ (x : Key). Changes (entries_of s) (entries_of s') owner.0 x (noted n true tx (entries_of s owner.0 x))) key-is (subst (λ (y : ℕ). Changes (entries_of s) (entries_of s') y k (noted n true tx (entries_of s y k))) at_table c) in
          let all = directs-fills pages.own pages.slots s s' d n tx owner bytes tables first given (λ q b held. let r = paged.rows q b held in (r.owner, r.owned)) changes p.entry (subst (λ (x : ℕ). IsFreeFor pages.own x owner) (sym at) p.free) p.vacant p.new in
          let o : set_own pages.own (page_of n) owner ≡ pages'.own = ap (λ (x : ℕ). set_own pages.own x owner) at ∙ sym own in
          subst (λ (x : Own). Directs x pages'.slots s') o (subst (λ (x : Slots). Directs (set_own pages.own (page_of n) owner) x s') (sym slots) all)

  module _ (p : IsSlotOf pages.own s owner page slot) (stored : slot_at pages.slots n ≡ Some bytes) (d : Directs pages.own pages.slots s) where
    at-page : page_of n ≡ page
    at-page = page-of page slot (few-slots slot owner.1 p.high)

    held : Holds pages.own pages.slots n owner bytes
    held = record { owned = ap (own_at pages.own) at-page ∙ p.owned; stored = stored }

    there : row_of (entries_of s owner.0 (key_in s owner.0 bytes)) ≡ Some n
    there = d.directory.entered owner.0 (key_in s owner.0 bytes) n (holds-row (key_kind s) pages.own pages.slots n owner bytes held)

    pub empty-alone-now : is_alone n (entries_of s t k) ≡ true
    empty-alone-now = (λ i. is_alone n (entries_of s (at_table i) (key-is i))) ∙ d.directory.single owner.0 (key_in s owner.0 bytes) n there

    pub empty-found : has_entry_for n false (entries_of s t k) ≡ true
    empty-found = (λ i. has_entry_for n false (entries_of s (at_table i) (key-is i))) ∙ or_left (list_any (has_row n) (entries_of s owner.0 (key_in s owner.0 bytes))) _ (some-has n (entries_of s owner.0 (key_in s owner.0 bytes)) there)

    module _ (s' : TableSpace) (c : Changes (entries_of s) (entries_of s') t k (noted n false tx (entries_of s t k))) (owners : owners_of s' ≡ slice_set (owners_of s) (page - 1) (Some t)) (tables : IsSameTables s s') where
      pub empty-moves : Moves tx s s'
      empty-moves = moves-noted tx s s' n t (page - 1) k false tables owners c

      pub empty-directs : (pages' : PageMaps) → pages'.own ≡ pages.own → pages'.slots ≡ set_slot pages.slots n None → Directs pages'.own pages'.slots s'
      empty-directs pages' own slots =
          let first : 1 ≤ page_of n = subst (λ (x : ℕ). 1 ≤ x) (sym at-page) p.first in
          let given : owners_of s' ≡ slice_set (owners_of s) (page_of n - 1) (Some owner.0) = owners ∙ (λ i. slice_set (owners_of s) (sym at-page i - 1) (Some (at_table i))) in
          let changes = subst (λ (x : Key). Changes (entries_of s) (entries_of s') owner.0 x (noted n false tx (entries_of s owner.0 x))) key-is (subst (λ (y : ℕ). Changes (entries_of s) (entries_of s') y k (noted n false tx (entries_of s y k))) at_table c) in
          let all = directs-empties pages.own pages.slots s s' d n tx owner bytes tables first given changes held in
          subst (λ (x : Own). Directs x pages'.slots s') (sym own) (subst (λ (x : Slots). Directs pages.own x s') (sym slots) all)

-- the key is in front of the row in a slot
pub key-fits : (pages : PageMaps) (s : TableSpace) (owner : ℕ × ℕ) (page slot : ℕ) (bytes : Bytes) (t : ℕ) → t ≡ owner.0 → IsSlotOf pages.own s owner page slot → slot_at pages.slots (row_number page slot) ≡ Some bytes → IsPaged pages.count pages.own pages.slots
    → size_of (key_kind s t) ≤ length bytes
key-fits pages s owner page slot bytes t at_table p stored paged =
    let n = row_number page slot in
    let at : page_of n ≡ page = page-of page slot (few-slots slot owner.1 p.high) in
    let r = paged.rows n bytes stored in
    let same : r.owner ≡ owner = one_owner pages.own (page_of n) r.owner owner r.owned (ap (own_at pages.own) at ∙ p.owned) in
    let long : length bytes ≡ owner.1 = r.sized ∙ ap (λ (x : ℕ × ℕ). x.1) same in
    subst (λ (x : ℕ). size_of (key_kind s t) ≤ x) (sym long) (subst (λ (x : ℕ). size_of (key_kind s x) ≤ owner.1) (sym at_table) p.front)

-- maps with the same parts
pub same-maps : (a b : PageMaps) → a.count ≡ b.count → a.own ≡ b.own → a.slots ≡ b.slots → a ≡ b
same-maps a b count own slots = λ i. record { count = count i; own = own i; slots = slots i }

-- an empty slot that is emptied
pub empty-already : (pages : PageMaps) (row : ℕ) → slot_at pages.slots row ≡ None → pages ≡ record { count = pages.count; own = pages.own; slots = set_slot pages.slots row None }
empty-already pages row none = same-maps pages _ refl refl (sym (set_there pages.slots row None none))
