-- The entries under one number end.
use Rattle.std.proofs.Common.{◌≡◌, ◌≢◌, ℕ, ◌<◌, refl, ap, sym, ◌∙◌, List, [], ◌∷◌, length, set, Option, Some, None, inl, inr, ◌⊎◌}
use Rattle.std.specs.List.{slice_get, filter}
use Rattle.ids_base.specs.declared.lock.Key.{Key}
use Rattle.table_space.specs.declared.entry.Entry.{Entry}
use Rattle.table_space.specs.declared.entry.Keyed.{Keyed}
use Rattle.table_space.specs.Entries.{stays}
use Rattle.table_space.specs.Numbers.{Numbers, number_of, entries_under, entries_in}
use Rattle.table_space.specs.Indexed.{AreMarks, IsIndexed}
use Rattle.table_space.proofs.Indexing.{number-key, indexed-set, seen-same, seen-other}

cases-list : (es : List Entry) → (es ≡ []) ⊎ (es ≢ [])
cases-list [] = inl refl
cases-list (x ∷ es) = inr (λ e. cc)

cases-option : (o : Option ℕ) → (o ≡ None) ⊎ ((n : ℕ) × (o ≡ Some n))
cases-option None = inl refl
cases-option (Some n) = inr (n, refl)

-- what the key of a number keeps where its entries are filtered, and where it loses the number once none is left
pub record IsUnnamed (was now : Numbers) (l : Keyed) (number : ℕ) : Type 0 where
  pub others : (t : ℕ) (k : Key) (n : ℕ) → n ≢ number → number_of was t k ≡ Some n → number_of now t k ≡ Some n
  pub kept : (t : ℕ) (k : Key) (n : ℕ) → number_of now t k ≡ Some n → number_of was t k ≡ Some n
  pub gone : number_of now l.table l.key ≡ Some number → l.entries.items ≢ []
  pub same : l.entries.items ≢ [] → now ≡ was

module _ (was now : Numbers) (ls : List Keyed) (marks : List ℕ) (is : IsIndexed was ls marks) (number : ℕ) (l new : Keyed) (tx : ℕ) (at : slice_get ls number ≡ Some l) (lt : number < length ls)
    (table : new.table ≡ l.table) (key : new.key ≡ l.key) (items : new.entries.items ≡ filter (stays tx) l.entries.items) (un : IsUnnamed was now new number) where
  -- its index stays
  pub indexed-ended : (m : ℕ) → AreMarks new.entries.items m → IsIndexed now (set ls number new) (set marks number m)
  indexed-ended m ms =
      indexed-set is now number new m lt ms
      (λ t k j ne e. un.others t k j ne e)
      (λ t k j ne e. un.kept t k j e)
      (λ t k e.
      let p = number-key is t k number l (un.kept t k number e) at in
      let own : number_of now new.table new.key ≡ Some number = ap (λ (x : ℕ). number_of now x new.key) (table ∙ p.table_is) ∙ ap (λ (x : Key). number_of now t x) (key ∙ p.key_is) ∙ e in
      record { table_is = table ∙ p.table_is; key_is = key ∙ p.key_is; some = un.gone own })
      (λ some.
      let had : l.entries.items ≢ [] = λ none. some (items ∙ ap (filter (stays tx)) none) in
      let own : number_of was new.table new.key ≡ Some number = ap (λ (x : ℕ). number_of was x new.key) table ∙ ap (λ (x : Key). number_of was l.table x) key ∙ is.named number l at had in
      ap (λ (m : Numbers). number_of m new.table new.key) (un.same some) ∙ own)

  -- the key's entries have ended
  pub seen-ended : (t : ℕ) (k : Key) → number_of was t k ≡ Some number → entries_under (set ls number new) (number_of now t k) ≡ filter (stays tx) (entries_under ls (number_of was t k))
  seen-ended t k e = elim (cases-list new.entries.items) [
    | inl none ↦ elim (cases-option (number_of now t k)) [
      | inl gone ↦ ap (entries_under (set ls number new)) gone ∙ sym (was_seen ∙ sym items ∙ none)
      | inr some ↦
          let same : some.0 ≡ number = let e' : Some some.0 ≡ Some number = sym (un.kept t k some.0 some.1) ∙ e in cc in
          seen-same is now number new t k lt (some.1 ∙ ap (λ i. Some i) same) ∙ items ∙ sym was_seen
    ]
    | inr some ↦
        let own : number_of now t k ≡ Some number = ap (λ (m : Numbers). number_of m t k) (un.same some) ∙ e in
        seen-same is now number new t k lt own ∙ items ∙ sym was_seen
  ]
    where
      was_seen : filter (stays tx) (entries_under ls (number_of was t k)) ≡ filter (stays tx) l.entries.items
      was_seen = ap (λ (o : Option ℕ). filter (stays tx) (entries_under ls o)) e ∙ ap (λ (o : Option Keyed). filter (stays tx) (entries_in o)) at

  -- those under other numbers are as they were
  pub seen-beside : (t : ℕ) (k : Key) (n : ℕ) → n ≢ number → number_of was t k ≡ Some n → entries_under (set ls number new) (number_of now t k) ≡ entries_under ls (number_of was t k)
  seen-beside t k n ne e =
      ap (entries_under (set ls number new)) (un.others t k n ne e) ∙ seen-other is number new (Some n) (λ same. let s : n ≡ number = cc in ne s) ∙ sym (ap (entries_under ls) e)

  pub unnamed-none : (t : ℕ) (k : Key) → number_of was t k ≡ None → number_of now t k ≡ None
  unnamed-none t k none = elim (cases-option (number_of now t k)) [
    | inl gone ↦ gone
    | inr some ↦ let clash : None ≡ Some some.0 = sym none ∙ un.kept t k some.0 some.1 in absurd (cc)
  ]
