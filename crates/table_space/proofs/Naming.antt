-- The numbers of keys where one of them gets a number or loses it.
use Rattle.std.proofs.Common.{◌≡◌, ◌≢◌, ℕ, Bool, true, false, cond, ap, sym, ◌∙◌, Option, Some, None, inl, inr}
use Rattle.std.specs.Ordering.{is_eq}
use Rattle.std.specs.BTreeMap as tree
use Rattle.std.proofs.lemmas.Bool.{cases_Bool}
use Rattle.std.specs.Cmp.{Equal-is}
use Rattle.ids_base.specs.declared.lock.Key.{Key}
use Rattle.table_space.specs.Numbers.{Numbers, number_of, name_cmp}
use Rattle.table_space.specs.Seen.{IsOther}
use Rattle.table_space.proofs.Keys.{names_exact, other_name}

-- one name gets this number, or none, and each other keeps its own
abbrev pub Puts : Numbers → Numbers → ℕ × Key → Option ℕ → Type 0
Puts was now name o = (q : ℕ × Key) → tree.get name_cmp now q ≡ cond (is_eq (name_cmp name q)) o (tree.get name_cmp was q)

module _ (was now : Numbers) (name : ℕ × Key) where
  pub puts-other : (o : Option ℕ) → Puts was now name o → (t : ℕ) (k : Key) → IsOther name.0 name.1 t k → number_of now t k ≡ number_of was t k
  puts-other o h t k other = h (t, k) ∙ ap (λ b. cond b o (number_of was t k)) (other_name name.0 name.1 t k other)

  -- a number is taken from its name
  pub unnamed-others : (number : ℕ) → Puts was now name None → tree.get name_cmp was name ≡ Some number → (t : ℕ) (k : Key) (n : ℕ) → n ≢ number → number_of was t k ≡ Some n → number_of now t k ≡ Some n
  unnamed-others number h had t k n ne e = elim (cases_Bool (is_eq (name_cmp name (t, k)))) [
    | inl is ↦
        let same = names_exact name (t, k) ((Equal-is (name_cmp name (t, k))).0 is) in
        let clash : Some number ≡ Some n = sym had ∙ ap (tree.get name_cmp was) same ∙ e in
        absurd (ne (cc))
    | inr not ↦ h (t, k) ∙ ap (λ b. cond b None (number_of was t k)) not ∙ e
  ]

  pub unnamed-kept : Puts was now name None → (t : ℕ) (k : Key) (n : ℕ) → number_of now t k ≡ Some n → number_of was t k ≡ Some n
  unnamed-kept h t k n e = at (is_eq (name_cmp name (t, k))) (sym (h (t, k)) ∙ e)
    where
      at : (b : Bool) → cond b None (number_of was t k) ≡ Some n → number_of was t k ≡ Some n
      at true e = absurd (cc)
      at false e = e

  -- a name gets a number that no other name has
  pub named-others : (number : ℕ) → Puts was now name (Some number) → number_of was name.0 name.1 ≡ None → (t : ℕ) (k : Key) (n : ℕ) → number_of was t k ≡ Some n → number_of now t k ≡ Some n
  named-others number h none t k n e = elim (cases_Bool (is_eq (name_cmp name (t, k)))) [
    | inl is ↦
        let same = names_exact name (t, k) ((Equal-is (name_cmp name (t, k))).0 is) in
        let clash : None ≡ Some n = sym none ∙ ap (tree.get name_cmp was) same ∙ e in
        absurd (cc)
    | inr not ↦ h (t, k) ∙ ap (λ b. cond b (Some number) (number_of was t k)) not ∙ e
  ]

  pub named-kept : (number : ℕ) → Puts was now name (Some number) → (t : ℕ) (k : Key) (n : ℕ) → n ≢ number → number_of now t k ≡ Some n → number_of was t k ≡ Some n
  named-kept number h t k n ne e = at (is_eq (name_cmp name (t, k))) (sym (h (t, k)) ∙ e)
    where
      at : (b : Bool) → cond b (Some number) (number_of was t k) ≡ Some n → number_of was t k ≡ Some n
      at true e = absurd (ne (cc))
      at false e = e

  -- what has the number is that name, where nothing had it
  pub named-own : (number : ℕ) → Puts was now name (Some number) → ((t : ℕ) (k : Key) → number_of was t k ≢ Some number) → (t : ℕ) (k : Key) → number_of now t k ≡ Some number → (name.0 ≡ t) × (name.1 ≡ k)
  named-own number h free t k e = elim (cases_Bool (is_eq (name_cmp name (t, k)))) [
    | inl is ↦
        let same = names_exact name (t, k) ((Equal-is (name_cmp name (t, k))).0 is) in
        (ap (λ (q : ℕ × Key). q.0) same, ap (λ (q : ℕ × Key). q.1) same)
    | inr not ↦ absurd (free t k (sym (h (t, k) ∙ ap (λ b. cond b (Some number) (number_of was t k)) not) ∙ e))
  ]
