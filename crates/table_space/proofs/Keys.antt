-- What the tests of keys and of names tell of them.
use Rattle.std.proofs.Common.{◌≡◌, ℕ, true, false, refl, ap, sym, List, [], ◌∷◌, inl, inr}
use Rattle.std.specs.Prelude.{nat_eq}
use Rattle.std.specs.Cmp.Lexicographic.{pointwise, same_text}
use Rattle.std.proofs.lemmas.Bool.{eqb-true, eq-eqb, and_from, and_parts, cases_Bool}
use Rattle.ids_base.specs.declared.lock.Key.{Key}
use Rattle.ids_base.specs.LockNames.{is_same_key}
use Rattle.std.specs.declared.cmp.Ordering.TheVariants.{Equal}
use Rattle.std.specs.Ordering.{is_eq}
use Rattle.std.specs.Cmp.{Equal-is}
use Rattle.std.specs.FinMap.{slice_cmp-IsAntisymmetric, nat_cmp-IsAntisymmetric}
use Rattle.table_space.specs.Numbers.{name_cmp}
use Rattle.table_space.specs.Seen.{IsOther}

pub same_bytes : (bs : List ℕ) → pointwise nat_eq bs bs ≡ true
same_bytes [] = refl
same_bytes (b ∷ bs) = and_from _ _ (eq-eqb b b refl) (same_bytes bs)

pub key_itself : (k : Key) → is_same_key k k ≡ true
key_itself k = and_from _ _ (eq-eqb k.size k.size refl) (same_bytes k.bytes)

pub keys_told : (a b : Key) → is_same_key a b ≡ true → a ≡ b
keys_told a b h =
    let p = and_parts _ _ h in
    let size : a.size ≡ b.size = eqb-true a.size b.size p.0 in
    let bytes : a.bytes ≡ b.bytes = same_text a.bytes b.bytes (sym p.1) in
    λ i. record { size = size i; bytes = bytes i }

-- only equal names tie
pub names_exact : (a b : ℕ × Key) → name_cmp a b ≡ Equal → a ≡ b
names_exact a b e =
    let parts : (a.0 ∷ a.1.size ∷ a.1.bytes) ≡ (b.0 ∷ b.1.size ∷ b.1.bytes) = slice_cmp-IsAntisymmetric nat_cmp-IsAntisymmetric (a.0 ∷ a.1.size ∷ a.1.bytes) (b.0 ∷ b.1.size ∷ b.1.bytes) e in
    let table : a.0 ≡ b.0 = cc in
    let size : a.1.size ≡ b.1.size = cc in
    let bytes : a.1.bytes ≡ b.1.bytes = cc in
    λ i. (table i, record { size = size i; bytes = bytes i })

-- the test of a name tells one of another apart
pub other_name : (t : ℕ) (k : Key) (t' : ℕ) (k' : Key) → IsOther t k t' k' → is_eq (name_cmp (t, k) (t', k')) ≡ false
other_name t k t' k' other = elim (cases_Bool (is_eq (name_cmp (t, k) (t', k')))) [
  | inl is ↦ let same = names_exact (t, k) (t', k') ((Equal-is (name_cmp (t, k) (t', k'))).0 is) in absurd (other (ap (λ (n : ℕ × Key). n.0) (sym same), ap (λ (n : ℕ × Key). n.1) (sym same)))
  | inr not ↦ not
]
