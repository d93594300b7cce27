-- The two laws, and what they say of bytes.
use Rattle.std.proofs.Common.{◌≡◌, ℕ, ◌≤◌, Bool, true, false, cond, ◌&&◌, List, length, Some, None, refl, sym, ap, subst, ◌∙◌, arith, inl, inr}
use Rattle.std.specs.Str.{bytes_eq}
use Rattle.std.proofs.lemmas.Bool.{and_parts, and_from, cond-true, cond-false, cases_Bool}
use Rattle.std.proofs.lemmas.Slice.Eq.{bytes_eq-Decides}
use Rattle.slot_page.specs.Pages.{Paged, page_bytes, AreBytes, IsPage}
use Rattle.slot_page.specs.Reading.{read_page, is_head, where_spelled, page_of, IsPageBytes}
use Rattle.slot_page.proofs.WholePages.{page_bytes-long, read_page-page_bytes, is_head-page, IsPage-read}

-- a page is where it is spelled
spelled_there : (p : Paged) (bytes : List ℕ) → IsPage p → bytes ≡ page_bytes p → where_spelled p bytes ≡ Some p
spelled_there p bytes h e = cond-true _ _ _ (and_from _ _ (is_head-page p h) ((bytes_eq-Decides bytes (page_bytes p)).1 e))

some_is : (p q : Paged) (b : Bool) → cond b (Some p) None ≡ Some q → (b ≡ true) × (p ≡ q)
some_is p q true e = (refl, cc)
some_is p q false e = absurd cc

pub page_of-page_bytes : (p : Paged) → IsPage p → page_of (page_bytes p) ≡ Some p
unfolding page_of
page_of-page_bytes p h = ap (λ (q : Paged). where_spelled q (page_bytes p)) (read_page-page_bytes p h) ∙ spelled_there p (page_bytes p) h refl

-- bytes that pass are a page's
passed : (bytes : List ℕ) → AreBytes bytes → (is_head (read_page bytes) && bytes_eq bytes (page_bytes (read_page bytes))) ≡ true → IsPageBytes bytes
passed bytes h e =
    let both = and_parts (is_head (read_page bytes)) (bytes_eq bytes (page_bytes (read_page bytes))) e in
    let spelled : bytes ≡ page_bytes (read_page bytes) = (bytes_eq-Decides bytes (page_bytes (read_page bytes))).0 both.1 in
    let long : 2048 ≤ length bytes = omega (arith, page_bytes-long (read_page bytes), ap (λ (xs : List ℕ). length xs) spelled) in
    record { page = IsPage-read bytes long h both.0; spelled = spelled }

pub page_of-read : (bytes : List ℕ) → IsPageBytes bytes → page_of bytes ≡ Some (read_page bytes)
unfolding page_of
page_of-read bytes h = spelled_there (read_page bytes) bytes h.page h.spelled

pub page_of-none : (bytes : List ℕ) → AreBytes bytes → (IsPageBytes bytes → ⊥) → page_of bytes ≡ None
unfolding page_of
page_of-none bytes h other =
    elim (cases_Bool (is_head (read_page bytes) && bytes_eq bytes (page_bytes (read_page bytes)))) [
      | inl e ↦ absurd (other (passed bytes h e))
      | inr e ↦ cond-false _ _ _ e
    ]

pub page_of-spelled : (bytes : List ℕ) (p : Paged) → page_of bytes ≡ Some p → AreBytes bytes → IsPage p × (bytes ≡ page_bytes p)
unfolding page_of
page_of-spelled bytes p e h =
    let both = some_is (read_page bytes) p _ e in
    let here = passed bytes h both.0 in
    (subst IsPage both.1 here.page, here.spelled ∙ ap page_bytes both.1)

-- the spelling of a page is a page's
pub IsPageBytes-page_bytes : (p : Paged) → IsPage p → IsPageBytes (page_bytes p)
IsPageBytes-page_bytes p h =
    let same = read_page-page_bytes p h in
    record { page = subst IsPage (sym same) h; spelled = ap page_bytes (sym same) }

-- bytes that spell a page
pub record Spells (bytes : List ℕ) (p : Paged) : Type 0 where
  pub page : IsPage p
  pub spelled : bytes ≡ page_bytes p

pub IsPageBytes-spelled : (bytes : List ℕ) (p : Paged) → Spells bytes p → IsPageBytes bytes
IsPageBytes-spelled bytes p h = subst IsPageBytes (sym h.spelled) (IsPageBytes-page_bytes p h.page)

-- they are read as it
pub read_page-spelled : (bytes : List ℕ) (p : Paged) → Spells bytes p → read_page bytes ≡ p
read_page-spelled bytes p h = ap read_page h.spelled ∙ read_page-page_bytes p h.page
