-- The statements of a checked script, by their places.
use Rattle.std.proofs.Common.{◌≡◌, ℕ, zero, suc, ◌<◌, List, [], ◌∷◌, length, refl, sym, ◌∙◌, ap, subst, arith, get_or}
use Rattle.sql_reader.specs.declared.script.Span.{Span}
use Rattle.sql_reader.specs.Lines.{sessions, sessions_in, statements_in, text_in}
use Rattle.sql_reader.specs.Checks.{text_at, texts_at, IsSpan, AreSpans}

-- the script of some statements
abbrev pub one_phase : List (List ℕ) → List (List (List (List ℕ)))
one_phase texts = sessions texts ∷ []

none_there : {A : Type 0} (i : ℕ) (d : A) → get_or [] i d ≡ d
none_there i d = refl

pub texts_length : (bytes : List ℕ) (spans : List Span) → length (texts_at bytes spans) ≡ length spans
texts_length bytes [] = refl
texts_length bytes (s ∷ spans) = ap suc (texts_length bytes spans)

pub none_past : (texts : List (List ℕ)) (p : ℕ) → (p ≡ 0 → ⊥) → sessions_in (one_phase texts) p ≡ []
none_past texts zero h = absurd (h refl)
none_past texts (suc p) h = none_there p []

pub none_without : (p : ℕ) → sessions_in (one_phase []) p ≡ []
none_without zero = refl
none_without (suc p) = none_there p []

-- what stands at a place
pub record Found (texts : List (List ℕ)) (p s n : ℕ) : Type 0 where
  pub within : n < length texts
  pub text : text_in (one_phase texts) p s n ≡ get_or texts n []

pub found : (texts : List (List ℕ)) (p s n : ℕ) → n < length (statements_in (one_phase texts) p s) → Found texts p s n
found [] zero s n h = absurd (omega (arith, h))
found (t ∷ texts) zero zero n h = record { within = h; text = refl }
found (t ∷ texts) zero (suc s) n h = absurd (omega (arith, h))
found texts (suc p) s n h = absurd (omega (arith, h))

pub span_there : (bytes : List ℕ) (spans : List Span) (n : ℕ) (d : Span) → AreSpans bytes spans → n < length spans → IsSpan bytes (get_or spans n d) × (get_or (texts_at bytes spans) n [] ≡ text_at bytes (get_or spans n d))
span_there bytes [] n d h a = absurd (omega (arith, a))
span_there bytes (s ∷ spans) zero d h a = (h.0, refl)
span_there bytes (s ∷ spans) (suc n) d h a = span_there bytes spans n d h.1 (omega (arith, a))

pub span_by : (bytes : List ℕ) (spans : List Span) (v : List (List (List (List ℕ)))) (p s n : ℕ) (span : Span) → one_phase (texts_at bytes spans) ≡ v → AreSpans bytes spans → n < length (statements_in v p s) → span ≡ get_or spans n span
    → IsSpan bytes span × (text_in v p s n ≡ text_at bytes span)
span_by bytes spans v p s n span is are h e =
    let f : Found (texts_at bytes spans) p s n = found (texts_at bytes spans) p s n (subst (λ w. n < length (statements_in w p s)) (sym is) h) in
    let t : IsSpan bytes (get_or spans n span) × (get_or (texts_at bytes spans) n [] ≡ text_at bytes (get_or spans n span)) = span_there bytes spans n span are (omega (arith, f.within, texts_length bytes spans)) in
    (subst (IsSpan bytes) (sym e) t.0, ap (λ w. text_in w p s n) (sym is) ∙ f.text ∙ t.1 ∙ ap (text_at bytes) (sym e))

pub span_within : (bytes : List ℕ) (spans : List Span) (v : List (List (List (List ℕ)))) (p s n : ℕ) → one_phase (texts_at bytes spans) ≡ v → n < length (statements_in v p s) → n < length spans
span_within bytes spans v p s n is h =
    let f : Found (texts_at bytes spans) p s n = found (texts_at bytes spans) p s n (subst (λ w. n < length (statements_in w p s)) (sym is) h) in
    omega (arith, f.within, texts_length bytes spans)
