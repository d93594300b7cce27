-- What a printer carries, step by step.
use Rattle.std.proofs.Common.{◌≡◌, ◌∙◌, refl, sym, ap, subst, ℕ, Bool, true, false, List, [], ◌∷◌, ◌++◌, ◌⊎◌, inl, inr, append_assoc, arith}
use Rattle.std.proofs.lemmas.List.{append-nil}
use Rattle.ids_outside.specs.Counts.{Rose}
use Rattle.ids_server.specs.Printing.{IsFront, TakesPart, Carries, Printed, PrinterGrows, PrinterCarries, PrinterIsCaused, PrinterPuts}

append-cancel : (front a b : List ℕ) → front ++ a ≡ front ++ b → a ≡ b
append-cancel [] a b e = e
append-cancel (x ∷ front) a b e = append-cancel front a b (cc)

-- a front of a text is a front of a longer one
pub front-longer : (bytes text more : List ℕ) → IsFront bytes text → IsFront bytes (text ++ more)
front-longer bytes text more front = record { rest = front.rest ++ more; is = ap (λ t. t ++ more) front.is ∙ append_assoc bytes front.rest more }

-- what is gathered more is carried more
pub carries-more : (tells : Type 0) (taken gathered : List ℕ) (failed : Bool) (text bytes : List ℕ) → Carries tells taken gathered failed text → Carries tells taken (gathered ++ bytes) failed (text ++ bytes)
carries-more tells taken gathered failed text bytes h = record {
  whole = λ f t. ap (λ x. x ++ bytes) (h.whole f t) ∙ append_assoc taken gathered bytes;
  front = λ f t. front-longer taken text bytes (h.front f t);
}

-- each text is a front of itself
pub front-self : (text : List ℕ) → IsFront text text
front-self text = record { rest = []; is = sym (append-nil text) }

-- a front of a front is a front
pub front-front : (a b c : List ℕ) → IsFront a b → IsFront b c → IsFront a c
front-front a b c h k = record { rest = h.rest ++ k.rest; is = k.is ∙ ap (λ x. x ++ k.rest) h.is ∙ append_assoc a h.rest k.rest }

-- what came behind a text, up to a longer text, is a part of the piece between
pub part-between : (text taken piece : List ℕ) → IsFront text taken → IsFront taken (text ++ piece) → TakesPart text taken piece
part-between text taken piece h k = record {
  front = h.rest;
  of = record { rest = k.rest; is = append-cancel text piece (h.rest ++ k.rest) (k.is ∙ ap (λ x. x ++ k.rest) h.is ∙ append_assoc text h.rest k.rest) };
  is = h.is;
}

-- bytes that are brought at once, where nothing is gathered
pub carries-passed : (tells : Type 0) (before after gathered bytes : List ℕ) (failed fails : Bool) → gathered ≡ []
    → ((text : List ℕ) → Carries tells before bytes failed text → Carries tells after [] fails text)
    → (text : List ℕ) → Carries tells before gathered failed text → Carries tells after gathered fails (text ++ bytes)
carries-passed tells before after gathered bytes failed fails none brings text h =
    subst (λ x. Carries tells after x fails (text ++ bytes)) (sym none)
    (brings (text ++ bytes) (carries-more tells before [] failed text bytes (subst (λ x. Carries tells before x failed text) none h)))

-- what the sink took is a front of the text that is carried
pub front-carried : (tells : Type 0) (taken gathered : List ℕ) (failed : Bool) (text : List ℕ) → Carries tells taken gathered failed text → tells → IsFront taken text
front-carried tells taken gathered true text h t = h.front refl t
front-carried tells taken gathered false text h t = record { rest = gathered; is = h.whole refl t }

-- a printer of a sink that has taken nothing carries the empty text
pub starts-carrying : {K : Type 0} → (tells : Type 0) (taken : K → List ℕ) (out : K) → (tells → taken out ≡ []) → PrinterCarries tells taken (record { sink = out; gathered = []; failed = false }) []
starts-carrying tells taken out fresh = record { whole = λ e t. sym (ap (λ x. x ++ []) (fresh t)); front = λ e t. cc }

-- and has no fault of its own yet
pub starts-caused : {K : Type 0} → (faults : K → ℕ) (out : K) → PrinterIsCaused faults (record { sink = out; gathered = []; failed = false }) (faults out)
starts-caused faults out = record { later = omega arith; rose = λ e. cc }

-- what is not true is false
pub not-true : (b : Bool) → (b ≡ true → ⊥) → b ≡ false
not-true true h = absurd (h refl)
not-true false h = refl

module _ {K : Type 0} {tells : Type 0} {taken : K → List ℕ} {faults : K → ℕ} where
  -- to put one piece and then another
  pub puts-then : (p q r : Printed K) (a b : List ℕ) → PrinterPuts tells taken faults p q a → PrinterPuts tells taken faults q r b → PrinterPuts tells taken faults p r (a ++ b)
  puts-then p q r a b h k = record {
    grows = λ t. front-front (taken p.sink) (taken q.sink) (taken r.sink) (h.grows t) (k.grows t);
    carries = λ text carried. subst (PrinterCarries tells taken r) (append_assoc text a b) (k.carries (text ++ a) (h.carries text carried));
    caused = λ first caused. k.caused first (h.caused first caused);
  }

  -- the same bytes
  pub puts-same : (p q : Printed K) (a b : List ℕ) → a ≡ b → PrinterPuts tells taken faults p q a → PrinterPuts tells taken faults p q b
  puts-same p q a b e h = subst (PrinterPuts tells taken faults p q) e h

  -- to write what is gathered puts nothing more
  pub puts-flushed : (p q r : Printed K) (a : List ℕ) → PrinterPuts tells taken faults p q a → PrinterGrows tells taken q r
      → ((text : List ℕ) → PrinterCarries tells taken q text → PrinterCarries tells taken r text)
      → ((first : ℕ) → PrinterIsCaused faults q first → PrinterIsCaused faults r first) → PrinterPuts tells taken faults p r a
  puts-flushed p q r a h grows carries caused = record {
    grows = λ t. front-front (taken p.sink) (taken q.sink) (taken r.sink) (h.grows t) (grows t);
    carries = λ text carried. carries (text ++ a) (h.carries text carried);
    caused = λ first is. caused first (h.caused first is);
  }

  -- the line of the status comes behind the text
  pub ends-behind : (p r : Printed K) (before line : List ℕ) → p.gathered ≡ [] → PrinterPuts tells taken faults p r line
      → PrinterCarries tells taken p before → p.failed ≡ false → tells → TakesPart before (taken r.sink) line
  ends-behind p r before line none puts carried sound t =
      let all : before ≡ taken p.sink = carried.whole sound t ∙ ap (λ x. taken p.sink ++ x) none ∙ append-nil (taken p.sink) in
      part-between before (taken r.sink) line (subst (λ x. IsFront x (taken r.sink)) (sym all) (puts.grows t)) (front-carried tells (taken r.sink) r.gathered r.failed (before ++ line) (puts.carries before carried) t)

  -- and is whole, unless the sink failed
  pub ends-whole : (p r : Printed K) (before line : List ℕ) (first : ℕ) → r.gathered ≡ [] → PrinterPuts tells taken faults p r line
      → PrinterCarries tells taken p before → PrinterIsCaused faults p first → tells → (taken r.sink ≡ before ++ line) ⊎ Rose first (faults r.sink)
  ends-whole p r before line first none puts carried caused t = by_failure r.failed refl
    where
      by_failure : (failed : Bool) → r.failed ≡ failed → (taken r.sink ≡ before ++ line) ⊎ Rose first (faults r.sink)
      by_failure true is = inr ((puts.caused first caused).rose is)
      by_failure false is = inl (sym ((puts.carries before carried).whole is t ∙ ap (λ x. taken r.sink ++ x) none ∙ append-nil (taken r.sink)))
