-- What tokens stand for.
use Rattle.std.proofs.Common.{◌≡◌, ℕ, zero, suc, ◌+◌, ◌*◌, ◌-◌, ◌≤◌, ◌<◌, Bool, true, false, cond, not, ◌&&◌, ◌==◌, nat_le, nat_lt, set, List, [], ◌∷◌, ◌++◌, map, length, refl, sym, ◌∙◌, ap, append_assoc, arith, take, drop, get_or}
use Rattle.std.specs.List.{list_all}
use Rattle.std.proofs.lemmas.List.{take-append-drop, take_all, append-nil}
use Rattle.ids_base.specs.Names.{is_name as is_small_name, is_name_start, is_name_byte}
use Rattle.sql_reader.specs.Form.{is_empty}
use Rattle.sql_reader.specs.Tokens.{is_letter, is_digit, is_word_byte, is_name, is_number, is_digits, is_signed, is_text, lower, value, greatest}
use Rattle.sql_reader.specs.Plans.{unquoted, text_value}
use Rattle.ids_base.specs.Texts.{is_printable, is_printable_text}
use Rattle.sql_reader.specs.declared.reach.TextState.{TextState}
use Rattle.sql_reader.specs.declared.reach.TextState.TheVariants.{Dead, Inside, Behind}
use Rattle.sql_reader.specs.Tokens.{is_quote, text_step, text_scan, is_behind}
use Rattle.sql_reader.proofs.Form.{true_false}
use Rattle.sql_reader.proofs.Tokens.{left, right, both, value_front, scan_dead}
use Rattle.sql_reader.proofs.Steps.{take_next, number_value}
use Rattle.sql_reader.proofs.Stands.{drop_next}

lower_start : (b : ℕ) → is_letter b ≡ true → is_name_start (lower b) ≡ true
lower_start b h = grind arith

lower_byte : (b : ℕ) → is_word_byte b ≡ true → is_name_byte (lower b) ≡ true
lower_byte b h = grind arith

lower_bytes : (bs : List ℕ) → list_all is_word_byte bs ≡ true → list_all is_name_byte (map lower bs) ≡ true
lower_bytes [] h = refl
lower_bytes (b ∷ bs) h = both (lower_byte b (left _ _ h)) (lower_bytes bs (right _ _ h))

map_length : (bs : List ℕ) → length (map lower bs) ≡ length bs
map_length [] = refl
map_length (b ∷ bs) = ap suc (map_length bs)

-- a name in lower case is a name
pub lower_name : (p : List ℕ) → is_name p ≡ true → is_small_name (map lower p) ≡ true
lower_name [] h = true_false h refl
lower_name (b ∷ bs) h = both (ap (λ n. nat_le n 17) (map_length bs) ∙ right _ _ (right _ _ h)) (both (lower_start b (left _ _ h)) (lower_bytes bs (left _ _ (right _ _ h))))

pub name_short : (p : List ℕ) → is_name p ≡ true → length p ≤ 18
name_short [] h = omega arith
name_short (b ∷ bs) h = short (length bs) (right _ _ (right _ _ h))
  where
    short : (n : ℕ) → nat_le n 17 ≡ true → suc n ≤ 18
    short n h = grind arith

pub map_next : (i : ℕ) (p : List ℕ) → i < length p → map lower (take (i + 1) p) ≡ map lower (take i p) ++ (lower (get_or p i 0) ∷ [])
map_next i p h = ap (map lower) (take_next i p h) ∙ map_snoc (take i p) (get_or p i 0)
  where
    map_snoc : (p : List ℕ) (b : ℕ) → map lower (p ++ (b ∷ [])) ≡ map lower p ++ (lower b ∷ [])
    map_snoc [] b = refl
    map_snoc (c ∷ p) b = ap (λ v. lower c ∷ v) (map_snoc p b)

-- numbers
digit_at : (p : List ℕ) (i : ℕ) → list_all is_digit p ≡ true → i < length p → is_digit (get_or p i 0) ≡ true
digit_at [] i h a = absurd (omega (arith, a))
digit_at (b ∷ p) zero h a = left _ _ h
digit_at (b ∷ p) (suc i) h a = digit_at p i (right _ _ h) (omega (arith, a))

abbrev pub DigitBounds : ℕ → Type 0
DigitBounds b = (48 ≤ b) × (b ≤ 57)

digit_bounds : (b : ℕ) → is_digit b ≡ true → DigitBounds b
digit_bounds b h = (grind arith, grind arith)

le_of : (n m : ℕ) → nat_le n m ≡ true → n ≤ m
le_of n m h = grind arith

pub number_small : (p : List ℕ) → is_number p ≡ true → value 0 p ≤ 2147483647
unfolding greatest
number_small p h = le_of (value 0 p) 2147483647 (right _ _ (right _ _ h))

front_small : (p : List ℕ) (i : ℕ) → is_number p ≡ true → value 0 (take i p) ≤ 2147483647
front_small p i h = omega (arith, value_front 0 (take i p) (drop i p), ap (value 0) (take-append-drop i p), number_small p h)

pub record NumberNext (p : List ℕ) (i n : ℕ) : Type 0 where
  pub least : 48 ≤ get_or p i 0
  pub most : get_or p i 0 ≤ 57
  pub more : n * 10 + (get_or p i 0 - 48) ≡ value 0 (take (i + 1) p)
  pub fits : n * 10 + (get_or p i 0 - 48) ≤ 2147483647

pub number_next : (p : List ℕ) (i n : ℕ) → is_number p ≡ true → i < length p → n ≡ value 0 (take i p) → NumberNext p i n
number_next p i n h a e =
    let d : DigitBounds (get_or p i 0) = digit_bounds (get_or p i 0) (digit_at p i (left (list_all is_digit p) (nat_le (value 0 p) greatest) (right (not (is_empty p)) (is_digits p) h)) a) in
    let m : n * 10 + (get_or p i 0 - 48) ≡ value 0 (take (i + 1) p) = ap (λ v. v * 10 + (get_or p i 0 - 48)) e ∙ sym (number_value p i a) in
    record { least = d.0; most = d.1; more = m; fits = omega (arith, m, front_small p (i + 1) h) }

pub signed_digits : (p : List ℕ) → is_signed p ≡ true → get_or p 0 0 ≡ 45 → is_number (take (length p - 1) (drop 1 p)) ≡ true
signed_digits [] h e = true_false h refl
signed_digits (b ∷ p) h e = ap is_number (take_all (length (b ∷ p) - 1) p (omega arith)) ∙ by_dash (b == 45) (is_number p) (is_digits (b ∷ p)) (grind arith) h
  where
    by_dash : (c x y : Bool) → c ≡ true → cond c x y ≡ true → x ≡ true
    by_dash true x y e h = h
    by_dash false x y e h = true_false e refl

pub unsigned_digits : (p : List ℕ) → is_signed p ≡ true → (get_or p 0 0 ≡ 45 → ⊥) → is_number p ≡ true
unsigned_digits [] h e = true_false h refl
unsigned_digits (b ∷ p) h e = by_digit (b == 45) (is_number p) (is_digits (b ∷ p)) (grind (arith, e)) h
  where
    by_digit : (c x y : Bool) → c ≡ false → cond c x y ≡ true → y ≡ true
    by_digit true x y e h = true_false refl e
    by_digit false x y e h = h

-- texts
pub seen_sign : (q b : ℕ) (bs : List ℕ) → b ≡ q → unquoted q false (b ∷ bs) ≡ unquoted q true bs
seen_sign q b bs h = ap (λ c. cond c (unquoted q true bs) (b ∷ unquoted q false bs)) (let e : (b == q) ≡ true = grind arith in e)

pub plain_byte : (q b : ℕ) (bs : List ℕ) → (b ≡ q → ⊥) → unquoted q false (b ∷ bs) ≡ b ∷ unquoted q false bs
plain_byte q b bs h = ap (λ c. cond c (unquoted q true bs) (b ∷ unquoted q false bs)) (let e : (b == q) ≡ false = grind (arith, h) in e)

-- what is read so far, and what is left of a text behind its first sign
abbrev pub Unquoting : ℕ → List ℕ → Bool → List ℕ → ℕ → Type 0
Unquoting q bytes seen all i = bytes ++ unquoted q seen (drop i all) ≡ unquoted q false all

pub unquoting_sign : (q : ℕ) (bytes : List ℕ) (all : List ℕ) (i : ℕ) → i < length all → get_or all i 0 ≡ q → Unquoting q bytes false all i → Unquoting q bytes true all (i + 1)
unquoting_sign q bytes all i a e h = ap (λ v. bytes ++ v) (sym (ap (unquoted q false) (drop_next i all a) ∙ seen_sign q (get_or all i 0) (drop (i + 1) all) e)) ∙ h

pub unquoting_seen : (q : ℕ) (bytes : List ℕ) (all : List ℕ) (i : ℕ) → i < length all → Unquoting q bytes true all i → Unquoting q (bytes ++ (get_or all i 0 ∷ [])) false all (i + 1)
unquoting_seen q bytes all i a h = append_assoc bytes (get_or all i 0 ∷ []) (unquoted q false (drop (i + 1) all)) ∙ ap (λ v. bytes ++ v) (sym (ap (unquoted q true) (drop_next i all a))) ∙ h

pub unquoting_plain : (q : ℕ) (bytes : List ℕ) (all : List ℕ) (i : ℕ) → i < length all → (get_or all i 0 ≡ q → ⊥) → Unquoting q bytes false all i → Unquoting q (bytes ++ (get_or all i 0 ∷ [])) false all (i + 1)
unquoting_plain q bytes all i a e h = append_assoc bytes (get_or all i 0 ∷ []) (unquoted q false (drop (i + 1) all)) ∙ ap (λ v. bytes ++ v) (sym (ap (unquoted q false) (drop_next i all a) ∙ plain_byte q (get_or all i 0) (drop (i + 1) all) e)) ∙ h

drop_all : (n : ℕ) (p : List ℕ) → length p ≤ n → drop n p ≡ []
drop_all zero [] h = refl
drop_all (suc n) [] h = refl
drop_all zero (b ∷ p) h = absurd (omega (arith, h))
drop_all (suc n) (b ∷ p) h = drop_all n p (omega (arith, h))

pub unquoted_end : (q : ℕ) (bytes : List ℕ) (seen : Bool) (all : List ℕ) (i : ℕ) → length all ≤ i → Unquoting q bytes seen all i → bytes ≡ unquoted q false all
unquoted_end q bytes true all i a h = sym (ap (λ v. bytes ++ unquoted q true v) (drop_all i all a) ∙ append-nil bytes) ∙ h
unquoted_end q bytes false all i a h = sym (ap (λ v. bytes ++ unquoted q false v) (drop_all i all a) ∙ append-nil bytes) ∙ h

pub text_value_is : (p : List ℕ) → is_text p ≡ true → unquoted (get_or p 0 0) false (take (length p - 1) (drop 1 p)) ≡ text_value p
text_value_is [] h = true_false h refl
text_value_is (q ∷ p) h = ap (unquoted q false) (take_all (length (q ∷ p) - 1) p (omega arith))

pub text_some : (p : List ℕ) → is_text p ≡ true → 0 < length p
text_some [] h = true_false h refl
text_some (q ∷ p) h = omega arith

pub signed_some : (p : List ℕ) → is_signed p ≡ true → 0 < length p
signed_some [] h = true_false h refl
signed_some (q ∷ p) h = omega arith

-- the value of a text is printable
step_sign : (q n b : ℕ) → (b == q) ≡ true → text_step q (Inside n) b ≡ Behind n
step_sign q n b h = rw h refl

cond_false : {A : Type 0} (c : Bool) (x y : A) → c ≡ false → cond c x y ≡ y
cond_false c x y h = rw h refl

cond_true : {A : Type 0} (c : Bool) (x y : A) → c ≡ true → cond c x y ≡ x
cond_true c x y h = rw h refl

step_plain : (q n b : ℕ) → (b == q) ≡ false → (is_printable b && nat_lt n 800) ≡ true → text_step q (Inside n) b ≡ Inside (n + 1)
step_plain q n b h k = cond_false (b == q) (Behind n) (cond (is_printable b && nat_lt n 800) (Inside (n + 1)) Dead) h ∙ cond_true (is_printable b && nat_lt n 800) (Inside (n + 1)) Dead k

step_dead : (q n b : ℕ) → (b == q) ≡ false → (is_printable b && nat_lt n 800) ≡ false → text_step q (Inside n) b ≡ Dead
step_dead q n b h k = cond_false (b == q) (Behind n) (cond (is_printable b && nat_lt n 800) (Inside (n + 1)) Dead) h ∙ cond_false (is_printable b && nat_lt n 800) (Inside (n + 1)) Dead k

behind_goes : (q n b : ℕ) → ((b == q) && nat_lt n 800) ≡ true → text_step q (Behind n) b ≡ Inside (n + 1)
behind_goes q n b h = cond_true ((b == q) && nat_lt n 800) (Inside (n + 1)) Dead h

behind_dead : (q n b : ℕ) → ((b == q) && nat_lt n 800) ≡ false → text_step q (Behind n) b ≡ Dead
behind_dead q n b h = cond_false ((b == q) && nat_lt n 800) (Inside (n + 1)) Dead h

dead_end : {A : Type 0} (q : ℕ) (s : TextState) (bs : List ℕ) → s ≡ Dead → is_behind (text_scan q s bs) ≡ true → A
dead_end q s bs e h = true_false h (ap (λ v. is_behind (text_scan q v bs)) e ∙ ap is_behind (scan_dead q bs))

goes : (q : ℕ) (s t : TextState) (bs : List ℕ) → s ≡ t → is_behind (text_scan q s bs) ≡ true → is_behind (text_scan q t bs) ≡ true
goes q s t bs e h = ap (λ v. is_behind (text_scan q v bs)) (sym e) ∙ h

quote_printable : (q b : ℕ) → is_quote q ≡ true → (b == q) ≡ true → is_printable b ≡ true
quote_printable q b h e = grind arith

pub printable_value : (q : ℕ) → is_quote q ≡ true → (s : TextState) (bs : List ℕ) → is_behind (text_scan q s bs) ≡ true → list_all is_printable (unquoted q (is_behind s) bs) ≡ true
printable_value q h Dead [] k = refl
printable_value q h (Inside n) [] k = refl
printable_value q h (Behind n) [] k = refl
printable_value q h Dead (b ∷ bs) k = dead_end q Dead bs refl k
printable_value q h (Inside n) (b ∷ bs) k = elim (b == q) as (λ v. (b == q) ≡ v → list_all is_printable (unquoted q false (b ∷ bs)) ≡ true) [
  | true ↦ λ e. ap (list_all is_printable) (cond_true (b == q) (unquoted q true bs) (b ∷ unquoted q false bs) e) ∙ printable_value q h (Behind n) bs (goes q (text_step q (Inside n) b) (Behind n) bs (step_sign q n b e) k)
  | false ↦ λ e. elim (is_printable b && nat_lt n 800) as (λ v. (is_printable b && nat_lt n 800) ≡ v → list_all is_printable (unquoted q false (b ∷ bs)) ≡ true) [
    | true ↦ λ f. ap (list_all is_printable) (cond_false (b == q) (unquoted q true bs) (b ∷ unquoted q false bs) e) ∙ both (left (is_printable b) (nat_lt n 800) f) (printable_value q h (Inside (n + 1)) bs (goes q (text_step q (Inside n) b) (Inside (n + 1)) bs (step_plain q n b e f) k))
    | false ↦ λ f. dead_end q (text_step q (Inside n) b) bs (step_dead q n b e f) k
  ] refl
] refl
printable_value q h (Behind n) (b ∷ bs) k = elim ((b == q) && nat_lt n 800) as (λ v. ((b == q) && nat_lt n 800) ≡ v → list_all is_printable (unquoted q true (b ∷ bs)) ≡ true) [
  | true ↦ λ f. both (quote_printable q b h (left (b == q) (nat_lt n 800) f)) (printable_value q h (Inside (n + 1)) bs (goes q (text_step q (Behind n) b) (Inside (n + 1)) bs (behind_goes q n b f) k))
  | false ↦ λ f. dead_end q (text_step q (Behind n) b) bs (behind_dead q n b f) k
] refl

pub printable_text : (p : List ℕ) → is_text p ≡ true → is_printable_text (text_value p) ≡ true
printable_text [] h = refl
printable_text (q ∷ p) h = printable_value q (left _ _ h) (Inside 0) p (right _ _ h)

pub set_next : (i v : ℕ) (xs : List ℕ) → i < length xs → take (i + 1) (set xs i v) ≡ take i xs ++ (v ∷ [])
set_next i v [] h = absurd (omega (arith, h))
set_next zero v (x ∷ xs) h = refl
set_next (suc i) v (x ∷ xs) h = ap (λ n. take n (x ∷ set xs i v)) (let e : suc i + 1 ≡ suc (i + 1) = omega arith in e) ∙ ap (λ w. x ∷ w) (set_next i v xs (omega (arith, h)))

pub name_more : (token text : List ℕ) (i v : ℕ) → i < length text → i < length token → v ≡ lower (get_or token i 0) → take i text ≡ map lower (take i token) → take (i + 1) (set text i v) ≡ map lower (take (i + 1) token)
name_more token text i v a b e h = set_next i v text a ∙ ap (λ w. w ++ (v ∷ [])) h ∙ ap (λ w. map lower (take i token) ++ (w ∷ [])) e ∙ sym (map_next i token b)

pub name_read : (token text : List ℕ) (i : ℕ) → length token ≤ i → i ≤ length token → is_name token ≡ true → take i text ≡ map lower (take i token) → is_small_name (take (length token) text) ≡ true
name_read token text i a b h e = let same : i ≡ length token = omega (arith, a, b) in
    ap is_small_name (ap (λ n. take n text) (sym same) ∙ e ∙ ap (map lower) (take_all i token a)) ∙ lower_name token h
