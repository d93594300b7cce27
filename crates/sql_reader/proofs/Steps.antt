-- How far a token goes.
use Rattle.std.proofs.Common.{◌≡◌, ℕ, zero, suc, nat_lt, ◌+◌, ◌*◌, ◌-◌, ◌≤◌, Bool, true, false, cond, ◌&&◌, ◌==◌, nat_le, List, [], ◌∷◌, ◌++◌, length, ◌<◌, refl, sym, ◌∙◌, ap, subst, arith, length-append, take, drop, get_or}
use Rattle.std.specs.List.{list_all}
use Rattle.std.proofs.lemmas.List.Folds.{list_all-append}
use Rattle.std.proofs.lemmas.List.{length-take-le, take_all}
use Rattle.sql_reader.specs.declared.token.Keyword.{Keyword}
use Rattle.sql_reader.specs.declared.token.Kind.TheVariants.{Word, Name, Number, Signed, Text, Comment}
use Rattle.sql_reader.specs.declared.reach.TextState.{TextState}
use Rattle.sql_reader.specs.declared.reach.TextState.TheVariants.{Inside}
use Rattle.sql_reader.specs.Tokens.{is_quote, text_step, text_scan, is_live, is_behind, is_text, begins_text, letters, is_letter, is_digit, is_word_byte, is_plain, lower, is_name, value, greatest, is_digits, is_number, is_word, begins_word, whole, begins}
use Rattle.sql_reader.specs.Judging.{Reached}
use Rattle.sql_reader.proofs.Form.{true_false}
use Rattle.sql_reader.proofs.Tokens.{left, right, scan-append}

pub take_next : (i : ℕ) (xs : List ℕ) → i < length xs → take (i + 1) xs ≡ take i xs ++ (get_or xs i 0 ∷ [])
take_next i [] h = grind arith
take_next zero (x ∷ xs) h = refl
take_next (suc i) (x ∷ xs) h = subst (λ n. take n (x ∷ xs) ≡ x ∷ (take i xs ++ (get_or xs i 0 ∷ []))) (let e : suc (i + 1) ≡ suc i + 1 = omega arith in e) (ap (λ v. x ∷ v) (take_next i xs (omega (arith, h))))

word_next : (ls p : List ℕ) (b : ℕ) → begins_word ls p ≡ true → length p < length ls → begins_word ls (p ++ (b ∷ [])) ≡ (lower b == get_or ls (length p) 0)
word_next [] p b h i = grind arith
word_next (l ∷ ls) [] b h i = grind arith
word_next (l ∷ ls) (c ∷ p) b h i = rw (left (lower c == l) (begins_word ls p) h) (word_next ls p b (right _ _ h) (omega (arith, i)))

word_full : (ls p : List ℕ) (b : ℕ) → length ls ≤ length p → begins_word ls (p ++ (b ∷ [])) ≡ false
word_full [] [] b h = refl
word_full [] (c ∷ p) b h = refl
word_full (l ∷ ls) [] b h = grind arith
word_full (l ∷ ls) (c ∷ p) b h = rw (word_full ls p b (omega (arith, h))) (grind arith)

word_ends : (ls p : List ℕ) → begins_word ls p ≡ true → is_word ls p ≡ (length p == length ls)
word_ends [] [] h = refl
word_ends [] (c ∷ p) h = true_false h refl
word_ends (l ∷ ls) [] h = grind arith
word_ends (l ∷ ls) (c ∷ p) h = rw (left (lower c == l) (begins_word ls p) h) (word_ends ls p (right _ _ h) ∙ grind arith)

-- one more byte
pub word_step : (ls p : List ℕ) (i : ℕ) → begins_word ls (take i p) ≡ true → i < length p → i < length ls → begins_word ls (take (i + 1) p) ≡ (lower (get_or p i 0) == get_or ls i 0)
word_step ls p i h a b = rw (take_next i p a) (word_next ls (take i p) (get_or p i 0) h (omega (arith, length-take-le i p (omega (arith, a)), b)) ∙ ap (λ n. lower (get_or p i 0) == get_or ls n 0) (length-take-le i p (omega (arith, a))))

pub word_stop : (ls p : List ℕ) (i : ℕ) → i < length p → length ls ≤ i → begins_word ls (take (i + 1) p) ≡ false
word_stop ls p i a b = rw (take_next i p a) (word_full ls (take i p) (get_or p i 0) (omega (arith, length-take-le i p (omega (arith, a)), b)))

pub word_whole : (ls p : List ℕ) (i : ℕ) → i ≤ length p → begins_word ls (take i p) ≡ true → is_word ls (take i p) ≡ (i == length ls)
word_whole ls p i a h = word_ends ls (take i p) h ∙ ap (λ n. n == length ls) (length-take-le i p a)

-- names
name_next : (p : List ℕ) (b : ℕ) → begins Name p ≡ true → 0 < length p → begins Name (p ++ (b ∷ [])) ≡ (is_word_byte b && nat_le (length p) 17)
name_next [] b h a = grind arith
name_next (c ∷ p) b h a = rw (left (is_letter c) (list_all is_word_byte p && nat_le (length p) 17) h) (rw (list_all-append is_word_byte p (b ∷ [])) (rw (left (list_all is_word_byte p) (nat_le (length p) 17) (right (is_letter c) (list_all is_word_byte p && nat_le (length p) 17) h)) (rw (length-append p (b ∷ [])) (grind arith))))

pub name_step : (p : List ℕ) (i : ℕ) → begins Name (take i p) ≡ true → 0 < i → i < length p → begins Name (take (i + 1) p) ≡ (is_word_byte (get_or p i 0) && nat_le i 17)
name_step p i h a b = ap (begins Name) (take_next i p b) ∙ name_next (take i p) (get_or p i 0) h (omega (arith, length-take-le i p (omega (arith, b)), a)) ∙ ap (λ n. is_word_byte (get_or p i 0) && nat_le n 17) (length-take-le i p (omega (arith, b)))

-- numbers
value-append : (n : ℕ) (p : List ℕ) (b : ℕ) → value n (p ++ (b ∷ [])) ≡ value n p * 10 + (b - 48)
value-append n [] b = refl
value-append n (c ∷ p) b = value-append (n * 10 + (c - 48)) p b

pub number_value : (p : List ℕ) (i : ℕ) → i < length p → value 0 (take (i + 1) p) ≡ value 0 (take i p) * 10 + (get_or p i 0 - 48)
number_value p i h = rw (take_next i p h) (value-append 0 (take i p) (get_or p i 0))

pub number_step : (p : List ℕ) (i : ℕ) → begins Number (take i p) ≡ true → i < length p → begins Number (take (i + 1) p) ≡ (is_digit (get_or p i 0) && nat_le (value 0 (take i p) * 10 + (get_or p i 0 - 48)) greatest)
number_step p i h a = rw (number_value p i a) (rw (take_next i p a) (rw (list_all-append is_digit (take i p) (get_or p i 0 ∷ [])) (rw (left (list_all is_digit (take i p)) (nat_le (value 0 (take i p)) greatest) h) (grind arith))))

-- the sign in front of a number
signed_dash : (b n : ℕ) (rest : List ℕ) → (b == 45) ≡ true → begins Signed (take (n + 1) (b ∷ rest)) ≡ begins Number (take n rest)
signed_dash b n rest h = ap (λ m. begins Signed (take m (b ∷ rest))) (let e : n + 1 ≡ suc n = omega arith in e) ∙ ap (λ v. cond v (is_digits (take n rest)) (is_digits (b ∷ take n rest))) h

pub signed_reached : (b : ℕ) (rest : List ℕ) (n : ℕ) (w : Bool) → (b == 45) ≡ true → Reached Number rest n w → Reached Signed (b ∷ rest) (n + 1) w
signed_reached b rest n w h r = record {
  within = omega (arith, r.within);
  front = signed_dash b n rest h ∙ r.front;
  longest = λ i. signed_dash b (n + 1) rest h ∙ r.longest (omega (arith, i));
  ends = r.ends ∙ sym (ap (λ m. whole Signed (take m (b ∷ rest))) (let e : n + 1 ≡ suc n = omega arith in e) ∙ ap (λ v. cond v (is_number (take n rest)) (is_digits (b ∷ take n rest))) h);
}

pub signed_by : (rest : List ℕ) (n : ℕ) (w : Bool) → get_or rest 0 0 ≡ 45 → Reached Number (take (length rest - 1) (drop 1 rest)) n w → Reached Signed rest (n + 1) w
signed_by [] n w h r = absurd (omega (arith, h))
signed_by (b ∷ rest) n w h r = signed_reached b rest n w (grind arith) (subst (λ v. Reached Number v n w) (take_all (length (b ∷ rest) - 1) rest (omega arith)) r)

signed_plain : (p : List ℕ) → (get_or p 0 0 == 45) ≡ false → (begins Signed p ≡ begins Number p) × (whole Signed p ≡ whole Number p)
unfolding greatest
signed_plain [] h = (refl, refl)
signed_plain (b ∷ p) h = (ap (λ v. cond v (is_digits p) (is_digits (b ∷ p))) h, ap (λ v. cond v (is_number p) (is_digits (b ∷ p))) h)

first_taken : (n : ℕ) (rest : List ℕ) → (get_or rest 0 0 == 45) ≡ false → (get_or (take n rest) 0 0 == 45) ≡ false
first_taken zero rest h = refl
first_taken (suc n) [] h = refl
first_taken (suc n) (b ∷ rest) h = h

pub unsigned_reached : (rest : List ℕ) (n : ℕ) (w : Bool) → (get_or rest 0 0 == 45) ≡ false → Reached Number rest n w → Reached Signed rest n w
unsigned_reached rest n w h r = record {
  within = r.within;
  front = (signed_plain (take n rest) (first_taken n rest h)).0 ∙ r.front;
  longest = λ i. (signed_plain (take (n + 1) rest) (first_taken (n + 1) rest h)).0 ∙ r.longest i;
  ends = r.ends ∙ sym (signed_plain (take n rest) (first_taken n rest h)).1;
}

-- comments
comment_next : (p : List ℕ) (b : ℕ) → begins Comment p ≡ true → 1 < length p → begins Comment (p ++ (b ∷ [])) ≡ is_plain b
comment_next [] b h a = grind arith
comment_next (c ∷ []) b h a = grind arith
comment_next (c ∷ (d ∷ p)) b h a = rw (left (c == 45) ((d == 45) && list_all is_plain p) h) (rw (left (d == 45) (list_all is_plain p) (right (c == 45) ((d == 45) && list_all is_plain p) h)) (rw (list_all-append is_plain p (b ∷ [])) (rw (right (d == 45) (list_all is_plain p) (right (c == 45) ((d == 45) && list_all is_plain p) h)) (grind arith))))

pub comment_step : (p : List ℕ) (i : ℕ) → begins Comment (take i p) ≡ true → 1 < i → i < length p → begins Comment (take (i + 1) p) ≡ is_plain (get_or p i 0)
comment_step p i h a b = ap (begins Comment) (take_next i p b) ∙ comment_next (take i p) (get_or p i 0) h (omega (arith, length-take-le i p (omega (arith, b)), a))

-- what the readers return
pub word_reached : (w : Keyword) (rest ls : List ℕ) (at : ℕ) → ls ≡ letters w → at ≤ length rest → at ≤ length ls → begins_word ls (take at rest) ≡ true
    → (at < length rest → at < length ls → (lower (get_or rest at 0) == get_or ls at 0) ≡ false) → Reached (Word w) rest at (at == length ls)
word_reached w rest ls at e a b h stop = record {
  within = a;
  front = subst (λ v. begins_word v (take at rest) ≡ true) e h;
  longest = λ i. subst (λ v. begins_word v (take (at + 1) rest) ≡ false) e (stopped i (nat_lt at (length ls)) refl);
  ends = sym (word_whole ls rest at a h) ∙ ap (λ v. is_word v (take at rest)) e;
}
  where
    stopped : at < length rest → (t : Bool) → nat_lt at (length ls) ≡ t → begins_word ls (take (at + 1) rest) ≡ false
    stopped i true f = word_step ls rest at h i (grind arith) ∙ stop i (grind arith)
    stopped i false f = word_stop ls rest at i (grind arith)

name_whole : (p : List ℕ) → begins Name p ≡ true → 0 < length p → is_name p ≡ true
name_whole [] h a = grind arith
name_whole (c ∷ p) h a = h

pub name_reached : (rest : List ℕ) (at : ℕ) → at ≤ length rest → 0 < at → begins Name (take at rest) ≡ true
    → (at < length rest → (is_word_byte (get_or rest at 0) && nat_le at 17) ≡ false) → Reached Name rest at true
name_reached rest at a b h stop = record {
  within = a;
  front = h;
  longest = λ i. name_step rest at h b i ∙ stop i;
  ends = sym (name_whole (take at rest) h (omega (arith, length-take-le at rest a, b)));
}

number_whole : (p : List ℕ) → begins Number p ≡ true → nat_lt 0 (length p) ≡ is_number p
number_whole [] h = refl
number_whole (c ∷ p) h = let e : nat_lt 0 (length (c ∷ p)) ≡ true = grind arith in e ∙ sym h

pub number_reached : (rest : List ℕ) (at : ℕ) → at ≤ length rest → begins Number (take at rest) ≡ true
    → (at < length rest → begins Number (take (at + 1) rest) ≡ false) → Reached Number rest at (nat_lt 0 at)
number_reached rest at a h stop = record {
  within = a;
  front = h;
  longest = stop;
  ends = ap (λ n. nat_lt 0 n) (sym (length-take-le at rest a)) ∙ number_whole (take at rest) h;
}

and_false : (a b : Bool) → a ≡ false → (a && b) ≡ false
and_false a b h = rw h refl

pub number_not_digit : (rest : List ℕ) (at : ℕ) → begins Number (take at rest) ≡ true → at < length rest → is_digit (get_or rest at 0) ≡ false → begins Number (take (at + 1) rest) ≡ false
number_not_digit rest at h a d = number_step rest at h a ∙ and_false _ _ d

pub number_too_great : (rest : List ℕ) (at n : ℕ) → begins Number (take at rest) ≡ true → at < length rest → n ≡ value 0 (take at rest) → 2147483647 < n * 10 + (get_or rest at 0 - 48) → begins Number (take (at + 1) rest) ≡ false
unfolding greatest
number_too_great rest at n h a e g = number_step rest at h a ∙ rw (sym e) (grind arith)

pub number_goes : (rest : List ℕ) (at n : ℕ) → begins Number (take at rest) ≡ true → at < length rest → n ≡ value 0 (take at rest) → is_digit (get_or rest at 0) ≡ true → n * 10 + (get_or rest at 0 - 48) ≤ 2147483647 → begins Number (take (at + 1) rest) ≡ true
unfolding greatest
number_goes rest at n h a e d g = number_step rest at h a ∙ rw (sym e) (rw d (grind arith))

pub same_is : (a b : ℕ) → a ≡ b → (a == b) ≡ true
same_is a b e = grind arith

pub other_is : (a b : ℕ) → (a ≡ b → ⊥) → (a == b) ≡ false
other_is a b e = grind arith

-- texts
abbrev pub Scanned : List ℕ → ℕ → ℕ → TextState → Type 0
Scanned rest at q s = (p : List ℕ) × (take at rest ≡ q ∷ p) × (s ≡ text_scan q (Inside 0) p)

pub text_begin : (rest : List ℕ) → 0 < length rest → Scanned rest 1 (get_or rest 0 0) (Inside 0)
text_begin [] h = absurd (omega (arith, h))
text_begin (q ∷ rest) h = ([], refl, refl)

pub text_more : (rest : List ℕ) (at q : ℕ) (s : TextState) → at < length rest → Scanned rest at q s → Scanned rest (at + 1) q (text_step q s (get_or rest at 0))
text_more rest at q s h (p, is, was) = (p ++ (get_or rest at 0 ∷ []), take_next at rest h ∙ ap (λ v. v ++ (get_or rest at 0 ∷ [])) is, ap (λ v. text_step q v (get_or rest at 0)) was ∙ sym (scan-append q (Inside 0) p (get_or rest at 0 ∷ [])))

begins_scanned : (rest : List ℕ) (at q : ℕ) (s : TextState) → is_quote q ≡ true → Scanned rest at q s → begins Text (take at rest) ≡ is_live s
begins_scanned rest at q s h (p, is, was) = ap begins_text is ∙ rw h (ap is_live (sym was))

whole_scanned : (rest : List ℕ) (at q : ℕ) (s : TextState) → is_quote q ≡ true → Scanned rest at q s → whole Text (take at rest) ≡ is_behind s
whole_scanned rest at q s h (p, is, was) = ap is_text is ∙ rw h (ap is_behind (sym was))

pub text_reached : (rest : List ℕ) (at q : ℕ) (s : TextState) (w : Bool) → at ≤ length rest → is_quote q ≡ true → Scanned rest at q s → is_live s ≡ true
    → (at < length rest → is_live (text_step q s (get_or rest at 0)) ≡ false) → w ≡ is_behind s → Reached Text rest at w
text_reached rest at q s w a h scan live stop e = record {
  within = a;
  front = begins_scanned rest at q s h scan ∙ live;
  longest = λ i. begins_scanned rest (at + 1) q _ h (text_more rest at q s i scan) ∙ stop i;
  ends = e ∙ sym (whole_scanned rest at q s h scan);
}
