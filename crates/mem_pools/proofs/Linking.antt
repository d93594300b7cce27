-- What is known of linked chains, and what a shift of one block leaves.
use Rattle.std.proofs.Common.{◌≡◌, ◌≢◌, ◌⊎◌, ℕ, zero, suc, ◌+◌, ◌-◌, ◌<◌, ◌≤◌, List, [], ◌∷◌, ◌++◌, length, get_or, take, drop, cond, ltb, map, refl, ap, sym, subst, ◌∙◌, arith, inl, inr, length-append, add-one, sub-one}
use Rattle.std.specs.List.{sum_by}
use Rattle.std.proofs.Math.ListN.{set, length-set}
use Rattle.std.proofs.lemmas.List.{get_or-set_same, get_or-set_other, get_or-map, length-map, get_or_default, get_or_push, get_or-drop, get_or_read}
use Rattle.std.proofs.lemmas.List.Sums.{get_or-le-sum_by}
use Rattle.std.proofs.lemmas.Grind.{get_or-set_at}
use Rattle.std.proofs.lemmas.Bool.{cases_eq}
use Rattle.std.proofs.lemmas.Bool.Decides.{nat_tests}
use Rattle.mem_pools.specs.Linked.{Linked, list_at, poured, times, EachOnce}
use Rattle.mem_pools.specs.Links.{walk, chain_of, linked_of, IsLinked}
use Rattle.mem_pools.specs.declared.chains.Ends.{Ends}
use Rattle.mem_pools.proofs.Times.{times-append, times-at, sum_by-apart, sum_by-set-set, map-set-set}
use Rattle.mem_pools.proofs.Walks.{length-walk, walk-set_other, walk-set_last}

pub chain_at : (next : List ℕ) (ends : List Ends) (i : ℕ) (e : Ends) → i < length ends → e ≡ get_or ends i e → get_or (map (chain_of next) ends) i [] ≡ chain_of next e
chain_at next ends i e h is = get_or-map (chain_of next) ends i e [] h ∙ ap (chain_of next) (sym is)

pub count_at : (next : List ℕ) (ends : List Ends) (i : ℕ) (e : Ends) → i < length ends → e ≡ get_or ends i e → length (get_or (map (chain_of next) ends) i []) ≡ e.count
count_at next ends i e h is = ap length (chain_at next ends i e h is) ∙ length-walk next e.count e.first

-- a chain has at most all blocks
pub count-le : (next : List ℕ) (ends : List Ends) (i : ℕ) (e : Ends) → IsLinked next ends → i < length ends → e ≡ get_or ends i e → e.count ≤ length next
count-le next ends i e l h is =
    let most : length (get_or (map (chain_of next) ends) i []) ≤ sum_by length (map (chain_of next) ends) = get_or-le-sum_by length (map (chain_of next) ends) i [] (simp length-map h) in
    omega (arith, count_at next ends i e h is, l.all)

-- what stands in a chain is a block
pub block-lt : (next : List ℕ) (ends : List Ends) (i k : ℕ) (e : Ends) → IsLinked next ends → i < length ends → e ≡ get_or ends i e → k < e.count → get_or (chain_of next e) k 0 < length next
block-lt next ends i k e l h is below =
    let b = get_or (chain_of next e) k 0 in
    let there : 0 < times b (chain_of next e) = times-at (chain_of next e) k b (omega (arith, length-walk next e.count e.first)) refl in
    let most : times b (get_or (map (chain_of next) ends) i []) ≤ sum_by (times b) (map (chain_of next) ends) = get_or-le-sum_by (times b) (map (chain_of next) ends) i [] (simp length-map h) in
    let most' : times b (chain_of next e) ≤ sum_by (times b) (map (chain_of next) ends) = rw (chain_at next ends i e h is) at most in
    in_range b (length next) (sum_by (times b) (map (chain_of next) ends)) (l.once b) (omega arith)
  where
    in_range : (b n s : ℕ) → s ≡ cond (ltb b n) 1 0 → 0 < s → b < n
    in_range b n s e h = grind (arith, nat_tests)

-- a block stands once in its own chain, and in no other
pub once-in : (next : List ℕ) (ends : List Ends) (i n : ℕ) (e : Ends) → IsLinked next ends → i < length ends → e ≡ get_or ends i e → times n (chain_of next e) ≤ 1
once-in next ends i n e l h is =
    let most : times n (get_or (map (chain_of next) ends) i []) ≤ sum_by (times n) (map (chain_of next) ends) = get_or-le-sum_by (times n) (map (chain_of next) ends) i [] (simp length-map h) in
    let most' : times n (chain_of next e) ≤ sum_by (times n) (map (chain_of next) ends) = rw (chain_at next ends i e h is) at most in
    at_most (times n (chain_of next e)) n (length next) (sum_by (times n) (map (chain_of next) ends)) (l.once n) most'
  where
    at_most : (t n m s : ℕ) → s ≡ cond (ltb n m) 1 0 → t ≤ s → t ≤ 1
    at_most t n m s e h = grind (arith, nat_tests)

pub not-in : (next : List ℕ) (ends : List Ends) (i j n : ℕ) (e f : Ends) → IsLinked next ends → i < length ends → j < length ends → i ≢ j → e ≡ get_or ends i e → f ≡ get_or ends j f → 0 < times n (chain_of next e) → times n (chain_of next f) ≡ 0
not-in next ends i j n e f l hi hj apart is_e is_f there =
    let both : times n (get_or (map (chain_of next) ends) i []) + times n (get_or (map (chain_of next) ends) j []) ≤ sum_by (times n) (map (chain_of next) ends) = sum_by-apart (times n) (map (chain_of next) ends) i j refl (simp length-map hi) (simp length-map hj) apart in
    let both' : times n (chain_of next e) + times n (chain_of next f) ≤ sum_by (times n) (map (chain_of next) ends) = rw (chain_at next ends i e hi is_e, chain_at next ends j f hj is_f) at both in
    none (times n (chain_of next e)) (times n (chain_of next f)) n (length next) (sum_by (times n) (map (chain_of next) ends)) (l.once n) both' there
  where
    none : (t u n m s : ℕ) → s ≡ cond (ltb n m) 1 0 → t + u ≤ s → 0 < t → u ≡ 0
    none t u n m s e h p = grind (arith, nat_tests)

-- the last block of a chain, in range and where it stands
pub last_at : (next : List ℕ) (ends : List Ends) (i : ℕ) (e : Ends) → IsLinked next ends → i < length ends → e ≡ get_or ends i e → 0 < e.count → get_or (chain_of next e) (e.count - 1) 0 ≡ e.last
last_at next ends i e l h is some =
    let known = l.ends_known i e h in
    let known' : 0 < e.count → get_or (chain_of next e) (e.count - 1) 0 ≡ e.last = rw (sym is) at known in
    known' some

pub last-lt : (next : List ℕ) (ends : List Ends) (i : ℕ) (e : Ends) → IsLinked next ends → i < length ends → e ≡ get_or ends i e → 0 < e.count → e.last < length next
last-lt next ends i e l h is some = omega (arith, block-lt next ends i (e.count - 1) e l h is (omega arith), last_at next ends i e l h is some)

pub first-lt : (next : List ℕ) (ends : List Ends) (i : ℕ) (e : Ends) → IsLinked next ends → i < length ends → e ≡ get_or ends i e → 0 < e.count → e.first < length next
first-lt next ends i e l h is some = first e.count e.first some (block-lt next ends i 0 e l h is some)
  where
    first : (n b : ℕ) → 0 < n → get_or (walk next n b) 0 0 < length next → b < length next
    first zero b p q = absurd (omega arith)
    first (suc n) b p q = q

-- links and ends after a shift: the two chains have what they should, and the others what they had
pub record IsShift (next ways : List ℕ) (ends : List Ends) (from to : ℕ) (e f e' f' : Ends) : Type 0 where
  pub blocks : length ways ≡ length next
  pub taken : chain_of ways e' ≡ drop 1 (chain_of next e)
  pub given : chain_of ways f' ≡ chain_of next f ++ take 1 (chain_of next e)
  pub others : (k : ℕ) (d : Ends) → k < length ends → k ≢ from → k ≢ to → chain_of ways (get_or ends k d) ≡ chain_of next (get_or ends k d)
  pub counted : e'.count + 1 ≡ e.count
  pub same_last : e'.last ≡ e.last
  pub new_last : f'.last ≡ e.first
  pub new_count : f'.count ≡ f.count + 1

pub lists-shift : (next ways : List ℕ) (ends : List Ends) (from to : ℕ) (e f e' f' : Ends) → IsShift next ways ends from to e f e' f' → from < length ends → to < length ends → e ≡ get_or ends from e → f ≡ get_or ends to f → linked_of ways (set (set ends from e') to f') ≡ poured (linked_of next ends) from to 1
lists-shift next ways ends from to e f e' f' s hf ht is_e is_f =
    let lists : map (chain_of ways) (set (set ends from e') to f') ≡ set (set (map (chain_of next) ends) from (drop 1 (chain_of next e))) to (chain_of next f ++ take 1 (chain_of next e)) = map-set-set (chain_of ways) (chain_of next) ends from to e' f' _ _ s.others s.taken s.given in
    let lists' : map (chain_of ways) (set (set ends from e') to f') ≡ (poured (linked_of next ends) from to 1).lists = rw (chain_at next ends from e hf is_e, chain_at next ends to f ht is_f) lists in
    let blocks : length ways ≡ length next = s.blocks in
    cc

-- a shift keeps what is counted over all chains
pub sum_by-shift : (f : List ℕ → ℕ) (next ways : List ℕ) (ends : List Ends) (from to : ℕ) (e f1 e' f' : Ends) → IsShift next ways ends from to e f1 e' f' → from < length ends → to < length ends → from ≢ to → e ≡ get_or ends from e → f1 ≡ get_or ends to f1 → f (drop 1 (chain_of next e)) + f (chain_of next f1 ++ take 1 (chain_of next e)) ≡ f (chain_of next e) + f (chain_of next f1) → sum_by f (map (chain_of ways) (set (set ends from e') to f')) ≡ sum_by f (map (chain_of next) ends)
sum_by-shift f next ways ends from to e f1 e' f' s hf ht apart is_e is_f same =
    let lists = map-set-set (chain_of ways) (chain_of next) ends from to e' f' (drop 1 (chain_of next e)) (chain_of next f1 ++ take 1 (chain_of next e)) s.others s.taken s.given in
    let same' : f (drop 1 (chain_of next e)) + f (chain_of next f1 ++ take 1 (chain_of next e)) ≡ f (get_or (map (chain_of next) ends) from []) + f (get_or (map (chain_of next) ends) to []) = rw (chain_at next ends from e hf is_e, chain_at next ends to f1 ht is_f) same in
    ap (sum_by f) lists ∙ sum_by-set-set f (map (chain_of next) ends) from to _ _ (simp length-map hf) (simp length-map ht) apart same'

times-parts : (n : ℕ) (xs ys : List ℕ) → times n (drop 1 xs) + times n (ys ++ take 1 xs) ≡ times n xs + times n ys
times-parts n [] ys = omega (arith, times-append n ys [])
times-parts n (x ∷ xs) ys = omega (arith, times-append n ys (x ∷ []))

length-parts : (xs ys : List ℕ) → length (drop 1 xs) + length (ys ++ take 1 xs) ≡ length xs + length ys
length-parts [] ys = omega (arith, length-append ys [])
length-parts (x ∷ xs) ys = omega (arith, length-append ys (x ∷ []))

abbrev IsKnown : List ℕ → Ends → Type 0
IsKnown next e = 0 < e.count → get_or (chain_of next e) (e.count - 1) 0 ≡ e.last

take_first : (next : List ℕ) (n b : ℕ) → 0 < n → take 1 (walk next n b) ≡ b ∷ []
take_first next zero b h = absurd (omega arith)
take_first next (suc n) b h = refl

known-shift : (next ways : List ℕ) (ends : List Ends) (from to : ℕ) (e f e' f' : Ends) → IsShift next ways ends from to e f e' f' → IsKnown next e → IsKnown ways e'
known-shift next ways ends from to e f e' f' s known some =
    let kept : get_or (chain_of next e) (e.count - 1) 0 ≡ e.last = known (omega (arith, s.counted)) in
    let place : 1 + (e'.count - 1) ≡ e.count - 1 = omega (arith, s.counted) in
    ap (λ (xs : List ℕ). get_or xs (e'.count - 1) 0) s.taken ∙ get_or-drop 1 (chain_of next e) (e'.count - 1) 0 ∙ ap (λ (k : ℕ). get_or (chain_of next e) k 0) place ∙ kept ∙ sym s.same_last

known-given : (next ways : List ℕ) (ends : List Ends) (from to : ℕ) (e f e' f' : Ends) → IsShift next ways ends from to e f e' f' → IsKnown ways f'
known-given next ways ends from to e f e' f' s some =
    let place : length (chain_of next f) ≡ f'.count - 1 = omega (arith, length-walk next f.count f.first, s.new_count) in
    let first : take 1 (chain_of next e) ≡ e.first ∷ [] = take_first next e.count e.first (omega (arith, s.counted)) in
    ap (λ (xs : List ℕ). get_or xs (f'.count - 1) 0) s.given ∙ ap (λ (xs : List ℕ). get_or (chain_of next f ++ xs) (f'.count - 1) 0) first ∙ get_or_push (chain_of next f) e.first 0 (f'.count - 1) place ∙ sym s.new_last

pub ends_known-shift : (next ways : List ℕ) (ends : List Ends) (from to : ℕ) (e f e' f' : Ends) → IsShift next ways ends from to e f e' f' → IsLinked next ends → from < length ends → to < length ends → e ≡ get_or ends from e → (k : ℕ) (d : Ends) → k < length ends → IsKnown ways (get_or (set (set ends from e') to f') k d)
ends_known-shift next ways ends from to e f e' f' s l hf ht is_e k d h =
    elim (cases_eq k to) [
      | inl here ↦ let at : get_or (set (set ends from e') to f') k d ≡ f' = get_or-set_at (set ends from e') to k f' d here (omega (arith, length-set ends from e')) in
          subst (IsKnown ways) (sym at) (known-given next ways ends from to e f e' f' s)
      | inr off ↦ elim (cases_eq k from) [
        | inl here ↦ let at : get_or (set (set ends from e') to f') k d ≡ e' = get_or-set_other (set ends from e') to k f' d off ∙ get_or-set_at ends from k e' d here hf in
            let old = l.ends_known from e hf in
            let old' : IsKnown next e = rw (sym is_e) at old in
            subst (IsKnown ways) (sym at) (known-shift next ways ends from to e f e' f' s old')
        | inr away ↦ let at : get_or (set (set ends from e') to f') k d ≡ get_or ends k d = get_or-set_other (set ends from e') to k f' d off ∙ get_or-set_other ends from k e' d away in
            let old : IsKnown next (get_or ends k d) = l.ends_known k d h in
            subst (IsKnown ways) (sym at) (λ some. ap (λ (xs : List ℕ). get_or xs ((get_or ends k d).count - 1) 0) (s.others k d h away off) ∙ old some)
      ]
    ]

pub IsLinked-shift : (next ways : List ℕ) (ends : List Ends) (from to : ℕ) (e f e' f' : Ends) → IsShift next ways ends from to e f e' f' → IsLinked next ends → from < length ends → to < length ends → from ≢ to → e ≡ get_or ends from e → f ≡ get_or ends to f → IsLinked ways (set (set ends from e') to f')
IsLinked-shift next ways ends from to e f e' f' s l hf ht apart is_e is_f = record {
  small = omega (arith, s.blocks, l.small);
  once = λ n. sum_by-shift (times n) next ways ends from to e f e' f' s hf ht apart is_e is_f (times-parts n (chain_of next e) (chain_of next f)) ∙ l.once n ∙ ap (λ (m : ℕ). cond (ltb n m) 1 0) (sym s.blocks);
  all = sum_by-shift length next ways ends from to e f e' f' s hf ht apart is_e is_f (length-parts (chain_of next e) (chain_of next f)) ∙ l.all ∙ sym s.blocks;
  ends_known = λ k d h. ends_known-shift next ways ends from to e f e' f' s l hf ht is_e k d (simp length-set at h);
}

drop_first : (next : List ℕ) (n b : ℕ) → drop 1 (walk next n b) ≡ walk next (n - 1) (get_or next b 0)
drop_first next zero b = refl
drop_first next (suc n) b = let e : n ≡ suc n - 1 = omega arith in ap (λ (m : ℕ). walk next m (get_or next b 0)) e

-- the first block of a chain goes to an empty one
pub IsShift-empty : (next : List ℕ) (ends : List Ends) (from to : ℕ) (e f : Ends) (rest : ℕ) → IsLinked next ends → from < length ends → e ≡ get_or ends from e → 0 < e.count → f.count ≡ 0 → rest ≡ get_or next e.first 0 → IsShift next next ends from to e f (record { first = rest; last = e.last; count = e.count - 1 }) (record { first = e.first; last = e.first; count = 1 })
IsShift-empty next ends from to e f rest l h is some none read = record {
  blocks = refl;
  taken = ap (walk next (e.count - 1)) read ∙ sym (drop_first next e.count e.first);
  given = sym (ap (λ (n : ℕ). walk next n f.first ++ take 1 (chain_of next e)) none ∙ take_first next e.count e.first some);
  others = λ k d below off away. refl;
  counted = omega arith;
  same_last = refl;
  new_last = refl;
  new_count = omega arith;
}

walk-set_more : (next : List ℕ) (t v n b : ℕ) → 0 < n → t < length next → ((k : ℕ) → times k (walk next n b) ≤ 1) → get_or (walk next n b) (n - 1) 0 ≡ t → walk (set next t v) (n + 1) b ≡ walk next n b ++ v ∷ []
walk-set_more next t v zero b p h once last = absurd (omega arith)
walk-set_more next t v (suc n) b p h once last = rw (add-one) (walk-set_last next t v n b h once (rw (sub-one) at last))

-- the first block of a chain goes behind the last of another
pub IsShift-behind : (next : List ℕ) (ends : List Ends) (from to : ℕ) (e f : Ends) (rest : ℕ) → IsLinked next ends → from < length ends → to < length ends → from ≢ to → e ≡ get_or ends from e → f ≡ get_or ends to f → 0 < e.count → 0 < f.count → rest ≡ get_or next e.first 0 → IsShift next (set next f.last e.first) ends from to e f (record { first = rest; last = e.last; count = e.count - 1 }) (record { first = f.first; last = e.first; count = f.count + 1 })
IsShift-behind next ends from to e f rest l hf ht apart is_e is_f some more read =
    let range = last-lt next ends to f l ht is_f more in
    let last = last_at next ends to f l ht is_f more in
    let there : 0 < times f.last (chain_of next f) = times-at (chain_of next f) (f.count - 1) f.last (omega (arith, length-walk next f.count f.first)) last in
    let away : times f.last (chain_of next e) ≡ 0 = not-in next ends to from f.last f e l ht hf (λ q. apart (sym q)) is_f is_e there in
    let away' : times f.last (walk next (e.count - 1) (get_or next e.first 0)) ≡ 0 = without f.last e.count e.first some away in
    record {
      blocks = length-set next f.last e.first;
      taken = ap (walk (set next f.last e.first) (e.count - 1)) read ∙ walk-set_other next f.last e.first (e.count - 1) (get_or next e.first 0) away' ∙ sym (drop_first next e.count e.first);
      given = walk-set_more next f.last e.first f.count f.first more range (λ k. once-in next ends to k f l ht is_f) last ∙ ap (λ (xs : List ℕ). chain_of next f ++ xs) (sym (take_first next e.count e.first some));
      others = λ k d below off here. walk-set_other next f.last e.first _ _ (not-in next ends to k f.last f (get_or ends k d) l ht below (λ q. here (sym q)) is_f (get_or_default ends k d (get_or ends k d) below) there);
      counted = omega arith;
      same_last = refl;
      new_last = refl;
      new_count = refl;
    }
  where
    without : (t n b : ℕ) → 0 < n → times t (walk next n b) ≡ 0 → times t (walk next (n - 1) (get_or next b 0)) ≡ 0
    without t zero b p h = absurd (omega arith)
    without t (suc n) b p h = rw sub-one (omega (arith, h))

-- the same, of what is seen of the chains
pub seen_lt : (next : List ℕ) (ends : List Ends) (c : Linked) (i : ℕ) → linked_of next ends ≡ c → i < length c.lists → i < length ends
seen_lt next ends c i v h =
    let lists : map (chain_of next) ends ≡ c.lists = ap (λ (d : Linked). d.lists) v in
    omega (arith, h, ap length lists, length-map ends (chain_of next))

pub seen_at : (next : List ℕ) (ends : List Ends) (c : Linked) (i : ℕ) (e : Ends) → linked_of next ends ≡ c → i < length c.lists → e ≡ get_or ends i e → list_at c i ≡ chain_of next e
seen_at next ends c i e v h is =
    ap (λ (d : Linked). get_or d.lists i []) (sym v) ∙ chain_at next ends i e (seen_lt next ends c i v h) is

pub seen_count : (next : List ℕ) (ends : List Ends) (c : Linked) (i : ℕ) (e : Ends) → linked_of next ends ≡ c → i < length c.lists → e ≡ get_or ends i e → length (list_at c i) ≡ e.count
seen_count next ends c i e v h is = ap length (seen_at next ends c i e v h is) ∙ length-walk next e.count e.first

starts : (next : List ℕ) (n b : ℕ) → 0 < n → walk next n b ≡ b ∷ drop 1 (walk next n b)
starts next zero b h = absurd (omega arith)
starts next (suc n) b h = refl

pub starts_first : (next : List ℕ) (ends : List Ends) (c : Linked) (i : ℕ) (e : Ends) → linked_of next ends ≡ c → i < length c.lists → e ≡ get_or ends i e → 0 < length (list_at c i) → list_at c i ≡ e.first ∷ drop 1 (list_at c i)
starts_first next ends c i e v h is some =
    let list = seen_at next ends c i e v h is in
    let begun = starts next e.count e.first (omega (arith, some, seen_count next ends c i e v h is)) in
    list ∙ begun ∙ ap (λ (xs : List ℕ). e.first ∷ drop 1 xs) (sym list)

-- the block behind another in a walk is the one that its link names
walk-next : (next : List ℕ) (n b k : ℕ) → suc k < n → get_or (walk next n b) (suc k) 0 ≡ get_or next (get_or (walk next n b) k 0) 0
walk-next next zero b k h = absurd (omega arith)
walk-next next (suc zero) b k h = absurd (omega arith)
walk-next next (suc (suc n)) b zero h = refl
walk-next next (suc (suc n)) b (suc k) h = walk-next next (suc n) (get_or next b 0) k (omega arith)

pub seen_next : (next : List ℕ) (ends : List Ends) (c : Linked) (i k : ℕ) (e : Ends) → linked_of next ends ≡ c → i < length c.lists → e ≡ get_or ends i e → k + 1 < length (list_at c i) → get_or (list_at c i) (k + 1) 0 ≡ get_or next (get_or (list_at c i) k 0) 0
seen_next next ends c i k e v h is below =
    let list = seen_at next ends c i e v h is in
    rw (list, add-one) (walk-next next e.count e.first k (omega (arith, below, seen_count next ends c i e v h is)))

-- a chain that another one stands beside has not all blocks
pub count-lt : (next : List ℕ) (ends : List Ends) (i j : ℕ) (e f : Ends) → IsLinked next ends → i < length ends → j < length ends → i ≢ j → e ≡ get_or ends i e → f ≡ get_or ends j f → e.count + f.count ≤ length next
count-lt next ends i j e f l hi hj apart is_e is_f =
    let both : length (get_or (map (chain_of next) ends) i []) + length (get_or (map (chain_of next) ends) j []) ≤ sum_by length (map (chain_of next) ends) = sum_by-apart length (map (chain_of next) ends) i j refl (simp length-map hi) (simp length-map hj) apart in
    omega (arith, count_at next ends i e hi is_e, count_at next ends j f hj is_f, l.all)

-- a shift in the code's words: to an empty chain
pub shift-empty : (next : List ℕ) (ends : List Ends) (c : Linked) (from to : ℕ) (e f : Ends) (rest : ℕ) → IsLinked next ends → linked_of next ends ≡ c → from < length c.lists → to < length c.lists → from ≢ to → e ≡ get_or ends from e → f ≡ get_or ends to f → 0 < length (list_at c from) → f.count ≡ 0 → rest ≡ get_or next e.first rest → let ends' = set (set ends from (record { first = rest; last = e.last; count = e.count - 1 })) to (record { first = e.first; last = e.first; count = 1 }) in (IsLinked next ends' × (linked_of next ends' ≡ poured c from to 1))
shift-empty next ends c from to e f rest l v hf ht apart is_e is_f some none read =
    let hf' = seen_lt next ends c from v hf in
    let ht' = seen_lt next ends c to v ht in
    let some' : 0 < e.count = omega (arith, some, seen_count next ends c from e v hf is_e) in
    let s = IsShift-empty next ends from to e f rest l hf' is_e some' none (get_or_read next e.first rest (first-lt next ends from e l hf' is_e some') read 0) in
    (IsLinked-shift next next ends from to e f _ _ s l hf' ht' apart is_e is_f, lists-shift next next ends from to e f _ _ s hf' ht' is_e is_f ∙ ap (λ (d : Linked). poured d from to 1) v)

-- and to one that has blocks
pub shift-behind : (next : List ℕ) (ends : List Ends) (c : Linked) (from to : ℕ) (e f : Ends) (rest : ℕ) → IsLinked next ends → linked_of next ends ≡ c → from < length c.lists → to < length c.lists → from ≢ to → e ≡ get_or ends from e → f ≡ get_or ends to f → 0 < length (list_at c from) → 0 < f.count → rest ≡ get_or next e.first rest → let ends' = set (set ends from (record { first = rest; last = e.last; count = e.count - 1 })) to (record { first = f.first; last = e.first; count = f.count + 1 }) in (IsLinked (set next f.last e.first) ends' × (linked_of (set next f.last e.first) ends' ≡ poured c from to 1))
shift-behind next ends c from to e f rest l v hf ht apart is_e is_f some more read =
    let hf' = seen_lt next ends c from v hf in
    let ht' = seen_lt next ends c to v ht in
    let some' : 0 < e.count = omega (arith, some, seen_count next ends c from e v hf is_e) in
    let s = IsShift-behind next ends from to e f rest l hf' ht' apart is_e is_f some' more (get_or_read next e.first rest (first-lt next ends from e l hf' is_e some') read 0) in
    (IsLinked-shift next (set next f.last e.first) ends from to e f _ _ s l hf' ht' apart is_e is_f, lists-shift next (set next f.last e.first) ends from to e f _ _ s hf' ht' is_e is_f ∙ ap (λ (d : Linked). poured d from to 1) v)

pub each_once : (next : List ℕ) (ends : List Ends) (c : Linked) → IsLinked next ends → linked_of next ends ≡ c → EachOnce c
each_once next ends c l v =
    let own : EachOnce (linked_of next ends) = record { small = l.small; once = l.once; all = l.all } in
    subst EachOnce v own
