-- What is known of a pool that stands: its slot, its chain and the bytes in it.
use Rattle.std.proofs.Common.{◌≡◌, ◌≢◌, ◌⊎◌, ℕ, zero, suc, ◌+◌, ◌-◌, ◌*◌, ◌/◌, ◌%◌, ◌^◌, ◌<◌, ◌≤◌, List, [], ◌∷◌, ◌++◌, length, get_or, take, drop, cond, ltb, refl, ap, sym, subst, ◌∙◌, arith, inl, inr, Option, Some, None, IsSome, length-append, length-drop, append_assoc}
use Rattle.std.specs.List.{sum_by, flat_map}
use Rattle.std.proofs.Math.ListN.{set, length-set}
use Rattle.std.proofs.lemmas.List.{get_or-set_same, get_or-set_other, get_or_default, append-nil, length-take-le, take_at, take_more, take_all, take-append-le}
use Rattle.std.proofs.lemmas.List.Concat.{flat_map-append}
use Rattle.std.proofs.lemmas.List.Sums.{get_or-le-sum_by}
use Rattle.std.proofs.lemmas.Bool.Decides.{nat_tests}
use Rattle.mem_pools.specs.Linked.{Linked, list_at, times, EachOnce}
use Rattle.mem_pools.specs.Pooled.{Pooled, Kept, pool_at, owner_in, chain_in, bytes_in, owner_of, chain_of, bytes_of, blocks_for}
use Rattle.mem_pools.specs.Slots.{block_at, content, pooled, kept_of, slot_blocks, IsKept}
use Rattle.mem_pools.specs.declared.pool_set.Slot.{Slot}
use Rattle.mem_pools.proofs.Times.{times-append, times-at, times-cons_zero, sum_by-apart}
use Rattle.mem_pools.proofs.Keeping.{seen_pool, stands_lt, pooled_none, none-IsSome}

-- what stands in a chain is a block
pub chained-lt : (cl : Linked) (i k : ℕ) → EachOnce cl → i < length cl.lists → k < length (list_at cl i) → get_or (list_at cl i) k 0 < cl.blocks
chained-lt cl i k once h below =
    let b = get_or (list_at cl i) k 0 in
    let there : 0 < times b (list_at cl i) = times-at (list_at cl i) k b below refl in
    let most : times b (list_at cl i) ≤ sum_by (times b) cl.lists = get_or-le-sum_by (times b) cl.lists i [] h in
    in_range b cl.blocks (sum_by (times b) cl.lists) (once.once b) (omega arith)
  where
    in_range : (b n s : ℕ) → s ≡ cond (ltb b n) 1 0 → 0 < s → b < n
    in_range b n s e h = grind (arith, nat_tests)

pub chained-once : (cl : Linked) (i n : ℕ) → EachOnce cl → i < length cl.lists → times n (list_at cl i) ≤ 1
chained-once cl i n once h =
    let most : times n (list_at cl i) ≤ sum_by (times n) cl.lists = get_or-le-sum_by (times n) cl.lists i [] h in
    at_most (times n (list_at cl i)) n cl.blocks (sum_by (times n) cl.lists) (once.once n) most
  where
    at_most : (t n m s : ℕ) → s ≡ cond (ltb n m) 1 0 → t ≤ s → t ≤ 1
    at_most t n m s e h = grind (arith, nat_tests)

pub chained-apart : (cl : Linked) (i j n : ℕ) → EachOnce cl → i < length cl.lists → j < length cl.lists → i ≢ j → 0 < times n (list_at cl i) → times n (list_at cl j) ≡ 0
chained-apart cl i j n once hi hj apart there =
    none (times n (list_at cl i)) (times n (list_at cl j)) n cl.blocks (sum_by (times n) cl.lists) (once.once n) (sum_by-apart (times n) cl.lists i j refl hi hj apart) there
  where
    none : (t u n m s : ℕ) → s ≡ cond (ltb n m) 1 0 → t + u ≤ s → 0 < t → u ≡ 0
    none t u n m s e h p = grind (arith, nat_tests)

-- a chain of blocks has all their bytes
pub length-content : (b : List (List ℕ)) (c : List ℕ) → ((k : ℕ) → k < length c → get_or c k 0 < length b) → ((k : ℕ) → k < length b → length (get_or b k []) ≡ 2048) → length (content b c) ≡ 2048 * length c
length-content b [] below sized = omega arith
length-content b (x ∷ c) below sized =
    let one : length (get_or b x []) ≡ 2048 = sized x (below 0 (omega arith)) in
    let rest : length (content b c) ≡ 2048 * length c = length-content b c (λ k h. below (suc k) (omega arith)) sized in
    omega (arith, one, rest, length-append (get_or b x []) (content b c))

-- a block that is not in the chain may get any bytes
pub content-set_other : (b : List (List ℕ)) (t : ℕ) (x c : List ℕ) → times t c ≡ 0 → content (set b t x) c ≡ content b c
content-set_other b t x [] h = refl
content-set_other b t x (y ∷ c) h =
    let parts = times-cons_zero t y c h in
    ap (λ (xs : List ℕ). xs ++ content (set b t x) c) (get_or-set_other b t y x [] parts.0) ∙ ap (λ (xs : List ℕ). get_or b y [] ++ xs) (content-set_other b t x c parts.1)

most_blocks : (cl : Linked) (i : ℕ) → EachOnce cl → i < length cl.lists → length (list_at cl i) ≤ cl.blocks
most_blocks cl i once h = let most : length (list_at cl i) ≤ sum_by length cl.lists = get_or-le-sum_by length cl.lists i [] h in omega (arith, most, once.all)

-- the slot of a pool that stands
pub slot_of : (b : List (List ℕ)) (ss : List (Option Slot)) (cl : Linked) (k : Kept) (i : ℕ) → IsKept b ss cl → kept_of b ss cl ≡ k → IsSome (pool_at k i) → (s : Slot) × (get_or ss i None ≡ Some s)
slot_of b ss cl k i is v stands = found (get_or ss i None) refl
  where
    found : (o : Option Slot) → get_or ss i None ≡ o → (s : Slot) × (get_or ss i None ≡ Some s)
    found None e = absurd (none-IsSome (pool_at k i) (seen_pool b ss cl k i None is v (stands_lt b ss cl k i is v stands) ∙ pooled_none b _ _ e) stands)
    found (Some s) e = (s, e)

pub slot_read : (ss : List (Option Slot)) (i : ℕ) (o : Option Slot) (s : Slot) → i < length ss → o ≡ get_or ss i o → o ≡ Some s → get_or ss i None ≡ Some s
slot_read ss i o s h read is = get_or_default ss i None o h ∙ sym read ∙ is

pub record Stands (b : List (List ℕ)) (ss : List (Option Slot)) (cl : Linked) (k : Kept) (i : ℕ) (s : Slot) : Type 0 where
  pub there : i < length ss
  pub chain_there : i + 1 < length cl.lists
  pub owner : owner_of k i ≡ s.owner
  pub chain : chain_of k i ≡ list_at cl (i + 1)
  pub bytes : bytes_of k i ≡ take s.len (content b (list_at cl (i + 1)))
  pub count : length (list_at cl (i + 1)) ≡ blocks_for s.len
  pub len : length (bytes_of k i) ≡ s.len
  pub most : s.len ≤ 2048 * cl.blocks
  pub content_len : length (content b (list_at cl (i + 1))) ≡ 2048 * length (list_at cl (i + 1))

pub stands : (b : List (List ℕ)) (ss : List (Option Slot)) (cl : Linked) (k : Kept) (i : ℕ) (s : Slot) → IsKept b ss cl → kept_of b ss cl ≡ k → IsSome (pool_at k i) → get_or ss i None ≡ Some s → Stands b ss cl k i s
stands b ss cl k i s is v some e =
    let there = stands_lt b ss cl k i is v some in
    let chain_there : i + 1 < length cl.lists = omega (arith, is.chained, there) in
    let pool : pool_at k i ≡ Some (record { owner = s.owner; chain = list_at cl (i + 1); bytes = take s.len (content b (list_at cl (i + 1))) }) = seen_pool b ss cl k i None is v there ∙ ap (λ (o : Option Slot). pooled b o (list_at cl (i + 1))) e in
    let count : length (list_at cl (i + 1)) ≡ blocks_for s.len = is.filled i None there ∙ ap slot_blocks e in
    let content_len = length-content b (list_at cl (i + 1)) (λ j h. subst (λ n. get_or (list_at cl (i + 1)) j 0 < n) (sym is.numbered) (chained-lt cl (i + 1) j is.owned chain_there h)) (λ j h. is.sized j [] h) in
    let bytes : bytes_of k i ≡ take s.len (content b (list_at cl (i + 1))) = ap bytes_in pool in
    record {
      there = there;
      chain_there = chain_there;
      owner = ap owner_in pool;
      chain = ap chain_in pool;
      bytes = bytes;
      count = count;
      len = ap length bytes ∙ length-take-le s.len (content b (list_at cl (i + 1))) (omega (arith, content_len, count));
      most = omega (arith, count, most_blocks cl (i + 1) is.owned chain_there);
      content_len = content_len;
    }

-- one more block of a chain
pub content-more : (b : List (List ℕ)) (c : List ℕ) (k : ℕ) → k < length c → content b (take (k + 1) c) ≡ content b (take k c) ++ get_or b (get_or c k 0) []
content-more b c k h = ap (content b) (take_more c k 0 h) ∙ flat_map-append (block_at b) (take k c) (get_or c k 0 ∷ []) ∙ ap (λ (xs : List ℕ). content b (take k c) ++ xs) (append-nil (get_or b (get_or c k 0) []))
