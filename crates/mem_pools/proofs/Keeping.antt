-- What is known of kept pools, and what changes where one slot, its chain and a block change.
use Rattle.std.proofs.Common.{◌≡◌, ◌≢◌, ℕ, zero, suc, ◌+◌, ◌^◌, ◌<◌, ◌≤◌, List, [], ◌∷◌, length, get_or, take, drop, cond, ltb, refl, ap, sym, subst, ◌∙◌, arith, inl, inr, Option, Some, None, is_some, Bool, IsSome, length-drop, add-one, replicate}
use Rattle.std.specs.List.{sum_by, flat_map, range_with_len, count_by}
use Rattle.std.proofs.Math.ListN.{set, length-set}
use Rattle.std.proofs.lemmas.List.{get_or-set_other, get_or-drop, get_or_past, nil_from_length, length-replicate, get_or-replicate}
use Rattle.std.proofs.lemmas.List.Sums.{sum_by-cons, sum_by-drop_more}
use Rattle.std.proofs.lemmas.Bool.{cases_lt, cases_eq}
use Rattle.std.proofs.lemmas.Grind.{get_or-set_at}
use Rattle.std.proofs.lemmas.Bool.Decides.{nat_tests}
use Rattle.mem_pools.specs.Linked.{Linked, list_at, poured, all_free, times, EachOnce}
use Rattle.mem_pools.specs.Pooled.{Pooled, Kept, pool_at, chain_in, all_blocks, unused, standing, IsOwned}
use Rattle.mem_pools.specs.Slots.{content, pooled, pools_of, kept_of, slot_blocks, IsKept}
use Rattle.mem_pools.specs.declared.pool_set.Slot.{Slot}
use Rattle.mem_pools.proofs.Times.{times-append}
use Rattle.mem_pools.proofs.Pouring.{length-poured, from-poured, to-poured, other-poured}

pub length-pools_of : (b : List (List ℕ)) (ss : List (Option Slot)) (cs : List (List ℕ)) → length cs ≡ length ss → length (pools_of b ss cs) ≡ length ss
length-pools_of b [] cs e = refl
length-pools_of b (s ∷ ss) [] e = absurd (omega (arith, e))
length-pools_of b (s ∷ ss) (c ∷ cs) e = ap suc (length-pools_of b ss cs (omega (arith, e)))

pub get_or-pools_of : (b : List (List ℕ)) (ss : List (Option Slot)) (cs : List (List ℕ)) (i : ℕ) (d : Option Slot) → length cs ≡ length ss → i < length ss → get_or (pools_of b ss cs) i None ≡ pooled b (get_or ss i d) (get_or cs i [])
get_or-pools_of b [] cs i d e h = absurd (omega arith)
get_or-pools_of b (s ∷ ss) [] i d e h = absurd (omega (arith, e))
get_or-pools_of b (s ∷ ss) (c ∷ cs) zero d e h = refl
get_or-pools_of b (s ∷ ss) (c ∷ cs) (suc i) d e h = get_or-pools_of b ss cs i d (omega (arith, e)) (omega arith)

pooled_same : (b b' : List (List ℕ)) (s : Option Slot) (c : List ℕ) → content b' c ≡ content b c → pooled b' s c ≡ pooled b s c
pooled_same b b' None c e = refl
pooled_same b b' (Some s) c e = ap (λ (xs : List ℕ). Some (record { owner = s.owner; chain = c; bytes = take s.len xs })) e

pools_of_same : (b b' : List (List ℕ)) (ss : List (Option Slot)) (cs : List (List ℕ)) → length cs ≡ length ss → ((k : ℕ) → k < length ss → content b' (get_or cs k []) ≡ content b (get_or cs k [])) → pools_of b' ss cs ≡ pools_of b ss cs
pools_of_same b b' [] cs e same = refl
pools_of_same b b' (t ∷ ss) [] e same = absurd (omega (arith, e))
pools_of_same b b' (t ∷ ss) (d ∷ cs) e same =
    ap (λ (p : Option Pooled). p ∷ pools_of b' ss cs) (pooled_same b b' t d (same 0 (omega arith))) ∙ ap (λ (ps : List (Option Pooled)). pooled b t d ∷ ps) (pools_of_same b b' ss cs (omega (arith, e)) (λ k h. same (suc k) (omega arith)))

-- one slot and its chain change, and perhaps a block that is in no other chain
pub pools_of-set : (b b' : List (List ℕ)) (ss : List (Option Slot)) (cs : List (List ℕ)) (i : ℕ) (s : Option Slot) (c : List ℕ) → length cs ≡ length ss → ((k : ℕ) → k < length ss → k ≢ i → content b' (get_or cs k []) ≡ content b (get_or cs k [])) → pools_of b' (set ss i s) (set cs i c) ≡ set (pools_of b ss cs) i (pooled b' s c)
pools_of-set b b' [] cs i s c e same = refl
pools_of-set b b' (t ∷ ss) [] i s c e same = absurd (omega (arith, e))
pools_of-set b b' (t ∷ ss) (d ∷ cs) zero s c e same =
    ap (λ (ps : List (Option Pooled)). pooled b' s c ∷ ps) (pools_of_same b b' ss cs (omega (arith, e)) (λ k h. same (suc k) (omega arith) (λ q. absurd (omega (arith, q)))))
pools_of-set b b' (t ∷ ss) (d ∷ cs) (suc i) s c e same =
    ap (λ (p : Option Pooled). p ∷ pools_of b' (set ss i s) (set cs i c)) (pooled_same b b' t d (same 0 (omega arith) (λ q. absurd (omega (arith, q))))) ∙ ap (λ (ps : List (Option Pooled)). pooled b t d ∷ ps) (pools_of-set b b' ss cs i s c (omega (arith, e)) (λ k h off. same (suc k) (omega arith) (λ q. off (omega (arith, q)))))

pub chains_count : (ss : List (Option Slot)) (cl : Linked) (b : List (List ℕ)) → IsKept b ss cl → length (drop 1 cl.lists) ≡ length ss
chains_count ss cl b k = omega (arith, length-drop 1 cl.lists, k.chained)

pub chain_behind : (cl : Linked) (i : ℕ) → get_or (drop 1 cl.lists) i [] ≡ list_at cl (i + 1)
chain_behind cl i = get_or-drop 1 cl.lists i [] ∙ (let e : 1 + i ≡ i + 1 = omega arith in ap (λ (j : ℕ). get_or cl.lists j []) e)

-- the pool of a number is that of its slot and its chain
pub seen_pool : (b : List (List ℕ)) (ss : List (Option Slot)) (cl : Linked) (k : Kept) (i : ℕ) (d : Option Slot) → IsKept b ss cl → kept_of b ss cl ≡ k → i < length ss → pool_at k i ≡ pooled b (get_or ss i d) (list_at cl (i + 1))
seen_pool b ss cl k i d is v h =
    ap (λ (x : Kept). pool_at x i) (sym v) ∙ get_or-pools_of b ss (drop 1 cl.lists) i d (chains_count ss cl b is) h ∙ ap (λ (c : List ℕ). pooled b (get_or ss i d) c) (chain_behind cl i)

pub seen_len : (b : List (List ℕ)) (ss : List (Option Slot)) (cl : Linked) (k : Kept) → IsKept b ss cl → kept_of b ss cl ≡ k → length k.pools ≡ length ss
seen_len b ss cl k is v = ap (λ (x : Kept). length x.pools) (sym v) ∙ length-pools_of b ss (drop 1 cl.lists) (chains_count ss cl b is)

pub none-IsSome : {A : Type 0} (o : Option A) → o ≡ None → IsSome o → ⊥
none-IsSome None e h = cc
none-IsSome (Some a) e h = cc

-- a pool that stands has a slot
pub stands_lt : (b : List (List ℕ)) (ss : List (Option Slot)) (cl : Linked) (k : Kept) (i : ℕ) → IsKept b ss cl → kept_of b ss cl ≡ k → IsSome (pool_at k i) → i < length ss
stands_lt b ss cl k i is v stands =
    elim (cases_lt i (length ss)) [
      | inl h ↦ h
      | inr h ↦ absurd (none-IsSome (pool_at k i) (get_or_past k.pools i None (omega (arith, seen_len b ss cl k is v))) stands)
    ]

pub pooled_none : (b : List (List ℕ)) (s : Option Slot) (c : List ℕ) → s ≡ None → pooled b s c ≡ None
pooled_none b None c e = refl
pooled_none b (Some s) c e = cc

IsSome-pooled : (b : List (List ℕ)) (s : Option Slot) (c : List ℕ) → IsSome s → IsSome (pooled b s c)
IsSome-pooled b None c h = cc
IsSome-pooled b (Some s) c h = cc

-- where a slot is taken, a pool stands
pub taken_stands : (b : List (List ℕ)) (ss : List (Option Slot)) (cl : Linked) (k : Kept) (i : ℕ) → IsKept b ss cl → kept_of b ss cl ≡ k → i < length ss → IsSome (get_or ss i None) → IsSome (pool_at k i)
taken_stands b ss cl k i is v h taken = subst IsSome (sym (seen_pool b ss cl k i None is v h)) (IsSome-pooled b _ _ taken)

pub stands_not_none : (b : List (List ℕ)) (ss : List (Option Slot)) (cl : Linked) (k : Kept) (i : ℕ) (s : Option Slot) → IsKept b ss cl → kept_of b ss cl ≡ k → IsSome (pool_at k i) → s ≡ get_or ss i s → s ≡ None → ⊥
stands_not_none b ss cl k i s is v stands read none =
    none-IsSome (pool_at k i) (seen_pool b ss cl k i s is v (stands_lt b ss cl k i is v stands) ∙ pooled_none b _ _ (sym read ∙ none)) stands

-- what is seen of a pool whose slot was read
pub seen_slot : (b : List (List ℕ)) (ss : List (Option Slot)) (cl : Linked) (k : Kept) (i : ℕ) (s : Slot) → IsKept b ss cl → kept_of b ss cl ≡ k → i < length ss → Some s ≡ get_or ss i (Some s) → pool_at k i ≡ Some (record { owner = s.owner; chain = list_at cl (i + 1); bytes = take s.len (content b (list_at cl (i + 1))) })
seen_slot b ss cl k i s is v h read =
    seen_pool b ss cl k i (Some s) is v h ∙ ap (λ (o : Option Slot). pooled b o (list_at cl (i + 1))) (sym read)

chain_of-pooled : (b : List (List ℕ)) (s : Option Slot) (c : List ℕ) → length c ≡ slot_blocks s → chain_in (pooled b s c) ≡ c
chain_of-pooled b None c e = sym (nil_from_length c e)
chain_of-pooled b (Some s) c e = refl

times-pools_of : (n : ℕ) (b : List (List ℕ)) (ss : List (Option Slot)) (cs : List (List ℕ)) → length cs ≡ length ss → ((i : ℕ) (d : Option Slot) → i < length ss → length (get_or cs i []) ≡ slot_blocks (get_or ss i d)) → times n (flat_map chain_in (pools_of b ss cs)) ≡ sum_by (times n) cs
times-pools_of n b [] [] e filled = refl
times-pools_of n b [] (c ∷ cs) e filled = absurd (omega (arith, e))
times-pools_of n b (s ∷ ss) [] e filled = absurd (omega (arith, e))
times-pools_of n b (s ∷ ss) (c ∷ cs) e filled =
    let own : times n (chain_in (pooled b s c)) ≡ times n c = ap (times n) (chain_of-pooled b s c (filled 0 s (omega arith))) in
    let rest : times n (flat_map chain_in (pools_of b ss cs)) ≡ sum_by (times n) cs = times-pools_of n b ss cs (omega (arith, e)) (λ i d h. filled (suc i) d (omega arith)) in
    omega (arith, times-append n (chain_in (pooled b s c)) (flat_map chain_in (pools_of b ss cs)), sum_by-cons (times n) c cs, own, rest)

-- each block number stands once in the free blocks and those of the pools
pub times-all_blocks : (n : ℕ) (b : List (List ℕ)) (ss : List (Option Slot)) (cl : Linked) → IsKept b ss cl → times n (all_blocks (kept_of b ss cl)) ≡ cond (ltb n cl.blocks) 1 0
times-all_blocks n b ss cl is =
    let pools = times-pools_of n b ss (drop 1 cl.lists) (chains_count ss cl b is) (λ i d h. ap length (chain_behind cl i) ∙ is.filled i d h) in
    let first : sum_by (times n) cl.lists ≡ times n (list_at cl 0) + sum_by (times n) (drop 1 cl.lists) = sum_by-drop_more (times n) cl.lists 0 [] (omega (arith, is.chained)) in
    let sum : times n (all_blocks (kept_of b ss cl)) ≡ sum_by (times n) cl.lists = omega (arith, times-append n (list_at cl 0) (flat_map chain_in (pools_of b ss (drop 1 cl.lists))), pools, first) in
    sum ∙ is.owned.once n

pub owned_of : (b : List (List ℕ)) (ss : List (Option Slot)) (cl : Linked) (k : Kept) → IsKept b ss cl → kept_of b ss cl ≡ k → IsOwned k
owned_of b ss cl k is v = subst IsOwned v (record {
  once = λ n h. one n cl.blocks (times n (all_blocks (kept_of b ss cl))) (times-all_blocks n b ss cl is) h;
  others = λ n h. none n cl.blocks (times n (all_blocks (kept_of b ss cl))) (times-all_blocks n b ss cl is) h;
})
  where
    one : (n m t : ℕ) → t ≡ cond (ltb n m) 1 0 → n < m → t ≡ 1
    one n m t e h = grind (arith, nat_tests)

    none : (n m t : ℕ) → t ≡ cond (ltb n m) 1 0 → m ≤ n → t ≡ 0
    none n m t e h = grind (arith, nat_tests)

-- the chain of one slot changes, and the free one
pub record Changes (cl cl' : Linked) (i : ℕ) : Type 0 where
  pub owned : EachOnce cl'
  pub blocks : cl'.blocks ≡ cl.blocks
  pub same_count : length cl'.lists ≡ length cl.lists
  pub others : (j : ℕ) → j ≢ i → list_at cl' (j + 1) ≡ list_at cl (j + 1)
  pub behind : drop 1 cl'.lists ≡ set (drop 1 cl.lists) i (list_at cl' (i + 1))

pub IsKept-change : (b b' : List (List ℕ)) (ss : List (Option Slot)) (cl cl' : Linked) (i : ℕ) (s : Option Slot) → IsKept b ss cl → Changes cl cl' i → i < length ss → length b' ≡ length b → ((j : ℕ) (d : List ℕ) → j < length b' → length (get_or b' j d) ≡ 2048) → length (list_at cl' (i + 1)) ≡ slot_blocks s → IsKept b' (set ss i s) cl'
IsKept-change b b' ss cl cl' i s is ch h len sized own = record {
  owned = ch.owned;
  numbered = len ∙ is.numbered ∙ sym ch.blocks;
  sized = sized;
  chained = omega (arith, ch.same_count, is.chained, length-set ss i s);
  few = omega (arith, is.few, length-set ss i s);
  filled = λ j d below. elim (cases_eq j i) [
    | inl here ↦ ap (λ (n : ℕ). length (list_at cl' (n + 1))) here ∙ own ∙ ap slot_blocks (sym (get_or-set_at ss i j s d here h))
    | inr off ↦ ap length (ch.others j off) ∙ is.filled j d (omega (arith, below, length-set ss i s)) ∙ ap slot_blocks (sym (get_or-set_other ss i j s d off))
  ];
}

pub kept-change : (b b' : List (List ℕ)) (ss : List (Option Slot)) (cl cl' : Linked) (i : ℕ) (s : Option Slot) → IsKept b ss cl → Changes cl cl' i → ((j : ℕ) → j < length ss → j ≢ i → content b' (list_at cl (j + 1)) ≡ content b (list_at cl (j + 1))) → kept_of b' (set ss i s) cl' ≡ record { blocks = cl.blocks; free = list_at cl' 0; pools = set (pools_of b ss (drop 1 cl.lists)) i (pooled b' s (list_at cl' (i + 1))) }
kept-change b b' ss cl cl' i s is ch same =
    let pools : pools_of b' (set ss i s) (drop 1 cl'.lists) ≡ set (pools_of b ss (drop 1 cl.lists)) i (pooled b' s (list_at cl' (i + 1))) =
    ap (λ (ls : List (List ℕ)). pools_of b' (set ss i s) ls) ch.behind ∙ pools_of-set b b' ss (drop 1 cl.lists) i s (list_at cl' (i + 1)) (chains_count ss cl b is) (λ j h off. ap (content b') (chain_behind cl j) ∙ same j h off ∙ ap (content b) (sym (chain_behind cl j))) in
    let blocks = ch.blocks in
    ap (λ (ps : List (Option Pooled)). record { blocks = cl'.blocks; free = list_at cl' 0; pools = ps }) pools ∙ ap (λ (n : ℕ). record { blocks = n; free = list_at cl' 0; pools = set (pools_of b ss (drop 1 cl.lists)) i (pooled b' s (list_at cl' (i + 1))) }) blocks

drop-sets_out : (l : List (List ℕ)) (i : ℕ) (a f : List ℕ) → drop 1 (set (set l (suc i) a) 0 f) ≡ set (drop 1 l) i a
drop-sets_out [] i a f = refl
drop-sets_out (x ∷ l) i a f = refl

drop-sets_in : (l : List (List ℕ)) (i : ℕ) (a f : List ℕ) → drop 1 (set (set l 0 f) (suc i) a) ≡ set (drop 1 l) i a
drop-sets_in [] i a f = refl
drop-sets_in (x ∷ l) i a f = refl

-- a pool takes free blocks
pub Changes-taken : (cl : Linked) (i n : ℕ) → EachOnce (poured cl 0 (i + 1) n) → i + 1 < length cl.lists → Changes cl (poured cl 0 (i + 1) n) i
Changes-taken cl i n owned h = record {
  owned = owned;
  blocks = refl;
  same_count = length-poured cl 0 (i + 1) n;
  others = λ j off. other-poured cl 0 (i + 1) n (j + 1) (λ e. absurd (omega (arith, e))) (λ e. off (omega (arith, e)));
  behind = rw (to-poured cl 0 (i + 1) n h) (rw add-one (drop-sets_in cl.lists i _ _));
}

-- a pool gives its blocks back
pub Changes-given : (cl : Linked) (i n : ℕ) → EachOnce (poured cl (i + 1) 0 n) → i + 1 < length cl.lists → Changes cl (poured cl (i + 1) 0 n) i
Changes-given cl i n owned h = record {
  owned = owned;
  blocks = refl;
  same_count = length-poured cl (i + 1) 0 n;
  others = λ j off. other-poured cl (i + 1) 0 n (j + 1) (λ e. off (omega (arith, e))) (λ e. absurd (omega (arith, e)));
  behind = rw (from-poured cl (i + 1) 0 n h (λ e. absurd (omega (arith, e)))) (rw add-one (drop-sets_out cl.lists i _ _));
}

empty-pools_of : (b : List (List ℕ)) (n : ℕ) → pools_of b (replicate n None) (replicate n []) ≡ replicate n None
empty-pools_of b zero = refl
empty-pools_of b (suc n) = ap (λ (ps : List (Option Pooled)). None ∷ ps) (empty-pools_of b n)

pub kept_unused : (b : List (List ℕ)) (blocks pools : ℕ) → kept_of b (replicate pools None) (all_free blocks pools) ≡ unused blocks pools
kept_unused b blocks pools = ap (λ (ps : List (Option Pooled)). record { blocks = blocks; free = range_with_len 0 blocks; pools = ps }) (empty-pools_of b pools)

pub IsKept_unused : (b : List (List ℕ)) (blocks pools : ℕ) → pools < 2 ^ 32 → EachOnce (all_free blocks pools) → length b ≡ blocks → ((j : ℕ) (d : List ℕ) → j < length b → length (get_or b j d) ≡ 2048) → IsKept b (replicate pools None) (all_free blocks pools)
IsKept_unused b blocks pools small owned len sized = record {
  owned = owned;
  numbered = len;
  sized = sized;
  chained = omega (arith, length-replicate {A = List ℕ} pools [], replicate_len pools);
  few = omega (arith, small, replicate_len pools);
  filled = λ i d h. rw add-one (ap length (get_or-replicate pools i [] [] (omega (arith, h, replicate_len pools))) ∙ ap slot_blocks (sym (get_or-replicate pools i None d (omega (arith, h, replicate_len pools)))));
}
  where
    replicate_len : (n : ℕ) → length (replicate {A = Option Slot} n None) ≡ n
    replicate_len n = length-replicate n None

pub standing-pools_of : (b : List (List ℕ)) (ss : List (Option Slot)) (cs : List (List ℕ)) → length cs ≡ length ss → standing (pools_of b ss cs) ≡ count_by (λ s. is_some s) ss
standing-pools_of b [] cs e = refl
standing-pools_of b (s ∷ ss) [] e = absurd (omega (arith, e))
standing-pools_of b (s ∷ ss) (c ∷ cs) e =
    sum_by-cons (λ (p : Option Pooled). cond (is_some p) 1 0) (pooled b s c) (pools_of b ss cs)
    ∙ ap (λ (n : ℕ). cond (is_some (pooled b s c)) 1 0 + n) (standing-pools_of b ss cs (omega (arith, e)))
    ∙ ap (λ (t : Bool). cond t 1 0 + count_by (λ (o : Option Slot). is_some o) ss) (same b s c)
    ∙ sym (sum_by-cons (λ (o : Option Slot). cond (is_some o) 1 0) s ss)
  where
    same : (b : List (List ℕ)) (s : Option Slot) (c : List ℕ) → is_some (pooled b s c) ≡ is_some s
    same b None c = refl
    same b (Some s) c = refl

is_some-pooled : (b : List (List ℕ)) (s : Option Slot) (c : List ℕ) → is_some (pooled b s c) ≡ is_some s
is_some-pooled b None c = refl
is_some-pooled b (Some s) c = refl

pub seen_some : (b : List (List ℕ)) (ss : List (Option Slot)) (cl : Linked) (k : Kept) (i : ℕ) (o : Option Slot) → IsKept b ss cl → kept_of b ss cl ≡ k → i < length ss → o ≡ get_or ss i o → is_some (pool_at k i) ≡ is_some o
seen_some b ss cl k i o is v h read = ap (λ (x : Option Pooled). is_some x) (seen_pool b ss cl k i o is v h) ∙ is_some-pooled b (get_or ss i o) (list_at cl (i + 1)) ∙ ap (λ (x : Option Slot). is_some x) (sym read)

pub seen_none : (b : List (List ℕ)) (ss : List (Option Slot)) (cl : Linked) (k : Kept) (i : ℕ) → IsKept b ss cl → kept_of b ss cl ≡ k → length ss ≤ i → IsSome (pool_at k i) → ⊥
seen_none b ss cl k i is v h some = none-IsSome (pool_at k i) (get_or_past k.pools i None (omega (arith, h, seen_len b ss cl k is v))) some
