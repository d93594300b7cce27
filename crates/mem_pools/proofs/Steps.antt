-- What each call leaves: a pool made, a pool with more bytes, a pool ended.
use Rattle.std.proofs.Common.{◌≡◌, ◌≢◌, ◌⊎◌, ℕ, zero, suc, ◌+◌, ◌-◌, ◌*◌, ◌/◌, ◌%◌, ◌^◌, ◌<◌, ◌≤◌, List, [], ◌∷◌, ◌++◌, length, get_or, take, drop, refl, ap, sym, subst, ◌∙◌, arith, inl, inr, Option, Some, None, IsSome, length-append, length-drop, length-take, append_assoc}
use Rattle.std.specs.List.{flat_map}
use Rattle.std.proofs.Math.ListN.{set, length-set}
use Rattle.std.proofs.lemmas.List.{get_or-set_same, get_or-set_other, append-nil, take_all, nil_from_length, drop_all, take_at, take_more, length-take-le, get_or-take}
use Rattle.std.proofs.lemmas.List.Concat.{flat_map-append}
use Rattle.std.proofs.lemmas.Grind.{get_or-set_at}
use Rattle.std.proofs.lemmas.Bool.Decides.{nat_tests}
use Rattle.std.proofs.lemmas.Bool.{cases_eq, cases_lt}
use Rattle.mem_pools.specs.Linked.{Linked, list_at, poured, times, EachOnce}
use Rattle.mem_pools.specs.Pooled.{Pooled, Kept, pool_at, chain_of, bytes_of, owner_of, blocks_for, with_pool, without_pool, wanted, appended}
use Rattle.mem_pools.specs.Slots.{block_at, content, pooled, pools_of, kept_of, slot_blocks, IsKept}
use Rattle.mem_pools.specs.declared.pool_set.Slot.{Slot}
use Rattle.mem_pools.proofs.Pouring.{from-poured, to-poured}
use Rattle.mem_pools.proofs.Keeping.{Changes, Changes-given, Changes-taken, IsKept-change, kept-change}
use Rattle.mem_pools.proofs.Standing.{Stands, stands, chained-lt, chained-once, chained-apart, length-content, content-set_other}
use Rattle.mem_pools.proofs.Times.{times-append, times-at}

-- the free chain is one, and the pool's another
zero≢more : (i : ℕ) → 0 ≢ i + 1
zero≢more i e = absurd (omega (arith, e))

pub ended : (b : List (List ℕ)) (ss : List (Option Slot)) (cl cl' : Linked) (k : Kept) (i : ℕ) (s : Slot) → IsKept b ss cl → kept_of b ss cl ≡ k → Stands b ss cl k i s → cl' ≡ poured cl (i + 1) 0 (length (list_at cl (i + 1))) → EachOnce cl' → IsKept b (set ss i None) cl' × (kept_of b (set ss i None) cl' ≡ without_pool k i)
ended b ss cl cl' k i s is v st e owned =
    let n = length (list_at cl (i + 1)) in
    let p = poured cl (i + 1) 0 n in
    let owned' : EachOnce p = subst EachOnce e owned in
    let ch = Changes-given cl i n owned' st.chain_there in
    let left : list_at p (i + 1) ≡ [] = from-poured cl (i + 1) 0 n st.chain_there (λ q. absurd (omega (arith, q))) ∙ drop_all n (list_at cl (i + 1)) (omega arith) in
    let free : list_at p 0 ≡ list_at cl 0 ++ list_at cl (i + 1) = to-poured cl (i + 1) 0 n (omega (arith, st.chain_there)) ∙ ap (λ (xs : List ℕ). list_at cl 0 ++ xs) (take_all n (list_at cl (i + 1)) (omega arith)) in
    let own = IsKept-change b b ss cl p i None is ch st.there refl (λ j d h. is.sized j d h) (ap length left) in
    let seen = kept-change b b ss cl p i None is ch (λ j h off. refl) in
    let seen' : kept_of b (set ss i None) p ≡ without_pool k i =
    seen ∙ ap (λ (xs : List ℕ). record { blocks = cl.blocks; free = xs; pools = set (pools_of b ss (drop 1 cl.lists)) i None }) free
    ∙ ap (λ (xs : List ℕ). record { blocks = cl.blocks; free = list_at cl 0 ++ xs; pools = set (pools_of b ss (drop 1 cl.lists)) i None }) (sym st.chain)
    ∙ ap (λ (x : Kept). record { blocks = x.blocks; free = x.free ++ chain_of k i; pools = set x.pools i None }) v in
    subst (λ (c : Linked). IsKept b (set ss i None) c × (kept_of b (set ss i None) c ≡ without_pool k i)) (sym e) (own, seen')

pub made : (b : List (List ℕ)) (ss : List (Option Slot)) (cl cl' : Linked) (k : Kept) (i owner : ℕ) → IsKept b ss cl → kept_of b ss cl ≡ k → i < length ss → get_or ss i None ≡ None → 0 < length k.free → cl' ≡ poured cl 0 (i + 1) 1 → EachOnce cl' → let s : Slot = record { owner = owner; len = 0 } in IsKept b (set ss i (Some s)) cl' × (kept_of b (set ss i (Some s)) cl' ≡ with_pool k i owner)
made b ss cl cl' k i owner is v h none some e owned =
    let s : Slot = record { owner = owner; len = 0 } in
    let p = poured cl 0 (i + 1) 1 in
    let there : i + 1 < length cl.lists = omega (arith, is.chained, h) in
    let owned' : EachOnce p = subst EachOnce e owned in
    let ch = Changes-taken cl i 1 owned' there in
    let empty : list_at cl (i + 1) ≡ [] = nil_from_length (list_at cl (i + 1)) (is.filled i None h ∙ ap slot_blocks none) in
    let chain : list_at p (i + 1) ≡ take 1 (list_at cl 0) = to-poured cl 0 (i + 1) 1 there ∙ ap (λ (xs : List ℕ). xs ++ take 1 (list_at cl 0)) empty in
    let free : list_at p 0 ≡ drop 1 (list_at cl 0) = from-poured cl 0 (i + 1) 1 (omega (arith, there)) (zero≢more i) in
    let some' : 0 < length (list_at cl 0) = subst (λ (x : Kept). 0 < length x.free) (sym v) some in
    let own = IsKept-change b b ss cl p i (Some s) is ch h refl (λ j d q. is.sized j d q) (ap length chain ∙ one (list_at cl 0) some') in
    let seen = kept-change b b ss cl p i (Some s) is ch (λ j q off. refl) in
    let seen' : kept_of b (set ss i (Some s)) p ≡ with_pool k i owner =
    seen ∙ ap (λ (xs : List ℕ). record { blocks = cl.blocks; free = xs; pools = set (pools_of b ss (drop 1 cl.lists)) i (pooled b (Some s) (list_at p (i + 1))) }) free
    ∙ ap (λ (xs : List ℕ). record { blocks = cl.blocks; free = drop 1 (list_at cl 0); pools = set (pools_of b ss (drop 1 cl.lists)) i (Some (record { owner = owner; chain = xs; bytes = [] })) }) chain
    ∙ ap (λ (x : Kept). with_pool x i owner) v in
    subst (λ (c : Linked). IsKept b (set ss i (Some s)) c × (kept_of b (set ss i (Some s)) c ≡ with_pool k i owner)) (sym e) (own, seen')
  where
    one : (xs : List ℕ) → 0 < length xs → length (take 1 xs) ≡ 1
    one [] q = absurd (omega arith)
    one (x ∷ xs) q = refl

take-append-add : (xs ys : List ℕ) (j : ℕ) → take (length xs + j) (xs ++ ys) ≡ xs ++ take j ys
take-append-add [] ys j = ap (λ (n : ℕ). take n ys) (omega arith)
take-append-add (x ∷ xs) ys j =
    let e : suc (length xs) + j ≡ suc (length xs + j) = omega arith in
    ap (λ (n : ℕ). take n (x ∷ (xs ++ ys))) e ∙ ap (λ (zs : List ℕ). x ∷ zs) (take-append-add xs ys j)

-- what is put into a block: the bytes that it had before the place, and the new ones
take_put : (old piece new : List ℕ) (at : ℕ) → at ≤ length old → new ≡ take at old ++ (piece ++ drop (at + length piece) old) → take (at + length piece) new ≡ take at old ++ piece
take_put old piece new at h e =
    let len : length (take at old ++ piece) ≡ at + length piece = omega (arith, length-append (take at old) piece, length-take-le at old h) in
    ap (take (at + length piece)) (e ∙ sym (append_assoc (take at old) piece (drop (at + length piece) old))) ∙ take_at (take at old ++ piece) (drop (at + length piece) old) (at + length piece) len

length_put : (old piece new : List ℕ) (at : ℕ) → at + length piece ≤ length old → new ≡ take at old ++ (piece ++ drop (at + length piece) old) → length new ≡ length old
length_put old piece new at h e =
    ap length e ∙ omega (arith, length-append (take at old) (piece ++ drop (at + length piece) old), length-append piece (drop (at + length piece) old), length-take-le at old (omega arith), length-drop (at + length piece) old)

-- the chain of a pool that takes w more blocks, cut before its last one
pub record Cut (b : List (List ℕ)) (chain more : List ℕ) (m last : ℕ) (front : List ℕ) : Type 0 where
  pub whole : chain ++ more ≡ front ++ last ∷ []
  pub apart : times last front ≡ 0
  pub size : length (content b front) ≡ 2048 * m
  pub range : last < length b

-- the bytes of the pool, before and after
bytes_put : (b : List (List ℕ)) (chain more front piece new : List ℕ) (m last len at w : ℕ) → Cut b chain more m last front → len ≡ 2048 * m + at → at + length piece ≤ 2048 → length (get_or b last []) ≡ 2048 → new ≡ take at (get_or b last []) ++ (piece ++ drop (at + length piece) (get_or b last [])) → length more ≡ w → (0 < w → (at ≡ 0) × (chain ≡ front)) → take (len + length piece) (content (set b last new) (chain ++ more)) ≡ take len (content b chain) ++ piece
bytes_put b chain more front piece new m last len at w cut e fits sized put is_w full =
    let old = get_or b last [] in
    let cf = content b front in
    let after : content (set b last new) (chain ++ more) ≡ cf ++ new =
    ap (content (set b last new)) cut.whole ∙ flat_map-append (block_at (set b last new)) front (last ∷ [])
    ∙ ap (λ (xs : List ℕ). xs ++ (get_or (set b last new) last [] ++ [])) (content-set_other b last new front cut.apart)
    ∙ ap (λ (xs : List ℕ). cf ++ xs) (append-nil (get_or (set b last new) last []) ∙ get_or-set_same b last new [] cut.range) in
    let place : len + length piece ≡ length cf + (at + length piece) = omega (arith, e, cut.size) in
    let done : take (len + length piece) (content (set b last new) (chain ++ more)) ≡ cf ++ (take at old ++ piece) =
    ap (take (len + length piece)) after ∙ ap (λ (n : ℕ). take n (cf ++ new)) place ∙ take-append-add cf new (at + length piece) ∙ ap (λ (xs : List ℕ). cf ++ xs) (take_put old piece new at (omega (arith, sized, fits)) put) in
    let before : take len (content b chain) ≡ cf ++ take at old = elim (cases_lt 0 w) [
      | inl taken ↦ let parts = full taken in
          ap (λ (xs : List ℕ). take len (content b xs)) parts.1 ∙ take_all len cf (omega (arith, e, cut.size, parts.0)) ∙ sym (ap (λ (n : ℕ). cf ++ take n old) parts.0 ∙ append-nil cf)
      | inr none ↦ let empty : more ≡ [] = nil_from_length more (omega (arith, is_w, none)) in
          let same : chain ≡ front ++ last ∷ [] = sym (append-nil chain) ∙ ap (λ (xs : List ℕ). chain ++ xs) (sym empty) ∙ cut.whole in
          let all : content b chain ≡ cf ++ old = ap (content b) same ∙ flat_map-append (block_at b) front (last ∷ []) ∙ ap (λ (xs : List ℕ). cf ++ xs) (append-nil old) in
          ap (take len) all ∙ ap (λ (n : ℕ). take n (cf ++ old)) (omega (arith, e, cut.size)) ∙ take-append-add cf old at
    ] in
    done ∙ sym (append_assoc cf (take at old) piece) ∙ ap (λ (xs : List ℕ). xs ++ piece) (sym before)

cut_of : (b : List (List ℕ)) (p : Linked) (chain more : List ℕ) (i m : ℕ) → EachOnce p → i < length p.lists → length b ≡ p.blocks → ((j : ℕ) (d : List ℕ) → j < length b → length (get_or b j d) ≡ 2048) → list_at p i ≡ chain ++ more → length (list_at p i) ≡ m + 1 → Cut b chain more m (get_or (list_at p i) m 0) (take m (list_at p i))
cut_of b p chain more i m owned h numbered sized is len =
    let l = list_at p i in
    let last = get_or l m 0 in
    let split : l ≡ take m l ++ last ∷ [] = sym (take_all (m + 1) l (omega arith)) ∙ take_more l m 0 (omega arith) in
    record {
      whole = sym is ∙ split;
      apart = omega (arith, chained-once p i last owned h, ap (times last) split, times-append last (take m l) (last ∷ []), times-here last);
      size = length-content b (take m l) (λ k q. in_block k q) (λ k q. sized k [] q) ∙ ap (λ (n : ℕ). 2048 * n) (length-take-le m l (omega arith));
      range = omega (arith, numbered, chained-lt p i m owned h (omega arith));
    }
  where
    times-here : (n : ℕ) → times n (n ∷ []) ≡ 1
    times-here n = grind (arith, nat_tests)

    in_block : (k : ℕ) → k < length (take m (list_at p i)) → get_or (take m (list_at p i)) k 0 < length b
    in_block k q =
        let below : k < m = omega (arith, q, length-take-le m (list_at p i) (omega (arith, len))) in
        let same = get_or-take m (list_at p i) k 0 below in
        omega (arith, same, numbered, chained-lt p i k owned h (omega (arith, len, below)))

pub put : (b : List (List ℕ)) (ss : List (Option Slot)) (cl cl' : Linked) (k : Kept) (i : ℕ) (s : Slot) (piece new : List ℕ) (last : ℕ) → IsKept b ss cl → kept_of b ss cl ≡ k → Stands b ss cl k i s → 0 < length piece → s.len % 2048 + length piece ≤ 2048 → wanted k i (length piece) ≤ length k.free → cl' ≡ poured cl 0 (i + 1) (wanted k i (length piece)) → EachOnce cl' → last ≡ get_or (list_at cl' (i + 1)) (length (list_at cl' (i + 1)) - 1) 0 → new ≡ take (s.len % 2048) (get_or b last []) ++ (piece ++ drop (s.len % 2048 + length piece) (get_or b last [])) → let s' : Slot = record { owner = s.owner; len = s.len + length piece } in IsKept (set b last new) (set ss i (Some s')) cl' × (kept_of (set b last new) (set ss i (Some s')) cl' ≡ appended k i piece)
put b ss cl cl' k i s piece new last is v st some fits room e owned at_last written =
    let w = wanted k i (length piece) in
    let s' : Slot = record { owner = s.owner; len = s.len + length piece } in
    let p = poured cl 0 (i + 1) w in
    let at = s.len % 2048 in
    let m = (s.len + length piece - 1) / 2048 in
    let free = list_at cl 0 in
    let chain = list_at cl (i + 1) in
    let owned' : EachOnce p = subst EachOnce e owned in
    let ch = Changes-taken cl i w owned' st.chain_there in
    let free_is : list_at p 0 ≡ drop w free = from-poured cl 0 (i + 1) w (omega (arith, st.chain_there)) (zero≢more i) in
    let chain_is : list_at p (i + 1) ≡ chain ++ take w free = to-poured cl 0 (i + 1) w st.chain_there in
    let has : length (chain_of k i) ≡ blocks_for s.len = ap length st.chain ∙ st.count in
    let w_is : w ≡ blocks_for (s.len + length piece) - blocks_for s.len = ap (λ (n : ℕ). blocks_for (n + length piece) - length (chain_of k i)) st.len ∙ ap (λ (n : ℕ). blocks_for (s.len + length piece) - n) has in
    let enough : w ≤ length free = subst (λ (x : Kept). w ≤ length x.free) (sym v) room in
    let taken : length (take w free) ≡ w = length-take-le w free enough in
    let count : length (list_at p (i + 1)) ≡ m + 1 = ap length chain_is ∙ omega (arith, length-append chain (take w free), taken, st.count, w_is) in
    let last_is : last ≡ get_or (list_at p (i + 1)) m 0 = at_last ∙ ap (λ (c : Linked). get_or (list_at c (i + 1)) (length (list_at c (i + 1)) - 1) 0) e ∙ ap (λ (n : ℕ). get_or (list_at p (i + 1)) n 0) (omega (arith, count)) in
    let there' : i + 1 < length p.lists = omega (arith, ch.same_count, st.chain_there) in
    let cut' = cut_of b p chain (take w free) (i + 1) m owned' there' is.numbered is.sized chain_is count in
    let cut : Cut b chain (take w free) m last (take m (list_at p (i + 1))) = subst (λ (n : ℕ). Cut b chain (take w free) m n (take m (list_at p (i + 1)))) (sym last_is) cut' in
    let len_is : s.len ≡ 2048 * m + at = omega (arith, some, fits) in
    let sized : length (get_or b last []) ≡ 2048 = is.sized last [] cut.range in
    let full : 0 < w → (at ≡ 0) × (chain ≡ take m (list_at p (i + 1))) = λ q. (omega (arith, w_is, q, some, fits), sym (ap (take m) chain_is ∙ take_at chain (take w free) m (omega (arith, st.count, w_is, q, some, fits)))) in
    let bytes : take (s.len + length piece) (content (set b last new) (list_at p (i + 1))) ≡ bytes_of k i ++ piece =
    ap (λ (c : List ℕ). take (s.len + length piece) (content (set b last new) c)) chain_is ∙ bytes_put b chain (take w free) (take m (list_at p (i + 1))) piece new m last s.len at w cut len_is fits sized written taken full ∙ ap (λ (xs : List ℕ). xs ++ piece) (sym st.bytes) in
    let sized' : (j : ℕ) (d : List ℕ) → j < length (set b last new) → length (get_or (set b last new) j d) ≡ 2048 = λ j d q. elim (cases_eq j last) [
      | inl here ↦ ap length (get_or-set_at b last j new d here cut.range) ∙ length_put (get_or b last []) piece new at (omega (arith, sized, fits)) written ∙ sized
      | inr off ↦ ap length (get_or-set_other b last j new d off) ∙ is.sized j d (omega (arith, q, length-set b last new))
    ] in
    let here : 0 < times last (list_at p (i + 1)) = times-at (list_at p (i + 1)) m last (omega (arith, count)) (sym last_is) in
    let others : (j : ℕ) → j < length ss → j ≢ i → content (set b last new) (list_at cl (j + 1)) ≡ content b (list_at cl (j + 1)) = λ j q off.
    content-set_other b last new (list_at cl (j + 1)) (ap (times last) (sym (ch.others j off)) ∙ chained-apart p (i + 1) (j + 1) last owned' there' (omega (arith, ch.same_count, is.chained, q)) (λ x. off (omega (arith, x))) here) in
    let own = IsKept-change b (set b last new) ss cl p i (Some s') is ch st.there (length-set b last new) sized' (count ∙ omega (arith, some)) in
    let seen = kept-change b (set b last new) ss cl p i (Some s') is ch others in
    let seen' : kept_of (set b last new) (set ss i (Some s')) p ≡ appended k i piece =
    seen ∙ ap (λ (xs : List ℕ). record { blocks = cl.blocks; free = xs; pools = set (pools_of b ss (drop 1 cl.lists)) i (pooled (set b last new) (Some s') (list_at p (i + 1))) }) free_is
    ∙ ap (λ (xs : List ℕ). record { blocks = cl.blocks; free = drop w free; pools = set (pools_of b ss (drop 1 cl.lists)) i (Some (record { owner = s.owner; chain = list_at p (i + 1); bytes = xs })) }) bytes
    ∙ ap (λ (xs : List ℕ). record { blocks = cl.blocks; free = drop w free; pools = set (pools_of b ss (drop 1 cl.lists)) i (Some (record { owner = s.owner; chain = xs; bytes = bytes_of k i ++ piece })) }) (chain_is ∙ ap (λ (xs : List ℕ). xs ++ take w free) (sym st.chain))
    ∙ ap (λ (n : ℕ). record { blocks = cl.blocks; free = drop w free; pools = set (pools_of b ss (drop 1 cl.lists)) i (Some (record { owner = n; chain = chain_of k i ++ take w free; bytes = bytes_of k i ++ piece })) }) (sym st.owner)
    ∙ ap (λ (x : Kept). record { blocks = x.blocks; free = drop w x.free; pools = set x.pools i (Some (record { owner = owner_of k i; chain = chain_of k i ++ take w x.free; bytes = bytes_of k i ++ piece })) }) v in
    subst (λ (c : Linked). IsKept (set b last new) (set ss i (Some s')) c × (kept_of (set b last new) (set ss i (Some s')) c ≡ appended k i piece)) (sym e) (own, seen')
