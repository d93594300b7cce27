-- Bytes that are appended piece by piece.
use Rattle.std.proofs.Common.{◌≡◌, ◌≢◌, ℕ, zero, suc, ◌+◌, ◌-◌, ◌*◌, ◌/◌, ◌%◌, ◌<◌, ◌≤◌, List, [], ◌∷◌, ◌++◌, length, get_or, take, drop, refl, ap, sym, subst, ◌∙◌, arith, inl, inr, Option, Some, None, IsSome, length-append, length-drop, append_assoc}
use Rattle.std.proofs.Math.ListN.{set, length-set}
use Rattle.std.proofs.lemmas.List.{get_or-set_same, set-set, set-get_or, append-nil, length-take-le, drop-drop, get_or_past, take_all}
use Rattle.std.proofs.lemmas.Bool.{cases_lt}
use Rattle.mem_pools.specs.Pooled.{Pooled, Kept, pool_at, chain_of, bytes_of, owner_of, owner_in, chain_in, bytes_in, blocks_for, wanted, appended}
use Rattle.mem_pools.proofs.Keeping.{none-IsSome}

take-nil : {X : Type 0} (k : ℕ) → take {A = X} k [] ≡ []
take-nil zero = refl
take-nil (suc k) = refl

pub take-add : {X : Type 0} (m n : ℕ) (xs : List X) → take (m + n) xs ≡ take m xs ++ take n (drop m xs)
take-add zero n xs = ap (λ (k : ℕ). take k xs) (omega arith)
take-add {X} (suc m) n [] = ap (λ (k : ℕ). take {A = X} k []) (let e : suc m + n ≡ suc (m + n) = omega arith in e) ∙ take-nil {X = X} (suc (m + n)) ∙ sym (take-nil {X = X} n)
take-add {X} (suc m) n (x ∷ xs) = let e : suc m + n ≡ suc (m + n) = omega arith in ap (λ (k : ℕ). take k (x ∷ xs)) e ∙ ap (λ (zs : List X). x ∷ zs) (take-add m n xs)

-- a pool that stands, and has the blocks that its bytes fill
pub record IsFilled (k : Kept) (i : ℕ) : Type 0 where
  pub stands : IsSome (pool_at k i)
  pub filled : length (chain_of k i) ≡ blocks_for (length (bytes_of k i))

pub pool_lt : (k : Kept) (i : ℕ) → IsSome (pool_at k i) → i < length k.pools
pool_lt k i stands = elim (cases_lt i (length k.pools)) [ inl h ↦ h | inr h ↦ absurd (none-IsSome (pool_at k i) (get_or_past k.pools i None h) stands) ]

pub pool-appended : (k : Kept) (i : ℕ) (xs : List ℕ) → IsSome (pool_at k i) → pool_at (appended k i xs) i ≡ Some (record { owner = owner_of k i; chain = chain_of k i ++ take (wanted k i (length xs)) k.free; bytes = bytes_of k i ++ xs })
pool-appended k i xs stands = get_or-set_same k.pools i _ None (pool_lt k i stands)

pub filled-appended : (k : Kept) (i : ℕ) (xs : List ℕ) → IsFilled k i → wanted k i (length xs) ≤ length k.free → IsFilled (appended k i xs) i
filled-appended k i xs f room =
    let pool = pool-appended k i xs f.stands in
    record {
      stands = rw pool refl;
      filled = ap (λ (o : Option Pooled). length (chain_in o)) pool ∙ omega (arith, length-append (chain_of k i) (take (wanted k i (length xs)) k.free), length-take-le (wanted k i (length xs)) k.free room, f.filled, length-append (bytes_of k i) xs) ∙ sym (ap (λ (o : Option Pooled). blocks_for (length (bytes_in o))) pool);
    }

some_pool : (o : Option Pooled) → IsSome o → o ≡ Some (record { owner = owner_in o; chain = chain_in o; bytes = bytes_in o })
some_pool None h = absurd (none-IsSome {A = Pooled} None refl h)
some_pool (Some p) h = refl

pub appended-none : (k : Kept) (i : ℕ) → IsFilled k i → appended k i [] ≡ k
appended-none k i f =
    let w : wanted k i 0 ≡ 0 = omega (arith, f.filled) in
    let pool : Some (record { owner = owner_of k i; chain = chain_of k i ++ []; bytes = bytes_of k i ++ [] }) ≡ pool_at k i =
    ap (λ (c : List ℕ). Some (record { owner = owner_of k i; chain = c; bytes = bytes_of k i ++ [] })) (append-nil (chain_of k i)) ∙ ap (λ (c : List ℕ). Some (record { owner = owner_of k i; chain = chain_of k i; bytes = c })) (append-nil (bytes_of k i)) ∙ sym (some_pool (pool_at k i) f.stands) in
    ap (λ (n : ℕ). record { blocks = k.blocks; free = drop n k.free; pools = set k.pools i (Some (record { owner = owner_of k i; chain = chain_of k i ++ take n k.free; bytes = bytes_of k i ++ [] })) }) w
    ∙ ap (λ (o : Option Pooled). record { blocks = k.blocks; free = k.free; pools = set k.pools i o }) pool
    ∙ ap (λ (ps : List (Option Pooled)). record { blocks = k.blocks; free = k.free; pools = ps }) (set-get_or k.pools i None)

pub wanted-appended : (k : Kept) (i n : ℕ) (xs : List ℕ) → IsFilled k i → wanted k i (length xs) ≤ length k.free → wanted k i (length xs) + wanted (appended k i xs) i n ≡ wanted k i (length xs + n)
wanted-appended k i n xs f room =
    let pool = pool-appended k i xs f.stands in
    let chain = ap (λ (o : Option Pooled). length (chain_in o)) pool in
    let bytes = ap (λ (o : Option Pooled). length (bytes_in o)) pool in
    omega (arith, chain, bytes, length-append (chain_of k i) (take (wanted k i (length xs)) k.free), length-take-le (wanted k i (length xs)) k.free room, length-append (bytes_of k i) xs, f.filled)

pub appended-appended : (k : Kept) (i : ℕ) (xs ys : List ℕ) → IsFilled k i → wanted k i (length xs) ≤ length k.free → appended (appended k i xs) i ys ≡ appended k i (xs ++ ys)
appended-appended k i xs ys f room =
    let k1 = appended k i xs in
    let w1 = wanted k i (length xs) in
    let w2 = wanted k1 i (length ys) in
    let pool = pool-appended k i xs f.stands in
    let w : w1 + w2 ≡ wanted k i (length (xs ++ ys)) = wanted-appended k i (length ys) xs f room ∙ ap (wanted k i) (sym (length-append xs ys)) in
    let free : drop w2 (drop w1 k.free) ≡ drop (w1 + w2) k.free = drop-drop w2 w1 k.free in
    let chain : chain_of k1 i ++ take w2 (drop w1 k.free) ≡ chain_of k i ++ take (w1 + w2) k.free = ap (λ (o : Option Pooled). chain_in o ++ take w2 (drop w1 k.free)) pool ∙ append_assoc (chain_of k i) (take w1 k.free) (take w2 (drop w1 k.free)) ∙ ap (λ (c : List ℕ). chain_of k i ++ c) (sym (take-add w1 w2 k.free)) in
    let bytes : bytes_of k1 i ++ ys ≡ bytes_of k i ++ (xs ++ ys) = ap (λ (o : Option Pooled). bytes_in o ++ ys) pool ∙ append_assoc (bytes_of k i) xs ys in
    let owner : owner_of k1 i ≡ owner_of k i = ap owner_in pool in
    ap (λ (ps : List (Option Pooled)). record { blocks = k.blocks; free = drop w2 (drop w1 k.free); pools = ps }) (set-set k.pools i _ _)
    ∙ ap (λ (c : List ℕ). record { blocks = k.blocks; free = c; pools = set k.pools i (Some (record { owner = owner_of k1 i; chain = chain_of k1 i ++ take w2 (drop w1 k.free); bytes = bytes_of k1 i ++ ys })) }) free
    ∙ ap (λ (c : List ℕ). record { blocks = k.blocks; free = drop (w1 + w2) k.free; pools = set k.pools i (Some (record { owner = owner_of k1 i; chain = c; bytes = bytes_of k1 i ++ ys })) }) chain
    ∙ ap (λ (c : List ℕ). record { blocks = k.blocks; free = drop (w1 + w2) k.free; pools = set k.pools i (Some (record { owner = owner_of k1 i; chain = chain_of k i ++ take (w1 + w2) k.free; bytes = c })) }) bytes
    ∙ ap (λ (n : ℕ). record { blocks = k.blocks; free = drop (w1 + w2) k.free; pools = set k.pools i (Some (record { owner = n; chain = chain_of k i ++ take (w1 + w2) k.free; bytes = bytes_of k i ++ (xs ++ ys) })) }) owner
    ∙ ap (λ (n : ℕ). record { blocks = k.blocks; free = drop n k.free; pools = set k.pools i (Some (record { owner = owner_of k i; chain = chain_of k i ++ take n k.free; bytes = bytes_of k i ++ (xs ++ ys) })) }) w

pub wanted-le : (k : Kept) (i m n : ℕ) → m ≤ n → wanted k i m ≤ wanted k i n
wanted-le k i m n h = omega arith

-- a loop that has appended the bytes before the rest, and appends a piece of it
pub record Goes (k now : Kept) (i : ℕ) (bytes rest : List ℕ) : Type 0 where
  pub left : length rest ≤ length bytes
  pub rest_is : rest ≡ drop (length bytes - length rest) bytes
  pub so_far : now ≡ appended k i (take (length bytes - length rest) bytes)

pub starts : (k : Kept) (i : ℕ) (bytes : List ℕ) → IsFilled k i → Goes k k i bytes bytes
starts k i bytes f =
    let none : length bytes - length bytes ≡ 0 = omega arith in
    record {
      left = omega arith;
      rest_is = ap (λ (n : ℕ). drop n bytes) (sym none);
      so_far = sym (ap (λ (n : ℕ). appended k i (take n bytes)) none ∙ appended-none k i f);
    }

before-room : (k now : Kept) (i : ℕ) (bytes rest : List ℕ) → Goes k now i bytes rest → wanted k i (length bytes) ≤ length k.free → wanted k i (length (take (length bytes - length rest) bytes)) ≤ length k.free
before-room k now i bytes rest g room =
    omega (arith, room, wanted-le k i (length (take (length bytes - length rest) bytes)) (length bytes) (omega (arith, length-take-le (length bytes - length rest) bytes (omega arith))))

pub filled_now : (k now : Kept) (i : ℕ) (bytes rest : List ℕ) → Goes k now i bytes rest → IsFilled k i → wanted k i (length bytes) ≤ length k.free → IsFilled now i
filled_now k now i bytes rest g f room = subst (λ (x : Kept). IsFilled x i) (sym g.so_far) (filled-appended k i (take (length bytes - length rest) bytes) f (before-room k now i bytes rest g room))

pub room_now : (k now : Kept) (i m : ℕ) (bytes rest : List ℕ) → Goes k now i bytes rest → IsFilled k i → wanted k i (length bytes) ≤ length k.free → m ≤ length rest → wanted now i m ≤ length now.free
room_now k now i m bytes rest g f room h =
    let xs = take (length bytes - length rest) bytes in
    let len : length xs ≡ length bytes - length rest = length-take-le (length bytes - length rest) bytes (omega arith) in
    let before = before-room k now i bytes rest g room in
    let both = wanted-appended k i m xs f before in
    let all : wanted k i (length xs + m) ≤ wanted k i (length bytes) = wanted-le k i (length xs + m) (length bytes) (omega (arith, len, h, g.left)) in
    subst (λ (x : Kept). wanted x i m ≤ length x.free) (sym g.so_far) (omega (arith, both, all, room, length-drop (wanted k i (length xs)) k.free))

pub goes_on : (k now then : Kept) (i m : ℕ) (bytes rest piece behind : List ℕ) → Goes k now i bytes rest → IsFilled k i → wanted k i (length bytes) ≤ length k.free → m ≤ length rest → piece ≡ take m rest → behind ≡ drop m rest → then ≡ appended now i piece → Goes k then i bytes behind
goes_on k now then i m bytes rest piece behind g f room h is_piece is_behind e =
    let n = length bytes - length rest in
    let len : length behind ≡ length rest - m = ap length is_behind ∙ length-drop m rest in
    let done : length bytes - length behind ≡ n + m = omega (arith, len, h, g.left) in
    let joined : take n bytes ++ piece ≡ take (n + m) bytes = ap (λ (xs : List ℕ). take n bytes ++ xs) (is_piece ∙ ap (take m) g.rest_is) ∙ sym (take-add n m bytes) in
    record {
      left = omega (arith, len, g.left);
      rest_is = is_behind ∙ ap (drop m) g.rest_is ∙ drop-drop m n bytes ∙ ap (λ (j : ℕ). drop j bytes) (sym done);
      so_far = e ∙ ap (λ (x : Kept). appended x i piece) g.so_far ∙ appended-appended k i (take n bytes) piece f (before-room k now i bytes rest g room) ∙ ap (appended k i) joined ∙ ap (λ (j : ℕ). appended k i (take j bytes)) (sym done);
    }

pub all_done : (k now : Kept) (i : ℕ) (bytes rest : List ℕ) → Goes k now i bytes rest → length rest ≡ 0 → now ≡ appended k i bytes
all_done k now i bytes rest g none = g.so_far ∙ ap (appended k i) (ap (λ (j : ℕ). take j bytes) (omega (arith, none)) ∙ take_all (length bytes) bytes (omega arith))
