-- Chains of block numbers, as lists.
use Rattle.std.specs.Prelude.{ℕ, ◌+◌, ◌^◌, ◌<◌, if◌then◌else◌, ◌==◌, nat_lt, ◌≡◌, List, [], ◌∷◌, ◌++◌, slice_set, slice_index_or, take, drop, replicate, length}
use Rattle.std.specs.List.{range_with_len, sum_by}

-- how many blocks there are, and the chains
pub record Linked : Type 0 where
  pub blocks : ℕ
  pub lists : List (List ℕ)

-- the chain of this number
abbrev pub list_at : Linked → ℕ → List ℕ
list_at c i = slice_index_or c.lists i []

-- all blocks in the first chain, in order, and empty chains behind it
abbrev pub all_free : ℕ → ℕ → Linked
all_free blocks others =
    record { blocks = blocks; lists = range_with_len 0 blocks ∷ replicate others [] }

-- the first n blocks of one chain go behind the last of another
abbrev pub poured : Linked → ℕ → ℕ → ℕ → Linked
poured c from to n = record {
  blocks = c.blocks;
  lists = slice_set (slice_set c.lists from (drop n (list_at c from))) to (list_at c to ++ take n (list_at c from));
}

-- how often a number stands in a list
abbrev pub times : ℕ → List ℕ → ℕ
times n [] = 0
times n (x ∷ xs) = (if x == n then 1 else 0) + times n xs

-- in all chains together, each block number stands once, and no other number; so they have as many as there are blocks
pub record EachOnce (c : Linked) : Type 0 where
  pub small : c.blocks < 2 ^ 32
  pub once : (n : ℕ) → sum_by (times n) c.lists ≡ (if nat_lt n c.blocks then 1 else 0)
  pub all : sum_by length c.lists ≡ c.blocks
