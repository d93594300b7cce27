-- Pools of bytes, and the blocks that they are kept in.
use Rattle.std.specs.Prelude.{ℕ, ◌+◌, ◌-◌, ◌/◌, ◌≡◌, ◌<◌, ◌≤◌, Option, Some, None, is_some, List, [], ◌∷◌, ◌++◌, length, take, drop, slice_set, slice_index_or, replicate}
use Rattle.std.specs.List.{range_with_len, count_by, flat_map}
use Rattle.mem_pools.specs.Linked.{times}

-- a pool that stands: who owns it, the numbers of its blocks in order, and the bytes appended to it
pub record Pooled : Type 0 where
  pub owner : ℕ
  pub chain : List ℕ
  pub bytes : List ℕ

-- how many blocks there are, the free ones, and the pool of each number, where one stands
pub record Kept : Type 0 where
  pub blocks : ℕ
  pub free : List ℕ
  pub pools : List (Option Pooled)

-- how many blocks hold n bytes, of which there is always one
abbrev pub blocks_for : ℕ → ℕ
blocks_for n = (n - 1) / 2048 + 1

-- the owner, the blocks and the bytes of a pool, and how many blocks these fill; nothing where none stands
abbrev pub owner_in : Option Pooled → ℕ
owner_in None = 0
owner_in (Some p) = p.owner

abbrev pub chain_in : Option Pooled → List ℕ
chain_in None = []
chain_in (Some p) = p.chain

abbrev pub bytes_in : Option Pooled → List ℕ
bytes_in None = []
bytes_in (Some p) = p.bytes

abbrev pub blocks_in : Option Pooled → ℕ
blocks_in None = 0
blocks_in (Some p) = blocks_for (length p.bytes)

-- the pool of this number
abbrev pub pool_at : Kept → ℕ → Option Pooled
pool_at k i = slice_index_or k.pools i None

abbrev pub owner_of : Kept → ℕ → ℕ
owner_of k i = owner_in (pool_at k i)

abbrev pub chain_of : Kept → ℕ → List ℕ
chain_of k i = chain_in (pool_at k i)

abbrev pub bytes_of : Kept → ℕ → List ℕ
bytes_of k i = bytes_in (pool_at k i)

-- how many pools stand
abbrev pub standing : List (Option Pooled) → ℕ
standing ps = count_by (λ p. is_some p) ps

-- the free blocks and those of all pools, joined
abbrev pub all_blocks : Kept → List ℕ
all_blocks k = k.free ++ flat_map chain_in k.pools

-- each block number stands there once, and no other number
pub record IsOwned (k : Kept) : Type 0 where
  pub once : (n : ℕ) → n < k.blocks → times n (all_blocks k) ≡ 1
  pub others : (n : ℕ) → k.blocks ≤ n → times n (all_blocks k) ≡ 0

-- each pool has as many blocks as its bytes fill
abbrev pub HasBlocks : Kept → Type 0
HasBlocks k = (i : ℕ) → length (chain_of k i) ≡ blocks_in (pool_at k i)

-- no pool yet, and every block free
abbrev pub unused : ℕ → ℕ → Kept
unused blocks pools = record { blocks = blocks; free = range_with_len 0 blocks; pools = replicate pools None }

-- a pool of this number, whose first block is the first free one
abbrev pub with_pool : Kept → ℕ → ℕ → Kept
with_pool k i owner = record {
  blocks = k.blocks;
  free = drop 1 k.free;
  pools = slice_set k.pools i (Some (record { owner = owner; chain = take 1 k.free; bytes = [] }));
}

-- how many blocks more a pool needs for n bytes more
abbrev pub wanted : Kept → ℕ → ℕ → ℕ
wanted k i n = blocks_for (length (bytes_of k i) + n) - length (chain_of k i)

-- bytes behind those of a pool, in as many of the first free blocks as they need
abbrev pub appended : Kept → ℕ → List ℕ → Kept
appended k i more = let w = wanted k i (length more) in record {
  blocks = k.blocks;
  free = drop w k.free;
  pools = slice_set k.pools i (Some (record {
    owner = owner_of k i;
    chain = chain_of k i ++ take w k.free;
    bytes = bytes_of k i ++ more;
  }));
}

-- without a pool, whose blocks go behind the free ones
abbrev pub without_pool : Kept → ℕ → Kept
without_pool k i = record {
  blocks = k.blocks;
  free = k.free ++ chain_of k i;
  pools = slice_set k.pools i None;
}
