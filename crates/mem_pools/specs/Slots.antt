-- What the slots, the chains and the blocks stand for.
use Rattle.std.specs.Prelude.{ℕ, suc, ◌+◌, ◌^◌, ◌<◌, ◌≡◌, Option, Some, None, List, [], ◌∷◌, length, take, drop, slice_index_or}
use Rattle.std.specs.List.{flat_map, All}
use Rattle.mem_pools.specs.Linked.{Linked, list_at, EachOnce}
use Rattle.mem_pools.specs.Pooled.{Pooled, Kept, blocks_for}
use Rattle.mem_pools.specs.declared.pool_set.Slot.{Slot}

-- the bytes of a block
abbrev pub block_at : List (List ℕ) → ℕ → List ℕ
block_at blocks b = slice_index_or blocks b []

-- all bytes of a chain's blocks, joined
abbrev pub content : List (List ℕ) → List ℕ → List ℕ
content blocks chain = flat_map (block_at blocks) chain

-- the pool of a slot
abbrev pub pooled : List (List ℕ) → Option Slot → List ℕ → Option Pooled
pooled blocks None chain = None
pooled blocks (Some s) chain = Some (record { owner = s.owner; chain = chain; bytes = take s.len (content blocks chain) })

-- the pools of the slots, each with its chain
abbrev pub pools_of : List (List ℕ) → List (Option Slot) → List (List ℕ) → List (Option Pooled)
pools_of blocks [] chains = []
pools_of blocks (s ∷ ss) [] = []
pools_of blocks (s ∷ ss) (c ∷ cs) = pooled blocks s c ∷ pools_of blocks ss cs

-- what is seen of all: the first chain has the free blocks, and each slot's chain stands one place further
abbrev pub kept_of : List (List ℕ) → List (Option Slot) → Linked → Kept
kept_of blocks slots chains = record {
  blocks = chains.blocks;
  free = list_at chains 0;
  pools = pools_of blocks slots (drop 1 chains.lists);
}

-- how many blocks a slot's chain has
abbrev pub slot_blocks : Option Slot → ℕ
slot_blocks None = 0
slot_blocks (Some s) = blocks_for s.len

-- every block number stands in one chain, and has a block of 2048 bytes; each slot has a chain, of as many blocks as it needs
pub record IsKept (blocks : List (List ℕ)) (slots : List (Option Slot)) (chains : Linked) : Type 0 where
  pub owned : EachOnce chains
  pub numbered : length blocks ≡ chains.blocks
  pub sized : All (λ b. length b ≡ 2048) blocks
  pub chained : length chains.lists ≡ length slots + 1
  pub few : length slots < 2 ^ 32
  pub filled : (i : ℕ) (d : Option Slot) → i < length slots → length (list_at chains (i + 1)) ≡ slot_blocks (slice_index_or slots i d)
