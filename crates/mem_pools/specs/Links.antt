-- What the table of links and the ends of the chains stand for.
use Rattle.std.specs.Prelude.{ℕ, suc, zero, ◌+◌, ◌-◌, ◌<◌, ◌^◌, if◌then◌else◌, nat_lt, ◌≡◌, List, [], ◌∷◌, map, length, slice_index}
use Rattle.std.specs.List.{sum_by, All}
use Rattle.mem_pools.specs.Linked.{Linked, times}
use Rattle.mem_pools.specs.declared.chains.Ends.{Ends}

-- n blocks along the links, from this one on
abbrev pub walk : List ℕ → ℕ → ℕ → List ℕ
walk next zero b = []
walk next (suc n) b = b ∷ walk next n (slice_index next b)

-- the blocks of a chain
abbrev pub chain_of : List ℕ → Ends → List ℕ
chain_of next e = walk next e.count e.first

-- what is seen of the table and the ends
abbrev pub linked_of : List ℕ → List Ends → Linked
linked_of next ends = record { blocks = length next; lists = map (chain_of next) ends }

-- each number stands once in all chains together, no block is missing, and each chain that is not empty knows its last block
pub record IsLinked (next : List ℕ) (ends : List Ends) : Type 0 where
  pub small : length next < 2 ^ 32
  pub once : (n : ℕ) → sum_by (times n) (map (chain_of next) ends) ≡ (if nat_lt n (length next) then 1 else 0)
  pub all : sum_by length (map (chain_of next) ends) ≡ length next
  pub ends_known : All (λ e. 0 < e.count → slice_index (chain_of next e) (e.count - 1) ≡ e.last) ends
