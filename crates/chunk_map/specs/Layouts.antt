-- How a disk is laid out, and the bytes of the identity page.
use Rattle.std.specs.Prelude.{◌≤◌, ℕ, ◌+◌, ◌*◌, List, ◌++◌, replicate, codes}
use Rattle.std.specs.Int.{w16, w32, to_be_bytes}
use Rattle.chunk_map.specs.declared.layout.Layout.{Layout}

-- the pages of the root that a layout needs
abbrev pub needed : Layout → ℕ
needed l = 3 + l.phys + l.logs * l.log_size

-- each number is in its range, and the root has the pages that it needs
pub record IsLayout (l : Layout) : Type 0 where
  pub phys : (16 ≤ l.phys) × (l.phys ≤ 4096)
  pub logs : (3 ≤ l.logs) × (l.logs ≤ 64)
  pub log_size : (8 ≤ l.log_size) × (l.log_size ≤ 1024)
  pub chunks : (1 ≤ l.chunks) × (l.chunks ≤ 8)
  pub data_pages : (2 ≤ l.data_pages) × (l.data_pages ≤ 65536)
  pub root : l.root ≤ 100000
  pub enough : needed l ≤ l.root

-- chunks of these sizes have the pages that a layout names
pub record HasPages (size : ℕ → ℕ) (l : Layout) : Type 0 where
  pub root : l.root ≤ size 0
  pub chunks : (j : ℕ) → 1 ≤ j → j ≤ l.chunks → l.data_pages ≤ size j

abbrev pub default_layout : Layout
default_layout = record { phys = 64; logs = 4; log_size = 64; chunks = 1; data_pages = 1024; root = 323 }

-- so many zero bytes
unfoldable pub zeros : ℕ → List ℕ
zeros n = replicate n 0

-- the 2047 bytes of the identity page: a mark, the format, and the numbers; the rest is zero
unfoldable pub identity_body : Layout → List ℕ
identity_body l =
    codes "IDSR" ++ to_be_bytes w16 1 ++ to_be_bytes w32 l.phys ++ to_be_bytes w32 l.logs ++ to_be_bytes w32 l.log_size ++ to_be_bytes w32 l.chunks
    ++ to_be_bytes w32 l.data_pages ++ to_be_bytes w32 l.root ++ zeros 2017
