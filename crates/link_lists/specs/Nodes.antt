-- Nodes in the slab.
use Rattle.std.specs.Prelude.{ℕ, ◌<◌, None, unwrap_or}
use Rattle.slab.specs.Slab.{Slab, get, ContainsKey}
use Rattle.link_lists.specs.declared.web.Node.{Node}

abbrev pub no_node : Node
no_node = record { prev = 0; next = 0; home = None }

abbrev pub node_at : Slab Node → ℕ → Node
node_at nodes key = unwrap_or (get nodes key) no_node

-- each key below n has a node
abbrev pub EachHasNode : Slab Node → ℕ → Type 0
EachHasNode nodes n = (key : ℕ) → key < n → ContainsKey nodes key
