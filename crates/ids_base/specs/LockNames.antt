-- When two lock names are one.
use Rattle.std.specs.Prelude.{◌≡◌, ℕ, Bool, true, false, ◌&&◌, ◌==◌, ◌↔◌, Option, Some, None, nat_eq}
use Rattle.std.specs.Cmp.Lexicographic.{pointwise}
use Rattle.ids_base.specs.declared.lock.Key.{Key}
use Rattle.ids_base.specs.declared.lock.LockName.{LockName}

abbrev pub is_same_key : Key → Key → Bool
is_same_key a b = (a.size == b.size) && pointwise nat_eq a.bytes b.bytes

abbrev pub is_same_key_part : Option Key → Option Key → Bool
is_same_key_part None None = true
is_same_key_part (Some a) (Some b) = is_same_key a b
is_same_key_part None (Some b) = false
is_same_key_part (Some a) None = false

abbrev pub is_same_name : LockName → LockName → Bool
is_same_name a b = (a.table == b.table) && is_same_key_part a.key b.key

abbrev pub NamesAreTold : Type 0
NamesAreTold = (a b : LockName) → (is_same_name a b ≡ true) ↔ (a ≡ b)
