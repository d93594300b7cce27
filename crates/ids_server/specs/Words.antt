-- The words that are a command.
use Rattle.std.specs.Prelude.{ℕ, Bool, false, ◌||◌, List, [], ◌∷◌, String, string_bytes, codes, nat_eq}
use Rattle.std.specs.Cmp.Lexicographic.{pointwise}
use Rattle.std.specs.declared.alloc.Global.{Global}

-- this one word
abbrev pub is_word : List (String Global) → List ℕ → Bool
is_word [] text = false
is_word (word ∷ []) text = pointwise nat_eq (string_bytes word) text
is_word (word ∷ second ∷ words) text = false

-- `run` runs a script, and `init` formats the disk
abbrev pub is_run : List (String Global) → Bool
is_run words = is_word words (codes "run")

abbrev pub is_init : List (String Global) → Bool
is_init words = is_word words (codes "init")

abbrev pub is_command : List (String Global) → Bool
is_command words = is_run words || is_init words
