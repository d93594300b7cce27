-- The directory and the owners of pages.
use Rattle.std.specs.Prelude.{ℕ, List, Option}
use Rattle.table_space.specs.declared.directory.Directory.{Directory}

pub record Kept : Type 0 where
  pub directory : Directory
  pub owners : List (Option ℕ)
