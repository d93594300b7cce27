use Rattle.std.specs.Prelude.{ℕ, List}
use Rattle.gate_blocks.specs.Gates.{Closing, Staged}
use Rattle.chunk_map.specs.Checkpoints.{root_page}
use Rattle.chunk_map.specs.Rewrites.{Rewrites}
use Rattle.chunk_map.proofs.root_page.stage.Given as goal

abbrev pub ghosts-seen_as-A-Steps : goal.ghosts-seen_as-A-Steps
ghosts-seen_as-A-Steps g a = record { Place = ℕ; step = λ k. Closing (root_page k) 0 1 }

abbrev pub ghosts-seen_as-B-Steps : goal.ghosts-seen_as-B-Steps
ghosts-seen_as-B-Steps g a = record { Place = ℕ × List ℕ; step = λ p. Rewrites p.0 p.1 }

abbrev pub ghosts-then-A-Steps : goal.ghosts-then-A-Steps
ghosts-then-A-Steps g a = record { Place = ℕ; step = λ k. Closing (root_page k) 0 1 }

abbrev pub ghosts-then-B-Steps : goal.ghosts-then-B-Steps
ghosts-then-B-Steps g a = record { Place = ℕ; step = λ k. Staged (root_page k) 0 1 }

abbrev pub ghosts-then-C-Steps : goal.ghosts-then-C-Steps
ghosts-then-C-Steps g a = record { Place = ℕ × List ℕ; step = λ p. Rewrites p.0 p.1 }
