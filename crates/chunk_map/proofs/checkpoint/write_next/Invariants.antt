use Rattle.std.specs.Prelude.{ℕ, List}
use Rattle.chunk_map.specs.Rewrites.{Rewrites, Renews}
use Rattle.chunk_map.specs.declared.checkpoint.CheckpointPage.{CheckpointPage}
use Rattle.chunk_map.proofs.checkpoint.write_next.Given as goal

abbrev pub ghosts-seen_as-A-Steps : goal.ghosts-seen_as-A-Steps
ghosts-seen_as-A-Steps g a = record { Place = ℕ × List ℕ; step = λ p. Rewrites p.0 p.1 }

abbrev pub ghosts-seen_as-B-Steps : goal.ghosts-seen_as-B-Steps
ghosts-seen_as-B-Steps g a = record { Place = CheckpointPage; step = λ p. Renews p }
