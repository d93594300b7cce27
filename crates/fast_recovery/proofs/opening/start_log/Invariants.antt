use Rattle.log_files.specs.Files.{Files, Clears}
use Rattle.fast_recovery.specs.Opening.{SameLog}
use Rattle.fast_recovery.proofs.opening.start_log.Given as goal

abbrev pub ghosts-started : goal.ghosts-started
ghosts-started g a = record { Place = Files; step = λ p. SameLog p }

abbrev pub ghosts-seen_as-A-Steps : goal.ghosts-seen_as-A-Steps
ghosts-seen_as-A-Steps g a = record { Place = Files; step = λ p. Clears p }

abbrev pub ghosts-seen_as-B-Steps : goal.ghosts-seen_as-B-Steps
ghosts-seen_as-B-Steps g a = record { Place = Files; step = λ p. SameLog p }
