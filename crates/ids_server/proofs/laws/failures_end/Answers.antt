use Rattle.std.proofs.Common.{arith}
use Rattle.ids_server.proofs.Steps.{failed}
use Rattle.ids_server.proofs.laws.failures_end.Goals as goal

pub returns : goal.returns
returns c = λ script found moment r plan journal running is_next fails. failed (record {
  begins = c.begins_keep_served.ensures;
  second_begins = c.second_begins_keep_served.ensures;
  lone_commits = c.lone_commits_keep_served.ensures;
  statements = c.statements_keep_served.ensures;
  refusals = c.refusals_keep_served.ensures;
  commits = c.commits_keep_served.ensures;
  singles = c.singles_keep_served.ensures;
  single_refusals = c.single_refusals_keep_served.ensures;
  unanswered_commits = c.unanswered_commits_match.ensures;
  unanswered_singles = c.unanswered_singles_match.ensures;
  lone_rollbacks = c.lone_rollbacks_keep_served.ensures;
  rollbacks = c.rollbacks_keep_served.ensures;
  undone = c.undone_are_back.ensures;
  fitting = c.fitting_are_past.ensures;
  fit = c.effects_fit.ensures;
  journals = c.journals_go_on.ensures;
}) script found moment moment (omega arith) r running plan journal is_next fails
