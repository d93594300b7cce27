use Rattle.std.proofs.Common.{◌∙◌, ap, ℕ, length, Option}
use Rattle.std.specs.Option.{unwrap_or}
use Rattle.row_codec.proofs.Columns.{position_else}
use Rattle.row_codec.proofs.catalogue.length_to_zero.Goals as goal

pub returns-clause-value : goal.returns-clause-value
returns-clause-value c = c.unwrap_or.ensures ∙ ap (λ (o : Option ℕ). unwrap_or o (length c.args.field.now)) c.first_zero.ensures ∙ position_else _ c.args.field.now
