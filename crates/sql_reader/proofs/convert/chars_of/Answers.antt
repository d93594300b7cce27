use Rattle.std.proofs.Common.{◌∙◌, ap}
use Rattle.ids_base.specs.Texts.{is_printable_text}
use Rattle.sql_reader.proofs.Meanings.{printable_text}
use Rattle.sql_reader.proofs.convert.chars_of.Goals as goal

pub new-requires : goal.new-requires
new-requires c = record { printable = ap is_printable_text (c.as_slice.ensures.value ∙ c.in_ok-bytes.ensures) ∙ printable_text c.args.token.now c.requires }
