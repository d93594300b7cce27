use Rattle.std.proofs.Common.{◌∙◌, refl}
use Rattle.std.proofs.lemmas.List.{take_rest}
use Rattle.std.proofs.lemmas.Option.{MatchOption-at_none, MatchOption-at_some}
use Rattle.row_codec.proofs.Entries.{bad_name_field, bad_column_fields, fields_read, number_front}
use Rattle.row_codec.proofs.catalogue.read_row.Goals as goal

pub returns-in_default : goal.returns-in_default
returns-in_default c = bad_name_field c.args.bytes.now _ (take_rest c.args.bytes.now 4) c.in_default.ensures

pub returns-in_default-2 : goal.returns-in_default-2
returns-in_default-2 c = bad_column_fields c.args.bytes.now _ _ refl (take_rest c.args.bytes.now 23) (MatchOption-at_none _ _ c.in_default-2.is c.in_ok-shape.ensures)

pub returns : goal.returns
returns c = fields_read c.args.bytes.now _ _ c.from_be_bytes-number.result _ c.in-Some.name c.in-Some-2.shape (c.from_be_bytes-number.ensures ∙ number_front c.args.bytes.now) (take_rest c.args.bytes.now 4) c.in-Some.ensures refl (take_rest c.args.bytes.now 23) (MatchOption-at_some _ _ c.in-Some-2.shape c.in-Some-2.is c.in_ok-shape.ensures)
