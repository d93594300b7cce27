use Rattle.std.proofs.Common.{take}
use Rattle.ids_model.specs.Text.{rows_text, head_text}
use Rattle.ids_server.specs.Printing.{PrinterPuts}
use Rattle.ids_server.proofs.text.put_rows.Given as goal

abbrev pub invariant-loop-row : goal.invariant-loop-row
invariant-loop-row g l = PrinterPuts g.K.Sink.tells g.K.Sink.taken g.K.Sink.fault_count l.fn.printer l.printer (rows_text (head_text l.session l.number) (take l.row-index l.rows))
