use Rattle.std.proofs.Common.{take}
use Rattle.ids_model.specs.Text.{row_text}
use Rattle.ids_server.specs.Printing.{PrinterPuts}
use Rattle.ids_server.proofs.text.put_row.Given as goal

abbrev pub invariant-loop-value : goal.invariant-loop-value
invariant-loop-value g l = PrinterPuts g.K.Sink.tells g.K.Sink.taken g.K.Sink.fault_count l.fn.printer l.printer (row_text (take l.value-index l.row))
