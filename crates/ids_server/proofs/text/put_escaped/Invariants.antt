use Rattle.std.proofs.Common.{take}
use Rattle.ids_model.specs.Text.{escaped}
use Rattle.ids_server.specs.Printing.{PrinterPuts}
use Rattle.ids_server.proofs.text.put_escaped.Given as goal

abbrev pub invariant-loop-byte : goal.invariant-loop-byte
invariant-loop-byte g l = PrinterPuts g.K.Sink.tells g.K.Sink.taken g.K.Sink.fault_count l.fn.printer l.printer (escaped (take l.byte-index l.text))
