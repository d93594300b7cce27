use Rattle.std.proofs.Common.{◌≡◌, ◌≤◌, ◌-◌, ◌++◌, length, take}
use Rattle.ids_server.proofs.printer.write_all.Given as goal

abbrev pub invariant-loop-done : goal.invariant-loop-done
invariant-loop-done g l = record {
  within : l.done ≤ length l.bytes;
  took : g.K.Sink.tells → g.K.Sink.taken l.sink ≡ g.K.Sink.taken l.fn.sink ++ take l.done l.bytes;
  later : g.K.Sink.fault_count l.fn.sink ≤ g.K.Sink.fault_count l.sink;
}

abbrev pub decreases-loop-done : goal.decreases-loop-done
decreases-loop-done g l = length l.bytes - l.done
