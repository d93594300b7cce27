use Rattle.std.proofs.Common.{◌≡◌, ◌≤◌, ℕ, List, length}
use Rattle.ids_outside.specs.Images.{Image}
use Rattle.ids_model.specs.Tables.{Tables}
use Rattle.ids_model.specs.Matches.{Script}
use Rattle.ids_model.specs.Text.{text}
use Rattle.sql_reader.specs.Lines.{texts_of}
use Rattle.sql_reader.specs.Plans.{IsScriptOf}
use Rattle.ids_server.specs.Printing.{PrinterPuts}
use Rattle.ids_server.specs.Moments.{HaveMoments}
use Rattle.ids_server.specs.Running.{IsRunning}
use Rattle.ids_server.specs.Runners.{running_of, KeepsRun, HasStore}
use Rattle.ids_server.proofs.session.run_all.Given as goal

abbrev pub invariant-loop-index : goal.invariant-loop-index
invariant-loop-index g l = record {
  running : (plans : Script) (bytes : List ℕ) → l.script ≡ texts_of bytes → IsScriptOf bytes plans → IsRunning plans l.fn.runner.store.tables (g.D.Disk.now l.disk) (running_of l.runner);
  store : HasStore g.D.Disk l.runner l.disk;
  kept : (since : ℕ) (base : Image) (found : Tables) → KeepsRun g.D.Disk.tells g.D.Disk since base found l.fn.runner l.fn.disk
      → KeepsRun g.D.Disk.tells g.D.Disk since base found l.runner l.disk;
  moments : HaveMoments (g.D.Disk.now l.disk) l.runner.journal.items;
  count : length l.runner.given.items ≡ l.index;
  printed : PrinterPuts g.K.Sink.tells g.K.Sink.taken g.K.Sink.fault_count l.fn.printer l.printer (text l.runner.given.items);
  later : g.D.Disk.now l.fn.disk ≤ g.D.Disk.now l.disk;
  counted : g.D.Disk.fault_count l.fn.disk ≤ g.D.Disk.fault_count l.disk;
}
