use Rattle.std.proofs.Common.{◌+◌, List, [], ◌∷◌, ◌++◌, length, sym, subst}
use Rattle.log_files.specs.Files.{Files, IsReady, taken}
use Rattle.log_buffer.specs.Buffers.{Buffer}
use Rattle.fast_recovery.specs.KeptLog.{Flushed, KeepsLog}
use Rattle.fast_recovery.proofs.LogKept.{on_err}
use Rattle.ids_engine.proofs.store.flush_log.Goals as goal

pub returns-clause-kept : goal.returns-clause-kept
returns-clause-kept g c = λ since base before all marks keeps.
    let d = g.D.Disk in let f = c.args.files.now in let b = c.args.buffer.now in let new = c.flush.new.disk in
    let taken_is = c.in_ok-flush.ensures.taken in
    let more : List Flushed = marks ++ record { at = d.now new; count = length all } ∷ [] in
    let ready = subst (λ (t : Files). IsReady d t new) taken_is c.in_ok-flush.ensures.ready in
    let kept = c.flushes_keep.ensures.keeps since base before all marks f b c.args.disk.now new keeps c.flush.ensures.any_moment ready c.flush.ensures.ring c.requires.room in
    subst (λ (t : Files). KeepsLog d since base before all more t c.flush.new.self new) (sym taken_is)
    (subst (λ (q : Buffer). KeepsLog d since base before all more (taken f (length b.blocks)) q new) (sym c.in_ok-flush.ensures.emptied) kept)

pub returns-in_err-flush-clause-outlives : goal.returns-in_err-flush-clause-outlives
returns-in_err-flush-clause-outlives g c = on_err c.from_residual.result (λ since base before all marks keeps.
    c.flushes_keep.ensures.outlives since base before all marks c.args.files.now c.args.buffer.now c.args.disk.now c.flush.new.disk keeps c.flush.ensures.any_moment c.flush.ensures.ring.order)
