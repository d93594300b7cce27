use Rattle.std.proofs.Common.{◌≡◌, ◌+◌, ◌≤◌, List, [], ◌∷◌, length, sym, subst, ap, ◌∙◌, arith}
use Rattle.log_records.specs.Entries.{Entry, Rollback}
use Rattle.log_files.specs.Files.{Files, IsReady}
use Rattle.log_buffer.specs.Buffers.{Buffer, appended, empty_at}
use Rattle.fast_recovery.specs.KeptLog.{Flushed, KeepsLog, Outlives}
use Rattle.fast_recovery.specs.Order.{closing}
use Rattle.fast_recovery.proofs.LogKept.{on_err}
use Rattle.fast_recovery.proofs.Keeping.{outlives-more}
use Rattle.fast_recovery.proofs.opening.close_log.Goals as goal

pub returns-then-free-eq0-clause-outlives : goal.returns-then-free-eq0-clause-outlives
returns-then-free-eq0-clause-outlives g c = λ since base before keeps.
    outlives-more g.D.Disk.now g.D.Disk.left_at since base before (closing c.args.open_tx) [] c.args.opened.now.files c.args.disk.now keeps.outlives

pub returns-in_err-flush-clause-outlives : goal.returns-in_err-flush-clause-outlives
returns-in_err-flush-clause-outlives g c = on_err c.from_residual.result (λ since base before keeps.
    let d = g.D.Disk in let disk = c.args.disk.now in let files = c.args.opened.now.files in let entry = Rollback c.in-Some.tx in
    let is : closing c.args.open_tx ≡ entry ∷ [] = ap closing c.in-Some.is in
    let waits = subst (λ (b : Buffer). KeepsLog d since base before (entry ∷ []) [] files b disk) (sym c.append.ensures.appended)
    (c.appends_keep.ensures since base before [] [] files c.args.opened.now.buffer entry disk keeps) in
    subst (λ (l : List Entry). Outlives d.now d.left_at since base before l [] files c.flush.new.disk) (sym is)
    (c.flushes_keep.ensures.outlives since base before (entry ∷ []) [] files c.append.new.self disk c.flush.new.disk waits c.flush.ensures.any_moment c.flush.ensures.ring.order))

pub returns-clause-keeps : goal.returns-clause-keeps
returns-clause-keeps g c = λ since base before keeps.
    let d = g.D.Disk in let disk = c.args.disk.now in let files = c.args.opened.now.files in let entry = Rollback c.in-Some.tx in let new = c.flush.new.disk in
    let is : closing c.args.open_tx ≡ entry ∷ [] = ap closing c.in-Some.is in
    let waits = subst (λ (b : Buffer). KeepsLog d since base before (entry ∷ []) [] files b disk) (sym c.append.ensures.appended)
    (c.appends_keep.ensures since base before [] [] files c.args.opened.now.buffer entry disk keeps) in
    let one : length c.append.new.self.blocks ≡ 1 = ap (λ (b : Buffer). length b.blocks) (c.append.ensures.appended ∙ ap (λ (b : Buffer). appended b entry) c.requires.buffer) in
    let room : files.next + length c.append.new.self.blocks ≤ files.limit = omega (arith, one, c.free.ensures.free, c.if-free-eq0.false) in
    let ready = subst (λ (f : Files). IsReady d f new) c.in_ok-flush.ensures.taken c.in_ok-flush.ensures.ready in
    let marks : List Flushed = record { at = d.now new; count = length (entry ∷ []) } ∷ [] in
    let kept = c.flushes_keep.ensures.keeps since base before (entry ∷ []) [] files c.append.new.self disk new waits c.flush.ensures.any_moment ready c.flush.ensures.ring room in (
      marks,
      subst (λ (l : List Entry). KeepsLog d since base before l marks c.flush.new.files c.flush.new.self new) (sym is)
          (subst (λ (b : Buffer). KeepsLog d since base before (entry ∷ []) marks c.flush.new.files b new) (sym c.in_ok-flush.ensures.emptied)
          (subst (λ (f : Files). KeepsLog d since base before (entry ∷ []) marks f (empty_at (c.append.new.self.first + length c.append.new.self.blocks) c.append.new.self.room) new) (sym c.in_ok-flush.ensures.taken) kept)),
    )
