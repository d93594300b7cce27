use Rattle.std.proofs.Common.{sym, ap, subst, ◌∙◌, List, ◌++◌, ◌∷◌, [], Some, Err}
use Rattle.ids_model.specs.declared.journal.Committed.{Committed}
use Rattle.ids_model.specs.Served.{entry_now}
use Rattle.ids_engine.specs.Survival.{Done, Survives}
use Rattle.ids_engine.specs.Stores.{KeepsStore, despite}
use Rattle.ids_engine.specs.Journals.{done_of}
use Rattle.ids_engine.specs.OutOfBlocks.{IsOutOfBlocks}
use Rattle.ids_server.specs.Running.{Running, flushed_at}
use Rattle.ids_server.proofs.Answers.{always_err}
use Rattle.ids_server.proofs.Joining.{with_flush, without_flush}
use Rattle.ids_server.proofs.runner.Runner.commit_changes.Goals as goal

pub returns-in-Ok-clause-kept : goal.returns-in-Ok-clause-kept
returns-in-Ok-clause-kept g c = λ since base found keeps.
    let before = done_of c.args.self.now.journal.items in
    let same = ap (λ (r : Running). r.journal) c.reserve.ensures.same.0 in
    let kept = subst (λ s. KeepsStore g.D.Disk.tells g.D.Disk since base found before c.args.effects s c.args.disk.now) (sym c.reserve.ensures.same.1) keeps in
    let now = c.in-Ok.ensures.ok since base found before c.args.effects kept in
    let opened = c.kept_opens.ensures since base found before c.args.effects c.reserve.new.self.store c.args.disk.now (Some (g.D.Disk.now c.commit.new.disk)) kept c.requires.some in
    let after = with_flush c.transactions_join.ensures c.args.self.now.journal.items c.acknowledge.new.self.journal.items c.args.done c.args.effects c.moment.result c.requires.some
    (ap (λ (r : Running). r.journal) c.acknowledge.ensures.running ∙ ap (λ (js : List Committed). js ++ entry_now 1 c.args.done c.args.effects c.moment.result (flushed_at c.args.effects c.moment.result) ∷ []) same) in
    subst (λ s. KeepsStore g.D.Disk.tells g.D.Disk since base found (done_of c.acknowledge.new.self.journal.items) [] s c.commit.new.disk) (sym c.acknowledge.ensures.store)
    (subst (λ (ds : List Done). KeepsStore g.D.Disk.tells g.D.Disk since base found ds [] c.commit.new.self c.commit.new.disk)
    (opened ∙ sym (after ∙ ap (λ n. before ++ record { effects = c.args.effects; flushed = Some n } ∷ []) c.moment.ensures)) now)

pub returns-in-Err-Disk-clause-survives : goal.returns-in-Err-Disk-clause-survives
returns-in-Err-Disk-clause-survives g c = λ since base found keeps.
    let before = done_of c.args.self.now.journal.items in
    let same = ap (λ (r : Running). r.journal) c.reserve.ensures.same.0 in
    let kept = subst (λ s. KeepsStore g.D.Disk.tells g.D.Disk since base found before c.args.effects s c.args.disk.now) (sym c.reserve.ensures.same.1) keeps in
    let after = without_flush c.transactions_join.ensures c.args.self.now.journal.items c.enter.new.self.journal.items c.args.done c.args.effects c.requires.some
    (c.enter.ensures.entered ∙ ap (λ (js : List Committed). js ++ c.unanswered.result ∷ []) same ∙ ap (λ (e : Committed). c.args.self.now.journal.items ++ e ∷ []) c.unanswered.ensures) in
    subst (λ (ds : List Done). Survives g.D.Disk.now g.D.Disk.left_at since found ds c.commit.new.disk)
    (ap (λ e. despite e before c.args.effects) c.in-Err-Disk.field-0-is ∙ sym after) (c.in-Err-Disk.ensures.err since base found before c.args.effects kept)

pub returns-in-Err-Memory-clause-survives : goal.returns-in-Err-Memory-clause-survives
returns-in-Err-Memory-clause-survives g c = λ since base found keeps.
    let before = done_of c.args.self.now.journal.items in
    let same = ap (λ (r : Running). r.journal) c.reserve.ensures.same.0 in
    let kept = subst (λ s. KeepsStore g.D.Disk.tells g.D.Disk since base found before c.args.effects s c.args.disk.now) (sym c.reserve.ensures.same.1) keeps in
    subst (λ (ds : List Done). Survives g.D.Disk.now g.D.Disk.left_at since found ds c.commit.new.disk)
    (ap (λ e. despite e before c.args.effects) c.in-Err-Memory.field-0-is ∙ sym (ap done_of same)) (c.in-Err-Memory.ensures.err since base found before c.args.effects kept)

pub returns-in-Err-LogFull-clause-survives : goal.returns-in-Err-LogFull-clause-survives
returns-in-Err-LogFull-clause-survives g c = λ since base found keeps.
    let before = done_of c.args.self.now.journal.items in
    let same = ap (λ (r : Running). r.journal) c.reserve.ensures.same.0 in
    let kept = subst (λ s. KeepsStore g.D.Disk.tells g.D.Disk since base found before c.args.effects s c.args.disk.now) (sym c.reserve.ensures.same.1) keeps in
    subst (λ (ds : List Done). Survives g.D.Disk.now g.D.Disk.left_at since found ds c.commit.new.disk)
    (ap (λ e. despite e before c.args.effects) c.in-Err-LogFull.field-0-is ∙ sym (ap done_of same)) (c.in-Err-LogFull.ensures.err since base found before c.args.effects kept)

pub returns-in_err-reserve-clause-survives : goal.returns-in_err-reserve-clause-survives
returns-in_err-reserve-clause-survives g c = always_err c.from_residual.result (λ since base found keeps.
    subst (λ (ds : List Done). Survives g.D.Disk.now g.D.Disk.left_at since found ds c.args.disk.now) (sym (ap (λ (r : Running). done_of r.journal) c.reserve.ensures.same.0))
    (c.kept_survives.ensures since base found (done_of c.args.self.now.journal.items) c.args.effects c.args.self.now.store c.args.disk.now keeps))

pub returns-in-Err-LogFull-clause-out_of_blocks : goal.returns-in-Err-LogFull-clause-out_of_blocks
returns-in-Err-LogFull-clause-out_of_blocks g c = λ full since base found keeps.
    let before = done_of c.args.self.now.journal.items in
    let same = ap (λ (r : Running). r.journal) c.reserve.ensures.same.0 in
    let kept = subst (λ s. KeepsStore g.D.Disk.tells g.D.Disk since base found before c.args.effects s c.args.disk.now) (sym c.reserve.ensures.same.1) keeps in
    subst (λ (ds : List Done). IsOutOfBlocks g.D.Disk.tells g.D.Disk since base found ds c.commit.new.self c.commit.new.disk) (sym (ap done_of same))
    (c.in-Err-LogFull.ensures.out_of_blocks (ap Err c.in-Err-LogFull.field-0-is) since base found before c.args.effects kept)
