-- The laws: what keeps the table without circles.
use Rattle.std.proofs.Common.{◌≡◌, ◌∙◌, sym, ap, subst, refl, List, [], ◌∷◌, ◌++◌}
use Rattle.std.specs.List.{filter}
use Rattle.ids_base.specs.declared.lock.LockEntry.{LockEntry}
use Rattle.lock_table.specs.Chains.{is_named}
use Rattle.lock_table.specs.Table.{line, queue}
use Rattle.lock_table.specs.Requests.{wanted, taken, withdrawn, released}
use Rattle.wait_graph.specs.Laws.{HasNoCycle, EmptyHasNoCycle, UnchangedKeepsNoCycle, GrantKeepsNoCycle, WaitKeepsNoCycle, WithdrawKeepsNoCycle, ReleaseKeepsNoCycle, ReleaseAllKeepsNoCycle, TellKeepsNoCycle}
use Rattle.wait_graph.specs.Queued.{WaitsSomewhere}
use Rattle.wait_graph.proofs.Calm.{IsCalmer, calm-taken, calm-withdrawn, calm-released, calm-all_released, calm-becomes, calm-keeps}
use Rattle.wait_graph.proofs.Edges.{cycle-mapped}
use Rattle.wait_graph.proofs.Turning.{start-out}
use Rattle.wait_graph.proofs.Waiting.{waiting-keeps}

nobody-stands : (before : List LockEntry) (w : LockEntry) (after : List LockEntry) → [] ≡ before ++ w ∷ after → ⊥
nobody-stands [] w after h = cc
nobody-stands (x ∷ before) w after h = cc

pub empty-none : EmptyHasNoCycle
empty-none t held waiting start threads cycle =
    let edge = (start-out (WaitsSomewhere t (queue t)) start threads cycle).1 in
    nobody-stands edge.waits.before edge.waits.waiter edge.waits.after (sym (ap (filter (is_named edge.name)) waiting) ∙ edge.waits.stands)

pub unchanged-none : UnchangedKeepsNoCycle
unchanged-none old new none same = subst HasNoCycle (sym same) none

pub granted-none : GrantKeepsNoCycle
granted-none old new thread name mode sound none nowhere b =
    let lock = wanted (line old name) thread name mode in
    calm-keeps old new sound (calm-becomes old new name (taken (line old name) lock) b (calm-taken old name lock nowhere)) none

pub waiting-none : WaitKeepsNoCycle
waiting-none old new thread name mode none closes b = waiting-keeps old new name (wanted (line old name) thread name mode) refl none closes b

pub withdrawn-none : WithdrawKeepsNoCycle
withdrawn-none old new thread sound none waits b =
    let name = waits.0 in
    calm-keeps old new sound (calm-becomes old new name (withdrawn (line old name) thread) (b name waits.1) (calm-withdrawn old (line old name) thread (sound.lines name).loose)) none

pub released-none : ReleaseKeepsNoCycle
released-none old new thread name sound none b =
    calm-keeps old new sound (calm-becomes old new name (released (line old name) thread) b (calm-released old (line old name) thread (sound.lines name).loose)) none

pub all_released-none : ReleaseAllKeepsNoCycle
all_released-none old new thread sound none b =
    calm-keeps old new sound (λ n. subst (λ l. IsCalmer old (line old n) l) (sym (b n)) (calm-all_released old (line old n) thread (sound.lines n).loose)) none

pub told-none : TellKeepsNoCycle
told-none old new woken none told =
    subst HasNoCycle (sym told.leaves) (λ start threads cycle. none start threads
    (cycle-mapped (WaitsSomewhere (record old { granted = told.rest }) (queue old)) (WaitsSomewhere old (queue old)) (λ a b e. record { name = e.name; waits = e.waits }) start threads cycle))
