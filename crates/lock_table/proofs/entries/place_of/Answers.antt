use Rattle.std.proofs.Common.{◌≡◌, ◌∙◌, sym, ap, arith, length, false, not, is_some}
use Rattle.lock_table.specs.Book.{table_of}
use Rattle.lock_table.specs.Chains.{is_named}
use Rattle.lock_table.specs.Table.{holders}
use Rattle.lock_table.specs.Requests.{is_overtaken, up_to}
use Rattle.lock_table.proofs.Searching.{length-dropped, up-next, up-stop, mode-is, over-none, not-over-new, not-over-held}
use Rattle.lock_table.proofs.entries.place_of.Goals as goal
use Rattle.lock_table.proofs.entries.place_of.Goals.{else-converts-via-then-converts+else-is_none, else-converts-via-else-converts}

pub returns : goal.returns
returns c =
    let p = is_overtaken (holders (table_of c.args.book.now) c.args.name) c.args.thread in
    let e = ap (λ v. length (up_to p v)) c.in_default.ensures.steps.0 in
    let s = c.loop-waiter.invariant.so_far in
    omega (arith, e, s)

pub returns-then-is_none : goal.returns-then-is_none
returns-then-is_none c =
    let held = holders (table_of c.args.book.now) c.args.name in
    let p = is_overtaken held c.args.thread in
    let converts = sym (mode-is held c.args.thread) ∙ ap is_some (sym c.mode_held.ensures) ∙ sym c.if-converts.ensures in
    let new : is_some c.mode_held-then-converts.result ≡ false = c.if-is_none.ensures in
    let none = sym (mode-is held c.in-Some.waiter.thread) ∙ ap is_some (sym c.mode_held-then-converts.ensures) ∙ new in
    let stop = ap (λ v. length (up_to p v)) c.in-Some.ensures.steps ∙ up-stop p c.in-Some.waiter c.next.new.self (over-none held c.args.thread c.in-Some.waiter converts none) in
    let s = c.loop-waiter.invariant.so_far in
    omega (arith, stop, s)

pub overflow_add-place : goal.overflow_add-place
overflow_add-place c =
    let b = c.args.book.now in
    let few = c.loop-waiter.invariant.few in
    let e = ap length c.in-Some.ensures.steps in
    let d = length-dropped (is_named c.args.name) (table_of b).waiting in
    let used = b.kept.count in
    let free = b.kept.free in
    omega (arith, few, e, d, used, free)

pub loop-waiter-preserved : goal.loop-waiter-preserved
loop-waiter-preserved c =
    let held = holders (table_of c.args.book.now) c.args.name in
    let p = is_overtaken held c.args.thread in
    let waiter = c.in-Some.waiter in
    let stays : p waiter ≡ false = elim c.else-converts.branch [
      | else-converts-via-then-converts+else-is_none w ↦ not-over-held held c.args.thread waiter
          (sym (mode-is held c.args.thread) ∙ ap is_some (sym c.mode_held.ensures) ∙ sym w.if-converts.ensures)
          (sym (mode-is held waiter.thread) ∙ ap is_some (sym w.mode_held-then-converts.ensures) ∙ w.is_none.ensures ∙ ap not w.if-is_none.false)
      | else-converts-via-else-converts w ↦ not-over-new held c.args.thread waiter
          (sym (mode-is held c.args.thread) ∙ ap is_some (sym c.mode_held.ensures) ∙ sym c.is_some-converts.ensures ∙ w.if-converts.false)
    ] in
    let next = ap (λ v. length (up_to p v)) c.in-Some.ensures.steps ∙ up-next p waiter c.next.new.self stays in
    let e = ap length c.in-Some.ensures.steps in
    let s = c.loop-waiter.invariant.so_far in
    let few = c.loop-waiter.invariant.few in
    record { so_far = omega (arith, next, s); few = omega (arith, e, few) }
