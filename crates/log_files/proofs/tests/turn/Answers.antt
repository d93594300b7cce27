use Rattle.std.proofs.Common.{◌≤◌, ap, subst, sym, arith}
use Rattle.log_files.specs.Files.{Files, IsReady}
use Rattle.log_files.proofs.tests.turn.Goals as goal

pub clear_next-requires-clause-ready : goal.clear_next-requires-clause-ready
clear_next-requires-clause-ready g c =
    let f = c.append_blocks-2.new.self in
    let start = c.in_ok-files.ensures.files in let once = c.in_ok-append_blocks.ensures.taken in let twice = c.in_ok-append_blocks-2.ensures.taken in
    let first : f.first ≤ 5 = omega (arith, ap (λ (q : Files). q.first) twice, ap (λ (q : Files). q.first) once, ap (λ (q : Files). q.first) start) in
    let next : 5 ≤ f.next = omega (arith, ap (λ (q : Files). q.next) twice, ap (λ (q : Files). q.next) once, ap (λ (q : Files). q.next) start, c.requires.first_three, c.requires.second_three) in
    subst (λ (q : Files). IsReady g.D.Disk q c.append_blocks-2.new.disk) (sym c.free_before.ensures.freed)
    (c.freeing_keeps_ready.ensures f 5 c.append_blocks-2.new.disk first next c.in_ok-append_blocks-2.ensures.ready)
