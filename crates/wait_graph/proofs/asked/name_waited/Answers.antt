use Rattle.std.proofs.Common.{◌∙◌, ap, sym, cond, Some}
use Rattle.std.specs.List.{find}
use Rattle.std.specs.Option.{option_map}
use Rattle.lock_table.specs.Table.{is_of}
use Rattle.wait_graph.proofs.Named.{waits-name, nowhere-none, not-equal}
use Rattle.wait_graph.proofs.asked.name_waited.Goals as goal

pub returns-in-Some : goal.returns-in-Some
returns-in-Some c =
    let t = c.args.locks.now in
    let asked = c.args.asked.now in
    let a = c.args.thread in
    sym (ap (λ b. cond b (Some asked.name) (option_map (λ e. e.name) (find (is_of a) t.waiting))) (not-equal a asked.start c.if-thread-asked.false)
    ∙ waits-name t c.waits_for.ensures.sound a c.in-Some.entry.name (c.waits_for.ensures.some c.in-Some.entry c.in-Some.is).1)

pub returns-in-None : goal.returns-in-None
returns-in-None c =
    let t = c.args.locks.now in
    let asked = c.args.asked.now in
    let a = c.args.thread in
    sym (ap (λ b. cond b (Some asked.name) (option_map (λ e. e.name) (find (is_of a) t.waiting))) (not-equal a asked.start c.if-thread-asked.false)
    ∙ nowhere-none t a (c.waits_for.ensures.none c.in-None.is))
