use Rattle.std.proofs.Common.{◌∙◌, ap, sym, arith, length}
use Rattle.lock_table.proofs.Walks.{along-next, since-next, named-take}
use Rattle.lock_table.proofs.entries.EntriesIterator.next.Goals as goal

pub invariant_of-self-2 : goal.invariant_of-self-2
invariant_of-self-2 c =
    let s = c.self.inside in
    let a = c.named_from-first.ensures.along in
    record {
      there = c.self.invariant.there;
      entry_places = c.self.invariant.entry_places;
      along = along-next s.lists.now s.list c.in_ok-id.id c.named_from-first.result c.next-self-inside.result a c.in_ok-id.was (c.next-self-inside.ensures.next s.list (a.within c.in_ok-id.id c.in_ok-id.was));
    }

pub returns-clause-steps : goal.returns-clause-steps
returns-clause-steps c =
    let s = c.self.inside in
    let a = c.named_from-first.ensures.along in
    let step = since-next s.lists.now s.list c.in_ok-id.id c.named_from-first.result c.next-self-inside.result a c.in_ok-id.was (c.next-self-inside.ensures.next s.list (a.within c.in_ok-id.id c.in_ok-id.was)) in
    sym c.self.view_is
    ∙ sym c.named_from-first.ensures.same
    ∙ named-take s.name s.lists.now s.entries.now s.list c.in_ok-id.id c.named_from-first.result c.next-self-inside.result step (c.named_from-first.ensures.named c.in_ok-id.id c.in_ok-id.was)

pub returns-clause-goes : goal.returns-clause-goes
returns-clause-goes c =
    let s = c.self.inside in
    let a = c.named_from-first.ensures.along in
    let step = since-next s.lists.now s.list c.in_ok-id.id c.named_from-first.result c.next-self-inside.result a c.in_ok-id.was (c.next-self-inside.ensures.next s.list (a.within c.in_ok-id.id c.in_ok-id.was)) in
    let e = ap length (sym c.self.view_is ∙ sym c.named_from-first.ensures.same
    ∙ named-take s.name s.lists.now s.entries.now s.list c.in_ok-id.id c.named_from-first.result c.next-self-inside.result step (c.named_from-first.ensures.named c.in_ok-id.id c.in_ok-id.was)) in
    record { on = λ f. (tt, tt, omega (arith, e)); keeps = tt; rests = λ f. tt }
