use Rattle.std.proofs.Common.{◌≡◌, ◌<◌, ◌≤◌, List, [], ◌∷◌, length, take, drop, arith, sym, subst, ap, ◌∙◌}
use Rattle.std.proofs.lemmas.List.{length-take-le, length-drop, take_all}
use Rattle.log_records.specs.Entries.{Entry}
use Rattle.log_records.specs.Viewed.{view_entry}
use Rattle.ids_model.specs.Recovered.{State}
use Rattle.fast_recovery.specs.PagedStates.{IsPagedState}
use Rattle.fast_recovery.specs.LogRead.{GoesOn}
use Rattle.fast_recovery.proofs.Ordered.{goes-both, left-split, left-take, left-drop}
use Rattle.fast_recovery.proofs.Paging.{paged-run}
use Rattle.fast_recovery.proofs.past.Past.note_body.Goals as goal

pub unreachable-requires : goal.unreachable-requires
unreachable-requires c =
    let es = c.args.body.now.entries in let i = c.loop-index.index in
    let none : drop i es ≡ [] = sym c.loop-index.invariant.left ∙ c.in_default.ensures.over in
    absurd (omega (arith, ap (λ (l : List Entry). length l) none, length-drop i es, c.loop-index-test.true, c.count-index-end.ensures))

pub returns-then-not-branch-clause-fault : goal.returns-then-not-branch-clause-fault
returns-then-not-branch-clause-fault c =
    let es = c.args.body.now.entries in let i = c.loop-index.index in let e = view_entry c.in-Some.view in
    let lt : i < length es = omega (arith, c.loop-index-test.true, c.count-index-end.ensures) in
    let left : drop i es ≡ e ∷ c.next.new.self = sym c.loop-index.invariant.left ∙ c.in-Some.ensures.next in
    record {
      block = c.note.ensures.next ∙ c.loop-index.invariant.next;
      front = take i es;
      entry = e;
      behind = c.next.new.self;
      records = left-split es i e c.next.new.self left;
      index = length-take-le i es (omega arith);
      last = c.loop-index.self;
      goes_on = c.loop-index.invariant.goes;
      refused = c.in_ok-note.ensures.refused c.if-not-branch.true;
    }

pub loop-index-preserved : goal.loop-index-preserved
loop-index-preserved c =
    let es = c.args.body.now.entries in let i = c.loop-index.index in let e = view_entry c.in-Some.view in
    let left : drop i es ≡ e ∷ c.next.new.self = sym c.loop-index.invariant.left ∙ c.in-Some.ensures.next in
    record {
      goes = subst (λ (l : List Entry). GoesOn c.args.pages c.args.self.now l c.note.new.self) (sym (left-take es i e c.next.new.self left))
          (goes-both c.args.pages c.runs_join.ensures c.args.self.now c.loop-index.self c.note.new.self (take i es) (e ∷ []) c.loop-index.invariant.goes (c.in_ok-note.ensures.noted c.if-not-branch.false));
      left = sym (left-drop es i e c.next.new.self left);
      next = c.note.ensures.next ∙ c.loop-index.invariant.next;
    }

pub returns-clause-paged : goal.returns-clause-paged
returns-clause-paged c = λ paged.
    let es = c.args.body.now.entries in let i = c.loop-index.index in
    let over : length es ≤ i = omega (arith, c.loop-index-test.false, c.count-index-end.ensures) in
    let goes : GoesOn c.args.pages c.args.self.now es c.loop-index.self =
    subst (λ (l : List Entry). GoesOn c.args.pages c.args.self.now l c.loop-index.self) (take_all i es over) c.loop-index.invariant.goes in
    subst (λ (s : State). IsPagedState c.args.pages s) (sym goes.replay)
    (paged-run c.args.pages c.runs_join.ensures c.args.self.now.replay es paged goes.places c.are_in_range.ensures)
