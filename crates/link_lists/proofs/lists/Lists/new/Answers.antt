use Rattle.std.proofs.Common.{◌∙◌, refl, arith}
use Rattle.link_lists.specs.Rings.{lists_of}
use Rattle.link_lists.proofs.Seen.{length-made, linked-well}
use Rattle.link_lists.proofs.Calls.{is-sound, empty-linked, empty-list}
use Rattle.link_lists.proofs.lists.Lists.new.Goals as goal

pub returns-clause-lists : goal.returns-clause-lists
returns-clause-lists c = length-made c.in_ok-new.field-0.lists (lists_of c.in_ok-new.field-0) ∙ c.in_ok-new.ensures.counts.1

pub returns-clause-empty : goal.returns-clause-empty
returns-clause-empty c = empty-list c.in_ok-new.field-0 (empty-linked c.in_ok-new.field-0 c.in_ok-new.ensures.counts.0 c.in_ok-new.field-0.few_lists (λ l h. c.in_ok-new.ensures.next l (let e = c.in_ok-new.ensures.counts.1 in omega (arith, e, h))) (λ l h. c.in_ok-new.ensures.prev l (let e = c.in_ok-new.ensures.counts.1 in omega (arith, e, h))))

pub returns-clause-sound : goal.returns-clause-sound
returns-clause-sound c = is-sound _ _ refl (linked-well c.in_ok-new.field-0 _ (empty-linked c.in_ok-new.field-0 c.in_ok-new.ensures.counts.0 c.in_ok-new.field-0.few_lists (λ l h. c.in_ok-new.ensures.next l (let e = c.in_ok-new.ensures.counts.1 in omega (arith, e, h))) (λ l h. c.in_ok-new.ensures.prev l (let e = c.in_ok-new.ensures.counts.1 in omega (arith, e, h)))))
