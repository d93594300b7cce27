use Rattle.std.proofs.Common.{◌∙◌, ap, Some, sym, arith, inl, inr}
use Rattle.link_lists.proofs.Calls.{low-list, head-is-place, front-is, is-sound}
use Rattle.link_lists.proofs.lists.Lists.front.Goals as goal

pub overflow_add-list : goal.overflow_add-list
overflow_add-list c = let low = low-list _ _ c.self.view_is c.self.invariant c.args.list c.requires in let few = c.self.invariant.few_lists in omega (arith, low, few)

pub next-first-requires : goal.next-first-requires
next-first-requires c = head-is-place _ _ c.self.view_is c.self.invariant c.args.list c.requires

pub returns-then-first-lt-HEAD-clause-front : goal.returns-then-first-lt-HEAD-clause-front
returns-then-first-lt-HEAD-clause-front c = elim (front-is _ _ c.self.view_is c.self.invariant c.args.list c.requires)
    [ inl a ↦ ap Some c.next-first.ensures ∙ sym a.1 | inr b ↦ absurd (let e = c.next-first.ensures in omega (arith, e, b.0)) ]

pub returns-then-first-lt-HEAD-clause-sound : goal.returns-then-first-lt-HEAD-clause-sound
returns-then-first-lt-HEAD-clause-sound c = is-sound _ _ c.self.view_is c.self.invariant

pub returns-else-first-lt-HEAD-clause-front : goal.returns-else-first-lt-HEAD-clause-front
returns-else-first-lt-HEAD-clause-front c = elim (front-is _ _ c.self.view_is c.self.invariant c.args.list c.requires)
    [ inl a ↦ absurd (let e = c.next-first.ensures in omega (arith, e, a.0)) | inr b ↦ sym b.1 ]

pub returns-else-first-lt-HEAD-clause-sound : goal.returns-else-first-lt-HEAD-clause-sound
returns-else-first-lt-HEAD-clause-sound c = is-sound _ _ c.self.view_is c.self.invariant
