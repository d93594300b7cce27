use Rattle.std.proofs.Common.{◌∙◌, ap, Some, sym, arith, inl, inr}
use Rattle.link_lists.specs.Lists.{home_at}
use Rattle.link_lists.proofs.Calls.{known, at-home, id-is-place, behind-is}
use Rattle.link_lists.proofs.lists.Lists.next.Goals as goal

pub next-next-requires : goal.next-next-requires
next-next-requires c = let k = known (home_at c.args.self.now c.args.id) c.requires in id-is-place _ _ c.self.view_is c.self.invariant c.args.id (at-home _ _ c.self.view_is c.self.invariant k.0 c.args.id k.1).1

pub returns-then-next-lt-HEAD : goal.returns-then-next-lt-HEAD
returns-then-next-lt-HEAD c = record {
  next = λ l h. elim (behind-is _ _ c.self.view_is c.self.invariant c.args.id l h)
      [ inl a ↦ ap Some c.next-next.ensures ∙ sym a.1 | inr b ↦ absurd (let e = c.next-next.ensures in omega (arith, e, b.0)) ];
}

pub returns-else-next-lt-HEAD : goal.returns-else-next-lt-HEAD
returns-else-next-lt-HEAD c = record {
  next = λ l h. elim (behind-is _ _ c.self.view_is c.self.invariant c.args.id l h)
      [ inl a ↦ absurd (let e = c.next-next.ensures in omega (arith, e, a.0)) | inr b ↦ sym b.1 ];
}
