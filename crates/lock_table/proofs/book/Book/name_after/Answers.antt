use Rattle.std.proofs.Common.{◌≡◌, ◌∙◌, ◌+◌, subst, sym, arith, Option}
use Rattle.ids_base.specs.declared.lock.LockName.{LockName}
use Rattle.lock_table.proofs.Ordered.{IsBest, best-start, best-unused, best-used, best-is, best-none}
use Rattle.lock_table.proofs.book.Book.name_after.Goals as goal
use Rattle.lock_table.proofs.book.Book.name_after.Goals.{in-Some, in_default}

pub loop-id-init : goal.loop-id-init
loop-id-init c = best-start c.args.self.now c.args.after.now

pub loop-id-preserved : goal.loop-id-preserved
loop-id-preserved c =
    let b = c.args.self.now in
    let after = c.args.after.now in
    let i = c.loop-id.invariant in
    let P : Option LockName → Type 0 = λ best. IsBest b after (c.loop-id.id + 1) best in
    elim c.match-name_at.branch [
      | in-Some w ↦ subst P (sym (w.best-is ∙ w.nearer-best.ensures))
          (best-used b after c.loop-id.id c.loop-id.best w.in-Some.name i c.loop-id-test.true (sym c.name_at.ensures ∙ w.in-Some.is))
      | in_default w ↦ subst P (sym w.best-is) (best-unused b after c.loop-id.id c.loop-id.best i (sym c.name_at.ensures ∙ w.in_default.is))
    ]

pub returns-clause-some : goal.returns-clause-some
returns-clause-some c =
    let a = c.loop-id-test.false in
    let z = c.loop-id.auto.id-end in
    let e : c.loop-id.id ≡ c.args.self.now.limit = omega (arith, a, z) in
    best-is c.args.self.now c.args.after.now c.loop-id.best (subst (λ n. IsBest c.args.self.now c.args.after.now n c.loop-id.best) e c.loop-id.invariant)

pub returns-clause-none : goal.returns-clause-none
returns-clause-none c =
    let a = c.loop-id-test.false in
    let z = c.loop-id.auto.id-end in
    let e : c.loop-id.id ≡ c.args.self.now.limit = omega (arith, a, z) in
    best-none c.args.self.now c.args.after.now c.loop-id.best (subst (λ n. IsBest c.args.self.now c.args.after.now n c.loop-id.best) e c.loop-id.invariant)
