use Rattle.std.proofs.Common.{◌≡◌, ◌∙◌, ℕ, true, false, Option, Some, None, is_some, sym, refl}
use Rattle.link_lists.specs.Lists.{list_at}
use Rattle.thread_queues.proofs.Ids.{without-none}
use Rattle.thread_queues.proofs.Moving.{not-in, taken-lists}
use Rattle.thread_queues.proofs.buckets.take.Goals as goal

none-some : (o : Option ℕ) (l : ℕ) → is_some o ≡ false → o ≡ Some l → ⊥
none-some None l e f = cc
none-some (Some k) l e f = cc

some-home : (o : Option ℕ) → is_some o ≡ true → (l : ℕ) × (o ≡ Some l)
some-home None e = cc
some-home (Some l) e = (l, refl)

pub returns-then-is_none-clause-lists : goal.returns-then-is_none-clause-lists
returns-then-is_none-clause-lists c = λ b.
    let v = c.args.buckets.now in
    sym (without-none c.args.id (list_at v b) (not-in v c.requires.sound c.args.id b (λ h. none-some c.home.result b c.if-is_none.ensures (c.home.ensures.home ∙ h))))

pub returns-clause-lists : goal.returns-clause-lists
returns-clause-lists c = λ b.
    let v = c.args.buckets.now in
    let home = some-home c.home.result c.if-is_none.ensures in
    let here = sym c.home.ensures.home ∙ home.1 in
    taken-lists v c.unlink.new.self home.0 c.args.id c.requires.sound here (c.unlink.ensures.list home.0 here) b
