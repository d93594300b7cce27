use Rattle.std.proofs.Common.{◌≡◌, ap, sym, subst, ℕ, List, [], ◌∷◌, Some, true}
use Rattle.std.specs.Option.{is_some}
use Rattle.link_lists.specs.Lists.{list_at, first_of, has, ListBecomes, without}
use Rattle.link_lists.proofs.Members.{has-first}
use Rattle.link_lists.proofs.lists.Lists.pop_front.Goals as goal

first-has : (xs : List ℕ) (x : ℕ) → first_of xs ≡ Some x → has x xs ≡ true
first-has [] x h = cc
first-has (y ∷ xs) x h = let e : y ≡ x = cc in subst (λ k. has k (y ∷ xs) ≡ true) e (has-first y xs)

pub unlink-requires : goal.unlink-requires
unlink-requires c =
    let h = (c.front.ensures.sound.home c.args.list c.in_ok-first.first).1 (first-has (list_at c.args.self.now c.args.list) c.in_ok-first.first (sym c.in_ok-first.ensures.front)) in
    ap is_some h

pub returns-clause-list : goal.returns-clause-list
returns-clause-list c = λ id e.
    let h = (c.front.ensures.sound.home c.args.list c.in_ok-first.first).1 (first-has (list_at c.args.self.now c.args.list) c.in_ok-first.first (sym c.in_ok-first.ensures.front)) in
    let f : c.in_ok-first.first ≡ id = cc in
    subst (λ k. ListBecomes c.args.self.now c.unlink.new.self c.args.list (without k (list_at c.args.self.now c.args.list))) f (c.unlink.ensures.list c.args.list h)
