use Rattle.std.proofs.Common.{◌≡◌, ◌+◌, ◌-◌, ◌<◌, true, Bool, Some, ap, length, arith, inl, inr, slice_index_or, refl}
use Rattle.std.proofs.Math.ListN.{length-set}
use Rattle.std.proofs.lemmas.Bool.{cases_lt}
use Rattle.table_space.specs.declared.pages.Place.{Place}
use Rattle.table_space.specs.Pages.{place, place_cmp, one_owned}
use Rattle.table_space.proofs.Tallies.{count-all, count-put}
use Rattle.table_space.proofs.OwnedPages.{owned-one, owned-set, owned-room, owner-stays}
use Rattle.table_space.proofs.pages.Pages.set.Goals as goal

abbrev any : Place → Bool
any x = true

pub leave-requires-clause-there : goal.leave-requires-clause-there
leave-requires-clause-there c = λ test.
    let lt : c.args.page - 1 < length c.self.inside.owners.items = omega (arith, c.requires.first, c.requires.last, ap length c.self.view_is) in
    let i : 1 + (c.args.page - 1) ≡ c.args.page = omega (arith, c.requires.first) in
    let one = owned-one test 1 c.self.inside.owners.items (c.args.page - 1) c.index.result.now lt in
    let same : one_owned test c.args.page c.index.result.now ≡ one_owned test (1 + (c.args.page - 1)) (slice_index_or c.self.inside.owners.items (c.args.page - 1) c.index.result.now) = rw (i, ← c.index.ensures) refl in
    omega (arith, one, same, c.self.invariant.owned test)

pub put-requires-clause-room : goal.put-requires-clause-room
put-requires-clause-room c =
    let lt : c.args.page - 1 < length c.self.inside.owners.items = omega (arith, c.requires.first, c.requires.last, ap length c.self.view_is) in
    let i : 1 + (c.args.page - 1) ≡ c.args.page = omega (arith, c.requires.first) in
    let room = owned-room any 1 c.self.inside.owners.items (c.args.page - 1) c.index.result.now lt (λ x. refl) in
    let same : one_owned any c.args.page c.index.result.now ≡ one_owned any (1 + (c.args.page - 1)) (slice_index_or c.self.inside.owners.items (c.args.page - 1) c.index.result.now) = rw (i, ← c.index.ensures) refl in
    omega (arith, room, same, c.self.invariant.owned any, c.self.invariant.nodes, c.leave.ensures.counted any, c.leave.ensures.nodes, count-all c.self.inside.owned.items, count-all c.leave.new.owned.items)

pub invariant_of-self : goal.invariant_of-self
invariant_of-self c =
    let os = c.self.inside.owners.items in
    let lt : c.args.page - 1 < length c.self.inside.owners.items = omega (arith, c.requires.first, c.requires.last, ap length c.self.view_is) in
    let i : 1 + (c.args.page - 1) ≡ c.args.page = omega (arith, c.requires.first) in
    let long = length-set c.self.inside.owners.items (c.args.page - 1) (Some c.args.table) in
    let from = rw c.deref.ensures.value at c.unowned_from-self-inside.ensures in
    record {
      few = omega (arith, long, c.self.invariant.few);
      ordered = c.put.ensures.ordered;
      owned = λ test.
          let same = ap (one_owned test c.args.page) c.index.ensures in
          let moved = rw i at (owned-set test 1 c.self.inside.owners.items (c.args.page - 1) c.args.table c.index.result.now lt) in
          let put = count-put test place_cmp c.leave.new.owned.items c.put.new.self.items (place c.args.table c.args.page) c.put.ensures.put in
          omega (arith, same, moved, put, c.leave.ensures.counted test, c.self.invariant.owned test);
      nodes =
          let put = count-put any place_cmp c.leave.new.owned.items c.put.new.self.items (place c.args.table c.args.page) c.put.ensures.put in
          omega (arith, long, put, c.put.ensures.spare, c.leave.ensures.nodes, c.self.invariant.nodes, count-all c.leave.new.owned.items, count-all c.put.new.self.items);
      low = omega (arith, from.from, c.self.invariant.low);
      high = from.last;
      before = λ page first last. elim (cases_lt page c.self.inside.unowned) [
        | inl less ↦ owner-stays c.self.inside.owners.items (c.args.page - 1) c.args.table page lt (c.self.invariant.before page first less)
        | inr more ↦ from.before page more last
      ];
      next = from.next;
    }
