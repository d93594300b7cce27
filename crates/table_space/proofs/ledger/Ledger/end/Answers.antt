use Rattle.std.proofs.Common.{◌≡◌, ◌∙◌, ap, arith, length}
use Rattle.std.specs.Vec.{with_items}
use Rattle.std.proofs.lemmas.List.{with_items_is}
use Rattle.table_space.proofs.Reserving.{fronts-ended, rooms-ended, reserves-ended}
use Rattle.table_space.proofs.ledger.Ledger.end.Goals as goal

pub open_pages-requires-clause-fronts : goal.open_pages-requires-clause-fronts
open_pages-requires-clause-fronts c = rw c.deref_mut.ensures.value c.self.invariant.3

pub renew_pages-requires-clause-fronts : goal.renew_pages-requires-clause-fronts
renew_pages-requires-clause-fronts c =
    let size : length c.open_pages.new.fronts ≡ c.self.inside.fronts.len = omega (arith, c.open_pages.ensures.front_pages, ap length c.deref_mut.ensures.value, c.self.inside.fronts.ok.0) in
    let items : (with_items c.self.inside.fronts c.open_pages.new.fronts).items ≡ c.open_pages.new.fronts = with_items_is c.self.inside.fronts c.open_pages.new.fronts size in
    rw (c.deref.ensures.value, items) (fronts-ended c.args.tx c.end.ensures c.open_pages.new.fronts c.open_pages.ensures.fronts)

pub renew_pages-requires-clause-reserves : goal.renew_pages-requires-clause-reserves
renew_pages-requires-clause-reserves c = reserves-ended c.args.tx c.end.ensures c.self.inside.owners c.self.inside.reserves c.self.invariant.5

pub invariant_of-self : goal.invariant_of-self
invariant_of-self c =
    let size : length c.open_pages.new.fronts ≡ c.self.inside.fronts.len = omega (arith, c.open_pages.ensures.front_pages, ap length c.deref_mut.ensures.value, c.self.inside.fronts.ok.0) in
    let items : (with_items c.self.inside.fronts c.open_pages.new.fronts).items ≡ c.open_pages.new.fronts = with_items_is c.self.inside.fronts c.open_pages.new.fronts size in (
      ap length items ∙ c.open_pages.ensures.front_pages ∙ ap length c.deref_mut.ensures.value ∙ c.self.invariant.0,
      c.open_pages.ensures.room_pages ∙ c.self.invariant.1,
      c.renew_pages.ensures.reserve_pages ∙ c.self.invariant.2,
      rw items (fronts-ended c.args.tx c.end.ensures c.open_pages.new.fronts c.open_pages.ensures.fronts),
      rooms-ended c.args.tx c.end.ensures c.self.inside.owners c.open_pages.new.rooms c.open_pages.ensures.rooms,
      c.renew_pages.ensures.reserves,
    )
