use Rattle.table_space.proofs.Fronts.{fronts-stay, entered-stays, same-stays}
use Rattle.table_space.proofs.FullPages.{rooms-stay}
use Rattle.table_space.proofs.Reserving.{reserves-stay}
use Rattle.table_space.proofs.ledger.Ledger.enter.Goals as goal

pub invariant_of-self : goal.invariant_of-self
invariant_of-self c = (
  c.self.invariant.0,
  c.self.invariant.1,
  c.self.invariant.2,
  fronts-stay c.self.inside.fronts.items (same-stays c.in_err-enter.ensures.err) c.self.invariant.3,
  rooms-stay c.self.inside.owners c.self.inside.rooms (same-stays c.in_err-enter.ensures.err) c.self.invariant.4,
  reserves-stay c.self.inside.owners c.self.inside.reserves (λ row. (same-stays c.in_err-enter.ensures.err row).filled) (λ row. (same-stays c.in_err-enter.ensures.err row).reserved) c.self.invariant.5,
)

pub invariant_of-self-2 : goal.invariant_of-self-2
invariant_of-self-2 c = (
  c.self.invariant.0,
  c.self.invariant.1,
  c.self.invariant.2,
  fronts-stay c.self.inside.fronts.items (entered-stays c.args.tx c.in_ok-enter.ensures.entered) c.self.invariant.3,
  rooms-stay c.self.inside.owners c.self.inside.rooms (entered-stays c.args.tx c.in_ok-enter.ensures.entered) c.self.invariant.4,
  reserves-stay c.self.inside.owners c.self.inside.reserves (λ row. (entered-stays c.args.tx c.in_ok-enter.ensures.entered row).filled) (λ row. (entered-stays c.args.tx c.in_ok-enter.ensures.entered row).reserved) c.self.invariant.5,
)
