use Rattle.std.proofs.Common.{◌≡◌, ◌≤◌, ap, sym, subst, arith, length}
use Rattle.table_space.specs.declared.front.Front.{Front}
use Rattle.table_space.specs.Kept.{Kept}
use Rattle.table_space.specs.Directory.{entries_at}
use Rattle.table_space.specs.Fronts.{IsFront}
use Rattle.table_space.proofs.ledger.Ledger.front_of.Goals as goal

pub returns : goal.returns
returns c =
    let same : length c.self.inside.owners ≡ length c.args.self.now.owners = ap (λ (k : Kept). length k.owners) c.self.view_is in
    let within : c.args.page ≤ length c.self.inside.fronts.items = omega (arith, same, c.self.invariant.0, c.requires.last) in
    subst (λ (k : Kept). IsFront (entries_at k.directory) c.args.page c.index.result.now) c.self.view_is
    (subst (λ (f : Front). IsFront (entries_at c.self.inside.directory) c.args.page f) (sym c.index.ensures) (c.self.invariant.3 c.args.page c.index.result.now c.requires.first within))
