use Rattle.std.proofs.Common.{subst, arith}
use Rattle.std.specs.Prelude.{MatchOption, length, ◌+◌}
use Rattle.table_space.specs.Kept.{Kept}
use Rattle.table_space.specs.Directory.{entries_at}
use Rattle.table_space.specs.Reserves.{HasNoPlaceMark}
use Rattle.table_space.specs.Rooms.{AreKnown, AreFull, IsNextRoom, IsNextPage}
use Rattle.table_space.specs.Reserves.{IsNextFor}
use Rattle.table_space.proofs.FullPages.{next-both, next-open, next-reserved}
use Rattle.table_space.proofs.ledger.Ledger.next_page.Goals as goal

pub returns-in-Some-Some : goal.returns-in-Some-Some
returns-in-Some-Some c =
    let s = c.self.inside in
    let room : IsNextRoom s.rooms c.args.table c.args.slots c.args.from c.in-Some-Some.open = rw c.in-Some-Some.is-0 at c.next-open.ensures in
    let for : IsNextFor s.reserves c.args.table c.args.tx c.args.from c.in-Some-Some.reserved = rw c.in-Some-Some.is-1 at c.next_for-reserved.ensures in
    subst (λ (k : Kept). IsNextPage (entries_at k.directory) k.owners c.args.table c.args.slots c.args.tx c.args.from c.min.result) c.self.view_is
    (next-both s.owners s.rooms s.reserves c.args.table c.args.slots c.args.tx c.args.from (omega arith) c.self.invariant.4 c.self.invariant.5 c.self.invariant.1 c.self.invariant.2 c.in-Some-Some.open c.in-Some-Some.reserved c.min.result room for c.min.ensures)

pub returns-in-Some-None : goal.returns-in-Some-None
returns-in-Some-None c =
    let s = c.self.inside in
    let room : IsNextRoom s.rooms c.args.table c.args.slots c.args.from c.in-Some-None.open = rw c.in-Some-None.is-0 at c.next-open.ensures in
    let none : HasNoPlaceMark s.reserves c.args.table c.args.tx c.args.from (s.reserves.pages + 1) = rw c.in-Some-None.is-1 at c.next_for-reserved.ensures in
    subst (λ (k : Kept). IsNextPage (entries_at k.directory) k.owners c.args.table c.args.slots c.args.tx c.args.from c.in-Some-None.open) c.self.view_is
    (next-open s.owners s.rooms s.reserves c.args.table c.args.slots c.args.tx c.args.from (omega arith) c.self.invariant.4 c.self.invariant.5 c.self.invariant.1 c.self.invariant.2 c.in-Some-None.open room none)

pub returns-in-None-default : goal.returns-in-None-default
returns-in-None-default c =
    let s = c.self.inside in
    let known : AreKnown s.rooms c.args.table c.args.slots c.args.from (s.rooms.pages + 1) = rw c.in-None-default.is-0 at c.next-open.ensures in
    subst (λ (k : Kept). MatchOption c.next_for-reserved.result (AreFull (entries_at k.directory) k.owners c.args.table c.args.slots c.args.tx c.args.from (length k.owners + 1)) (IsNextPage (entries_at k.directory) k.owners c.args.table c.args.slots c.args.tx c.args.from)) c.self.view_is
    (next-reserved s.owners s.rooms s.reserves c.args.table c.args.slots c.args.tx c.args.from (omega arith) c.self.invariant.4 c.self.invariant.5 c.self.invariant.1 c.self.invariant.2 known c.next_for-reserved.result c.next_for-reserved.ensures)
