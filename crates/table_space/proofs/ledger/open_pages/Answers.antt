use Rattle.std.proofs.Common.{arith, ◌∙◌, inl, inr}
use Rattle.std.proofs.lemmas.Bool.{cases_eq}
use Rattle.table_space.proofs.Reserving.{opened-passed}
use Rattle.table_space.proofs.ledger.open_pages.Goals as goal

pub loop-page-preserved : goal.loop-page-preserved
loop-page-preserved c = record {
  some = omega arith;
  front_pages = c.open_page.ensures.front_pages ∙ c.loop-page.invariant.front_pages;
  room_pages = c.open_page.ensures.room_pages ∙ c.loop-page.invariant.room_pages;
  fronts = c.open_page.ensures.fronts;
  rooms = c.open_page.ensures.rooms;
  opened = λ p first lt. elim (cases_eq p c.in-Some.page) [
    | inl same ↦ rw same c.open_page.ensures.opened
    | inr other ↦ c.open_page.ensures.others p first other
        (opened-passed c.args.owners.now c.loop-page.fronts c.loop-page.rooms c.args.reserves.now c.args.tx c.loop-page.from c.in-Some.page c.loop-page.invariant.fronts c.loop-page.invariant.rooms c.requires.reserves
        c.in-Some.ensures.before c.loop-page.invariant.opened p first (omega (arith, lt, other)) (omega (arith, lt, other, c.in-Some.ensures.high, c.requires.reserve_pages)))
  ];
}

pub returns-clause-fronts : goal.returns-clause-fronts
returns-clause-fronts c = λ page d first last.
    (opened-passed c.args.owners.now c.loop-page.fronts c.loop-page.rooms c.args.reserves.now c.args.tx c.loop-page.from _ c.loop-page.invariant.fronts c.loop-page.invariant.rooms c.requires.reserves
    c.in_default.ensures c.loop-page.invariant.opened page first (omega (arith, last, c.loop-page.invariant.front_pages, c.requires.reserve_pages)) (omega (arith, last, c.loop-page.invariant.front_pages))).front d last

pub returns-clause-rooms : goal.returns-clause-rooms
returns-clause-rooms c = λ page first last t own.
    (opened-passed c.args.owners.now c.loop-page.fronts c.loop-page.rooms c.args.reserves.now c.args.tx c.loop-page.from _ c.loop-page.invariant.fronts c.loop-page.invariant.rooms c.requires.reserves
    c.in_default.ensures c.loop-page.invariant.opened page first (omega (arith, last, c.requires.reserve_pages)) last).room last t own
