use Rattle.std.proofs.Common.{◌≤◌, ◌-◌, refl, arith, length, slice_index_or}
use Rattle.table_space.proofs.Reserving.{kept-opened, used-kept, opened-fronts, opened-rooms, opened-page, opened-others}
use Rattle.table_space.proofs.ledger.open_page.Goals as goal

-- no slot is reserved that is not filled
pub returns-then-kept-front-clause-opened : goal.returns-then-kept-front-clause-opened
returns-then-kept-front-clause-opened c =
    let within : c.args.page ≤ length c.args.fronts.now = omega (arith, c.requires.last, c.requires.front_pages) in
    kept-opened c.args.owners.now c.args.fronts.now c.args.rooms.now c.args.tx c.args.page c.requires.first c.requires.fronts c.requires.rooms
    (λ last. used-kept c.args.page c.kept_to-kept.result last c.args.tx
    (λ slot above small. (c.requires.fronts c.args.page (record { taken = 0; used = 0 }) c.requires.first within).used slot (omega (arith, above, c.if-kept-front.true)) small)
    c.kept_to-kept.ensures.kept)

pub returns-clause-fronts : goal.returns-clause-fronts
returns-clause-fronts c = opened-fronts c.args.owners.now c.args.fronts.now c.args.rooms.now c.mark_open.new.rooms c.args.page c.kept_to-kept.result c.args.tx (record { taken = 0; used = 0 })
    (record { taken = c.min.result; used = (slice_index_or c.args.fronts.now (c.args.page - 1) (record { taken = 0; used = 0 })).used })
    c.requires.first (omega (arith, c.requires.last, c.requires.front_pages)) c.requires.front_pages c.requires.fronts c.requires.rooms c.kept_to-kept.ensures.kept (omega (arith, c.min.ensures)) (omega (arith, c.min.ensures)) refl
    c.mark_open.ensures.here c.mark_open.ensures.others

pub returns-clause-rooms : goal.returns-clause-rooms
returns-clause-rooms c = opened-rooms c.args.owners.now c.args.fronts.now c.args.rooms.now c.mark_open.new.rooms c.args.page c.kept_to-kept.result c.args.tx (record { taken = 0; used = 0 })
    (record { taken = c.min.result; used = (slice_index_or c.args.fronts.now (c.args.page - 1) (record { taken = 0; used = 0 })).used })
    c.requires.first (omega (arith, c.requires.last, c.requires.front_pages)) c.requires.front_pages c.requires.fronts c.requires.rooms c.kept_to-kept.ensures.kept (omega (arith, c.min.ensures)) (omega (arith, c.min.ensures)) refl
    c.mark_open.ensures.here c.mark_open.ensures.others

pub returns-clause-opened : goal.returns-clause-opened
returns-clause-opened c = opened-page c.args.owners.now c.args.fronts.now c.args.rooms.now c.mark_open.new.rooms c.args.page c.kept_to-kept.result c.args.tx (record { taken = 0; used = 0 })
    (record { taken = c.min.result; used = (slice_index_or c.args.fronts.now (c.args.page - 1) (record { taken = 0; used = 0 })).used })
    c.requires.first (omega (arith, c.requires.last, c.requires.front_pages)) c.requires.front_pages c.requires.fronts c.requires.rooms c.kept_to-kept.ensures.kept (omega (arith, c.min.ensures)) (omega (arith, c.min.ensures)) refl
    c.mark_open.ensures.here c.mark_open.ensures.others

pub returns-clause-others : goal.returns-clause-others
returns-clause-others c = opened-others c.args.owners.now c.args.fronts.now c.args.rooms.now c.mark_open.new.rooms c.args.page c.kept_to-kept.result c.args.tx (record { taken = 0; used = 0 })
    (record { taken = c.min.result; used = (slice_index_or c.args.fronts.now (c.args.page - 1) (record { taken = 0; used = 0 })).used })
    c.requires.first (omega (arith, c.requires.last, c.requires.front_pages)) c.requires.front_pages c.requires.fronts c.requires.rooms c.kept_to-kept.ensures.kept (omega (arith, c.min.ensures)) (omega (arith, c.min.ensures)) refl
    c.mark_open.ensures.here c.mark_open.ensures.others
