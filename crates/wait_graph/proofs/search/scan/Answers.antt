use Rattle.std.proofs.Common.{Vec, Global, Ok, None, ap, sym, subst, slice_index_or, arith}
use Rattle.ids_base.specs.declared.lock.LockEntry.{LockEntry}
use Rattle.ids_base.specs.declared.lock.LockMode.TheVariants.{IS}
use Rattle.wait_graph.specs.Reached.{IsAt}
use Rattle.wait_graph.specs.Targets.{next as next_of}
use Rattle.wait_graph.proofs.Places.{at-read}
use Rattle.wait_graph.proofs.Scans.{scan-all, scan-noted, stands-closed, scanned-longer}
use Rattle.wait_graph.proofs.search.scan.Goals as goal

-- what a read past the end of a line would give
abbrev none : LockEntry
none = record { thread = 0; name = record { table = 0; key = None }; mode = IS }

pub returns-then-from-spot-clause-closed : goal.returns-then-from-spot-clause-closed
returns-then-from-spot-clause-closed c = λ h.
    let r = c.args.reached.now in
    let old = c.args.found.now.threads.keys in
    let new = c.add_against.new.found.threads.keys in
    let v : Vec LockEntry Global = c.index-2.result.now in
    let at-v : IsAt r.lines.items c.args.spot.line v = (c.requires.stands.inside, sym c.index-2.ensures) in
    let at-ends : IsAt r.scanned.items c.args.spot.line c.index.result.now = ((let same = c.requires.stands.scanned in let inside = c.requires.stands.inside in omega (arith, same, inside)), sym c.index.ensures) in
    let st = c.requires.stands.stands v at-v in
    let longer = c.in_ok-add_against.ensures.longer in
    let there : IsAt v.items c.args.spot.at (slice_index_or c.as_slice-line.result.now c.args.spot.at none) = subst (λ l. IsAt v.items c.args.spot.at (slice_index_or l c.args.spot.at none)) (sym c.as_slice-line.ensures.value) (at-read v.items c.args.spot.at none st.there.0) in
    let all = scan-all c.args.asked.now.start old new r c.args.spot.line c.args.spot.at v c.as_slice-line.result.now c.index.result.now (slice_index_or c.as_slice-line.result.now c.args.spot.at none) c.mode_number-number.result c.requires.scanned longer at-v at-ends c.as_slice-line.ensures.value
    c.mode_number-number.ensures.number (c.in_ok-add_against.ensures.closed (ap Ok c.if-branch.false)) in
    stands-closed (next_of c.args.locks.now c.args.asked.now) c.args.asked.now.start old new c.args.at v.items c.args.spot.at (slice_index_or c.as_slice-line.result.now c.args.spot.at none) st c.requires.at longer there all

pub returns-then-from-spot-clause-scanned : goal.returns-then-from-spot-clause-scanned
returns-then-from-spot-clause-scanned c = λ h.
    let r = c.args.reached.now in
    let old = c.args.found.now.threads.keys in
    let new = c.add_against.new.found.threads.keys in
    let v : Vec LockEntry Global = c.index-2.result.now in
    let at-v : IsAt r.lines.items c.args.spot.line v = (c.requires.stands.inside, sym c.index-2.ensures) in
    let at-ends : IsAt r.scanned.items c.args.spot.line c.index.result.now = ((let same = c.requires.stands.scanned in let inside = c.requires.stands.inside in omega (arith, same, inside)), sym c.index.ensures) in
    let st = c.requires.stands.stands v at-v in
    let longer = c.in_ok-add_against.ensures.longer in
    let there : IsAt v.items c.args.spot.at (slice_index_or c.as_slice-line.result.now c.args.spot.at none) = subst (λ l. IsAt v.items c.args.spot.at (slice_index_or l c.args.spot.at none)) (sym c.as_slice-line.ensures.value) (at-read v.items c.args.spot.at none st.there.0) in
    let all = scan-all c.args.asked.now.start old new r c.args.spot.line c.args.spot.at v c.as_slice-line.result.now c.index.result.now (slice_index_or c.as_slice-line.result.now c.args.spot.at none) c.mode_number-number.result c.requires.scanned longer at-v at-ends c.as_slice-line.ensures.value
    c.mode_number-number.ensures.number (c.in_ok-add_against.ensures.closed (ap Ok c.if-branch.false)) in
    scan-noted (next_of c.args.locks.now c.args.asked.now) c.args.asked.now.start old new r c.args.at c.args.spot.line c.args.spot.at v c.index.result.now (slice_index_or c.as_slice-line.result.now c.args.spot.at none) c.mode_number-number.result c.requires.scanned longer c.requires.at at-v at-ends st there
    c.mode_number-number.ensures.number c.if-waiter-asked.true all

pub returns-else-waiter-asked-clause-closed : goal.returns-else-waiter-asked-clause-closed
returns-else-waiter-asked-clause-closed c = λ h.
    let r = c.args.reached.now in
    let old = c.args.found.now.threads.keys in
    let new = c.add_against.new.found.threads.keys in
    let v : Vec LockEntry Global = c.index-2.result.now in
    let at-v : IsAt r.lines.items c.args.spot.line v = (c.requires.stands.inside, sym c.index-2.ensures) in
    let at-ends : IsAt r.scanned.items c.args.spot.line c.index.result.now = ((let same = c.requires.stands.scanned in let inside = c.requires.stands.inside in omega (arith, same, inside)), sym c.index.ensures) in
    let st = c.requires.stands.stands v at-v in
    let longer = c.in_ok-add_against.ensures.longer in
    let there : IsAt v.items c.args.spot.at (slice_index_or c.as_slice-line.result.now c.args.spot.at none) = subst (λ l. IsAt v.items c.args.spot.at (slice_index_or l c.args.spot.at none)) (sym c.as_slice-line.ensures.value) (at-read v.items c.args.spot.at none st.there.0) in
    let all = scan-all c.args.asked.now.start old new r c.args.spot.line c.args.spot.at v c.as_slice-line.result.now c.index.result.now (slice_index_or c.as_slice-line.result.now c.args.spot.at none) c.mode_number-number.result c.requires.scanned longer at-v at-ends c.as_slice-line.ensures.value
    c.mode_number-number.ensures.number (c.in_ok-add_against.ensures.closed (ap Ok c.if-branch.false)) in
    stands-closed (next_of c.args.locks.now c.args.asked.now) c.args.asked.now.start old new c.args.at v.items c.args.spot.at (slice_index_or c.as_slice-line.result.now c.args.spot.at none) st c.requires.at longer there all

pub returns-else-waiter-asked-clause-scanned : goal.returns-else-waiter-asked-clause-scanned
returns-else-waiter-asked-clause-scanned c = λ h. scanned-longer c.args.asked.now.start c.args.found.now.threads.keys c.add_against.new.found.threads.keys c.args.reached.now c.in_ok-add_against.ensures.longer c.requires.scanned
