use Rattle.std.proofs.Common.{◌≡◌, ◌∙◌, ◌++◌, ap, subst, length}
use Rattle.std.proofs.lemmas.List.{length_push}
use Rattle.lock_table.specs.Table.{holders}
use Rattle.wait_graph.specs.Reached.{HasSpots}
use Rattle.wait_graph.specs.Targets.{queue_at}
use Rattle.wait_graph.proofs.Loads.{lines-pushed, all-noted}
use Rattle.wait_graph.proofs.Scans.{scanned-pushed}
use Rattle.wait_graph.proofs.reached.load.Goals as goal

filled : (c : goal.After-drop-queue-2) → c.extend_from_slice.new.self.items ≡ holders c.args.locks.now c.args.name ++ queue_at c.args.locks.now c.args.asked.now c.args.name
filled c = c.in_ok-extend_from_slice.ensures.items ∙ ap (λ v. v ++ c.as_slice.result.now) c.in_ok-line.ensures ∙ ap (λ v. holders c.args.locks.now c.args.name ++ v) (c.as_slice.ensures.value ∙ c.in_ok-queue.ensures)

pub returns-clause-lines : goal.returns-clause-lines
returns-clause-lines c =
    let old = c.args.reached.now in
    lines-pushed c.args.locks.now c.args.asked.now c.requires.asked c.args.name old _ c.extend_from_slice.new.self c.len-number.result c.len-first.result c.requires.lines c.in_ok-push.ensures.items
    (ap length c.in_ok-push-2.ensures.items ∙ length_push old.scanned.items _) (filled c) (c.len-number.ensures ∙ old.lines.ok.0) (c.len-first.ensures ∙ c.in_ok-line.line.ok.0 ∙ ap length c.in_ok-line.ensures)
    (λ a s h. subst (λ l. HasSpots old.spots l c.len-number.result c.len-first.result a s) c.as_slice-2.ensures.value (c.in_ok-add_spots.ensures.old_or_new a s h))

pub returns-clause-scanned : goal.returns-clause-scanned
returns-clause-scanned c = scanned-pushed c.args.reached.now (record { lines = c.push.new.self; scanned = c.push-2.new.self; spots = c.add_spots.new.spots }) c.extend_from_slice.new.self c.requires.lines.scanned c.in_ok-push.ensures.items c.in_ok-push-2.ensures.items

pub returns-clause-all : goal.returns-clause-all
returns-clause-all c =
    all-noted c.add_spots.new.spots (holders c.args.locks.now c.args.name) (queue_at c.args.locks.now c.args.asked.now c.args.name) c.as_slice-2.result.now c.len-first.result (c.as_slice-2.ensures.value ∙ filled c)
    (c.len-first.ensures ∙ c.in_ok-line.line.ok.0 ∙ ap length c.in_ok-line.ensures) c.in_ok-add_spots.ensures.all
