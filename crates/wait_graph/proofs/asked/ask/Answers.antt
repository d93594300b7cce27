use Rattle.std.proofs.Common.{◌≡◌, ◌∙◌, ap, arith, length, insert, vec_len}
use Rattle.lock_table.specs.Table.{line, holders, queue}
use Rattle.lock_table.specs.Requests.{wanted, is_overtaken, up_to}
use Rattle.wait_graph.proofs.Copies.{put-at, up-within}
use Rattle.wait_graph.proofs.asked.ask.Goals as goal

pub insert-requires : goal.insert-requires
insert-requires c =
    let t = c.args.locks.now in
    let over = is_overtaken (holders t c.args.name) c.args.thread in
    let place = c.place_of-place.ensures.place in
    let within = up-within over (queue t c.args.name) in
    let copy = ap length (c.in_ok-queue.ensures ∙ c.waiters.ensures.waiters) in
    let len : vec_len c.in_ok-queue.queue ≡ length c.in_ok-queue.queue.items = c.in_ok-queue.queue.ok.0 in
    omega (arith, place, within, copy, len)

pub returns-clause-queue : goal.returns-clause-queue
returns-clause-queue c =
    let t = c.args.locks.now in
    let over = is_overtaken (holders t c.args.name) c.args.thread in
    let w = wanted (line t c.args.name) c.args.thread c.args.name c.args.mode in
    c.in_ok-insert.ensures.items
    ∙ ap (λ v. insert v c.place_of-place.result c.wanted-request.result) (c.in_ok-queue.ensures ∙ c.waiters.ensures.waiters)
    ∙ ap (λ n. insert (queue t c.args.name) n c.wanted-request.result) c.place_of-place.ensures.place
    ∙ ap (λ e. insert (queue t c.args.name) (length (up_to over (queue t c.args.name))) e) c.wanted-request.ensures.wanted
    ∙ put-at over w (queue t c.args.name)
