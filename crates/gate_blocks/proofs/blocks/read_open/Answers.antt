use Rattle.std.proofs.Common.{◌∙◌, ◌+◌, ◌*◌, ap, refl}
use Rattle.ids_outside.specs.Images.{bytes_of}
use Rattle.gate_blocks.proofs.OneBlock.{read_body, read_block}
use Rattle.gate_blocks.proofs.blocks.read_open.Goals as goal

pub returns-in_err-read-clause-any_moment : goal.returns-in_err-read-clause-any_moment
returns-in_err-read-clause-any_moment g c =
    let old = c.args.disk.now in
    c.stays.ensures tt old old c.read.new.self (c.started.ensures tt old (λ x left. refl)) c.read.ensures.time c.read.ensures.stop

pub returns-in_err-read-2-clause-any_moment : goal.returns-in_err-read-2-clause-any_moment
returns-in_err-read-2-clause-any_moment g c =
    let old = c.args.disk.now in
    c.stays.ensures tt old c.read.new.self c.read-2.new.self (c.stays.ensures tt old old c.read.new.self (c.started.ensures tt old (λ x left. refl)) c.read.ensures.time c.read.ensures.stop)
    c.read-2.ensures.time c.read-2.ensures.stop

pub returns-clause-any_moment : goal.returns-clause-any_moment
returns-clause-any_moment g c =
    let old = c.args.disk.now in
    c.stays.ensures tt old c.read.new.self c.read-2.new.self (c.stays.ensures tt old old c.read.new.self (c.started.ensures tt old (λ x left. refl)) c.read.ensures.time c.read.ensures.stop)
    c.read-2.ensures.time c.read-2.ensures.stop

pub returns-clause-block : goal.returns-clause-block
returns-clause-block g c = λ tells.
    let r = c.args.region.now in
    read_block r c.args.at _ _ _ (read_body r c.args.at _ _ _ c.told-into (c.in_ok-read.ensures.bytes tells))
    (c.in_ok-read-2.ensures.bytes tells ∙ ap (λ x. bytes_of x r.chunk (2048 * (r.first + c.args.at) + 2047) 1) c.read.ensures.same)

pub returns-clause-body : goal.returns-clause-body
returns-clause-body g c = λ tells.
    read_body c.args.region.now c.args.at _ _ _ c.told-into (c.in_ok-read.ensures.bytes tells)
