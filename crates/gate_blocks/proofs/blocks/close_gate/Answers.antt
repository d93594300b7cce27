use Rattle.std.proofs.Common.{◌≡◌, ◌+◌, ◌*◌, [], ◌∷◌, ◌∙◌, subst, sym, ap, arith}
use Rattle.std.proofs.lemmas.Result.{on_ok_weaker}
use Rattle.ids_outside.specs.Images.{SameBut, Written, Range}
use Rattle.gate_blocks.specs.Gates.{gate, place, OpenGate}
use Rattle.gate_blocks.proofs.Steps.{BlockOf}
use Rattle.gate_blocks.proofs.Images.{wider, same_image}
use Rattle.gate_blocks.proofs.OneBlock.{read_gate}
use Rattle.gate_blocks.proofs.Closings.{wrote_gate, wrote_zero, shut_open, shut_other}
use Rattle.gate_blocks.proofs.blocks.close_gate.Goals as goal

pub returns-in_err-read-clause-any_moment : goal.returns-in_err-read-clause-any_moment
returns-in_err-read-clause-any_moment g c =
    let old = c.args.disk.now in let p : BlockOf = (c.args.region.now, c.args.at, g.D.Disk.image old) in
    c.stays.ensures p old old c.read.new.self (c.started.ensures p old (λ x left. same_image (OpenGate p.0 p.1 p.2) x)) c.read.ensures.time c.read.ensures.stop

pub returns-then-gate-clause-any_moment : goal.returns-then-gate-clause-any_moment
returns-then-gate-clause-any_moment g c =
    let old = c.args.disk.now in let p : BlockOf = (c.args.region.now, c.args.at, g.D.Disk.image old) in
    c.stays.ensures p old old c.read.new.self (c.started.ensures p old (λ x left. same_image (OpenGate p.0 p.1 p.2) x)) c.read.ensures.time c.read.ensures.stop

pub returns-then-gate-clause-closed : goal.returns-then-gate-clause-closed
returns-then-gate-clause-closed g c = λ tells is.
    let r = c.args.region.now in
    let read = read_gate r c.args.at (g.D.Disk.image c.args.disk.now) _ (c.in_ok-read.ensures.bytes tells) in
    let same = ap (λ x. gate r c.args.at x) c.read.ensures.same in
    let test = c.if-gate.true in
    test (read ∙ sym same ∙ is)

pub returns-clause-any_moment : goal.returns-clause-any_moment
returns-clause-any_moment g c =
    let d = g.D.Disk in let m = g.met.D.Disk in let old = c.args.disk.now in let r = c.args.region.now in
    let mid = c.read.new.self in let new = c.write_at.new.self in
    let step = OpenGate r c.args.at (d.image old) in
    let offset = 2048 * (r.first + c.args.at) + 2047 in
    let p : BlockOf = (r, c.args.at, d.image old) in
    let run = c.stays.ensures p old old mid (c.started.ensures p old (λ x left. same_image step x)) c.read.ensures.time c.read.ensures.stop in
    c.goes_on.ensures p old mid new run c.write_at.ensures.time (λ x left.
    let tells = m.left_tells new (d.now new) x (m.counts_now new x left) in
    let read = read_gate r c.args.at (d.image old) _ (c.in_ok-read.ensures.bytes tells) in
    let is : gate r c.args.at (d.image old) ≡ 165 = sym read ∙ c.if-gate.false in
    let one = c.write_at.ensures.stop x left in
    (one.0, c.read.ensures.stop one.0 one.1, wider (Range r.chunk offset 1) step one.0 x one.2 (λ j i h. (h.0, omega (arith, h.1, h.2), is))))

pub returns-clause-shown : goal.returns-clause-shown
returns-clause-shown g c = λ tells.
    let d = g.D.Disk in let old = c.args.disk.now in let r = c.args.region.now in
    let step = OpenGate r c.args.at (d.image old) in
    let offset = 2048 * (r.first + c.args.at) + 2047 in
    let read = read_gate r c.args.at (d.image old) _ (c.in_ok-read.ensures.bytes tells) in
    let is : gate r c.args.at (d.image old) ≡ 165 = sym read ∙ c.if-gate.false in
    subst (λ x. SameBut step x (d.image c.write_at.new.self)) c.read.ensures.same
    (wider (Range r.chunk offset 1) step _ _ c.write_at.ensures.torn (λ j i h. (h.0, omega (arith, h.1, h.2), is)))

pub returns-clause-closed : goal.returns-clause-closed
returns-clause-closed g c =
    let d = g.D.Disk in let r = c.args.region.now in
    on_ok_weaker c.write_at.result (λ (written : d.tells → Written r.chunk (place r c.args.at + 2047) (0 ∷ []) (d.image c.read.new.self) (d.image c.write_at.new.self)) (tells : d.tells).
    wrote_gate r c.args.at _ _ (written tells)) c.write_at.ensures.written

pub returns-then-gate-clause-zeroed : goal.returns-then-gate-clause-zeroed
returns-then-gate-clause-zeroed g c = λ tells.
    let r = c.args.region.now in let old = g.D.Disk.image c.args.disk.now in
    let read = read_gate r c.args.at old _ (c.in_ok-read.ensures.bytes tells) in
    let test = c.if-gate.true in
    ap (λ x. gate r c.args.at x) c.read.ensures.same ∙ sym (shut_other (gate r c.args.at old) (λ is. test (read ∙ is)))

pub returns-clause-zeroed : goal.returns-clause-zeroed
returns-clause-zeroed g c =
    let d = g.D.Disk in let r = c.args.region.now in
    on_ok_weaker c.write_at.result (λ (written : d.tells → Written r.chunk (place r c.args.at + 2047) (0 ∷ []) (d.image c.read.new.self) (d.image c.write_at.new.self)) (tells : d.tells).
    let read = read_gate r c.args.at (d.image c.args.disk.now) _ (c.in_ok-read.ensures.bytes tells) in
    let is : gate r c.args.at (d.image c.args.disk.now) ≡ 165 = sym read ∙ c.if-gate.false in
    wrote_zero r c.args.at _ _ (written tells) ∙ sym (shut_open (gate r c.args.at (d.image c.args.disk.now)) is)) c.write_at.ensures.written
