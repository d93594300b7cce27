use Rattle.std.proofs.Common.{◌≡◌, ◌∙◌, ap, sym, ◌≤◌, drop, take, length, arith}
use Rattle.std.proofs.lemmas.List.{take_rest, length-take-le}
use Rattle.ids_outside.proofs.Fronts.{left-parts}
use Rattle.ids_outside.proofs.mem_source.MemSourceSource.read.Goals as goal

pub returns-clause-given : goal.returns-clause-given
returns-clause-given c =
    let i = c.self.inside in
    let n = c.min-count.result in
    let bytes = c.deref.result.now in
    let whole = ap (λ x. take n x) (take_rest bytes i.at) in
    let fits : n ≤ length c.args.into.now = omega arith in
    let long : length c.copy_from_slice.new.self ≡ n = c.copy_from_slice.ensures.len ∙ length-take-le n c.args.into.now fits in
    left-parts c.args.self.now.left c.copy_from_slice.new.self (drop n c.args.into.now) i.bytes.items i.at n
    (sym (ap (λ s. s.left) c.self.view_is))
    (rw (← c.deref.ensures.value) (c.copy_from_slice.ensures.after ∙ whole))
    long
