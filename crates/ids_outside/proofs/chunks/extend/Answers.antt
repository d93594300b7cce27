use Rattle.std.proofs.Common.{◌*◌, vec_len, arith, refl}
use Rattle.ids_outside.proofs.Vectors.{extend_one, extend_none, extend_enough, set_again}
use Rattle.ids_outside.proofs.chunks.extend.Goals as goal

pub returns-then-chunk-len-clause-done : goal.returns-then-chunk-len-clause-done
returns-then-chunk-len-clause-done c = extend_none c.args.image.now.items c.args.chunk c.args.pages c.args.byte (omega (arith, c.if-chunk-len.true, c.len.ensures))

pub returns-then-len-wanted-clause-done : goal.returns-then-len-wanted-clause-done
returns-then-len-wanted-clause-done c =
    let v = c.index_mut-target.result.now in
    extend_enough c.args.image.now.items c.args.chunk c.args.pages c.args.byte c.len-2.result v
    (omega (arith, c.if-chunk-len.false, c.len.ensures)) c.index_mut-target.ensures.value (omega (arith, c.len-2.ensures, v.ok.0)) (omega (arith, c.if-len-wanted.true))

pub returns-then-is_err-clause-refused : goal.returns-then-is_err-clause-refused
returns-then-is_err-clause-refused c =
    let h = c.if-is_err.ensures in
    let r = c.resize.ensures.items in
    set_again c.args.image.now.items c.args.chunk c.index_mut-target.result.now c.resize.new.self (omega (arith, c.if-chunk-len.false, c.len.ensures)) c.index_mut-target.ensures.value (rw h.negation at r)

pub returns-clause-done : goal.returns-clause-done
returns-clause-done c =
    let v = c.index_mut-target.result.now in
    let h = c.if-is_err.ensures in
    let r = c.resize.ensures.items in
    extend_one c.args.image.now.items c.args.chunk c.args.pages c.args.byte (2048 * c.args.pages) (vec_len v) v c.resize.new.self
    (omega (arith, c.if-chunk-len.false, c.len.ensures)) c.index_mut-target.ensures.value refl (omega (arith, v.ok.0)) (omega (arith, c.if-len-wanted.false, c.len-2.ensures)) (rw h.negation at r)
