use Rattle.std.proofs.Common.{sym, ◌∙◌, arith, subst, length-drop, ◌+◌, ◌<◌, length, take, drop}
use Rattle.std.proofs.Common.{◌≡◌, ◌-◌, ℕ, List}
use Rattle.std.proofs.lemmas.List.{length-take-le}
use Rattle.sql_reader.proofs.Stands.{Stands, blank_step, token_by, dead_by, good_end, bad_end}
use Rattle.sql_reader.proofs.line.judge.Goals as goal

size : (at : ℕ) (bytes : List ℕ) → length (take (length bytes - at) (drop at bytes)) ≡ length bytes - at
size at bytes = length-take-le (length bytes - at) (drop at bytes) (omega (arith, length-drop at bytes))

pub loop-at-preserved-then-is_gap_byte : goal.loop-at-preserved-then-is_gap_byte
loop-at-preserved-then-is_gap_byte c = (omega (arith, c.loop-at-test.true), blank_step c.args.bytes.now c.loop-at.at c.loop-at.place c.loop-at.edge c.loop-at-test.true (sym c.is_gap_byte.ensures ∙ c.if-is_gap_byte.true) c.loop-at.invariant.1)

pub returns-in-None : goal.returns-in-None
returns-in-None c = dead_by c.args.bytes.now c.loop-at.at c.loop-at.place c.loop-at.edge _ _ _ c.loop-at-test.true (sym c.is_gap_byte.ensures ∙ c.if-is_gap_byte.false) c.row_of.ensures c.munch-len.ensures c.in-None.is c.loop-at.invariant.1

pub loop-at-smaller : goal.loop-at-smaller
loop-at-smaller c =
    let t = token_by c.args.bytes.now c.loop-at.at c.loop-at.place c.loop-at.edge _ _ _ c.in-Some.kind c.in-Some.to c.loop-at-test.true (sym c.is_gap_byte.ensures ∙ c.if-is_gap_byte.false) c.row_of.ensures c.munch-len.ensures c.in-Some.is c.loop-at.invariant.1 in
    let h : 0 < c.munch-len.result.0 = t.0 in omega (arith, h, c.loop-at-test.true)

pub loop-at-preserved : goal.loop-at-preserved
loop-at-preserved c =
    let t = token_by c.args.bytes.now c.loop-at.at c.loop-at.place c.loop-at.edge _ _ _ c.in-Some.kind c.in-Some.to c.loop-at-test.true (sym c.is_gap_byte.ensures ∙ c.if-is_gap_byte.false) c.row_of.ensures c.munch-len.ensures c.in-Some.is c.loop-at.invariant.1 in
    (omega (arith, c.munch-len.ensures.within, size c.loop-at.at c.args.bytes.now, c.loop-at-test.true), subst (λ v. Stands (take (c.loop-at.at + c.munch-len.result.0) c.args.bytes.now) (drop (c.loop-at.at + c.munch-len.result.0) c.args.bytes.now) c.in-Some.to v) (sym c.edge_after-edge.ensures) t.1)

pub returns-then-is_last : goal.returns-then-is_last
returns-then-is_last c = good_end c.args.bytes.now c.loop-at.at c.loop-at.place c.loop-at.edge c.loop-at-test.false (sym c.is_last.ensures ∙ c.if-is_last.true) c.loop-at.invariant.1

pub returns-else-is_last : goal.returns-else-is_last
returns-else-is_last c = bad_end c.args.bytes.now c.loop-at.at c.loop-at.place c.loop-at.edge c.loop-at-test.false c.loop-at.invariant.0 (sym c.is_last.ensures ∙ c.if-is_last.false) c.loop-at.invariant.1
