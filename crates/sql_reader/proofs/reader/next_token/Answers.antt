use Rattle.std.proofs.Common.{◌≡◌}
use Rattle.sql_reader.specs.Gaps.{edge_past}
use Rattle.sql_reader.proofs.Nexts.{edge_zero, edge_some, munched_by, next_by, never_none}
use Rattle.sql_reader.proofs.reader.next_token.Goals as goal
use Rattle.sql_reader.proofs.reader.next_token.Goals.{then-gap-eq0, else-gap-eq0}

pub unreachable-requires : goal.unreachable-requires
unreachable-requires c =
    let behind : c.if-gap-eq0.behind ≡ edge_past c.gap_len-gap.result c.args.edge = elim c.if-gap-eq0.branch [ then-gap-eq0 w ↦ edge_zero _ _ _ w.if-gap-eq0.true w.behind-is | else-gap-eq0 w ↦ edge_some _ _ _ w.if-gap-eq0.false w.behind-is ] in
    never_none c.args.place c.args.edge c.args.rest.now c.gap_len-gap.result c.munch-len.result.0 c.munch-len.result.1 c.requires.more c.requires.on c.gap_len-gap.ensures (munched_by c.args.place c.args.edge _ _ c.args.rest.now _ _ _ behind c.row_of.ensures c.munch-len.ensures) c.in-None.is

pub returns : goal.returns
returns c =
    let behind : c.if-gap-eq0.behind ≡ edge_past c.gap_len-gap.result c.args.edge = elim c.if-gap-eq0.branch [ then-gap-eq0 w ↦ edge_zero _ _ _ w.if-gap-eq0.true w.behind-is | else-gap-eq0 w ↦ edge_some _ _ _ w.if-gap-eq0.false w.behind-is ] in
    next_by c.args.place c.args.edge c.args.rest.now c.gap_len-gap.result c.munch-len.result.0 c.munch-len.result.1 c.in-Some.kind c.in-Some.to c.requires.more c.requires.on c.gap_len-gap.ensures (munched_by c.args.place c.args.edge _ _ c.args.rest.now _ _ _ behind c.row_of.ensures c.munch-len.ensures) c.in-Some.is
