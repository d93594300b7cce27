use Rattle.std.proofs.Common.{refl, sym, ◌∙◌, ap, subst, ◌+◌, length}
use Rattle.sql_reader.proofs.Lines.{Kept, kept_bad, kept_silent, kept_statement, first_by}
use Rattle.sql_reader.proofs.script.spans_of.Goals as goal
use Rattle.sql_reader.proofs.script.spans_of.Goals.{then-holds_statement+in_ok-push, else-holds_statement}

pub returns-in-Bad-clause-bad : goal.returns-in-Bad-clause-bad
returns-in-Bad-clause-bad c = (kept_bad c.args.bytes.now c.first_line-line.result.now c.loop-start.start _ c.loop-start.invariant c.loop-start-test.true (first_by c.args.bytes.now c.first_line-line.result.now c.loop-start.start c.first_line-line.ensures.first c.first_line-line.ensures.front c.first_line-line.ensures.within) (c.in-Bad.ensures).0, refl)

pub loop-start-preserved : goal.loop-start-preserved
loop-start-preserved c =
    let bytes = c.args.bytes.now in
    let line = c.first_line-line.result.now in
    let start = c.loop-start.start in
    let first = first_by bytes line start c.first_line-line.ensures.first c.first_line-line.ensures.front c.first_line-line.ensures.within in
    elim c.if-holds_statement.branch [
      | then-holds_statement+in_ok-push w ↦ subst (λ v. Kept bytes (start + (length line + 1)) v) (sym (ap (λ v. v.items) w.spans-is ∙ w.in_ok-push.ensures.items))
          (kept_statement bytes line start c.loop-start.spans.items _ c.loop-start.invariant c.loop-start-test.true first c.in-Line.ensures (sym c.holds_statement.ensures ∙ w.if-holds_statement.true) refl refl)
      | else-holds_statement w ↦ subst (λ v. Kept bytes (start + (length line + 1)) v) (sym (ap (λ v. v.items) w.spans-is))
          (kept_silent bytes line start c.loop-start.spans.items c.loop-start.invariant c.loop-start-test.true first c.in-Line.ensures (sym c.holds_statement.ensures ∙ w.if-holds_statement.false))
    ]
