use Rattle.std.proofs.Common.{◌≡◌, ◌≢◌, ◌+◌, ◌^◌, ◌≤◌, ◌∙◌, sym, subst, arith}
use Rattle.std.specs.List.{count_by}
use Rattle.std.specs.Option.{MatchOption}
use Rattle.table_space.specs.Emptied.{is_left}
use Rattle.table_space.proofs.EntriesLeft.{NoneWith, none-with-below, none-with-last, with-found}
use Rattle.table_space.proofs.index.Index.+transaction_with.Goals as goal

pub returns-in-None : goal.returns-in-None
returns-in-None t c = none-with-below c.args.count c.args.row c.args.from c.args.self.now.empty c.requires.some c.in-None.ensures.next

pub returns-in-None-checked_add : goal.returns-in-None-checked_add
returns-in-None-checked_add t c =
    none-with-last c.args.count c.args.row c.args.from c.args.self.now.empty c.requires.some c.in-Some.tx c.in-Some.ensures.next (λ e. c.if-count_of-count.false (c.count_of.ensures ∙ e)) c.in-Some.ensures.few (omega (arith, c.in-None-checked_add.ensures))

pub returns-in-Some-checked_add : goal.returns-in-Some-checked_add
returns-in-Some-checked_add t c =
    with-found c.args.count c.args.row c.args.from c.args.self.now.empty c.requires.some c.in-Some.tx c.in-Some.ensures.next (λ e. c.if-count_of-count.false (c.count_of.ensures ∙ e)) c.transaction_with.result
    (subst (λ n. MatchOption c.transaction_with.result (NoneWith c.args.count c.args.row n c.args.self.now.empty) (λ tx. count_by (is_left tx c.args.row) c.args.self.now.empty ≡ c.args.count)) c.in-Some-checked_add.ensures.1 c.transaction_with.ensures)
