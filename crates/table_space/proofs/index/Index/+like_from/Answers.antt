use Rattle.std.proofs.Common.{◌≡◌, ◌+◌, ◌^◌, ◌≤◌, Option, Some, None, sym, subst, arith}
use Rattle.std.specs.Option.{MatchOption}
use Rattle.std.proofs.lemmas.Bool.{false≢true}
use Rattle.table_space.specs.declared.emptied.EmptyEntry.{EmptyEntry}
use Rattle.table_space.specs.Emptied.{Stands, IsLike}
use Rattle.table_space.proofs.LikeEntries.{NoneLike, none-like, none-like-last, like-found}
use Rattle.table_space.proofs.index.Index.+like_from.Goals as goal

pub returns-in-None-checked_add : goal.returns-in-None-checked_add
returns-in-None-checked_add t c =
    none-like-last c.args.like c.of-entry.result c.args.from c.in-Some.tx c.args.self.now.empty c.of-entry.ensures.is c.in-Some.ensures.next (λ s. false≢true (c.if-has.ensures.1 s)) c.in-Some.ensures.few (omega (arith, c.in-None-checked_add.ensures))

pub returns-in-Some-checked_add : goal.returns-in-Some-checked_add
returns-in-Some-checked_add t c =
    like-found c.args.like c.of-entry.result c.args.from c.in-Some.tx c.args.self.now.empty c.of-entry.ensures.is c.in-Some.ensures.next (λ s. false≢true (c.if-has.ensures.1 s)) c.like_from.result (subst (λ n. MatchOption c.like_from.result (NoneLike c.args.like n c.args.self.now.empty) (λ e. Stands c.args.self.now.empty e × IsLike c.args.like e)) c.in-Some-checked_add.ensures.1 c.like_from.ensures)
