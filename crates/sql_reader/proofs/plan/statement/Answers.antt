use Rattle.std.proofs.Common.{subst, ◌≡◌, inr}
use Rattle.sql_reader.specs.declared.token.Keyword.TheVariants as keyword
use Rattle.sql_reader.specs.Plans.{word_items}
use Rattle.sql_reader.specs.Reading.{Went}
use Rattle.sql_reader.proofs.Ways.{went_behind, statement_select}
use Rattle.sql_reader.proofs.plan.statement.Goals as goal

pub returns-in_ok-create-in-Create-clause-went : goal.returns-in_ok-create-in-Create-clause-went
returns-in_ok-create-in-Create-clause-went c = went_behind c.args.reader.now c.word.new.self c.create.new.reader keyword.Create c.in_ok-create-in-Create.field-0 c.in-Create.ensures.went c.in_ok-create-in-Create.ensures.says

pub returns-in_ok-insert-in-Insert-clause-went : goal.returns-in_ok-insert-in-Insert-clause-went
returns-in_ok-insert-in-Insert-clause-went c = went_behind c.args.reader.now c.word.new.self c.insert.new.reader keyword.Insert c.in_ok-insert-in-Insert.field-0 c.in-Insert.ensures.went c.in_ok-insert-in-Insert.ensures.says

pub returns-in_ok-delete-in-Delete-clause-went : goal.returns-in_ok-delete-in-Delete-clause-went
returns-in_ok-delete-in-Delete-clause-went c = went_behind c.args.reader.now c.word.new.self c.delete.new.reader keyword.Delete c.in_ok-delete-in-Delete.field-0 c.in-Delete.ensures.went c.in_ok-delete-in-Delete.ensures.says

pub returns-in_ok-select-in_default : goal.returns-in_ok-select-in_default
returns-in_ok-select-in_default c =
    let is_select : c.word.result ≡ keyword.Select = (statement_select c.args.reader.now.place c.word.result c.word.new.self.place c.requires.at c.word.ensures.stands c.in_default.not-Begin c.in_default.not-Commit c.in_default.not-Rollback c.in_default.not-Create c.in_default.not-Insert c.in_default.not-Delete).0 in
    record {
      on = c.in_ok-select-in_default.ensures.on;
      to = inr c.in_ok-select-in_default.ensures.to;
      went = went_behind c.args.reader.now c.word.new.self c.select.new.reader keyword.Select c.in_ok-select-in_default.field-0 (subst (λ v. Went c.args.reader.now c.word.new.self (word_items v)) is_select c.word.ensures.went) c.in_ok-select-in_default.ensures.says;
    }
