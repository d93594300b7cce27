use Rattle.std.proofs.Common.{arith, subst, ◌≡◌}
use Rattle.sql_reader.specs.declared.token.Keyword.TheVariants as keyword
use Rattle.sql_reader.specs.Plans.{word_items}
use Rattle.sql_reader.specs.Reading.{Went}
use Rattle.sql_reader.proofs.Ways.{kind_char, went_on}
use Rattle.sql_reader.proofs.reader.Reader.kind.Goals as goal

pub returns-in_default : goal.returns-in_default
returns-in_default c =
    let is_char : c.word.result ≡ keyword.Char = (kind_char c.args.self.now.place c.args.size c.args.close c.args.end c.word.result c.word.new.self.place c.requires.column c.word.ensures.stands c.in_default.not-Integer).0 in
    record {
      on = c.only-in_default.ensures.on;
      to = c.only-in_default.ensures.to;
      went = went_on c.args.self.now c.word.new.self c.only-in_default.new.self _ _ (subst (λ v. Went c.args.self.now c.word.new.self (word_items v)) is_char c.word.ensures.went)
          (went_on c.word.new.self c.only.new.self c.only-in_default.new.self _ _ c.only.ensures.went
          (went_on c.only.new.self c.size-length.new.self c.only-in_default.new.self _ _ c.size-length.ensures.went c.only-in_default.ensures.went));
      less = omega (arith, c.word.ensures.less, c.only.ensures.less, c.size-length.ensures.less, c.only-in_default.ensures.less);
    }
