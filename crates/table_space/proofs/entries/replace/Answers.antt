use Rattle.std.proofs.Common.{Bool, cond, remove, arith}
use Rattle.std.proofs.lemmas.List.Sums.{sum_by-set, sum_by-remove}
use Rattle.table_space.specs.declared.entry.Entry.{Entry}
use Rattle.table_space.specs.declared.entry.Held.TheVariants.{Nowhere}
use Rattle.table_space.proofs.entries.replace.Goals as goal

-- all others stay
pub returns-clause-was : goal.returns-clause-was
returns-clause-was c =
    let es = c.args.entries.now in
    let none : Entry = record { held = Nowhere; tx = 0 } in
    let others = λ (p : Entry → Bool). sum_by-remove (λ (e : Entry). cond (p e) 1 0) es c.args.at none c.requires in
    record {
      beside = remove es c.args.at;
      before = λ p. omega (arith, others p);
      after = λ p. omega (arith, others p, sum_by-set (λ (e : Entry). cond (p e) 1 0) es c.args.at c.args.entry none c.requires);
    }
