use Rattle.std.proofs.Common.{◌-◌, length, sym, subst, arith}
use Rattle.log_records.specs.Entries.{Entry}
use Rattle.log_records.specs.Viewed.{view_entry}
use Rattle.log_records.specs.Taken.{IsTaken}
use Rattle.log_records.proofs.EntryReading.{taken_is, rest_within, no_record}
use Rattle.log_records.proofs.taking.take.Goals as goal

pub returns-in_default-clause-none : goal.returns-in_default-clause-none
returns-in_default-clause-none c = no_record c.args.bytes.now (sym c.in_default.ensures)

pub overflow_sub-size : goal.overflow_sub-size
overflow_sub-size c = rest_within c.args.bytes.now (view_entry c.in-Some.view) c.in-Some.rest.now (λ i. omega (arith, c.type_inv.bytes i)) (sym c.in-Some.ensures)

pub returns-clause-found : goal.returns-clause-found
returns-clause-found c =
    let taken = taken_is c.args.bytes.now (view_entry c.in-Some.view) c.in-Some.rest.now (λ i. omega (arith, c.type_inv.bytes i)) (sym c.in-Some.ensures) in
    subst (λ (e : Entry). IsTaken c.args.bytes.now e (length c.args.bytes.now - length c.in-Some.rest.now)) (sym c.in_ok-to_record.ensures) taken
