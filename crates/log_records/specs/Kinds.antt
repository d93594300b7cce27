-- The kinds of records and their numbers.
use Rattle.std.specs.Prelude.{ℕ, ◌==◌, if◌then◌else◌, Option, Some, None}
use Rattle.log_records.specs.declared.kind.Kind.{Kind}
use Rattle.log_records.specs.declared.kind.Kind.TheVariants.{Begin, Commit, Rollback, HInsert, HDelete, HUpdate, Ckpoint}

abbrev pub kind_code : Kind → ℕ
kind_code Begin = 1
kind_code Commit = 2
kind_code Rollback = 3
kind_code HInsert = 4
kind_code HDelete = 5
kind_code HUpdate = 6
kind_code Ckpoint = 7

-- the kind of a number, 1 to 7
abbrev pub code_kind : ℕ → Option Kind
code_kind n =
    if n == 1 then Some Begin else if n == 2 then Some Commit else if n == 3 then Some Rollback else if n == 4 then Some HInsert else if n == 5 then Some HDelete else if n == 6 then Some HUpdate else if n == 7 then Some Ckpoint else None
