-- Clauses of answers, put together.
use Rattle.std.proofs.Common.{Result, Ok, Err, OnOk, OnErr}

pub on_ok_both : {T E A B C : Type 0} → (r : Result T E) → OnOk r A → OnOk r B → (A → B → C) → OnOk r C
on_ok_both (Ok x) a b f = f a b
on_ok_both (Err e) a b f = tt

-- the same of errors
pub on_err : {T E A B : Type 0} → (r : Result T E) → OnErr r A → (A → B) → OnErr r B
on_err (Ok x) a f = tt
on_err (Err e) a f = f a

-- what always holds
pub always_err : {T E A : Type 0} → (r : Result T E) → A → OnErr r A
always_err (Ok x) a = tt
always_err (Err e) a = a
