-- What is known of an error that goes up.
use Rattle.std.proofs.Common.{◌≡◌, ◌⊎◌, inl, inr, ◌∙◌, ap, Result, Ok, Err}
use Rattle.std.specs.Result.{IfErr, IsErrAnd}
use Rattle.fast_recovery.specs.declared.fault.OpenFault.{OpenFault}
use Rattle.fast_recovery.specs.declared.fault.OpenFault.TheVariants.{Disk}

pub err-goes-up : {T E : Type 0} (r : Result T E) (P Q : E → Type 0) → IsErrAnd r P → ((e : E) → P e → Q e) → IfErr r Q
err-goes-up (Ok x) P Q h f = tt
err-goes-up (Err e) P Q h f = f e h

-- an answer with an error that is this one
pub was-err : {T E : Type 0} (r : Result T E) (e : E) → IsErrAnd r (λ f. f ≡ e) → r ≡ Err e
was-err (Ok x) e is = absurd is
was-err (Err f) e is = ap Err is

-- it is a disk fault where what went up is one
pub disk-fault : {T U : Type 0} (r : Result T OpenFault) (f : OpenFault) → IsErrAnd r (λ e. e ≡ f) → ◌≡◌ {A = Result U OpenFault} (Err f) (Err Disk) → r ≡ Err Disk
disk-fault (Ok x) f is same = absurd is
disk-fault (Err e) f is same = let disk : f ≡ Disk = cc in ap Err (is ∙ disk)

-- the first holds, where the second wants an error of what is none
pub not-failed : {T E A B : Type 0} (x : T) (e : E) → A ⊎ ((◌≡◌ {A = Result T E} (Ok x) (Err e)) × B) → A
not-failed x e (inl first) = first
not-failed x e (inr second) = let no : ◌≡◌ {A = Result _ _} (Ok x) (Err e) = second.0 in cc

-- what holds of each error
pub at-err : {T E : Type 0} (r : Result T E) (P : E → Type 0) → ((e : E) → P e) → IfErr r P
at-err (Ok x) P f = tt
at-err (Err e) P f = f e
