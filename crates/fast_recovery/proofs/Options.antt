-- What tests of an `Option` tell.
use Rattle.std.proofs.Common.{◌≡◌, false, Option, Some, None, refl, is_some}

pub none-is : {A : Type 0} (o : Option A) → is_some o ≡ false → o ≡ None
none-is None e = refl
none-is (Some x) e = cc
