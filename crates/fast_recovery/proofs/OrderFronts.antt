-- Fronts of records in order, and records with what closes them.
use Rattle.std.proofs.Common.{◌≡◌, ℕ, cond, List, [], ◌++◌, Option, Some, None, refl, sym, ◌∙◌, ap, eq-eqb}
use Rattle.std.specs.Prelude.{option_and_then}
use Rattle.log_records.specs.Entries.{Entry}
use Rattle.fast_recovery.specs.Order.{open_in, closing}
use Rattle.fast_recovery.proofs.Ordered.{open_in-append, open_in-then}

-- a front of records in order is in order
pub open_in-front : (o p : Option ℕ) (xs ys : List Entry) → open_in o (xs ++ ys) ≡ Some p → (q : Option ℕ) × (open_in o xs ≡ Some q)
open_in-front o p xs ys is = at (open_in o xs) (sym (open_in-append o xs ys) ∙ is)
  where
    at : (m : Option (Option ℕ)) → option_and_then (λ q. open_in q ys) m ≡ Some p → (q : Option ℕ) × (m ≡ Some q)
    at None e = cc
    at (Some q) e = (q, refl)

-- what closes a log leaves nothing open
pub open_in-closing : (o : Option ℕ) → open_in o (closing o) ≡ Some None
open_in-closing None = refl
open_in-closing (Some tx) = ap (λ b. option_and_then (λ q. open_in q []) (cond b (Some None) None)) (eq-eqb tx tx refl)

pub open_in-closed : (o : Option ℕ) (log : List Entry) → open_in None log ≡ Some o → open_in None (log ++ closing o) ≡ Some None
open_in-closed o log order = open_in-then None o log (closing o) order ∙ open_in-closing o
