-- A request put into a copy of its queue.
use Rattle.std.proofs.Common.{◌≡◌, ap, refl, ◌≤◌, Bool, true, false, cond, List, [], ◌∷◌, length, insert, arith}
use Rattle.ids_base.specs.declared.lock.LockEntry.{LockEntry}
use Rattle.lock_table.specs.Requests.{put_first, up_to}

-- put in behind those before the first that passes the test
pub put-at : (p : LockEntry → Bool) (e : LockEntry) (xs : List LockEntry) → insert xs (length (up_to p xs)) e ≡ put_first p e xs
put-at p e [] = refl
put-at p e (x ∷ xs) = by-test (p x) (put-at p e xs)
  where
    by-test : (b : Bool) → insert xs (length (up_to p xs)) e ≡ put_first p e xs → insert (x ∷ xs) (length (cond b [] (x ∷ up_to p xs))) e ≡ cond b (e ∷ x ∷ xs) (x ∷ put_first p e xs)
    by-test true more = refl
    by-test false more = ap (λ v. x ∷ v) more

pub up-within : (p : LockEntry → Bool) (xs : List LockEntry) → length (up_to p xs) ≤ length xs
up-within p [] = omega arith
up-within p (x ∷ xs) = by-test (p x) (up-within p xs)
  where
    by-test : (b : Bool) → length (up_to p xs) ≤ length xs → length (cond b [] (x ∷ up_to p xs)) ≤ length (x ∷ xs)
    by-test true h = omega arith
    by-test false h = omega (arith, h)
