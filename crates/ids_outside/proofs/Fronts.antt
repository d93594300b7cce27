-- The front of what is left, and the rest.
use Rattle.std.proofs.Common.{◌≡◌, ℕ, ◌+◌, List, ◌++◌, length, take, drop}
use Rattle.std.proofs.lemmas.List.{take_at, drop-drop, take-append-drop}

-- what was left is the front that was copied, then what is left behind it
pub left-parts : (left copied rest bytes : List ℕ) (at n : ℕ)
    → left ≡ drop at bytes → copied ≡ take n (drop at bytes) → length copied ≡ n
    → left ≡ take n (copied ++ rest) ++ drop (at + n) bytes
left-parts left copied rest bytes at n is_left is_copied is_long =
    let front = take_at copied rest n is_long in
    let behind = drop-drop n at bytes in
    let parts = take-append-drop n (drop at bytes) in
    cc
