-- Records that rise, and the greatest number of a transaction after them.
use Rattle.std.proofs.Common.{◌≡◌, ℕ, ◌≤◌, ◌==◌, Bool, true, false, cond, ◌&&◌, List, [], ◌∷◌, ◌++◌, Option, Some, None, max, refl, ap, sym, ◌∙◌, subst, arith}
use Rattle.std.specs.Prelude.{option_and_then}
use Rattle.std.specs.List.{AllByRecursion}
use Rattle.std.proofs.lemmas.List.{append-nil}
use Rattle.log_records.specs.Entries.{Entry, Begin, Commit, Rollback, HInsert, HDelete, HUpdate, Ckpoint}
use Rattle.log_records.specs.Spelling.{tx_of}
use Rattle.log_records.proofs.Numbers.{both_true}
use Rattle.fast_recovery.specs.Order.{open_by, open_in, closing}
use Rattle.fast_recovery.specs.Rising.{rises, all_rise, greatest_after}
use Rattle.fast_recovery.proofs.Placed.{and-is}

-- the greatest number after records and others
pub greatest-append : (n : ℕ) (xs ys : List Entry) → greatest_after n (xs ++ ys) ≡ greatest_after (greatest_after n xs) ys
greatest-append n [] ys = refl
greatest-append n (e ∷ xs) ys = greatest-append (max n (tx_of e)) xs ys

-- it is no less than before
pub greatest-later : (n : ℕ) (es : List Entry) → n ≤ greatest_after n es
greatest-later n [] = omega arith
greatest-later n (e ∷ es) = omega (arith, greatest-later (max n (tx_of e)) es)

-- no record has a greater number
pub up_to-greatest : (n : ℕ) (es : List Entry) → AllByRecursion (λ (e : Entry). tx_of e ≤ greatest_after n es) es
up_to-greatest n [] = tt
up_to-greatest n (e ∷ es) = (let here : tx_of e ≤ greatest_after (max n (tx_of e)) es = omega (arith, greatest-later (max n (tx_of e)) es) in here, up_to-greatest (max n (tx_of e)) es)

-- one record
pub rises-one : (n : ℕ) (e : Entry) → rises n e ≡ true → all_rise n (e ∷ []) ≡ true
rises-one n e is = ap (λ b. b && true) is

-- records that rise, and others behind them
pub rises-append : (n : ℕ) (xs ys : List Entry) → all_rise n xs ≡ true → all_rise (greatest_after n xs) ys ≡ true → all_rise n (xs ++ ys) ≡ true
rises-append n [] ys one two = two
rises-append n (e ∷ xs) ys one two =
    let next : ℕ = max n (tx_of e) in
    let was = both_true (rises n e) (all_rise next xs) one in
    and-is (rises n e) (all_rise next (xs ++ ys)) was.0 (rises-append next xs ys was.1 two)

-- of records that rise a front does, and so do the others behind it
pub rises-split : (n : ℕ) (xs ys : List Entry) → all_rise n (xs ++ ys) ≡ true → (all_rise n xs ≡ true) × (all_rise (greatest_after n xs) ys ≡ true)
rises-split n [] ys all = (refl, all)
rises-split n (e ∷ xs) ys all =
    let next : ℕ = max n (tx_of e) in
    let was = both_true (rises n e) (all_rise next (xs ++ ys)) all in
    let more = rises-split next xs ys was.1 in
    (and-is (rises n e) (all_rise next xs) was.0 more.0, more.1)

-- what closes a log rises, and so does a front of it
pub rises-closing : (n : ℕ) (o : Option ℕ) (front rest : List Entry) → closing o ≡ front ++ rest → all_rise n front ≡ true
rises-closing n o front rest parts = (rises-split n front rest (ap (all_rise n) (sym parts) ∙ whole o)).0
  where
    whole : (last : Option ℕ) → all_rise n (closing last) ≡ true
    whole None = refl
    whole (Some tx) = refl

-- the open transaction, if there is one, has at most this number
abbrev pub IsOpenUpTo : Option ℕ → ℕ → Type 0
IsOpenUpTo None n = Unit {0}
IsOpenUpTo (Some tx) n = tx ≤ n

-- so it is after one more record
stays_up_to : (b : Bool) (t tx n : ℕ) (p : Option ℕ) → t ≤ n → cond b (Some (Some t)) None ≡ Some p → IsOpenUpTo p (max n tx)
stays_up_to true t tx n p low step = let now : Some t ≡ p = cc in subst (λ (o : Option ℕ). IsOpenUpTo o (max n tx)) now (omega (arith, low))
stays_up_to false t tx n p low step = cc

ends_up_to : (b : Bool) (m : ℕ) (p : Option ℕ) → cond b (Some None) None ≡ Some p → IsOpenUpTo p m
ends_up_to true m p step = let now : None ≡ p = cc in subst (λ (o : Option ℕ). IsOpenUpTo o m) now tt
ends_up_to false m p step = cc

wider_up_to : (o : Option ℕ) (n tx : ℕ) → IsOpenUpTo o n → IsOpenUpTo o (max n tx)
wider_up_to None n tx low = tt
wider_up_to (Some t) n tx low = omega (arith, low)

open_up_to : (n : ℕ) (o p : Option ℕ) (e : Entry) → IsOpenUpTo o n → open_by o e ≡ Some p → IsOpenUpTo p (max n (tx_of e))
open_up_to n None p (Begin tx session) low step = let now : Some tx ≡ p = cc in subst (λ (q : Option ℕ). IsOpenUpTo q (max n tx)) now (omega arith)
open_up_to n (Some t) p (Begin tx session) low step = cc
open_up_to n None p (Commit tx) low step = cc
open_up_to n (Some t) p (Commit tx) low step = ends_up_to (t == tx) (max n tx) p step
open_up_to n None p (Rollback tx) low step = cc
open_up_to n (Some t) p (Rollback tx) low step = ends_up_to (t == tx) (max n tx) p step
open_up_to n None p (HInsert tx table slot after) low step = cc
open_up_to n (Some t) p (HInsert tx table slot after) low step = stays_up_to (t == tx) t tx n p low step
open_up_to n None p (HDelete tx table slot before) low step = cc
open_up_to n (Some t) p (HDelete tx table slot before) low step = stays_up_to (t == tx) t tx n p low step
open_up_to n None p (HUpdate tx table slot before after) low step = cc
open_up_to n (Some t) p (HUpdate tx table slot before after) low step = stays_up_to (t == tx) t tx n p low step
open_up_to n o p (Ckpoint named) low step = let now : o ≡ p = cc in subst (λ (q : Option ℕ). IsOpenUpTo q (max n 0)) now (wider_up_to o n 0 low)

-- and after records in order
open_after_up_to : (n : ℕ) (o p : Option ℕ) (es : List Entry) → IsOpenUpTo o n → open_in o es ≡ Some p → IsOpenUpTo p (greatest_after n es)
open_after_up_to n o p [] low order = let now : o ≡ p = cc in subst (λ (q : Option ℕ). IsOpenUpTo q n) now low
open_after_up_to n o p (e ∷ es) low order = at (open_by o e) refl order (λ q step rest. open_after_up_to (max n (tx_of e)) q p es (open_up_to n o q e low step) rest)
  where
    at : (m : Option (Option ℕ)) → open_by o e ≡ m → option_and_then (λ q. open_in q es) m ≡ Some p
        → ((q : Option ℕ) → open_by o e ≡ Some q → open_in q es ≡ Some p → IsOpenUpTo p (greatest_after (max n (tx_of e)) es)) → IsOpenUpTo p (greatest_after (max n (tx_of e)) es)
    at None step h more = cc
    at (Some q) step h more = more q step h

-- what closes a log leaves its greatest number
closing_up_to : (n : ℕ) (o : Option ℕ) → IsOpenUpTo o n → greatest_after n (closing o) ≡ n
closing_up_to n None low = refl
closing_up_to n (Some tx) low = omega (arith, low)

pub greatest-closed : (o : Option ℕ) (log : List Entry) → open_in None log ≡ Some o → greatest_after 0 (log ++ closing o) ≡ greatest_after 0 log
greatest-closed o log order = greatest-append 0 log (closing o) ∙ closing_up_to (greatest_after 0 log) o (open_after_up_to 0 None o log tt order)

-- a log and what closes it rise
pub rises-closed : (o : Option ℕ) (log : List Entry) → all_rise 0 log ≡ true → all_rise 0 (log ++ closing o) ≡ true
rises-closed o log rising = rises-append 0 log (closing o) rising (rises-closing (greatest_after 0 log) o (closing o) [] (sym (append-nil (closing o))))
