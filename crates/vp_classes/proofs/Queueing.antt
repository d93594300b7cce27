-- Queues and marks, where one request is asked for or taken.
use Rattle.std.proofs.Common.{◌≡◌, ℕ, zero, suc, ◌+◌, ◌<◌, ◌≤◌, List, [], ◌∷◌, ◌++◌, length, get_or, drop, Bool, true, false, ◌&&◌, ◌||◌, cond, refl, ap, sym, subst, ◌∙◌, arith, inl, inr, Option, Some, None, MatchOption, length-append, replicate}
use Rattle.std.specs.List.{list_any, slice_get, sum_by}
use Rattle.std.proofs.Math.ListN.{set, length-set}
use Rattle.std.proofs.lemmas.List.{get_or_past, length-replicate}
use Rattle.std.proofs.lemmas.List.Sums.{sum_by-set, sum_by-le, sum_by-cons}
use Rattle.std.proofs.lemmas.Bool.{cases_lt, eqb-true, eq-eqb, false≢true, and_parts}
use Rattle.ids_base.specs.declared.class.Class.{Class}
use Rattle.ids_base.specs.declared.class.Class.TheVariants.{Cpu, Lio, Pio, Aio}
use Rattle.vp_classes.specs.declared.request.IoRequest.{IoRequest}
use Rattle.vp_classes.specs.declared.request.IoRequest.TheVariants.{LogFlush, ClearFile, PhysFlush, Page, Clean, Checkpoint}
use Rattle.vp_classes.specs.Asked.{is_same, is_queued, queue, taker, IsInRange}
use Rattle.vp_classes.specs.Marks.{one_if, mark, is_taker, marked, limit, IsThere, Sets, no_marks}
use Rattle.vp_classes.specs.Queued.{times, IsMarked, IsKept, HeadIsThere, asked_of}
use Rattle.vp_classes.specs.declared.queues.Requests.TheInside.{Inside}
use Rattle.vp_classes.specs.declared.marks.Marks.{Marks}

same-eq : (r s : IoRequest) → is_same r s ≡ true → r ≡ s
same-eq LogFlush LogFlush e = refl
same-eq ClearFile ClearFile e = refl
same-eq PhysFlush PhysFlush e = refl
same-eq (Page p) (Page q) e = ap Page (eqb-true p q e)
same-eq (Clean f) (Clean g) e = ap Clean (eqb-true f g e)
same-eq Checkpoint Checkpoint e = refl
same-eq r s e = absurd (false≢true e)

same-self : (r : IoRequest) → is_same r r ≡ true
same-self LogFlush = refl
same-self ClearFile = refl
same-self PhysFlush = refl
same-self (Page p) = eq-eqb p p refl
same-self (Clean f) = eq-eqb f f refl
same-self Checkpoint = refl

times-append : (r : IoRequest) (xs ys : List IoRequest) → times r (xs ++ ys) ≡ times r xs + times r ys
times-append r [] ys = omega arith
times-append r (x ∷ xs) ys = omega (arith, times-append r xs ys)

one_if-and-false : (b : Bool) → one_if (b && false) ≡ 0
one_if-and-false true = refl
one_if-and-false false = refl

or-first : (b : Bool) (q : Bool) → b ≡ false → q ≡ false → (b || q) ≡ false
or-first b q e f = ap (λ (x : Bool). x || q) e ∙ f

any-none : (r : IoRequest) (q : List IoRequest) → times r q ≡ 0 → list_any (is_same r) q ≡ false
any-none r [] h = refl
any-none r (s ∷ q) h = or-first (is_same r s) (list_any (is_same r) q) (none (is_same r s) (omega (arith, h))) (any-none r q (omega (arith, h)))
  where
    none : (b : Bool) → one_if b ≡ 0 → b ≡ false
    none true e = absurd (omega arith)
    none false e = refl

or-some : (b q : Bool) → (b ≡ false → q ≡ true) → (b || q) ≡ true
or-some true q h = refl
or-some false q h = h refl

any-some : (r : IoRequest) (q : List IoRequest) → 0 < times r q → list_any (is_same r) q ≡ true
any-some r [] h = absurd (omega arith)
any-some r (s ∷ q) h = or-some (is_same r s) (list_any (is_same r) q) (λ e. any-some r q (omega (arith, h, ap one_if e)))

-- the mark says whether the request is queued
pub queued-mark : (m : Marks) (class : Class) (q : List IoRequest) (r : IoRequest) → IsMarked m class q → is_taker class r ≡ true → is_queued r q ≡ mark m r
queued-mark m class q r k t = split (mark m r) refl
  where
    count : times r q ≡ one_if (mark m r)
    count = k.once r ∙ ap (λ (b : Bool). one_if (b && mark m r)) t

    split : (b : Bool) → mark m r ≡ b → is_queued r q ≡ mark m r
    split true e = any-some r q (omega (arith, count, ap one_if e)) ∙ sym e
    split false e = any-none r q (omega (arith, count, ap one_if e)) ∙ sym e

-- the same of the class that takes the request
pub taker-mark : (a : Inside) (r : IoRequest) → IsKept a → is_queued r (queue (asked_of a) (taker r)) ≡ mark a.marks r
taker-mark a LogFlush k = queued-mark a.marks Lio a.lio.items LogFlush k.lio refl
taker-mark a ClearFile k = queued-mark a.marks Lio a.lio.items ClearFile k.lio refl
taker-mark a PhysFlush k = queued-mark a.marks Pio a.pio.items PhysFlush k.pio refl
taker-mark a (Page p) k = queued-mark a.marks Aio a.aio.items (Page p) k.aio refl
taker-mark a (Clean f) k = queued-mark a.marks Aio a.aio.items (Clean f) k.aio refl
taker-mark a Checkpoint k = queued-mark a.marks Aio a.aio.items Checkpoint k.aio refl

-- a request is asked for that was not queued
own-new : (m n : Marks) (class : Class) (q : List IoRequest) (r : IoRequest) → IsMarked m class q → is_taker class r ≡ true → mark m r ≡ false → Sets m n r true → IsMarked n class (q ++ r ∷ [])
own-new m n class q r k t none s = record {
  once = λ x. split x (is_same x r) refl;
  len = omega (arith, length-append q (r ∷ []), k.len, s.counted class, ap (λ (b : Bool). one_if (b && mark m r)) t, ap one_if none, ap (λ (b : Bool). one_if (b && true)) t);
}
  where
    split : (x : IoRequest) (b : Bool) → is_same x r ≡ b → times x (q ++ r ∷ []) ≡ one_if (is_taker class x && mark n x)
    split x true e =
        let eq = same-eq x r e in
        let mine : one_if (is_taker class x && mark m x) ≡ 0 = ap (λ (y : IoRequest). one_if (is_taker class y && mark m y)) eq ∙ ap (λ (b : Bool). one_if (is_taker class r && b)) none ∙ one_if-and-false (is_taker class r) in
        let now : one_if (is_taker class x && mark n x) ≡ 1 = ap (λ (b : Bool). one_if (is_taker class x && b)) (s.marks x ∙ ap (λ (b : Bool). cond b true (mark m x)) e) ∙ ap (λ (y : IoRequest). one_if (is_taker class y && true)) eq ∙ ap (λ (b : Bool). one_if (b && true)) t in
        omega (arith, times-append x q (r ∷ []), k.once x, mine, now, ap one_if e)
    split x false e =
        let now : one_if (is_taker class x && mark n x) ≡ one_if (is_taker class x && mark m x) = ap (λ (b : Bool). one_if (is_taker class x && b)) (s.marks x ∙ ap (λ (b : Bool). cond b true (mark m x)) e) in
        omega (arith, times-append x q (r ∷ []), k.once x, now, ap one_if e)

-- and one that was
own-again : (m n : Marks) (class : Class) (q : List IoRequest) (r : IoRequest) → IsMarked m class q → mark m r ≡ true → Sets m n r true → IsMarked n class q
own-again m n class q r k again s = record {
  once = λ x. k.once x ∙ ap (λ (b : Bool). one_if (is_taker class x && b)) (sym (split x (is_same x r) refl));
  len = omega (arith, k.len, s.counted class, ap (λ (b : Bool). one_if (is_taker class r && b)) again);
}
  where
    split : (x : IoRequest) (b : Bool) → is_same x r ≡ b → mark n x ≡ mark m x
    split x true e = s.marks x ∙ ap (λ (b : Bool). cond b true (mark m x)) e ∙ sym (ap (mark m) (same-eq x r e) ∙ again)
    split x false e = s.marks x ∙ ap (λ (b : Bool). cond b true (mark m x)) e

pub own-asked : (m n : Marks) (class : Class) (q q' : List IoRequest) (r : IoRequest) → IsMarked m class q → is_taker class r ≡ true → q' ≡ cond (mark m r) q (q ++ r ∷ []) → Sets m n r true → IsMarked n class q'
own-asked m n class q q' r k t e s = split (mark m r) refl
  where
    split : (b : Bool) → mark m r ≡ b → IsMarked n class q'
    split true is = subst (IsMarked n class) (sym (e ∙ ap (λ (b : Bool). cond b q (q ++ r ∷ [])) is)) (own-again m n class q r k is s)
    split false is = subst (IsMarked n class) (sym (e ∙ ap (λ (b : Bool). cond b q (q ++ r ∷ [])) is)) (own-new m n class q r k t is s)

-- the queue of another class stays
pub other-set : (m n : Marks) (class : Class) (q : List IoRequest) (r : IoRequest) (to : Bool) → IsMarked m class q → is_taker class r ≡ false → Sets m n r to → IsMarked n class q
other-set m n class q r to k t s = record {
  once = λ x. k.once x ∙ sym (split x (is_same x r) refl);
  len = omega (arith, k.len, s.counted class, ap (λ (b : Bool). one_if (b && mark m r)) t, ap (λ (b : Bool). one_if (b && to)) t);
}
  where
    split : (x : IoRequest) (b : Bool) → is_same x r ≡ b → one_if (is_taker class x && mark n x) ≡ one_if (is_taker class x && mark m x)
    split x true e =
        let none : is_taker class x ≡ false = ap (is_taker class) (same-eq x r e) ∙ t in
        ap (λ (b : Bool). one_if (b && mark n x)) none ∙ sym (ap (λ (b : Bool). one_if (b && mark m x)) none)
    split x false e = ap (λ (b : Bool). one_if (is_taker class x && b)) (s.marks x ∙ ap (λ (b : Bool). cond b to (mark m x)) e)

-- the first request is taken
head-marked : (m : Marks) (class : Class) (r : IoRequest) (q : List IoRequest) → IsMarked m class (r ∷ q) → (is_taker class r && mark m r) ≡ true
head-marked m class r q k = split (is_taker class r && mark m r) refl
  where
    split : (b : Bool) → (is_taker class r && mark m r) ≡ b → (is_taker class r && mark m r) ≡ true
    split true e = e
    split false e = absurd (omega (arith, k.once r, ap one_if (same-self r), ap one_if e))

pub own-taken : (m n : Marks) (class : Class) (r : IoRequest) (q : List IoRequest) → IsMarked m class (r ∷ q) → Sets m n r false → IsMarked n class q
own-taken m n class r q k s = record {
  once = λ x. split x (is_same x r) refl;
  len = omega (arith, k.len, s.counted class, ap one_if (head-marked m class r q k), one_if-and-false (is_taker class r));
}
  where
    at_most : (b : Bool) → one_if b ≤ 1
    at_most true = omega arith
    at_most false = omega arith

    split : (x : IoRequest) (b : Bool) → is_same x r ≡ b → times x q ≡ one_if (is_taker class x && mark n x)
    split x true e =
        let now : one_if (is_taker class x && mark n x) ≡ 0 = ap (λ (b : Bool). one_if (is_taker class x && b)) (s.marks x ∙ ap (λ (b : Bool). cond b false (mark m x)) e) ∙ one_if-and-false (is_taker class x) in
        omega (arith, k.once x, at_most (is_taker class x && mark m x), now, ap one_if e)
    split x false e =
        let now : one_if (is_taker class x && mark n x) ≡ one_if (is_taker class x && mark m x) = ap (λ (b : Bool). one_if (is_taker class x && b)) (s.marks x ∙ ap (λ (b : Bool). cond b false (mark m x)) e) in
        omega (arith, k.once x, now, ap one_if e)

there-marked : (m : Marks) (r : IoRequest) → mark m r ≡ true → IsThere m r
there-marked m LogFlush e = tt
there-marked m ClearFile e = tt
there-marked m PhysFlush e = tt
there-marked m (Page zero) e = absurd (false≢true e)
there-marked m (Page (suc k)) e = elim (cases_lt k (length m.pages.items)) [
  | inl h ↦ (omega arith, omega arith)
  | inr h ↦ absurd (false≢true (sym (get_or_past m.pages.items k false h) ∙ e))
]
there-marked m (Clean f) e = elim (cases_lt f (length m.frames.items)) [
  | inl h ↦ h
  | inr h ↦ absurd (false≢true (sym (get_or_past m.frames.items f false h) ∙ e))
]
there-marked m Checkpoint e = tt

pub head-there : (m : Marks) (class : Class) (q : List IoRequest) → IsMarked m class q → HeadIsThere m q
head-there m class [] k = tt
head-there m class (r ∷ q) k = there-marked m r (and_parts (is_taker class r) (mark m r) (head-marked m class r q k)).1

taker-self : (r : IoRequest) → is_taker (taker r) r ≡ true
taker-self LogFlush = refl
taker-self ClearFile = refl
taker-self PhysFlush = refl
taker-self (Page p) = refl
taker-self (Clean f) = refl
taker-self Checkpoint = refl

pub own-taker : (class : Class) (r : IoRequest) → class ≡ taker r → is_taker class r ≡ true
own-taker class r e = ap (λ (c : Class). is_taker c r) e ∙ taker-self r

-- one class alone takes a request
pub lio-alone : (r : IoRequest) → is_taker Lio r ≡ true → (is_taker Pio r ≡ false) × (is_taker Aio r ≡ false)
lio-alone LogFlush e = (refl, refl)
lio-alone ClearFile e = (refl, refl)
lio-alone PhysFlush e = absurd (false≢true e)
lio-alone (Page p) e = absurd (false≢true e)
lio-alone (Clean f) e = absurd (false≢true e)
lio-alone Checkpoint e = absurd (false≢true e)

pub pio-alone : (r : IoRequest) → is_taker Pio r ≡ true → (is_taker Lio r ≡ false) × (is_taker Aio r ≡ false)
pio-alone PhysFlush e = (refl, refl)
pio-alone LogFlush e = absurd (false≢true e)
pio-alone ClearFile e = absurd (false≢true e)
pio-alone (Page p) e = absurd (false≢true e)
pio-alone (Clean f) e = absurd (false≢true e)
pio-alone Checkpoint e = absurd (false≢true e)

pub aio-alone : (r : IoRequest) → is_taker Aio r ≡ true → (is_taker Lio r ≡ false) × (is_taker Pio r ≡ false)
aio-alone LogFlush e = absurd (false≢true e)
aio-alone ClearFile e = absurd (false≢true e)
aio-alone PhysFlush e = absurd (false≢true e)
aio-alone (Page p) e = (refl, refl)
aio-alone (Clean f) e = (refl, refl)
aio-alone Checkpoint e = (refl, refl)

-- what `take` leaves, of a queue with a request and of one without
pub next-own : (m n : Marks) (class : Class) (q q' : List IoRequest) (o : Option IoRequest) → IsMarked m class q → o ≡ slice_get q 0 → q' ≡ drop 1 q → MatchOption o (n ≡ m) (λ r. Sets m n r false) → IsMarked n class q'
next-own m n class [] q' o k e rest t =
    let same : n ≡ m = subst (λ (x : Option IoRequest). MatchOption x (n ≡ m) (λ r. Sets m n r false)) e t in
    subst (λ (x : Marks). IsMarked x class q') (sym same) (subst (IsMarked m class) (sym rest) k)
next-own m n class (r ∷ q) q' o k e rest t =
    let sets : Sets m n r false = subst (λ (x : Option IoRequest). MatchOption x (n ≡ m) (λ r. Sets m n r false)) e t in
    subst (IsMarked n class) (sym rest) (own-taken m n class r q k sets)

pub next-other : (m n : Marks) (class d : Class) (q other : List IoRequest) (o : Option IoRequest) → IsMarked m class q → IsMarked m d other → ((r : IoRequest) → is_taker class r ≡ true → is_taker d r ≡ false) → o ≡ slice_get q 0 → MatchOption o (n ≡ m) (λ r. Sets m n r false) → IsMarked n d other
next-other m n class d [] other o k kd alone e t =
    let same : n ≡ m = subst (λ (x : Option IoRequest). MatchOption x (n ≡ m) (λ r. Sets m n r false)) e t in
    subst (λ (x : Marks). IsMarked x d other) (sym same) kd
next-other m n class d (r ∷ q) other o k kd alone e t =
    let sets : Sets m n r false = subst (λ (x : Option IoRequest). MatchOption x (n ≡ m) (λ r. Sets m n r false)) e t in
    other-set m n d other r false kd (alone r (and_parts (is_taker class r) (mark m r) (head-marked m class r q k)).0) sets

pub next-size : (m n : Marks) (o : Option IoRequest) → MatchOption o (n ≡ m) (λ r. Sets m n r false) → (length n.pages.items ≡ length m.pages.items) × (length n.frames.items ≡ length m.frames.items)
next-size m n None t = (ap (λ (x : Marks). length x.pages.items) t, ap (λ (x : Marks). length x.frames.items) t)
next-size m n (Some r) t = (t.pages, t.frames)

-- there is room for a request that is not queued
pub marked-lt : (m : Marks) (class : Class) (r : IoRequest) → IsThere m r → is_taker class r ≡ true → mark m r ≡ false → marked m class < limit m class
marked-lt m Cpu r th t none = absurd (false≢true t)
marked-lt m Lio r th t none = lio r t none
  where
    at_most : (b : Bool) → one_if b ≤ 1
    at_most true = omega arith
    at_most false = omega arith

    lio : (r : IoRequest) → is_taker Lio r ≡ true → mark m r ≡ false → one_if m.log_flush + one_if m.clear_file < 2
    lio LogFlush t e = omega (arith, ap one_if e, at_most m.clear_file)
    lio ClearFile t e = omega (arith, ap one_if e, at_most m.log_flush)
    lio PhysFlush t e = absurd (false≢true t)
    lio (Page p) t e = absurd (false≢true t)
    lio (Clean f) t e = absurd (false≢true t)
    lio Checkpoint t e = absurd (false≢true t)
marked-lt m Pio r th t none = pio r t none
  where
    pio : (r : IoRequest) → is_taker Pio r ≡ true → mark m r ≡ false → one_if m.phys_flush < 1
    pio PhysFlush t e = omega (arith, ap one_if e)
    pio LogFlush t e = absurd (false≢true t)
    pio ClearFile t e = absurd (false≢true t)
    pio (Page p) t e = absurd (false≢true t)
    pio (Clean f) t e = absurd (false≢true t)
    pio Checkpoint t e = absurd (false≢true t)
marked-lt m Aio r th t none = aio r th t none
  where
    at_most : (b : Bool) → one_if b ≤ 1
    at_most true = omega arith
    at_most false = omega arith

    most : (xs : List Bool) → sum_by one_if xs ≤ length xs
    most xs = omega (arith, sum_by-le one_if 1 xs (λ k d h. at_most (get_or xs k d)))

    less : (xs : List Bool) (k : ℕ) → k < length xs → get_or xs k false ≡ false → sum_by one_if xs < length xs
    less xs k h e = omega (arith, sum_by-set one_if xs k true false h, ap one_if e, most (set xs k true), length-set xs k true)

    aio : (r : IoRequest) → IsThere m r → is_taker Aio r ≡ true → mark m r ≡ false → marked m Aio < limit m Aio
    aio (Page zero) th t e = absurd (omega (arith, th.0))
    aio (Page (suc k)) th t e = omega (arith, less m.pages.items k (omega (arith, th.1)) e, most m.frames.items, at_most m.checkpoint)
    aio (Clean f) th t e = omega (arith, less m.frames.items f th e, most m.pages.items, at_most m.checkpoint)
    aio Checkpoint th t e = omega (arith, most m.frames.items, most m.pages.items, ap one_if e)
    aio LogFlush th t e = absurd (false≢true t)
    aio ClearFile th t e = absurd (false≢true t)
    aio PhysFlush th t e = absurd (false≢true t)

pub there-in-range : (a : Inside) (r : IoRequest) → IsInRange (asked_of a) r → IsThere a.marks r
there-in-range a LogFlush h = tt
there-in-range a ClearFile h = tt
there-in-range a PhysFlush h = tt
there-in-range a (Page p) h = h
there-in-range a (Clean f) h = h
there-in-range a Checkpoint h = tt

-- the marks and queues that are made
false-at : (n k : ℕ) → get_or (replicate n false) k false ≡ false
false-at zero k = refl
false-at (suc n) zero = refl
false-at (suc n) (suc k) = false-at n k

none-sum : (n : ℕ) → sum_by one_if (replicate n false) ≡ 0
none-sum zero = refl
none-sum (suc n) = omega (arith, sum_by-cons one_if false (replicate n false), none-sum n)

pub new-marked : (m : Marks) (pages frames : ℕ) (class : Class) (q : List IoRequest) → no_marks m pages frames → q ≡ [] → IsMarked m class q
new-marked m pages frames class q none e = subst (IsMarked m class) (sym e) (record {
  once = λ r. sym (ap (λ (b : Bool). one_if (is_taker class r && b)) (unmarked r) ∙ one_if-and-false (is_taker class r));
  len = sym (count class);
})
  where
    unmarked : (r : IoRequest) → mark m r ≡ false
    unmarked LogFlush = none.0
    unmarked ClearFile = none.1
    unmarked PhysFlush = none.2
    unmarked (Page zero) = refl
    unmarked (Page (suc k)) = ap (λ (xs : List Bool). get_or xs k false) none.4 ∙ false-at pages k
    unmarked (Clean f) = ap (λ (xs : List Bool). get_or xs f false) none.5 ∙ false-at frames f
    unmarked Checkpoint = none.3

    count : (class : Class) → marked m class ≡ 0
    count Cpu = refl
    count Lio = omega (arith, ap one_if none.0, ap one_if none.1)
    count Pio = ap one_if none.2
    count Aio = omega (arith, ap one_if none.3, ap (sum_by one_if) none.4, ap (sum_by one_if) none.5, none-sum pages, none-sum frames)

pub new-size : (m : Marks) (pages frames : ℕ) → no_marks m pages frames → (length m.pages.items ≡ pages) × (length m.frames.items ≡ frames)
new-size m pages frames none = (ap length none.4 ∙ length-replicate pages false, ap length none.5 ∙ length-replicate frames false)
