-- Where the lists and blocks have a thread, and what they and the limits say of it.
use Rattle.std.proofs.Common.{◌≡◌, ◌∙◌, ℕ, zero, suc, ◌<◌, true, List, [], ◌∷◌, length, map, refl, ap, sym, subst, arith, Option, Some, None, IfSome, IfNone}
use Rattle.std.specs.List.{slice_get}
use Rattle.link_lists.specs.Lists.{Lists, list_at, home_at, id_count, has}
use Rattle.thread_queues.specs.declared.event.Due.{Due}
use Rattle.thread_queues.specs.declared.event.Waiter.{Waiter}
use Rattle.thread_queues.specs.Firsts.{due_at, IsFirst}
use Rattle.thread_queues.specs.Placed.{times}
use Rattle.thread_queues.specs.Slotted.{limit_in, queue_at, threads_of, IsApart, IsFirstOf}
use Rattle.thread_queues.specs.Laid.{block_at, number_at, slotted, IsLaid}
use Rattle.thread_queues.proofs.Bucketing.{unbucketed, bucket-waits}
use Rattle.thread_queues.proofs.Ids.{times-has, has-times, get-has, has-get}
use Rattle.thread_queues.proofs.Moving.{map-lists}

module _ (al qs bu : Lists) (bs : List Waiter) (li : List (Option Due)) (id_of : ℕ → Option ℕ) (laid : IsLaid al qs bu bs li id_of) where
  some-same : (x l k : ℕ) → home_at qs x ≡ Some l → home_at qs x ≡ Some k → l ≡ k
  some-same x l k e f = cc

  none-some : (o : Option ℕ) (l : ℕ) → o ≡ None → o ≡ Some l → ⊥
  none-some o l e f = cc

  -- the queues that are seen
  pub queue-is : (q : ℕ) → queue_at (slotted al qs bs) q ≡ map (block_at bs) (list_at qs q)
  queue-is q = map-lists (map (block_at bs)) qs.lists q refl

  numbers-are : (xs : List ℕ) → threads_of (map (block_at bs) xs) ≡ map (number_at bs) xs
  numbers-are [] = refl
  numbers-are (x ∷ xs) = ap (λ (ns : List ℕ). number_at bs x ∷ ns) (numbers-are xs)

  queue-numbers : (q : ℕ) → threads_of (queue_at (slotted al qs bs) q) ≡ map (number_at bs) (list_at qs q)
  queue-numbers q = ap threads_of (queue-is q) ∙ numbers-are (list_at qs q)

  -- a thread that lives has a place
  pub live-found : (t : ℕ) → 0 < times t (slotted al qs bs).live → (x : ℕ) × (id_of t ≡ Some x) × (home_at al x ≡ Some 0) × (number_at bs x ≡ t)
  live-found t h = let s = has-times (number_at bs) (list_at al 0) t h in let home = (laid.alive_sound.home 0 s.0).1 s.1 in (s.0, (laid.found t s.0).1 (home, s.2), home, s.2)

  -- one that stands in no queue has a place that stands in none
  pub apart-free : (t x : ℕ) → IsApart (slotted al qs bs) t → number_at bs x ≡ t → home_at qs x ≡ None
  apart-free t x apart number = elim (home_at qs x) as (λ (o : Option ℕ). home_at qs x ≡ o → o ≡ None) [
    | None ↦ (λ e. refl)
    | Some q ↦ (λ e. let h = (laid.queues_sound.home q x).0 e in
        let some : 0 < times (number_at bs x) (map (number_at bs) (list_at qs q)) = times-has (number_at bs) (list_at qs q) x h in
        let none : times t (map (number_at bs) (list_at qs q)) ≡ 0 = ap (times t) (sym (queue-numbers q)) ∙ apart q in
        let same : times (number_at bs x) (map (number_at bs) (list_at qs q)) ≡ times t (map (number_at bs) (list_at qs q)) = ap (λ (n : ℕ). times n (map (number_at bs) (list_at qs q))) number in
        absurd (omega (arith, some, none, same)))
  ] refl

  -- one that stands in a queue has a place there
  pub queue-found : (q t : ℕ) → 0 < times t (threads_of (queue_at (slotted al qs bs) q)) → (x : ℕ) × (id_of t ≡ Some x) × (home_at qs x ≡ Some q) × (number_at bs x ≡ t)
  queue-found q t h =
      let s = has-times (number_at bs) (list_at qs q) t (subst (λ (ns : List ℕ). 0 < times t ns) (queue-numbers q) h) in
      let home = (laid.queues_sound.home q s.0).1 s.1 in
      (s.0, (laid.found t s.0).1 (laid.lives s.0 q home, s.2), home, s.2)

  -- where the place of a thread that lives is found
  pub live-places : (x : ℕ) → home_at al x ≡ Some 0 → (x < id_count qs) × (x < id_count bu) × (x < length bs) × (x < length li)
  live-places x home = let t = (laid.alive_sound.there 0 x home).1 in (omega (arith, t, laid.room.queue_room.0), omega (arith, t, laid.room.bucket_room.0), omega (arith, t, laid.room.block_room.0), omega (arith, t, laid.room.limit_room.0))

  -- where the place of a thread in a queue is found, and that of one in a bucket
  pub queue-places : (q x : ℕ) → has x (list_at qs q) ≡ true → (x < id_count bu) × (x < length bs)
  queue-places q x h = let p = live-places x (laid.lives x q ((laid.queues_sound.home q x).1 h)) in (p.1, p.2)

  pub bucket-places : (b x : ℕ) → has x (list_at bu b) ≡ true → x < length bs
  bucket-places b x h = (live-places x (laid.lives x 4 (bucket-waits qs bu bs laid.queues_sound laid.bucketed b x h))).2

  -- a thread that lives and stands in no queue has a place, which no list but that of the live ones has
  pub record IsFreeAt (t x : ℕ) : Type 0 where
    pub live : home_at al x ≡ Some 0
    pub number : number_at bs x ≡ t
    pub free : home_at qs x ≡ None
    pub unbucketed : home_at bu x ≡ None
    pub in_queues : x < id_count qs
    pub in_buckets : x < id_count bu
    pub in_blocks : x < length bs
    pub in_limits : x < length li

  pub free-at : (t x : ℕ) → id_of t ≡ Some x → IsApart (slotted al qs bs) t → IsFreeAt t x
  free-at t x e apart =
      let f = (laid.found t x).0 e in
      let p = live-places x f.0 in
      let free = apart-free t x apart f.1 in
      record { live = f.0; number = f.1; free = free; unbucketed = unbucketed qs bu bs laid.queues_sound laid.bucketed x free; in_queues = p.0; in_buckets = p.1; in_blocks = p.2; in_limits = p.3 }

  -- a thread that stands in a queue has a place there
  pub record IsPlacedAt (q t x : ℕ) : Type 0 where
    pub number : number_at bs x ≡ t
    pub here : home_at qs x ≡ Some q
    pub in_buckets : x < id_count bu
    pub in_blocks : x < length bs
    pub in_limits : x < length li

  pub placed-at : (q t x : ℕ) → id_of t ≡ Some x → 0 < times t (threads_of (queue_at (slotted al qs bs) q)) → IsPlacedAt q t x
  placed-at q t x e some =
      let s = queue-found q t some in
      let same : s.0 ≡ x = one-id s.0 x (sym s.1 ∙ e) in
      let here : home_at qs x ≡ Some q = ap (home_at qs) (sym same) ∙ s.2 in
      let p = live-places x (laid.lives x q here) in
      record { number = ap (number_at bs) (sym same) ∙ s.3; here = here; in_buckets = p.1; in_blocks = p.2; in_limits = p.3 }
    where
      one-id : (m n : ℕ) → Some m ≡ Some n → m ≡ n
      one-id m n e = cc

  -- a thread lives exactly where it is found, and stands in a queue exactly where its place does
  pub live-told : (t x : ℕ) → id_of t ≡ Some x → 0 < times t (slotted al qs bs).live
  live-told t x e = let f = (laid.found t x).0 e in subst (λ (n : ℕ). 0 < times n (map (number_at bs) (list_at al 0))) f.1 (times-has (number_at bs) (list_at al 0) x ((laid.alive_sound.home 0 x).0 f.0))

  pub queue-told : (q t x : ℕ) → id_of t ≡ Some x → home_at qs x ≡ Some q → 0 < times t (threads_of (queue_at (slotted al qs bs) q))
  queue-told q t x e home = let f = (laid.found t x).0 e in
      subst (λ (ns : List ℕ). 0 < times t ns) (sym (queue-numbers q)) (subst (λ (n : ℕ). 0 < times n (map (number_at bs) (list_at qs q))) f.1 (times-has (number_at bs) (list_at qs q) x ((laid.queues_sound.home q x).0 home)))

  pub queue-home : (q t x : ℕ) → id_of t ≡ Some x → 0 < times t (threads_of (queue_at (slotted al qs bs) q)) → home_at qs x ≡ Some q
  queue-home q t x e some = (placed-at q t x e some).here

  -- a thread that is not found stands in no queue, and neither does one whose place does
  zero-unless : (n : ℕ) → (0 < n → ⊥) → n ≡ 0
  zero-unless zero h = refl
  zero-unless (suc n) h = absurd (h (omega arith))

  pub lost-apart : (t : ℕ) → id_of t ≡ None → IsApart (slotted al qs bs) t
  lost-apart t e q = zero-unless (times t (threads_of (queue_at (slotted al qs bs) q))) (λ h. let s = queue-found q t h in none-some (id_of t) s.0 e s.1)

  pub home-told : (t x : ℕ) (o : Option ℕ) → id_of t ≡ Some x → o ≡ home_at qs x → IfSome o (λ q. 0 < times t (threads_of (queue_at (slotted al qs bs) q))) × IfNone o (IsApart (slotted al qs bs) t)
  home-told t x None e home = (tt, λ q. zero-unless (times t (threads_of (queue_at (slotted al qs bs) q))) (λ h. none-some (home_at qs x) q (sym home) (queue-home q t x e h)))
  home-told t x (Some q) e home = (queue-told q t x e (sym home), tt)

  -- the first limit of all places is that of the first due thread in a queue
  pub first-shown : (first : Option Due) → IsFirst li first → IsFirstOf (slotted al qs bs) first
  first-shown first i = record {
    among = λ d e. let s = i.among d e in by-home s.0 d s.1 (home_at qs s.0) refl;
    behind = λ q k w d get is.
        let g = has-get (block_at bs) (list_at qs q) k w (ap (λ (ws : List Waiter). slice_get ws k) (sym (queue-is q)) ∙ get) in
        i.behind g.0 d (laid.limited g.0 ∙ ap (λ (o : Option ℕ). limit_in o (block_at bs g.0)) ((laid.queues_sound.home q g.0).1 g.1) ∙ ap (limit_in (Some q)) g.2 ∙ is);
  }
    where
      by-home : (x : ℕ) (d : Due) → due_at li x ≡ Some d → (o : Option ℕ) → home_at qs x ≡ o → (q : ℕ) × (k : ℕ) × (w : Waiter) × (slice_get (queue_at (slotted al qs bs) q) k ≡ Some w) × (limit_in (Some q) w ≡ Some d)
      by-home x d is None e = clash (sym (laid.limited x ∙ ap (λ (o : Option ℕ). limit_in o (block_at bs x)) e) ∙ is)
        where
          clash : {A : Type 0} → None ≡ Some d → A
          clash k = cc
      by-home x d is (Some q) e =
          let g = get-has (block_at bs) (list_at qs q) x ((laid.queues_sound.home q x).0 e) in
          (q, g.0, block_at bs x, ap (λ (ws : List Waiter). slice_get ws g.0) (queue-is q) ∙ g.1, sym (laid.limited x ∙ ap (λ (o : Option ℕ). limit_in o (block_at bs x)) e) ∙ is)
