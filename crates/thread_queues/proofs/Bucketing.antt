-- The buckets of the threads that wait: what is found in one is found among all of them, and how buckets change.
use Rattle.std.proofs.Common.{◌≡◌, ◌∙◌, ℕ, ◌+◌, ◌-◌, ◌%◌, ◌==◌, Bool, true, false, cond, List, [], ◌∷◌, ◌++◌, map, refl, ap, sym, subst, inl, inr, append_assoc, Option, Some, None, option_map}
use Rattle.std.specs.List.{filter, find, slice_get}
use Rattle.std.proofs.lemmas.Bool.{eqb-true, cases_eq, eq-eqb, ne_eqb}
use Rattle.link_lists.specs.Lists.{Lists, list_at, home_at, list_count, ListBecomes, has, IsSound}
use Rattle.link_lists.proofs.Members.{has-cons, has-first, has-later}
use Rattle.thread_queues.specs.declared.event.Event.{Event}
use Rattle.thread_queues.specs.declared.event.Event.TheVariants.{Lock, Latch, Page, LogFlush, PhysFlush, LogSpace, Checkpoint, Critical, Cleaning}
use Rattle.thread_queues.specs.declared.event.Waiter.{Waiter}
use Rattle.thread_queues.specs.Events.{is_event}
use Rattle.thread_queues.specs.Laid.{block_at, bucket_of, IsBucketed}
use Rattle.thread_queues.specs.Orders.{counts}
use Rattle.thread_queues.specs.Slotted.{threads_of}
use Rattle.thread_queues.proofs.Ids.{filter-same}

-- one event has one bucket
pub same-bucket : (n : ℕ) (d e : Event) → is_event d e ≡ true → bucket_of n d ≡ bucket_of n e
same-bucket n Lock Lock h = refl
same-bucket n (Latch f) (Latch g) h = ap (λ (k : ℕ). 7 + k % (n - 7)) (eqb-true f g h)
same-bucket n (Page p) (Page q) h = ap (λ (k : ℕ). 7 + k % (n - 7)) (eqb-true p q h)
same-bucket n LogFlush LogFlush h = refl
same-bucket n PhysFlush PhysFlush h = refl
same-bucket n LogSpace LogSpace h = refl
same-bucket n Checkpoint Checkpoint h = refl
same-bucket n Critical Critical h = refl
same-bucket n Cleaning Cleaning h = refl
same-bucket n d e h = cc

-- a test that implies the one of a filter lets the same pass after it
pub filter-filter : {X : Type 0} (f : ℕ → X) (p : X → Bool) (q : ℕ → Bool) (xs : List ℕ) → ((x : ℕ) → p (f x) ≡ true → q x ≡ true) → filter p (map f (filter q xs)) ≡ filter p (map f xs)
filter-filter f p q [] h = refl
filter-filter {X} f p q (x ∷ xs) h = by-tests (q x) (p (f x)) refl refl (filter-filter f p q xs h)
  where
    by-tests : (b c : Bool) → q x ≡ b → p (f x) ≡ c → filter p (map f (filter q xs)) ≡ filter p (map f xs) → filter p (map f (cond (q x) (x ∷ filter q xs) (filter q xs))) ≡ cond (p (f x)) (f x ∷ filter p (map f xs)) (filter p (map f xs))
    by-tests true c e d rest = ap (λ (b : Bool). filter p (map f (cond b (x ∷ filter q xs) (filter q xs)))) e ∙ ap (λ (ys : List X). cond (p (f x)) (f x ∷ ys) ys) rest
    by-tests false true e d rest = clash (sym e ∙ h x d)
      where
        clash : {A : Type 0} → false ≡ true → A
        clash k = cc
    by-tests false false e d rest = ap (λ (b : Bool). filter p (map f (cond b (x ∷ filter q xs) (filter q xs)))) e ∙ rest ∙ sym (ap (λ (b : Bool). cond b (f x ∷ filter p (map f xs)) (filter p (map f xs))) d)

-- where no event is named, all count
pub all-count : (ws : List Waiter) → filter (counts None) ws ≡ ws
all-count [] = refl
all-count (w ∷ ws) = ap (λ (vs : List Waiter). w ∷ vs) (all-count ws)

-- the first of those that pass is the one that is found
pub first-passing : (p : Waiter → Bool) (ws : List Waiter) → slice_get (threads_of (filter p ws)) 0 ≡ option_map (λ w. w.thread) (find p ws)
first-passing p [] = refl
first-passing p (w ∷ ws) = by-test (p w) (first-passing p ws)
  where
    by-test : (b : Bool) → slice_get (threads_of (filter p ws)) 0 ≡ option_map (λ w. w.thread) (find p ws) → slice_get (threads_of (cond b (w ∷ filter p ws) (filter p ws))) 0 ≡ option_map (λ w. w.thread) (cond b (Some w) (find p ws))
    by-test true rest = refl
    by-test false rest = rest

-- what passes a test was there
pub filter-has : (p : ℕ → Bool) (x : ℕ) (xs : List ℕ) → has x (filter p xs) ≡ true → has x xs ≡ true
filter-has p x [] h = h
filter-has p x (y ∷ ys) h = by-test (p y) h (filter-has p x ys)
  where
    by-test : (b : Bool) → has x (cond b (y ∷ filter p ys) (filter p ys)) ≡ true → (has x (filter p ys) ≡ true → has x ys ≡ true) → has x (y ∷ ys) ≡ true
    by-test true k rest = elim (has-cons x y (filter p ys) k) [
      | inl e ↦ subst (λ (z : ℕ). has z (y ∷ ys) ≡ true) e (has-first y ys)
      | inr r ↦ has-later x y ys (rest r)
    ]
    by-test false k rest = has-later x y ys (rest k)

-- one goes over from those that are left to those that were met
pub one-over : (p : ℕ → Bool) (x : ℕ) (met left : List ℕ) → cond (p x) (met ++ x ∷ []) met ++ filter p left ≡ met ++ filter p (x ∷ left)
one-over p x met left = by-test (p x)
  where
    by-test : (b : Bool) → cond b (met ++ x ∷ []) met ++ filter p left ≡ met ++ cond b (x ∷ filter p left) (filter p left)
    by-test true = append_assoc met (x ∷ []) (filter p left)
    by-test false = refl

-- nothing has a home where all lists are empty
pub idle-home : (v : Lists) → IsSound v → ((l : ℕ) → list_at v l ≡ []) → (x : ℕ) → home_at v x ≡ None
idle-home v sound empty x = elim (home_at v x) as (λ (o : Option ℕ). home_at v x ≡ o → o ≡ None) [
  | None ↦ (λ e. refl)
  | Some l ↦ (λ e. absurd (none-has (subst (λ (ids : List ℕ). has x ids ≡ true) (empty l) ((sound.home l x).0 e))))
] refl
  where
    none-has : false ≡ true → ⊥
    none-has e = cc

-- one more at the end of a list, seen at each list
pub pushed-lists : (old new : Lists) (l x : ℕ) → ListBecomes old new l (list_at old l ++ x ∷ []) → (k : ℕ) → list_at new k ≡ cond (l == k) (list_at old k ++ x ∷ []) (list_at old k)
pushed-lists old new l x becomes k = elim (cases_eq l k) [
  | inl e ↦ subst (λ (j : ℕ). list_at new j ≡ list_at old j ++ x ∷ []) e becomes.this ∙ sym (ap (λ (b : Bool). cond b (list_at old k ++ x ∷ []) (list_at old k)) (eq-eqb l k e))
  | inr ne ↦ becomes.others k (λ e. ne (sym e)) ∙ sym (ap (λ (b : Bool). cond b (list_at old k ++ x ∷ []) (list_at old k)) (ne_eqb l k ne))
]

module _ (qs bu : Lists) (bs : List Waiter) (queues_sound : IsSound qs) (bucketed : IsBucketed qs bu bs) where
  -- a place that is in a bucket waits
  pub bucket-waits : (b x : ℕ) → has x (list_at bu b) ≡ true → home_at qs x ≡ Some 4
  bucket-waits b x h = (queues_sound.home 4 x).1 (filter-has (λ y. bucket_of (list_count bu) (block_at bs y).event == b) x (list_at qs 4) (subst (λ (ids : List ℕ). has x ids ≡ true) (bucketed.waiting b) h))

  -- a place that is in no queue is in no bucket
  pub unbucketed : (x : ℕ) → home_at qs x ≡ None → home_at bu x ≡ None
  unbucketed x free = elim (home_at bu x) as (λ (o : Option ℕ). home_at bu x ≡ o → o ≡ None) [
    | None ↦ (λ e. refl)
    | Some b ↦ (λ e. absurd (none-some free (bucket-waits b x ((bucketed.sound.home b x).0 e))))
  ] refl
    where
      none-some : {o : Option ℕ} {l : ℕ} → o ≡ None → o ≡ Some l → ⊥
      none-some e f = cc

  -- other queues and blocks that have the same where threads wait
  pub still-bucketed : (qs' : Lists) (bs' : List Waiter) → list_at qs' 4 ≡ list_at qs 4 → ((x : ℕ) → has x (list_at qs 4) ≡ true → block_at bs' x ≡ block_at bs x) → IsBucketed qs' bu bs'
  still-bucketed qs' bs' queue blocks = record {
    sound = bucketed.sound;
    wide = bucketed.wide;
    many = bucketed.many;
    waiting = λ b. bucketed.waiting b
        ∙ sym (filter-same (λ x. bucket_of (list_count bu) (block_at bs' x).event == b) (λ x. bucket_of (list_count bu) (block_at bs x).event == b) (list_at qs 4) (λ x h. ap (λ (w : Waiter). bucket_of (list_count bu) w.event == b) (blocks x h)))
        ∙ ap (filter (λ x. bucket_of (list_count bu) (block_at bs' x).event == b)) (sym queue);
  }
