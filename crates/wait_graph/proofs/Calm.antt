-- Lines that lose waiters and give them locks: what was before stays, and who has its lock waits no more.
use Rattle.std.proofs.Common.{◌≡◌, ◌∙◌, sym, ap, subst, refl, ℕ, zero, suc, Bool, true, false, cond, ◌||◌, not, List, [], ◌∷◌, ◌++◌, length, Option, Some, None, ◌⊎◌, inl, inr, arith}
use Rattle.std.specs.List.{Contains, filter}
use Rattle.std.specs.Option.{option_map_or}
use Rattle.std.proofs.lemmas.List.Elements.{Contains-append_left, Contains-append_right, Contains-append_cases}
use Rattle.std.proofs.lemmas.Bool.Decides.{Decides-eqb}
use Rattle.ids_base.specs.declared.lock.LockEntry.{LockEntry}
use Rattle.ids_base.specs.declared.lock.LockName.{LockName}
use Rattle.lock_table.specs.Table.{Table, Line, Place, line, holders, queue, is_of, has_thread, first_free, without_thread, with_grant, grant_up_to, settled, Becomes, WaitsNowhere}
use Rattle.lock_table.specs.Requests.{unqueued, unheld, taken, withdrawn, released, all_released}
use Rattle.lock_table.specs.Sound.{Apart, same_thread, IsLoose, IsSound}
use Rattle.lock_table.proofs.Filters.{apart-right}
use Rattle.lock_table.proofs.Grants.{same-name-or}
use Rattle.lock_table.proofs.Names.{thread-turned}
use Rattle.lock_table.proofs.Searching.{any-append}
use Rattle.lock_table.proofs.Settling.{apart-left, free-waits, grant-loose, settled-ok, unheld-loose, unqueued-loose}
use Rattle.lock_table.proofs.Waiters.{found}
use Rattle.wait_graph.specs.Laws.{HasNoCycle}
use Rattle.wait_graph.specs.Queued.{WaitsSomewhere}
use Rattle.wait_graph.proofs.Named.{has-stands}
use Rattle.wait_graph.proofs.Places.{at-parts}
use Rattle.wait_graph.proofs.Standing.{has-place}
use Rattle.wait_graph.proofs.Turning.{cycle-onward}

-- ---- elements
pub first-or : (x e : LockEntry) (xs : List LockEntry) → Contains (x ∷ xs) e → (x ≡ e) ⊎ Contains xs e
first-or x e xs c = elim (Contains-append_cases (x ∷ []) xs e c) as (λ v. (x ≡ e) ⊎ Contains xs e) [ inl a ↦ inl (only x e a) | inr b ↦ inr b ]
  where
    only : (x e : LockEntry) → Contains (x ∷ []) e → x ≡ e
    only x e (zero, lt, is) = is
    only x e (suc k, lt, is) = absurd (omega (arith, lt))

pub is-first : (x e : LockEntry) (xs : List LockEntry) → x ≡ e → Contains (x ∷ xs) e
is-first x e xs is = (0, omega arith, is)

pub is-later : (x e : LockEntry) (xs : List LockEntry) → Contains xs e → Contains (x ∷ xs) e
is-later x e xs c = Contains-append_right (x ∷ []) xs e c

none-in : (e : LockEntry) → Contains [] e → ⊥
none-in e c = let l = c.1 in omega (arith, l)

pub filter-in : (p : LockEntry → Bool) (e : LockEntry) (xs : List LockEntry) → Contains (filter p xs) e → Contains xs e
filter-in p e [] c = c
filter-in p e (x ∷ xs) c = by-test (p x) c (λ k. filter-in p e xs k)
  where
    by-test : (b : Bool) → Contains (cond b (x ∷ filter p xs) (filter p xs)) e → (Contains (filter p xs) e → Contains xs e) → Contains (x ∷ xs) e
    by-test true c more = elim (first-or x e (filter p xs) c) as (λ v. Contains (x ∷ xs) e) [ inl a ↦ is-first x e xs a | inr b ↦ is-later x e xs (more b) ]
    by-test false c more = is-later x e xs (more c)

-- ---- w stands in the queue, with all of these before it
pub record StandsBehind (waiting : List LockEntry) (w : LockEntry) (before : List LockEntry) : Type 0 where
  pub earlier : List LockEntry
  pub later : List LockEntry
  pub stands : waiting ≡ earlier ++ w ∷ later
  pub all : (e : LockEntry) → Contains before e → Contains earlier e

-- each waiter of the new queue stands in the old one, behind all that it stands behind in the new one
abbrev pub KeepsOrder : List LockEntry → List LockEntry → Type 0
KeepsOrder old new = (before : List LockEntry) (w : LockEntry) (after : List LockEntry) → new ≡ before ++ w ∷ after → StandsBehind old w before

pub order-same : (q : List LockEntry) → KeepsOrder q q
order-same q before w after is = record { earlier = before; later = after; stands = is; all = λ e c. c }

pub order-then : (a b c : List LockEntry) → KeepsOrder a b → KeepsOrder b c → KeepsOrder a c
order-then a b c f g before w after is =
    let s = g before w after is in
    let r = f s.earlier w s.later s.stands in
    record { earlier = r.earlier; later = r.later; stands = r.stands; all = λ e k. r.all e (s.all e k) }

order-later : (y : LockEntry) (old new : List LockEntry) → KeepsOrder old new → KeepsOrder (y ∷ old) new
order-later y old new f before w after is =
    let s = f before w after is in
    record { earlier = y ∷ s.earlier; later = s.later; stands = ap (λ v. y ∷ v) s.stands; all = λ e c. is-later y e s.earlier (s.all e c) }

order-cons : (y : LockEntry) (old new : List LockEntry) → KeepsOrder old new → KeepsOrder (y ∷ old) (y ∷ new)
order-cons y old new f [] w after is =
    let same : y ≡ w = cc in
    record { earlier = []; later = old; stands = ap (λ v. v ∷ old) same; all = λ e c. c }
order-cons y old new f (b ∷ before) w after is =
    let same : y ≡ b = cc in
    let rest : new ≡ before ++ w ∷ after = cc in
    let s = f before w after rest in
    record {
      earlier = y ∷ s.earlier;
      later = s.later;
      stands = ap (λ v. y ∷ v) s.stands;
      all = λ e c. elim (first-or b e before c) as (λ v. Contains (y ∷ s.earlier) e) [ inl k ↦ is-first y e s.earlier (same ∙ k) | inr k ↦ is-later y e s.earlier (s.all e k) ];
    }

pub order-filter : (p : LockEntry → Bool) (xs : List LockEntry) → KeepsOrder xs (filter p xs)
order-filter p [] = order-same []
order-filter p (x ∷ xs) = by-test (p x) (order-filter p xs)
  where
    by-test : (b : Bool) → KeepsOrder xs (filter p xs) → KeepsOrder (x ∷ xs) (cond b (x ∷ filter p xs) (filter p xs))
    by-test true f = order-cons x xs (filter p xs) f
    by-test false f = order-later x xs (filter p xs) f

order-out : (xs : List LockEntry) (w : LockEntry) (ys : List LockEntry) → KeepsOrder (xs ++ w ∷ ys) (xs ++ ys)
order-out [] w ys = order-later w ys ys (order-same ys)
order-out (x ∷ xs) w ys = order-cons x (xs ++ w ∷ ys) (xs ++ ys) (order-out xs w ys)

pub order-has : (old new : List LockEntry) → KeepsOrder old new → (a : ℕ) → has_thread a new ≡ true → has_thread a old ≡ true
order-has old new f a h =
    let p = has-place a new h in
    let at = at-parts new p.place p.entry p.there in
    let s = f at.before p.entry at.after at.stands in
    ap (has_thread a) s.stands ∙ has-stands a s.earlier p.entry s.later p.of_a

-- ---- lines
-- the thread waits for this name no more, and for no other
pub record IsLet (t : Table) (old new : Line) (a : ℕ) : Type 0 where
  pub gone : has_thread a new.queue ≡ false
  pub once : WaitsNowhere t a ⊎ (has_thread a old.queue ≡ true)

-- waiters keep their order, and a new holder is of a thread that waits no more
pub record IsCalmer (t : Table) (old new : Line) : Type 0 where
  pub queue : KeepsOrder old.queue new.queue
  pub holders : (e : LockEntry) → Contains new.holders e → Contains old.holders e ⊎ IsLet t old new e.thread

pub calm-same : (t : Table) (l : Line) → IsCalmer t l l
calm-same t l = record { queue = order-same l.queue; holders = λ e c. inl c }

not-true : (b : Bool) → (b ≡ true → ⊥) → b ≡ false
not-true true f = absurd (f refl)
not-true false f = refl

pub calm-then : (t : Table) (a b c : Line) → IsCalmer t a b → IsCalmer t b c → IsCalmer t a c
calm-then t a b c f g = record {
  queue = order-then a.queue b.queue c.queue f.queue g.queue;
  holders = λ e k. elim (g.holders e k) as (λ v. Contains a.holders e ⊎ IsLet t a c e.thread) [
    | inl h ↦ elim (f.holders e h) as (λ v. Contains a.holders e ⊎ IsLet t a c e.thread) [
      | inl o ↦ inl o
      | inr l ↦ inr (record { gone = not-true _ (λ q. let y = order-has b.queue c.queue g.queue e.thread q in let n = l.gone in cc); once = l.once })
    ]
    | inr l ↦ inr (record {
      gone = l.gone;
      once = elim l.once as (λ v. WaitsNowhere t e.thread ⊎ (has_thread e.thread a.queue ≡ true)) [ inl n ↦ inl n | inr q ↦ inr (order-has a.queue b.queue f.queue e.thread q) ];
    })
  ];
}

of-self : (e : LockEntry) → is_of e.thread e ≡ true
of-self e = (Decides-eqb e.thread e.thread).1 refl

calm-grant : (t : Table) (l : Line) → IsLoose l → (p : Place) → first_free l.holders [] l.queue ≡ Some p → IsCalmer t l (with_grant l p)
calm-grant t l loose p is =
    let f = found l.holders [] l.queue p is in
    let once = subst (λ v. Apart same_thread v) f.stands loose.queued_once in
    let gone : has_thread p.waiter.thread (p.before ++ p.behind) ≡ false =
    any-append (is_of p.waiter.thread) p.before p.behind
    ∙ ap (λ b. b || has_thread p.waiter.thread p.behind) (apart-left same_thread thread-turned p.waiter p.before p.behind once)
    ∙ apart-right same_thread p.waiter p.before p.behind once in
    record {
      queue = subst (λ v. KeepsOrder v (p.before ++ p.behind)) (sym f.stands) (order-out p.before p.waiter p.behind);
      holders = λ e c. elim (Contains-append_cases (without_thread p.waiter.thread l.holders) (p.waiter ∷ []) e c) as (λ v. Contains l.holders e ⊎ IsLet t l (with_grant l p) e.thread) [
        | inl h ↦ inl (filter-in (λ x. not (is_of p.waiter.thread x)) e l.holders h)
        | inr h ↦ elim (first-or p.waiter e [] h) as (λ v. Contains l.holders e ⊎ IsLet t l (with_grant l p) e.thread) [
          | inl same ↦ inr (subst (λ (x : LockEntry). IsLet t l (with_grant l p) x.thread) same (record { gone = gone; once = inr (free-waits l p is) }))
          | inr none ↦ absurd (none-in e none)
        ]
      ];
    }

calm-on : (t : Table) (n : ℕ) (l : Line) (o : Option Place) → IsLoose l → first_free l.holders [] l.queue ≡ o → ((u : Line) → IsLoose u → IsCalmer t u (grant_up_to n u)) → IsCalmer t l (option_map_or (λ p. grant_up_to n (with_grant l p)) o l)
calm-on t n l None loose is more = calm-same t l
calm-on t n l (Some p) loose is more = calm-then t l (with_grant l p) (grant_up_to n (with_grant l p)) (calm-grant t l loose p is) (more (with_grant l p) (grant-loose l loose p is))

calm-granted : (t : Table) (n : ℕ) (l : Line) → IsLoose l → IsCalmer t l (grant_up_to n l)
calm-granted t zero l loose = calm-same t l
calm-granted t (suc n) l loose = calm-on t n l (first_free l.holders [] l.queue) loose refl (λ u k. calm-granted t n u k)

pub calm-settled : (t : Table) (l : Line) → IsLoose l → IsCalmer t l (settled l)
calm-settled t l loose = calm-granted t (length l.queue) l loose

calm-unqueued : (t : Table) (l : Line) (thread : ℕ) → IsCalmer t l (unqueued l thread)
calm-unqueued t l thread = record { queue = order-filter (λ e. not (is_of thread e)) l.queue; holders = λ e c. inl c }

calm-unheld : (t : Table) (l : Line) (thread : ℕ) → IsCalmer t l (unheld l thread)
calm-unheld t l thread = record { queue = order-same l.queue; holders = λ e c. inl (filter-in (λ x. not (is_of thread x)) e l.holders c) }

pub calm-withdrawn : (t : Table) (l : Line) (thread : ℕ) → IsLoose l → IsCalmer t l (withdrawn l thread)
calm-withdrawn t l thread loose = calm-then t l (unqueued l thread) (withdrawn l thread) (calm-unqueued t l thread) (calm-settled t (unqueued l thread) (unqueued-loose l thread loose))

pub calm-released : (t : Table) (l : Line) (thread : ℕ) → IsLoose l → IsCalmer t l (released l thread)
calm-released t l thread loose = calm-then t l (unheld l thread) (released l thread) (calm-unheld t l thread) (calm-settled t (unheld l thread) (unheld-loose l thread loose))

pub calm-all_released : (t : Table) (l : Line) (thread : ℕ) → IsLoose l → IsCalmer t l (all_released l thread)
calm-all_released t l thread loose =
    calm-then t l (withdrawn l thread) (all_released l thread) (calm-withdrawn t l thread loose)
    (calm-released t (withdrawn l thread) thread (settled-ok (unqueued l thread) (unqueued-loose l thread loose)).loose)

pub calm-taken : (t : Table) (name : LockName) (lock : LockEntry) → WaitsNowhere t lock.thread → IsCalmer t (line t name) (taken (line t name) lock)
calm-taken t name lock nowhere = record {
  queue = order-same (queue t name);
  holders = λ e c. elim (Contains-append_cases (without_thread lock.thread (holders t name)) (lock ∷ []) e c) as (λ v. Contains (holders t name) e ⊎ IsLet t (line t name) (taken (line t name) lock) e.thread) [
    | inl h ↦ inl (filter-in (λ x. not (is_of lock.thread x)) e (holders t name) h)
    | inr h ↦ elim (first-or lock e [] h) as (λ v. Contains (holders t name) e ⊎ IsLet t (line t name) (taken (line t name) lock) e.thread) [
      | inl same ↦ inr (subst (λ (x : LockEntry). IsLet t (line t name) (taken (line t name) lock) x.thread) same (record { gone = nowhere name; once = inl nowhere }))
      | inr none ↦ absurd (none-in e none)
    ]
  ];
}

-- ---- the whole table
pub calm-becomes : (t u : Table) (name : LockName) (l : Line) → Becomes t u name l → IsCalmer t (line t name) l → (n : LockName) → IsCalmer t (line t n) (line u n)
calm-becomes t u name l b calm n = elim (same-name-or n name) as (λ v. IsCalmer t (line t n) (line u n)) [
  | inl e ↦ subst (λ m. IsCalmer t (line t m) (line u m)) (sym e) (subst (λ v. IsCalmer t (line t name) v) (sym b.here) calm)
  | inr ne ↦ subst (λ v. IsCalmer t (line t n) v) (sym (b.others n ne)) (calm-same t (line t n))
]

module _ (t u : Table) (sound : IsSound t) (calm : (n : LockName) → IsCalmer t (line t n) (line u n)) where
  -- who waits now waited before
  waited : (b : ℕ) (n : LockName) → has_thread b (queue u n) ≡ true → has_thread b (queue t n) ≡ true
  waited b n h = order-has (queue t n) (queue u n) (calm n).queue b h

  -- a thread that waits no more for a name waits for none
  waits-not : (b : ℕ) (n m : LockName) → IsLet t (line t n) (line u n) b → has_thread b (queue u m) ≡ true → ⊥
  waits-not b n m l h = elim l.once as (λ v. ⊥) [
    | inl nowhere ↦ (let y = waited b m h in let z = nowhere m in cc)
    | inr q ↦ (let same = sound.waits_once b n m q (waited b m h) in let z = subst (λ k. has_thread b (queue u k) ≡ false) same l.gone in cc)
  ]

  onward : (a b c : ℕ) → WaitsSomewhere u (queue u) a b → WaitsSomewhere u (queue u) b c → WaitsSomewhere t (queue t) a b
  onward a b c x y =
      let w = x.waits in
      let s = (calm x.name).queue w.before w.waiter w.after w.stands in
      elim (Contains-append_cases (holders u x.name) w.before w.other w.there) as (λ v. WaitsSomewhere t (queue t) a b) [
        | inl h ↦ elim ((calm x.name).holders w.other h) as (λ v. WaitsSomewhere t (queue t) a b) [
          | inl o ↦ made x s (Contains-append_left (holders t x.name) s.earlier w.other o)
          | inr l ↦ absurd (waits-not b x.name y.name (subst (λ k. IsLet t (line t x.name) (line u x.name) k) w.of_b l)
              (ap (has_thread b) y.waits.stands ∙ has-stands b y.waits.before y.waits.waiter y.waits.after y.waits.of_a))
        ]
        | inr e ↦ made x s (Contains-append_right (holders t x.name) s.earlier w.other (s.all w.other e))
      ]
    where
      made : (x : WaitsSomewhere u (queue u) a b) (s : StandsBehind (queue t x.name) x.waits.waiter x.waits.before) → Contains (holders t x.name ++ s.earlier) x.waits.other → WaitsSomewhere t (queue t) a b
      made x s c = record {
        name = x.name;
        waits = record { waiter = x.waits.waiter; before = s.earlier; after = s.later; stands = s.stands; of_a = x.waits.of_a; other = x.waits.other; of_b = x.waits.of_b; there = c; against = x.waits.against };
      }

  pub calm-keeps : HasNoCycle t → HasNoCycle u
  calm-keeps none start threads cycle = none start threads (cycle-onward (WaitsSomewhere u (queue u)) (WaitsSomewhere t (queue t)) onward start threads cycle)
