-- A request that waits: each new edge has its thread at one end.
use Rattle.std.proofs.Common.{◌≡◌, ◌≢◌, ◌∙◌, sym, ap, subst, refl, ℕ, Bool, true, false, cond, List, [], ◌∷◌, ◌++◌, ◌⊎◌, inl, inr}
use Rattle.std.specs.List.{Contains}
use Rattle.std.proofs.lemmas.List.Elements.{Contains-append_left, Contains-append_right, Contains-append_cases}
use Rattle.ids_base.specs.declared.lock.LockEntry.{LockEntry}
use Rattle.ids_base.specs.declared.lock.LockName.{LockName}
use Rattle.ids_base.specs.LockNames.{is_same_name}
use Rattle.ids_base.specs.Waits.{WaitsFor, WaitInTurn}
use Rattle.link_lists.specs.Lists.{has}
use Rattle.link_lists.proofs.Members.{has-first, has-later, parts-at}
use Rattle.lock_table.specs.Table.{Table, Line, line, holders, queue, Becomes}
use Rattle.lock_table.specs.Requests.{queued, put_first, is_overtaken}
use Rattle.lock_table.proofs.Grants.{same-name-or}
use Rattle.wait_graph.specs.Cycles.{IsCycle}
use Rattle.wait_graph.specs.Laws.{HasNoCycle}
use Rattle.wait_graph.specs.Queued.{WaitsSomewhere, queue_with}
use Rattle.wait_graph.proofs.Calm.{first-or, is-first, is-later}
use Rattle.wait_graph.proofs.Edges.{cycle-mapped}
use Rattle.wait_graph.proofs.Named.{names-told}
use Rattle.wait_graph.proofs.Turning.{turned}

-- w stands in the queue without r, with all but r before it
abbrev StandsBut : List LockEntry → LockEntry → LockEntry → List LockEntry → Type 0
StandsBut waiting r w before =
    (earlier : List LockEntry) × (later : List LockEntry) × (waiting ≡ earlier ++ w ∷ later) × ((e : LockEntry) → Contains before e → (e ≡ r) ⊎ Contains earlier e)

but-later : (r x w : LockEntry) (xs before : List LockEntry) → StandsBut xs r w before → StandsBut (x ∷ xs) r w (x ∷ before)
but-later r x w xs before s = (
  x ∷ s.0,
  s.1,
  ap (λ v. x ∷ v) s.2,
  λ e c. elim (first-or x e before c) as (λ v. (e ≡ r) ⊎ Contains (x ∷ s.0) e) [
    | inl k ↦ inr (is-first x e s.0 k)
    | inr k ↦ elim (s.3 e k) as (λ v. (e ≡ r) ⊎ Contains (x ∷ s.0) e) [ inl i ↦ inl i | inr i ↦ inr (is-later x e s.0 i) ]
  ],
)

-- behind r stands what stood there
put-here : (r w : LockEntry) (xs before after : List LockEntry) → r ∷ xs ≡ before ++ w ∷ after → w ≢ r → StandsBut xs r w before
put-here r w xs [] after is ne = absurd (ne (let e : w ≡ r = cc in e))
put-here r w xs (b ∷ before) after is ne =
    let same : r ≡ b = cc in
    let rest : xs ≡ before ++ w ∷ after = cc in
    (before, after, rest, λ e c. elim (first-or b e before c) as (λ v. (e ≡ r) ⊎ Contains before e) [ inl k ↦ inl (sym (same ∙ k)) | inr k ↦ inr k ])

-- a waiter other than the request stood in the queue, behind all but the request
put-but : (p : LockEntry → Bool) (r w : LockEntry) (xs before after : List LockEntry) → put_first p r xs ≡ before ++ w ∷ after → w ≢ r → StandsBut xs r w before
put-but p r w [] before after is ne = put-here r w [] before after is ne
put-but p r w (x ∷ xs) before after is ne = by-test (p x) before is (λ bs h. put-but p r w xs bs after h ne)
  where
    later : (before : List LockEntry) → x ∷ put_first p r xs ≡ before ++ w ∷ after → ((bs : List LockEntry) → put_first p r xs ≡ bs ++ w ∷ after → StandsBut xs r w bs) → StandsBut (x ∷ xs) r w before
    later [] is more =
        let same : x ≡ w = cc in
        ([], xs, ap (λ v. v ∷ xs) same, λ e c. inr c)
    later (b ∷ bs) is more =
        let same : x ≡ b = cc in
        let rest : put_first p r xs ≡ bs ++ w ∷ after = cc in
        subst (λ z. StandsBut (x ∷ xs) r w (z ∷ bs)) same (but-later r x w xs bs (more bs rest))

    by-test : (t : Bool) (before : List LockEntry) → cond t (r ∷ x ∷ xs) (x ∷ put_first p r xs) ≡ before ++ w ∷ after → ((bs : List LockEntry) → put_first p r xs ≡ bs ++ w ∷ after → StandsBut xs r w bs) → StandsBut (x ∷ xs) r w before
    by-test true before is more = put-here r w (x ∷ xs) before after is ne
    by-test false before is more = later before is more

not-same : (a b : LockName) → a ≢ b → is_same_name a b ≡ false
not-same a b ne = by-test (is_same_name a b) refl
  where
    by-test : (c : Bool) → is_same_name a b ≡ c → is_same_name a b ≡ false
    by-test true is = absurd (ne ((names-told a b).0 is))
    by-test false is = is

module _ (t : Table) (name : LockName) (r : LockEntry) (named : r.name ≡ name) where
  -- ---- an edge between other threads was there
  old-edge : (a b : ℕ) → a ≢ r.thread → b ≢ r.thread → WaitsSomewhere t (queue_with t r) a b → WaitsSomewhere t (queue t) a b
  old-edge a b na nb x = by-name (is_same_name x.name r.name) x.waits
    where
      at-name : WaitsFor (holders t x.name) (queued (line t r.name) r).queue a b → (queue t r.name ≡ queue t x.name) → WaitsSomewhere t (queue t) a b
      at-name w same =
          let s = put-but (is_overtaken (holders t r.name) r.thread) r w.waiter (queue t r.name) w.before w.after w.stands (λ e. na (sym w.of_a ∙ ap (λ v. v.thread) e)) in
          record {
            name = x.name;
            waits = record {
              waiter = w.waiter;
              before = s.0;
              after = s.1;
              stands = sym same ∙ s.2;
              of_a = w.of_a;
              other = w.other;
              of_b = w.of_b;
              there = elim (Contains-append_cases (holders t x.name) w.before w.other w.there) as (λ v. Contains (holders t x.name ++ s.0) w.other) [
                | inl h ↦ Contains-append_left (holders t x.name) s.0 w.other h
                | inr h ↦ elim (s.3 w.other h) as (λ v. Contains (holders t x.name ++ s.0) w.other) [
                  | inl e ↦ absurd (nb (sym w.of_b ∙ ap (λ v. v.thread) e))
                  | inr k ↦ Contains-append_right (holders t x.name) s.0 w.other k
                ]
              ];
              against = w.against;
            };
          }

      by-name : (b' : Bool) → WaitsFor (holders t x.name) (cond (is_same_name x.name r.name) (queued (line t r.name) r).queue (queue t x.name)) a b → WaitsSomewhere t (queue t) a b
      by-name b' w = elim (same-name-or x.name r.name) as (λ v. WaitsSomewhere t (queue t) a b) [
        | inl e ↦ at-name (subst (λ k. WaitsFor (holders t x.name) (cond k (queued (line t r.name) r).queue (queue t x.name)) a b) ((names-told x.name r.name).1 e) w) (ap (queue t) (sym e))
        | inr ne ↦ record { name = x.name; waits = subst (λ k. WaitsFor (holders t x.name) (cond k (queued (line t r.name) r).queue (queue t x.name)) a b) (not-same x.name r.name ne) w }
      ]

  -- ---- the table with the request in its queue
  module _ (u : Table) (b : Becomes t u name (queued (line t name) r)) where
    as-asked : (x y : ℕ) → WaitsSomewhere u (queue u) x y → WaitsSomewhere t (queue_with t r) x y
    as-asked x y e = elim (same-name-or e.name name) as (λ v. WaitsSomewhere t (queue_with t r) x y) [
      | inl same ↦ record {
        name = e.name;
        waits = subst (λ q. WaitsFor (holders t e.name) q x y)
            (sym (ap (λ k. cond k (queued (line t r.name) r).queue (queue t e.name)) ((names-told e.name r.name).1 (same ∙ sym named)) ∙ ap (λ n. (queued (line t n) r).queue) named))
            (subst (λ h. WaitsFor h (queued (line t name) r).queue x y) (ap (holders t) (sym same)) (subst (λ (l : Line). WaitsFor l.holders l.queue x y) b.here (subst (λ n. WaitsFor (holders u n) (queue u n) x y) same e.waits)));
      }
      | inr ne ↦ record {
        name = e.name;
        waits = subst (λ q. WaitsFor (holders t e.name) q x y) (sym (ap (λ k. cond k (queued (line t r.name) r).queue (queue t e.name)) (not-same e.name r.name (λ q. ne (q ∙ named)))))
            (subst (λ (l : Line). WaitsFor l.holders l.queue x y) (b.others e.name ne) e.waits);
      }
    ]

  other-first : (a : ℕ) (xs : List ℕ) → has r.thread (a ∷ xs) ≡ false → a ≢ r.thread
  other-first a xs out e = let y = subst (λ n. has n (a ∷ xs) ≡ true) e (has-first a xs) in cc

  other-rest : (a : ℕ) (xs : List ℕ) → has r.thread (a ∷ xs) ≡ false → has r.thread xs ≡ false
  other-rest a xs out = by-test (has r.thread xs) refl
    where
      by-test : (c : Bool) → has r.thread xs ≡ c → has r.thread xs ≡ false
      by-test true is = absurd (let y = has-later r.thread a xs is in cc)
      by-test false is = is

  -- ---- a circle without the request's thread was there
  turn-old : (start : ℕ) (xs : List ℕ) → start ≢ r.thread → has r.thread xs ≡ false → WaitInTurn (WaitsSomewhere t (queue_with t r)) start xs → WaitInTurn (WaitsSomewhere t (queue t)) start xs
  turn-old start [] ns out h = tt
  turn-old start (a ∷ []) ns out h = old-edge a start (other-first a [] out) ns h
  turn-old start (a ∷ c ∷ rest) ns out h =
      (old-edge a c (other-first a (c ∷ rest) out) (other-first c rest (other-rest a (c ∷ rest) out)) h.0, turn-old start (c ∷ rest) ns (other-rest a (c ∷ rest) out) h.1)

  pub none-closed : HasNoCycle t → ((threads : List ℕ) → IsCycle (WaitsSomewhere t (queue_with t r)) r.thread threads → ⊥) → (start : ℕ) (threads : List ℕ) → IsCycle (WaitsSomewhere t (queue_with t r)) start threads → ⊥
  none-closed none closes start threads cycle = by-test (has r.thread threads) refl
    where
      by-test : (c : Bool) → has r.thread threads ≡ c → ⊥
      by-test true is =
          let p = parts-at r.thread threads is in
          closes (r.thread ∷ p.1 ++ p.0) (turned (WaitsSomewhere t (queue_with t r)) start r.thread threads p.0 p.1 cycle p.2)
      by-test false is =
          let first = subst (λ v. has r.thread v ≡ false) cycle.starts is in
          none start threads (record {
            others = cycle.others;
            starts = cycle.starts;
            once = cycle.once;
            in_turn = turn-old start threads (other-first start cycle.others first) is cycle.in_turn;
          })

pub waiting-keeps : (t u : Table) (name : LockName) (r : LockEntry) → r.name ≡ name → HasNoCycle t → ((threads : List ℕ) → IsCycle (WaitsSomewhere t (queue_with t r)) r.thread threads → ⊥) → Becomes t u name (queued (line t name) r) → HasNoCycle u
waiting-keeps t u name r named none closes b start threads cycle =
    none-closed t name r named none closes start threads (cycle-mapped (WaitsSomewhere u (queue u)) (WaitsSomewhere t (queue_with t r)) (as-asked t name r named u b) start threads cycle)
