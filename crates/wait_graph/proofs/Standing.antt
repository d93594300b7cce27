-- Where a waiter stands in its line, and whom it waits for there.
use Rattle.std.proofs.Common.{◌≡◌, ◌≢◌, ◌∙◌, sym, ap, subst, refl, ℕ, zero, suc, ◌≤◌, ◌==◌, Bool, true, false, cond, ◌||◌, ◌&&◌, not, List, [], ◌∷◌, ◌++◌, length, arith, inl, inr, append_assoc}
use Rattle.std.specs.List.{Contains, filter, list_any}
use Rattle.std.proofs.lemmas.Bool.Decides.{Decides-eqb}
use Rattle.std.proofs.lemmas.List.{length-append}
use Rattle.ids_base.specs.declared.lock.LockEntry.{LockEntry}
use Rattle.ids_base.specs.declared.lock.LockName.{LockName}
use Rattle.ids_base.specs.LockNames.{is_same_name}
use Rattle.ids_base.specs.Locks.{compatible_modes}
use Rattle.ids_base.specs.Waits.{conflicts, WaitsFor}
use Rattle.lock_table.specs.Chains.{is_named}
use Rattle.lock_table.specs.Requests.{put_first, is_overtaken, wanted}
use Rattle.lock_table.specs.Sound.{Apart, same_thread}
use Rattle.lock_table.specs.Table.{Table, line, holders, queue, has_thread, is_of}
use Rattle.wait_graph.specs.declared.asked.Asked.{Asked}
use Rattle.wait_graph.specs.Queued.{IsAsked}
use Rattle.wait_graph.specs.Reached.{IsAt, StandsAt}
use Rattle.wait_graph.specs.Targets.{next, queue_at}
use Rattle.wait_graph.proofs.Edges.{edge-from, edge-to}
use Rattle.wait_graph.proofs.Named.{names-told, not-equal, has-stands, waited-at}
use Rattle.wait_graph.proofs.Places.{at-same, at-left, at-middle, at-either, at-parts, IsBehind}
use Rattle.wait_graph.proofs.Trees.{or-right, eqb-either}

-- ---- what a list of entries has
any-at : (q : LockEntry → Bool) (xs : List LockEntry) (i : ℕ) (e : LockEntry) → IsAt xs i e → q e ≡ true → list_any q xs ≡ true
any-at q [] i e a h = absurd (let l = a.0 in omega (arith, l))
any-at q (x ∷ xs) zero e a h = ap (λ b. b || list_any q xs) (ap q a.1 ∙ h)
any-at q (x ∷ xs) (suc i) e a h = or-right (q x) (list_any q xs) (any-at q xs i e ((let l = a.0 in omega (arith, l)), a.1) h)

pub has-at : (xs : List LockEntry) (i : ℕ) (e : LockEntry) → IsAt xs i e → has_thread e.thread xs ≡ true
has-at xs i e a = any-at (is_of e.thread) xs i e a ((Decides-eqb e.thread e.thread).1 refl)

-- a thread that is there stands at a place
pub record Somewhere (xs : List LockEntry) (a : ℕ) : Type 0 where
  pub place : ℕ
  pub entry : LockEntry
  pub there : IsAt xs place entry
  pub of_a : entry.thread ≡ a

pub has-place : (a : ℕ) (xs : List LockEntry) → has_thread a xs ≡ true → Somewhere xs a
has-place a [] h = cc
has-place a (x ∷ xs) h = by-test (is_of a x) refl h (λ k. has-place a xs k)
  where
    by-test : (b : Bool) → is_of a x ≡ b → (b || has_thread a xs) ≡ true → (has_thread a xs ≡ true → Somewhere xs a) → Somewhere (x ∷ xs) a
    by-test true is h more = record { place = 0; entry = x; there = (omega arith, refl); of_a = (Decides-eqb x.thread a).0 is }
    by-test false is h more = let m = more h in record { place = suc m.place; entry = m.entry; there = ((let l = m.there.0 in omega (arith, l)), m.there.1); of_a = m.of_a }

-- a thread stands in a queue once
apart-place : (xs : List LockEntry) → Apart same_thread xs → (i j : ℕ) (e f : LockEntry) → IsAt xs i e → IsAt xs j f → e.thread ≡ f.thread → i ≡ j
apart-place [] a i j e f x y h = absurd (let l = x.0 in omega (arith, l))
apart-place (z ∷ zs) a zero zero e f x y h = refl
apart-place (z ∷ zs) a zero (suc j) e f x y h =
    let t : list_any (same_thread z) zs ≡ true = any-at (same_thread z) zs j f ((let l = y.0 in omega (arith, l)), y.1) ((Decides-eqb f.thread z.thread).1 (sym h ∙ sym (ap (λ v. v.thread) x.1))) in
    let n = a.0 in absurd (cc)
apart-place (z ∷ zs) a (suc i) zero e f x y h =
    let t : list_any (same_thread z) zs ≡ true = any-at (same_thread z) zs i e ((let l = x.0 in omega (arith, l)), x.1) ((Decides-eqb e.thread z.thread).1 (h ∙ sym (ap (λ v. v.thread) y.1))) in
    let n = a.0 in absurd (cc)
apart-place (z ∷ zs) a (suc i) (suc j) e f x y h =
    let r = apart-place zs a.1 i j e f ((let l = x.0 in omega (arith, l)), x.1) ((let l = y.0 in omega (arith, l)), y.1) h in omega (arith, r)

none-put : (q p : LockEntry → Bool) (w : LockEntry) (xs : List LockEntry) → q w ≡ false → list_any q xs ≡ false → list_any q (put_first p w xs) ≡ false
none-put q p w [] out h = ap (λ b. b || false) out
none-put q p w (x ∷ xs) out h = by-test (p x) (q x) refl h (λ k. none-put q p w xs out k)
  where
    by-test : (b c : Bool) → q x ≡ c → (c || list_any q xs) ≡ false → (list_any q xs ≡ false → list_any q (put_first p w xs) ≡ false) → list_any q (cond b (w ∷ x ∷ xs) (x ∷ put_first p w xs)) ≡ false
    by-test b true is h more = cc
    by-test true false is h more = ap (λ v. v || (q x || list_any q xs)) out ∙ ap (λ v. v || list_any q xs) is ∙ h
    by-test false false is h more = ap (λ v. v || list_any q (put_first p w xs)) is ∙ more h

apart-put : (p : LockEntry → Bool) (w : LockEntry) (xs : List LockEntry) → has_thread w.thread xs ≡ false → Apart same_thread xs → Apart same_thread (put_first p w xs)
apart-put p w [] out a = (refl, tt)
apart-put p w (x ∷ xs) out a = by-test (p x) (x.thread == w.thread) refl out (λ k. apart-put p w xs k a.1)
  where
    by-test : (b c : Bool) → (x.thread == w.thread) ≡ c → (c || has_thread w.thread xs) ≡ false → (has_thread w.thread xs ≡ false → Apart same_thread (put_first p w xs)) → Apart same_thread (cond b (w ∷ x ∷ xs) (x ∷ put_first p w xs))
    by-test b true is h more = cc
    by-test true false is h more = (ap (λ v. v || has_thread w.thread xs) is ∙ h, a)
    by-test false false is h more = (none-put (same_thread x) p w xs (eqb-either w.thread x.thread ∙ is) a.0, more h)

-- ---- what a line has
named-at : (name : LockName) (es : List LockEntry) (i : ℕ) (e : LockEntry) → IsAt (filter (is_named name) es) i e → e.name ≡ name
named-at name [] i e a = absurd (let l = a.0 in omega (arith, l))
named-at name (x ∷ xs) i e a = by-test (is_named name x) refl i a (λ k b. named-at name xs k e b)
  where
    by-test : (b : Bool) → is_named name x ≡ b → (i : ℕ) → IsAt (cond b (x ∷ filter (is_named name) xs) (filter (is_named name) xs)) i e → ((k : ℕ) → IsAt (filter (is_named name) xs) k e → e.name ≡ name) → e.name ≡ name
    by-test true is zero a more = subst (λ v. v.name ≡ name) a.1 ((names-told x.name name).0 is)
    by-test true is (suc k) a more = more k ((let l = a.0 in omega (arith, l)), a.1)
    by-test false is i a more = more i a

put-named : (name : LockName) (p : LockEntry → Bool) (w : LockEntry) (xs : List LockEntry) → w.name ≡ name → ((k : ℕ) (e : LockEntry) → IsAt xs k e → e.name ≡ name)
    → (i : ℕ) (e : LockEntry) → IsAt (put_first p w xs) i e → e.name ≡ name
put-named name p w [] is all zero e a = subst (λ v. v.name ≡ name) a.1 is
put-named name p w [] is all (suc i) e a = absurd (let l = a.0 in omega (arith, l))
put-named name p w (x ∷ xs) is all i e a = by-test (p x) i a (λ k b. put-named name p w xs is (λ j f c. all (suc j) f ((let l = c.0 in omega (arith, l)), c.1)) k e b)
  where
    by-test : (b : Bool) (i : ℕ) → IsAt (cond b (w ∷ x ∷ xs) (x ∷ put_first p w xs)) i e → ((k : ℕ) → IsAt (put_first p w xs) k e → e.name ≡ name) → e.name ≡ name
    by-test true zero a more = subst (λ v. v.name ≡ name) a.1 is
    by-test true (suc k) a more = all k e ((let l = a.0 in omega (arith, l)), a.1)
    by-test false zero a more = all 0 e (omega arith, a.1)
    by-test false (suc k) a more = more k ((let l = a.0 in omega (arith, l)), a.1)

queue-named : (t : Table) (asked : Asked) → IsAsked t asked → (name : LockName) (i : ℕ) (e : LockEntry) → IsAt (queue_at t asked name) i e → e.name ≡ name
queue-named t asked s name i e a = by-name (is_same_name name asked.name) refl a
  where
    by-name : (b : Bool) → is_same_name name asked.name ≡ b → IsAt (cond b asked.queue.items (queue t name)) i e → e.name ≡ name
    by-name true is a =
        let w = wanted (line t asked.name) asked.start asked.name s.mode in
        put-named asked.name (is_overtaken (holders t asked.name) asked.start) w (queue t asked.name) refl (λ k f b. named-at asked.name t.waiting k f b) i e (subst (λ v. IsAt v i e) s.queued a)
        ∙ sym ((names-told name asked.name).0 is)
    by-name false is a = named-at name t.waiting i e a

queue-apart : (t : Table) (asked : Asked) → IsAsked t asked → (name : LockName) → Apart same_thread (queue_at t asked name)
queue-apart t asked s name = by-name (is_same_name name asked.name)
  where
    by-name : (b : Bool) → Apart same_thread (cond b asked.queue.items (queue t name))
    by-name true =
        let w = wanted (line t asked.name) asked.start asked.name s.mode in
        subst (λ v. Apart same_thread v) (sym s.queued) (apart-put (is_overtaken (holders t asked.name) asked.start) w (queue t asked.name) (s.waits_nowhere asked.name) (s.sound.lines asked.name).loose.queued_once)
    by-name false = (s.sound.lines name).loose.queued_once

line-named : (t : Table) (asked : Asked) → IsAsked t asked → (name : LockName) (i : ℕ) (e : LockEntry) → IsAt (holders t name ++ queue_at t asked name) i e → e.name ≡ name
line-named t asked s name i e a = elim (at-either (holders t name) (queue_at t asked name) i e a) as (λ v. e.name ≡ name)
    [ inl l ↦ named-at name t.held i e l | inr r ↦ queue-named t asked s name r.place e r.there ]

-- ---- conflicts of entries on one name
conflicts-to : (w e : LockEntry) → w.name ≡ e.name → e.thread ≢ w.thread → compatible_modes w.mode e.mode ≡ false → conflicts w e ≡ true
conflicts-to w e same ne c =
    ap (λ b. not b && (is_same_name w.name e.name && not (compatible_modes w.mode e.mode))) (not-equal w.thread e.thread (λ h. ne (sym h)))
    ∙ ap (λ b. b && not (compatible_modes w.mode e.mode)) ((names-told w.name e.name).1 same) ∙ ap not c

conflicts-from : (w e : LockEntry) → conflicts w e ≡ true → (e.thread ≢ w.thread) × (compatible_modes w.mode e.mode ≡ false)
conflicts-from w e h = by-tests (w.thread == e.thread) (is_same_name w.name e.name) (compatible_modes w.mode e.mode) refl refl h
  where
    by-tests : (a b c : Bool) → (w.thread == e.thread) ≡ a → compatible_modes w.mode e.mode ≡ c → (not a && (b && not c)) ≡ true → (e.thread ≢ w.thread) × (compatible_modes w.mode e.mode ≡ false)
    by-tests true b c is f h = cc
    by-tests false true true is f h = cc
    by-tests false false c is f h = cc
    by-tests false true false is f h = ((λ k. let t = (Decides-eqb w.thread e.thread).1 (sym k) in cc), f)

-- ---- a waiter in its line
pub stands-at : (t : Table) (asked : Asked) → IsAsked t asked → (name : LockName) (at : ℕ) (e : LockEntry) → length (holders t name) ≤ at → IsAt (holders t name ++ queue_at t asked name) at e
    → StandsAt (next t asked) (holders t name ++ queue_at t asked name) e.thread at
stands-at t asked s name at e le a =
    let held = holders t name in
    let waiting = queue_at t asked name in
    let w = wanted (line t asked.name) asked.start asked.name s.mode in
    let over = is_overtaken (holders t asked.name) asked.start in
    let r : IsBehind held waiting at e = elim (at-either held waiting at e a) as (λ v. IsBehind held waiting at e) [ inl l ↦ absurd (let q = l.0 in omega (arith, q, le)) | inr r ↦ r ] in
    let p = at-parts waiting r.place e r.there in
    record {
      waiter = e;
      there = a;
      of_a = refl;
      waits = λ j f low there against.
          let both : held ++ waiting ≡ (held ++ p.before) ++ e ∷ p.after = ap (λ v. held ++ v) p.stands ∙ sym (append_assoc held p.before (e ∷ p.after)) in
          let c : Contains (held ++ p.before) f = elim (at-either (held ++ p.before) (e ∷ p.after) j f (subst (λ v. IsAt v j f) both there)) as (λ v. Contains (held ++ p.before) f) [
            | inl l ↦ (j, l.0, l.1)
            | inr k ↦ absurd (let x = k.behind in let y = length-append held p.before in let z = p.size in let u = r.behind in omega (arith, x, y, z, u, low))
          ] in
          edge-to t asked over w s.sound s.waits_nowhere s.queued refl e.thread f.thread (record {
            name = name;
            waits = record {
              waiter = e;
              before = p.before;
              after = p.after;
              stands = p.stands;
              of_a = refl;
              other = f;
              of_b = refl;
              there = c;
              against = conflicts-to e f (line-named t asked s name at e a ∙ sym (line-named t asked s name j f there)) against.0 against.1;
            };
          });
      all = λ b edge.
          let x = edge-from t asked e.thread b edge in
          let here = waited-at t asked over w s.sound s.waits_nowhere s.queued refl e.thread x.name (ap (has_thread e.thread) x.waits.stands ∙ has-stands e.thread x.waits.before x.waits.waiter x.waits.after x.waits.of_a) in
          let there = waited-at t asked over w s.sound s.waits_nowhere s.queued refl e.thread name (has-at waiting r.place e r.there) in
          let same : x.name ≡ name = (let q = sym here ∙ there in cc) in
          let y : WaitsFor held waiting e.thread b = subst (λ n. WaitsFor (holders t n) (queue_at t asked n) e.thread b) same x.waits in
          let m : IsAt waiting (length y.before) y.waiter = subst (λ v. IsAt v (length y.before) y.waiter) (sym y.stands) (at-middle y.before y.waiter y.after) in
          let k : length y.before ≡ r.place = apart-place waiting (queue-apart t asked s name) (length y.before) r.place y.waiter e m r.there y.of_a in
          let is : y.waiter ≡ e = at-same waiting r.place y.waiter e (subst (λ n. IsAt waiting n y.waiter) k m) r.there in
          let v = conflicts-from e y.other (subst (λ n. conflicts n y.other ≡ true) is y.against) in
          let c = y.there in
          let both : (held ++ y.before) ++ y.waiter ∷ y.after ≡ held ++ waiting = append_assoc held y.before (y.waiter ∷ y.after) ∙ ap (λ l. held ++ l) (sym y.stands) in
          (c.0, y.other, (let l = c.1 in let z = length-append held y.before in let u = r.behind in omega (arith, l, z, u, k)), subst (λ l. IsAt l c.0 y.other) both (at-left (held ++ y.before) (y.waiter ∷ y.after) c.0 y.other (c.1, c.2)), v, y.of_b);
    }
