-- The name that a thread waits for.
use Rattle.std.proofs.Common.{◌≡◌, ◌≢◌, ◌∙◌, sym, ap, subst, refl, ℕ, ◌==◌, Bool, true, false, cond, ◌||◌, List, [], ◌∷◌, ◌++◌, Option, Some, None, rules, inl, inr}
use Rattle.std.specs.List.{filter, find}
use Rattle.std.specs.Option.{option_map}
use Rattle.std.proofs.lemmas.Bool.Decides.{eqb_tells, Decides-eqb}
use Rattle.ids_base.specs.declared.lock.LockEntry.{LockEntry}
use Rattle.ids_base.specs.declared.lock.LockName.{LockName}
use Rattle.ids_base.specs.LockNames.{is_same_name, NamesAreTold}
use Rattle.lock_table.specs.Chains.{is_named}
use Rattle.lock_table.specs.Requests.{put_first}
use Rattle.lock_table.specs.Sound.{IsSound}
use Rattle.lock_table.specs.Table.{Table, is_of, has_thread, queue, WaitsAt, WaitsNowhere}
use Rattle.wait_graph.specs.declared.asked.Asked.{Asked}
use Rattle.wait_graph.specs.Targets.{queue_at, name_waited}
use Rattle.wait_graph.proofs.Trees.{or-right}

pub names-told : NamesAreTold
names-told = λ a b. search rules

pub not-equal : (a b : ℕ) → a ≢ b → (a == b) ≡ false
not-equal a b ne = elim (eqb_tells a b) as (λ v. (a == b) ≡ false) [ inl t ↦ absurd (ne t.1) | inr f ↦ f.0 ]

pub has-stands : (a : ℕ) (before : List LockEntry) (w : LockEntry) (after : List LockEntry) → w.thread ≡ a → has_thread a (before ++ w ∷ after) ≡ true
has-stands a [] w after is = ap (λ b. b || has_thread a after) ((Decides-eqb w.thread a).1 is)
has-stands a (x ∷ before) w after is = or-right (is_of a x) (has_thread a (before ++ w ∷ after)) (has-stands a before w after is)

has-more : (a : ℕ) (b : Bool) (x : LockEntry) (ys : List LockEntry) → has_thread a ys ≡ true → has_thread a (cond b (x ∷ ys) ys) ≡ true
has-more a true x ys h = or-right (is_of a x) (has_thread a ys) h
has-more a false x ys h = h

has-rest : (a : ℕ) (b : Bool) (x : LockEntry) (ys : List LockEntry) → is_of a x ≡ false → has_thread a (cond b (x ∷ ys) ys) ≡ true → has_thread a ys ≡ true
has-rest a true x ys out h = subst (λ v. (v || has_thread a ys) ≡ true) out h
has-rest a false x ys out h = h

-- the first entry of a thread is among those of its name
find-waits : (a : ℕ) (es : List LockEntry) (e : LockEntry) → find (is_of a) es ≡ Some e → has_thread a (filter (is_named e.name) es) ≡ true
find-waits a [] e h = cc
find-waits a (x ∷ xs) e h = by-test (is_of a x) refl h (λ k. find-waits a xs e k)
  where
    by-test : (b : Bool) → is_of a x ≡ b → cond b (Some x) (find (is_of a) xs) ≡ Some e → (find (is_of a) xs ≡ Some e → has_thread a (filter (is_named e.name) xs) ≡ true) → has_thread a (filter (is_named e.name) (x ∷ xs)) ≡ true
    by-test true is h more =
        let same : x ≡ e = cc in
        ap (λ v. has_thread a (cond v (x ∷ filter (is_named e.name) xs) (filter (is_named e.name) xs))) ((names-told x.name e.name).1 (ap (λ v. v.name) same))
        ∙ ap (λ v. v || has_thread a (filter (is_named e.name) xs)) is
    by-test false is h more = has-more a (is_named e.name x) x (filter (is_named e.name) xs) (more h)

-- a thread with an entry on some name is found
has-find : (a : ℕ) (name : LockName) (es : List LockEntry) → has_thread a (filter (is_named name) es) ≡ true → find (is_of a) es ≡ None → ⊥
has-find a name [] h e = cc
has-find a name (x ∷ xs) h e = by-test (is_of a x) refl e (λ g k. has-find a name xs g k)
  where
    by-test : (b : Bool) → is_of a x ≡ b → cond b (Some x) (find (is_of a) xs) ≡ None → (has_thread a (filter (is_named name) xs) ≡ true → find (is_of a) xs ≡ None → ⊥) → ⊥
    by-test true is e more = cc
    by-test false is e more = more (has-rest a (is_named name x) x (filter (is_named name) xs) is h) e

pub waits-name : (t : Table) → IsSound t → (a : ℕ) (name : LockName) → WaitsAt t a name → option_map (λ e. e.name) (find (is_of a) t.waiting) ≡ Some name
waits-name t s a name h = by-find (find (is_of a) t.waiting) refl
  where
    by-find : (o : Option LockEntry) → find (is_of a) t.waiting ≡ o → option_map (λ e. e.name) o ≡ Some name
    by-find None is = absurd (has-find a name t.waiting h is)
    by-find (Some e) is = ap Some (s.waits_once a e.name name (find-waits a t.waiting e is) h)

pub nowhere-none : (t : Table) (a : ℕ) → WaitsNowhere t a → option_map (λ e. e.name) (find (is_of a) t.waiting) ≡ None
nowhere-none t a never = by-find (find (is_of a) t.waiting) refl
  where
    by-find : (o : Option LockEntry) → find (is_of a) t.waiting ≡ o → option_map (λ e. e.name) o ≡ None
    by-find None is = refl
    by-find (Some e) is = let h : has_thread a (queue t e.name) ≡ true = find-waits a t.waiting e is in let f = never e.name in cc

-- another thread than the one put in stood there before
put-has : (p : LockEntry → Bool) (w : LockEntry) (a : ℕ) (xs : List LockEntry) → is_of a w ≡ false → has_thread a (put_first p w xs) ≡ true → has_thread a xs ≡ true
put-has p w a [] out h = has-rest a true w [] out h
put-has p w a (x ∷ xs) out h = by-test (p x) h (λ k. put-has p w a xs out k)
  where
    by-first : (b : Bool) → (b || has_thread a (put_first p w xs)) ≡ true → (has_thread a (put_first p w xs) ≡ true → has_thread a xs ≡ true) → (b || has_thread a xs) ≡ true
    by-first true h more = refl
    by-first false h more = more h

    by-test : (b : Bool) → has_thread a (cond b (w ∷ x ∷ xs) (x ∷ put_first p w xs)) ≡ true → (has_thread a (put_first p w xs) ≡ true → has_thread a xs ≡ true) → has_thread a (x ∷ xs) ≡ true
    by-test true h more = has-rest a true w (x ∷ xs) out h
    by-test false h more = by-first (is_of a x) h more

-- a thread that stands in a queue waits for its name
pub waited-at : (t : Table) (asked : Asked) (p : LockEntry → Bool) (w : LockEntry) → IsSound t → WaitsNowhere t asked.start → asked.queue.items ≡ put_first p w (queue t asked.name) → w.thread ≡ asked.start
    → (a : ℕ) (name : LockName) → has_thread a (queue_at t asked name) ≡ true → name_waited t asked a ≡ Some name
waited-at t asked p w s never q of-start a name h = elim (eqb_tells a asked.start) as (λ v. name_waited t asked a ≡ Some name)
    [ inl x ↦ by-name true (is_same_name name asked.name) x.0 refl h | inr y ↦ by-name false (is_same_name name asked.name) y.0 refl h ]
  where
    other : (a == asked.start) ≡ false → is_of a w ≡ false
    other ne = not-of (is_of a w) refl
      where
        not-of : (b : Bool) → is_of a w ≡ b → b ≡ false
        not-of true is = let e = (Decides-eqb a asked.start).1 (sym ((Decides-eqb w.thread a).0 is) ∙ of-start) in cc
        not-of false is = refl

    by-name : (start same : Bool) → (a == asked.start) ≡ start → is_same_name name asked.name ≡ same → has_thread a (cond same asked.queue.items (queue t name)) ≡ true
        → cond (a == asked.start) (Some asked.name) (option_map (λ e. e.name) (find (is_of a) t.waiting)) ≡ Some name
    by-name true true is same h = ap (λ b. cond b (Some asked.name) (option_map (λ e. e.name) (find (is_of a) t.waiting))) is ∙ ap Some (sym ((names-told name asked.name).0 same))
    by-name true false is same h =
        let f : has_thread a (queue t name) ≡ false = ap (λ n. has_thread n (queue t name)) ((Decides-eqb a asked.start).0 is) ∙ never name in cc
    by-name false true is same h =
        ap (λ b. cond b (Some asked.name) (option_map (λ e. e.name) (find (is_of a) t.waiting))) is
        ∙ waits-name t s a asked.name (put-has p w a (queue t asked.name) (other is) (ap (has_thread a) (sym q) ∙ h)) ∙ ap Some (sym ((names-told name asked.name).0 same))
    by-name false false is same h = ap (λ b. cond b (Some asked.name) (option_map (λ e. e.name) (find (is_of a) t.waiting))) is ∙ waits-name t s a name h
