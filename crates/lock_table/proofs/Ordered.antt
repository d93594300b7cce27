-- The least name with an entry, along the entries.
use Rattle.std.proofs.Common.{◌≡◌, ◌≢◌, ◌∙◌, sym, ap, subst, refl, ℕ, ◌+◌, ◌<◌, ◌==◌, Bool, true, false, cond, List, ◌∷◌, length, length-append, Option, Some, None, inl, inr, arith, nat_eq}
use Rattle.std.specs.Option.{option_eq}
use Rattle.std.specs.Ordering.{is_lt, ordering_reverse}
use Rattle.std.specs.declared.cmp.Ordering.{Ordering}
use Rattle.std.specs.declared.cmp.Ordering.TheVariants.{Less, Equal, Greater}
use Rattle.std.specs.Cmp.{IsTotalOrder, nat_cmp_total, then_total, on_total}
use Rattle.std.specs.Cmp.Lexicographic.{nat_list_cmp_total, options_total}
use Rattle.std.proofs.lemmas.Bool.Decides.{eqb_tells}
use Rattle.ids_base.specs.declared.lock.Key.{Key}
use Rattle.ids_base.specs.declared.lock.LockEntry.{LockEntry}
use Rattle.ids_base.specs.declared.lock.LockName.{LockName}
use Rattle.link_lists.specs.Lists.{has, list_at, home_at}
use Rattle.lock_table.specs.declared.book.Book.{Book}
use Rattle.lock_table.specs.Book.{name_in, table_of}
use Rattle.lock_table.specs.Buckets.{bucket_of}
use Rattle.lock_table.specs.Chains.{entry_of, is_named}
use Rattle.lock_table.specs.Table.{HasEntry, IsAmong}
use Rattle.lock_table.specs.Order.{name_cmp, is_before, is_behind, lesser, nearer, IsNextName, IsLastName}
use Rattle.lock_table.proofs.Names.{names-told}
use Rattle.lock_table.proofs.Filters.{among-passing, none-named, not-true, named-self}
use Rattle.lock_table.proofs.Keeping.{bucket-below}
use Rattle.lock_table.proofs.Lines.{same-some, holders-are, queue-is, listed-below}

-- ---- the order of names is total
pub names-total : IsTotalOrder name_cmp
names-total =
    then_total (on_total (λ (n : LockName). n.table) nat_cmp_total)
    (on_total (λ (n : LockName). n.key) (options_total (then_total (on_total (λ (k : Key). k.bytes) nat_list_cmp_total) (on_total (λ (k : Key). k.size) nat_cmp_total))))

not-less : (o : Ordering) → o ≡ ordering_reverse o → is_lt o ≡ false
not-less Less e = cc
not-less Equal e = refl
not-less Greater e = refl

pub before-itself : (a : LockName) → is_before a a ≡ false
before-itself a = not-less (name_cmp a a) (names-total.antisymm a a)

is-less : (o : Ordering) → is_lt o ≡ true → o ≡ Less
is-less Less e = refl
is-less Equal e = cc
is-less Greater e = cc

pub before-trans : (a b c : LockName) → is_before a b ≡ true → is_before b c ≡ true → is_before a c ≡ true
before-trans a b c h g = ap is_lt (names-total.trans a b c (is-less _ h) (is-less _ g))

-- ---- names of the entries in use
among-some : (e : LockEntry) (es : List LockEntry) → IsAmong e es → 0 < length es
among-some e es a = let n = ap length a.2 ∙ length-append a.0 (e ∷ a.1) in omega (arith, n)

module _ (b : Book) where
  used-held : (x : ℕ) → home_at b.names x ≡ Some (bucket_of b.buckets (entry_of b.entries.items x).name) → HasEntry (table_of b) (entry_of b.entries.items x).name
  used-held x h =
      let name = (entry_of b.entries.items x).name in
      let n = among-some _ _ (among-passing (is_named name) b.entries.items x (list_at b.names (bucket_of b.buckets name)) ((b.names_sound.home _ x).0 h) (named-self (entry_of b.entries.items x))) in
      let e = ap length (holders-are b name) in
      omega (arith, n, e)

  used-waits : (x : ℕ) → home_at b.names x ≡ Some (b.buckets + bucket_of b.buckets (entry_of b.entries.items x).name) → HasEntry (table_of b) (entry_of b.entries.items x).name
  used-waits x h =
      let name = (entry_of b.entries.items x).name in
      let n = among-some _ _ (among-passing (is_named name) b.entries.items x (list_at b.names (b.buckets + bucket_of b.buckets name)) ((b.names_sound.home _ x).0 h) (named-self (entry_of b.entries.items x))) in
      let e = ap length (queue-is b name) in
      omega (arith, n, e)

  used-at : (x : ℕ) (o : Option ℕ) → x < b.limit → home_at b.names x ≡ o → o ≢ Some (b.buckets + b.buckets) → HasEntry (table_of b) (entry_of b.entries.items x).name
  used-at x None lt h ne = absurd (let c = (b.kept.each x lt).held (λ q. let e = sym h ∙ q in cc) (λ q. let e = sym h ∙ q in cc) in let e = sym h ∙ c.0 in cc)
  used-at x (Some l) lt h ne =
      let at = b.kept.each x lt in
      elim (eqb_tells l (b.buckets + bucket_of b.buckets (entry_of b.entries.items x).name)) as (λ v. HasEntry (table_of b) (entry_of b.entries.items x).name) [
        | inl t ↦ used-waits x (h ∙ ap Some t.1)
        | inr u ↦ used-held x (at.held (λ q. ne (sym h ∙ q)) (λ q. u.1 (same-some _ _ (sym h ∙ q)))).0
      ]

  in-use : (o : Option ℕ) (e m : LockName) → cond (option_eq nat_eq o (Some (b.buckets + b.buckets))) None (Some e) ≡ Some m → (o ≢ Some (b.buckets + b.buckets)) × (e ≡ m)
  in-use None e m h = (λ q. cc, cc)
  in-use (Some l) e m h = elim (eqb_tells l (b.buckets + b.buckets)) as (λ v. (Some l ≢ Some (b.buckets + b.buckets)) × (e ≡ m)) [
    | inl t ↦ absurd (let g = ap (λ (k : Bool). cond k None (Some e)) (sym t.0) ∙ h in cc)
    | inr u ↦ (λ q. u.1 (same-some _ _ q), let g = ap (λ (k : Bool). cond k None (Some e)) (sym u.0) ∙ h in cc)
  ]

  pub name-used : (x : ℕ) (m : LockName) → x < b.limit → name_in b x ≡ Some m → HasEntry (table_of b) m
  name-used x m lt h =
      let u = in-use (home_at b.names x) (entry_of b.entries.items x).name m h in
      subst (λ n. HasEntry (table_of b) n) u.1 (used-at x (home_at b.names x) lt refl u.0)

  named-at : (x k : ℕ) (m : LockName) → k < b.buckets + b.buckets → has x (list_at b.names k) ≡ true → is_named m (entry_of b.entries.items x) ≡ true → name_in b x ≡ Some m
  named-at x k m lt h pass =
      let home = (b.names_sound.home k x).1 h in
      let other : (k == (b.buckets + b.buckets)) ≡ false = elim (eqb_tells k (b.buckets + b.buckets)) as (λ v. (k == (b.buckets + b.buckets)) ≡ false) [ inl t ↦ absurd (let e = t.1 in omega (arith, e, lt)) | inr u ↦ u.0 ] in
      ap (λ o. cond (option_eq nat_eq o (Some (b.buckets + b.buckets))) None (Some (entry_of b.entries.items x).name)) home
      ∙ ap (λ (t : Bool). cond t None (Some (entry_of b.entries.items x).name)) other
      ∙ ap Some ((names-told (entry_of b.entries.items x).name m).0 pass)

  pub entry-used : (m : LockName) → HasEntry (table_of b) m → ((x : ℕ) → x < b.limit → name_in b x ≡ Some m → ⊥) → ⊥
  entry-used m h f =
      let below = bucket-below b.buckets m b.kept.some_buckets in
      let none = λ (k : ℕ) (lt : k < b.buckets + b.buckets). none-named (is_named m) b.entries.items (list_at b.names k) (λ x at. not-true _ (λ pass. f x (listed-below b x k at) (named-at x k m lt at pass))) in
      let held = ap length (holders-are b m ∙ none (bucket_of b.buckets m) (omega (arith, below))) in
      let waits = ap length (queue-is b m ∙ none (b.buckets + bucket_of b.buckets m) (omega (arith, below))) in
      omega (arith, h, held, waits)

  -- ---- the least so far, of the first so many entries
  abbrev pub IsLeast : Option LockName → LockName → Type 0
  IsLeast best m = (n : LockName) × (best ≡ Some n) × (is_before m n ≡ false)

  pub record IsBest (after : Option LockName) (id : ℕ) (best : Option LockName) : Type 0 where
    pub some : (n : LockName) → best ≡ Some n → HasEntry (table_of b) n × (is_behind after n ≡ true)
    pub least : (x : ℕ) (m : LockName) → x < id → name_in b x ≡ Some m → is_behind after m ≡ true → IsLeast best m

  pub best-start : (after : Option LockName) → IsBest after 0 None
  best-start after = record { some = λ n h. cc; least = λ x m lt. absurd (omega (arith, lt)) }

  pub best-unused : (after : Option LockName) (id : ℕ) (best : Option LockName) → IsBest after id best → name_in b id ≡ None → IsBest after (id + 1) best
  best-unused after id best i none = record {
    some = i.some;
    least = λ x m lt h g. elim (eqb_tells x id) as (λ v. IsLeast best m) [
      | inl t ↦ absurd (let e = sym none ∙ ap (λ k. name_in b k) (sym t.1) ∙ h in cc)
      | inr u ↦ let ne = u.1 in i.least x m (omega (arith, lt, ne)) h g
    ];
  }

  least-here : (best : Option LockName) (name : LockName) → IsLeast (Some (lesser best name)) name
  least-here None name = (name, refl, before-itself name)
  least-here (Some n) name = by-test (is_before name n) refl
    where
      by-test : (t : Bool) → is_before name n ≡ t → IsLeast (Some (cond (is_before name n) name n)) name
      by-test true h = subst (λ (k : Bool). IsLeast (Some (cond k name n)) name) (sym h) (name, refl, before-itself name)
      by-test false h = subst (λ (k : Bool). IsLeast (Some (cond k name n)) name) (sym h) (n, refl, h)

  least-still : (best : Option LockName) (name m : LockName) → IsLeast best m → IsLeast (Some (lesser best name)) m
  least-still None name m l = absurd (let e = l.1 in cc)
  least-still (Some n) name m l = by-test (is_before name n) refl
    where
      before : is_before m n ≡ false
      before = let e : n ≡ l.0 = (let q = l.1 in cc) in subst (λ k. is_before m k ≡ false) (sym e) l.2

      by-test : (t : Bool) → is_before name n ≡ t → IsLeast (Some (cond (is_before name n) name n)) m
      by-test true h = subst (λ (k : Bool). IsLeast (Some (cond k name n)) m) (sym h) (name, refl, not-true _ (λ g. let q = before-trans m name n g h in let r = before in cc))
      by-test false h = subst (λ (k : Bool). IsLeast (Some (cond k name n)) m) (sym h) (n, refl, before)

  some-lesser : (after best : Option LockName) (name n : LockName) → ((k : LockName) → best ≡ Some k → HasEntry (table_of b) k × (is_behind after k ≡ true)) → HasEntry (table_of b) name → is_behind after name ≡ true
      → Some (lesser best name) ≡ Some n → HasEntry (table_of b) n × (is_behind after n ≡ true)
  some-lesser after None name n i h g e = let q : name ≡ n = cc in subst (λ k. HasEntry (table_of b) k × (is_behind after k ≡ true)) q (h, g)
  some-lesser after (Some l) name n i h g e = by-test (is_before name l) e
    where
      by-test : (t : Bool) → Some (cond t name l) ≡ Some n → HasEntry (table_of b) n × (is_behind after n ≡ true)
      by-test true e = let q : name ≡ n = cc in subst (λ k. HasEntry (table_of b) k × (is_behind after k ≡ true)) q (h, g)
      by-test false e = let q : l ≡ n = cc in subst (λ k. HasEntry (table_of b) k × (is_behind after k ≡ true)) q (i l refl)

  pub best-used : (after : Option LockName) (id : ℕ) (best : Option LockName) (name : LockName) → IsBest after id best → id < b.limit → name_in b id ≡ Some name → IsBest after (id + 1) (nearer best name after)
  best-used after id best name i lt here = by-test (is_behind after name) refl
    where
      by-test : (t : Bool) → is_behind after name ≡ t → IsBest after (id + 1) (cond (is_behind after name) (Some (lesser best name)) best)
      by-test true g = subst (λ (k : Bool). IsBest after (id + 1) (cond k (Some (lesser best name)) best)) (sym g) (record {
        some = λ n e. some-lesser after best name n i.some (name-used id name lt here) g e;
        least = λ x m less h k. elim (eqb_tells x id) as (λ v. IsLeast (Some (lesser best name)) m) [
          | inl t ↦ let e : name ≡ m = (let q = sym here ∙ ap (λ z. name_in b z) (sym t.1) ∙ h in cc) in subst (λ z. IsLeast (Some (lesser best name)) z) e (least-here best name)
          | inr u ↦ let ne = u.1 in least-still best name m (i.least x m (omega (arith, less, ne)) h k)
        ];
      })
      by-test false g = subst (λ (k : Bool). IsBest after (id + 1) (cond k (Some (lesser best name)) best)) (sym g) (record {
        some = i.some;
        least = λ x m less h k. elim (eqb_tells x id) as (λ v. IsLeast best m) [
          | inl t ↦ absurd (let e : name ≡ m = (let q = sym here ∙ ap (λ z. name_in b z) (sym t.1) ∙ h in cc) in let q = subst (λ z. is_behind after z ≡ false) e g in cc)
          | inr u ↦ let ne = u.1 in i.least x m (omega (arith, less, ne)) h k
        ];
      })

  pub best-is : (after best : Option LockName) → IsBest after b.limit best → (n : LockName) → best ≡ Some n → IsNextName (table_of b) after n
  best-is after best i n e = record {
    there = (i.some n e).0;
    behind = (i.some n e).1;
    least = λ other h g. not-true _ (λ less. entry-used other h (λ x lt at.
        let l = i.least x other lt at g in
        let q : l.0 ≡ n = (let r = sym l.1 ∙ e in cc) in
        let r = subst (λ k. is_before other k ≡ false) q l.2 in cc));
  }

  pub best-none : (after best : Option LockName) → IsBest after b.limit best → best ≡ None → IsLastName (table_of b) after
  best-none after best i e = λ other h g. entry-used other h (λ x lt at. let l = i.least x other lt at g in let q = sym l.1 ∙ e in cc)
