-- What becomes of the rows of an index where the state of one key changes.
use Rattle.std.proofs.Common.{◌≡◌, ℕ, zero, suc, ◌+◌, ◌≤◌, Bool, true, false, cond, refl, ap, sym, ◌∙◌, List, [], ◌∷◌, ◌++◌, Option, Some, None, arith, subst}
use Rattle.std.specs.Ordering.{is_eq}
use Rattle.std.specs.List.{sum_by, count_by}
use Rattle.std.specs.BTreeMap as tree
use Rattle.std.specs.BTreeMap.{BTreeMap, is_at, insert_entry}
use Rattle.std.specs.Map.{lookup, values_of, remove_entry}
use Rattle.std.specs.Option.{option_map, unwrap_or, IsSome, is_some}
use Rattle.std.proofs.lemmas.Bool.{false≢true}
use Rattle.std.proofs.lemmas.List.Sums.{sum_by-cons}
use Rattle.std.proofs.lemmas.Map.Entries.{sum_by-insert_entry, sum_by-remove_entry}
use Rattle.ids_base.specs.declared.lock.Key.{Key}
use Rattle.table_space.specs.declared.index.KeyState.{KeyState}
use Rattle.table_space.specs.declared.emptied.EmptyEntry.{EmptyEntry}
use Rattle.table_space.specs.Emptied.{is_of, Stands, HasOneMore}
use Rattle.table_space.specs.Index.{Rows, rows_in, known, row_at, one_at, rows_at, has_row, one_if, RowBecomes, KeepsRows, row_if, empty_of, Sums, StateBecomes, LosesOne}
use Rattle.table_space.specs.Numbers.{name_cmp}
use Rattle.table_space.specs.Seen.{IsOther}
use Rattle.std.proofs.lemmas.Cmp.{tied_itself}
use Rattle.table_space.proofs.EmptyOrder.{names_total}
use Rattle.table_space.proofs.Keys.{other_name, names_exact}
use Rattle.table_space.proofs.EmptyLists.{more-count}
use Rattle.std.specs.Cmp.{Equal-is}

rows-known : (test : ℕ × Key → Bool) (es : List ((ℕ × Key) × KeyState)) → lookup test (rows_in es) ≡ option_map (λ s. s.row) (lookup test es)
rows-known test [] = refl
rows-known test (e ∷ es) = at (test e.0) (rows-known test es)
  where
    at : (b : Bool) → lookup test (rows_in es) ≡ option_map (λ s. s.row) (lookup test es) → cond b (Some e.1.row) (lookup test (rows_in es)) ≡ option_map (λ s. s.row) (cond b (Some e.1) (lookup test es))
    at true h = refl
    at false h = h

known-if : (o : Option KeyState) → known (option_map (λ s. s.row) o) ≡ row_if o
known-if None = refl
known-if (Some s) = refl

pub row-is : (m : BTreeMap (ℕ × Key) KeyState) (t : ℕ) (k : Key) → row_at (rows_in m.entries) t k ≡ row_if (tree.get name_cmp m (t, k))
row-is m t k = ap known (rows-known (is_at (name_cmp (t, k))) m.entries) ∙ known-if (tree.get name_cmp m (t, k))

rows-sum : (r : ℕ) (es : List ((ℕ × Key) × KeyState)) → rows_at r (rows_in es) ≡ sum_by (λ s. one_at r s.row) (values_of es)
rows-sum r [] = refl
rows-sum r (e ∷ es) = sum_by-cons (λ (x : (ℕ × Key) × Option ℕ). one_at r x.1) (e.0, e.1.row) (rows_in es) ∙ ap (λ n. one_at r e.1.row + n) (rows-sum r es) ∙ sym (sum_by-cons (λ (s : KeyState). one_at r s.row) e.1 (values_of es))

one-if : (r : ℕ) (o : Option KeyState) → unwrap_or (option_map (λ s. one_at r s.row) o) 0 ≡ one_at r (row_if o)
one-if r None = refl
one-if r (Some s) = refl

one-has : (o : Option KeyState) → unwrap_or (option_map one_if o) 0 ≡ has_row (row_if o)
one-has None = refl
one-has (Some s) = refl

pub put-sums : (was now : BTreeMap (ℕ × Key) KeyState) (q : ℕ × Key) (s : KeyState) → now.entries ≡ insert_entry name_cmp was.entries q s → tree.IsOrdered name_cmp was → Sums was now q (Some s)
put-sums was now q s entries sorted f = ap (λ es. sum_by f (values_of es) + unwrap_or (option_map f (tree.get name_cmp was q)) 0) entries ∙ sum_by-insert_entry f names_total was.entries q s sorted

pub gone-sums : (was now : BTreeMap (ℕ × Key) KeyState) (q : ℕ × Key) → now.entries ≡ remove_entry (is_at (name_cmp q)) was.entries → Sums was now q None
gone-sums was now q entries f =
    let a = sum_by-remove_entry f (is_at (name_cmp q)) was.entries in
    let b = ap (λ es. sum_by f (values_of es)) entries in
    omega (arith, a, b)

pub put-becomes : (was now : BTreeMap (ℕ × Key) KeyState) (q : ℕ × Key) (s : KeyState) → ((p : ℕ × Key) → tree.get name_cmp now p ≡ cond (is_at (name_cmp q) p) (Some s) (tree.get name_cmp was p)) → now.entries ≡ insert_entry name_cmp was.entries q s → tree.IsOrdered name_cmp was → tree.IsOrdered name_cmp now
    → StateBecomes was now q (Some s)
put-becomes was now q s gets entries before after = record { gets = gets; sums = put-sums was now q s entries before; sorted = after }

-- a key with an entry has a state
pub has-state : (m : BTreeMap (ℕ × Key) KeyState) (q : ℕ × Key) → 1 ≤ empty_of (tree.get name_cmp m q) → IsSome (tree.get name_cmp m q)
has-state m q some = at (tree.get name_cmp m q) some
  where
    at : (o : Option KeyState) → 1 ≤ empty_of o → IsSome o
    at None n = absurd (omega (arith, n))
    at (Some s) n = refl

-- and one with a row
pub has-state-row : (m : BTreeMap (ℕ × Key) KeyState) (t : ℕ) (k : Key) → IsSome (row_at (rows_in m.entries) t k) → IsSome (tree.get name_cmp m (t, k))
has-state-row m t k some = at (tree.get name_cmp m (t, k)) (subst IsSome (row-is m t k) some)
  where
    at : (o : Option KeyState) → IsSome (row_if o) → IsSome o
    at None n = n
    at (Some s) n = refl

pub has-row-one : (o : Option ℕ) → IsSome o → has_row o ≡ 1
has-row-one None s = absurd (false≢true s)
has-row-one (Some r) s = refl

-- where a key has a row, the keys that have one are some
pub some-rows : (m : BTreeMap (ℕ × Key) KeyState) (t : ℕ) (k : Key) → IsSome (row_at (rows_in m.entries) t k) → 1 ≤ sum_by one_if (tree.values m)
some-rows m t k some =
    let a = sum_by-remove_entry one_if (is_at (name_cmp (t, k))) m.entries in
    omega (arith, a, one-has (tree.get name_cmp m (t, k)), ap has_row (row-is m t k), has-row-one (row_at (rows_in m.entries) t k) some)

pub none-of : (o : Option ℕ) → is_some o ≡ false → o ≡ None
none-of None h = refl
none-of (Some r) h = absurd (false≢true (sym h))

-- a key that has a state loses an entry
pub lost-last : (was now : BTreeMap (ℕ × Key) KeyState) (q : ℕ × Key) (s : KeyState) → ((p : ℕ × Key) → tree.get name_cmp now p ≡ cond (is_at (name_cmp q) p) None (tree.get name_cmp was p)) → now.entries ≡ remove_entry (is_at (name_cmp q)) was.entries → tree.IsOrdered name_cmp now → s.row ≡ None → s.empty ≡ 1
    → LosesOne was now q s
lost-last was now q s gets entries sorted none last = record { state = None; becomes = record { gets = gets; sums = gone-sums was now q entries; sorted = sorted }; row = sym none; fewer = sym last }

-- the state of one key becomes another, or goes
module _ (was now : BTreeMap (ℕ × Key) KeyState) (t : ℕ) (k : Key) (o : Option KeyState)
    (gets : (q : ℕ × Key) → tree.get name_cmp now q ≡ cond (is_eq (name_cmp (t, k) q)) o (tree.get name_cmp was q)) where
  got : (t' : ℕ) (k' : Key) (b : Bool) → is_eq (name_cmp (t, k) (t', k')) ≡ b → tree.get name_cmp now (t', k') ≡ cond b o (tree.get name_cmp was (t', k'))
  got t' k' b is = gets (t', k') ∙ ap (λ c. cond c o (tree.get name_cmp was (t', k'))) is

  itself : tree.get name_cmp now (t, k) ≡ o
  itself = got t k true (ap is_eq (tied_itself names_total (t, k)))

  module _ (sums : Sums was now (t, k) o) where
    -- its row is that of its state, and others keep theirs
    pub row-becomes : RowBecomes (rows_in was.entries) (rows_in now.entries) t k (row_if o)
    row-becomes = record {
      here = row-is now t k ∙ ap row_if itself;
      beside = λ t' k' other. row-is now t' k' ∙ ap row_if (got t' k' false (other_name t k t' k' other)) ∙ sym (row-is was t' k');
      counts = counts;
    }
      where
        counts : (r : ℕ) → rows_at r (rows_in now.entries) + one_at r (row_at (rows_in was.entries) t k) ≡ rows_at r (rows_in was.entries) + one_at r (row_if o)
        counts r = omega (arith, sums (λ s. one_at r s.row), rows-sum r was.entries, rows-sum r now.entries, one-if r (tree.get name_cmp was (t, k)), one-if r o, ap (one_at r) (row-is was t k))

    -- how many keys have rows
    pub rows-counted : sum_by one_if (tree.values now) + has_row (row_at (rows_in was.entries) t k) ≡ sum_by one_if (tree.values was) + has_row (row_if o)
    rows-counted = omega (arith, sums one_if, one-has (tree.get name_cmp was (t, k)), one-has o, ap has_row (row-is was t k))

    -- where its row is the one that it had, all keep theirs
    pub rows-kept : row_if o ≡ row_at (rows_in was.entries) t k → KeepsRows (rows_in was.entries) (rows_in now.entries)
    rows-kept same = record { all = λ t' k'. at t' k' (is_eq (name_cmp (t, k) (t', k'))) refl; counts = λ r. omega (arith, row-becomes.counts r, ap (one_at r) same) }
      where
        at : (t' : ℕ) (k' : Key) (b : Bool) → is_eq (name_cmp (t, k) (t', k')) ≡ b → row_at (rows_in now.entries) t' k' ≡ row_at (rows_in was.entries) t' k'
        at t' k' true is =
            let q = names_exact (t, k) (t', k') ((Equal-is (name_cmp (t, k) (t', k'))).0 is) in
            subst (λ (n : ℕ × Key). row_at (rows_in now.entries) n.0 n.1 ≡ row_at (rows_in was.entries) n.0 n.1) q (row-becomes.here ∙ same)
        at t' k' false is = row-is now t' k' ∙ ap row_if (got t' k' false is) ∙ sym (row-is was t' k')

  -- each key counts its entries, where one of this key came, and where one went
  module _ (es fs : List EmptyEntry) (e : EmptyEntry) (h : HasOneMore es fs e) (table : e.table ≡ t) (key : e.key ≡ k) where
    passes : (t' : ℕ) (k' : Key) → is_of t' k' e ≡ is_eq (name_cmp (t, k) (t', k'))
    passes t' k' = λ i. is_eq (name_cmp (table i, key i) (t', k'))

    one-more : (t' : ℕ) (k' : Key) (b : Bool) → is_eq (name_cmp (t, k) (t', k')) ≡ b → count_by (is_of t' k') fs ≡ count_by (is_of t' k') es + cond b (suc zero) zero
    one-more t' k' b is = more-count (is_of t' k') es fs e h ∙ ap (λ (x : Bool). count_by (is_of t' k') es + cond x (suc zero) zero) (passes t' k' ∙ is)

    pub counted-more : empty_of o ≡ count_by (is_of t k) es + 1 → ((t' : ℕ) (k' : Key) → empty_of (tree.get name_cmp was (t', k')) ≡ count_by (is_of t' k') es) → (t' : ℕ) (k' : Key) → empty_of (tree.get name_cmp now (t', k')) ≡ count_by (is_of t' k') fs
    counted-more more counted t' k' = at (is_eq (name_cmp (t, k) (t', k'))) refl
      where
        at : (b : Bool) → is_eq (name_cmp (t, k) (t', k')) ≡ b → empty_of (tree.get name_cmp now (t', k')) ≡ count_by (is_of t' k') fs
        at true is =
            let q = names_exact (t, k) (t', k') ((Equal-is (name_cmp (t, k) (t', k'))).0 is) in
            let a = subst (λ (n : ℕ × Key). empty_of o ≡ count_by (is_of n.0 n.1) es + 1) q more in
            omega (arith, a, one-more t' k' true is, ap empty_of (got t' k' true is))
        at false is = omega (arith, counted t' k', one-more t' k' false is, ap empty_of (got t' k' false is))

    pub counted-fewer : empty_of o + 1 ≡ count_by (is_of t k) fs → ((t' : ℕ) (k' : Key) → empty_of (tree.get name_cmp was (t', k')) ≡ count_by (is_of t' k') fs) → (t' : ℕ) (k' : Key) → empty_of (tree.get name_cmp now (t', k')) ≡ count_by (is_of t' k') es
    counted-fewer fewer counted t' k' = at (is_eq (name_cmp (t, k) (t', k'))) refl
      where
        at : (b : Bool) → is_eq (name_cmp (t, k) (t', k')) ≡ b → empty_of (tree.get name_cmp now (t', k')) ≡ count_by (is_of t' k') es
        at true is =
            let q = names_exact (t, k) (t', k') ((Equal-is (name_cmp (t, k) (t', k'))).0 is) in
            let a = subst (λ (n : ℕ × Key). empty_of o + 1 ≡ count_by (is_of n.0 n.1) fs) q fewer in
            omega (arith, a, one-more t' k' true is, ap empty_of (got t' k' true is))
        at false is = omega (arith, counted t' k', one-more t' k' false is, ap empty_of (got t' k' false is))

-- the key of an entry that is there counts it
pub some-counted : (es : List EmptyEntry) (e : EmptyEntry) → Stands es e → 1 ≤ count_by (is_of e.table e.key) es
some-counted es e s =
    let h : HasOneMore (s.before ++ s.behind) es e = record { before = s.before; behind = s.behind; old = refl; new = s.is } in
    let p : is_of e.table e.key e ≡ true = ap is_eq (tied_itself names_total (e.table, e.key)) in
    omega (arith, more-count (is_of e.table e.key) (s.before ++ s.behind) es e h, ap (λ (x : Bool). cond x (suc zero) zero) p)

pub lost-one : (was now : BTreeMap (ℕ × Key) KeyState) (q : ℕ × Key) (s fewer : KeyState) → StateBecomes was now q (Some fewer) → fewer.row ≡ s.row → fewer.empty + 1 ≡ s.empty → LosesOne was now q s
lost-one was now q s fewer b row empty = record { state = Some fewer; becomes = b; row = row; fewer = empty }
