-- Names of tables in order, where one is put in or taken out.
use Rattle.std.proofs.Common.{◌≡◌, ◌≢◌, ℕ, ◌+◌, ◌<◌, ◌≤◌, ◌==◌, ◌&&◌, ◌^◌, nat_eq, Bool, true, false, not, cond, refl, ap, sym, ◌∙◌, subst, List, ◌∷◌, length, take, Option, Some, None, arith, inl, inr}
use Rattle.std.specs.List.{count_by}
use Rattle.std.specs.Option.{is_none, is_some, option_map, option_and_then}
use Rattle.std.specs.Ordering.{nat_cmp, ordering_then, ordering_reverse, is_lt, is_eq}
use Rattle.std.specs.Cmp.{IsTotalOrder, Equal-is}
use Rattle.std.specs.Cmp.Lexicographic.{slice_cmp, pointwise, same_text, nat_list_cmp_total}
use Rattle.std.specs.declared.cmp.Ordering.{Ordering}
use Rattle.std.specs.declared.cmp.Ordering.TheVariants.{Less, Equal, Greater}
use Rattle.std.proofs.Math.Seq.{take-append_seam}
use Rattle.std.proofs.lemmas.Bool.{false≢true, cases_eq, cases_Bool, and_from, and_parts, eq-eqb, eqb-true}
use Rattle.std.proofs.lemmas.Bool.Decides.{nat_tests}
use Rattle.std.proofs.lemmas.Cmp.{nat_cmp_total, on_total, then_total, ranked, by_ranked}
use Rattle.std.proofs.lemmas.Map.Lookups.{exact_bytes}
use Rattle.ids_base.specs.Shapes.{Name}
use Rattle.std.specs.declared.alloc.Global.{Global}
use Rattle.std.proofs.Common.{Box}
use Rattle.table_space.specs.declared.tree.Node.{Node as TheNode}
use Rattle.table_space.specs.declared.tables.Entered.{Entered}
use Rattle.table_space.specs.declared.tables.TableName.{TableName}
use Rattle.table_space.specs.Ordered.{less, Each, AreBelow, IsOrdered, IsPut, IsTaken, HasNone, IsFirstFrom}
use Rattle.table_space.specs.Tables.{Known, table_name, name_cmp, is_shown, is_shown_as, AreShown, AreNumbers, IsLeastShown, Shows}
use Rattle.table_space.proofs.Keys.{same_bytes}
use Rattle.table_space.proofs.Ordered.{each-append, each-weaker, ordered-from}
use Rattle.table_space.proofs.Tallies.{count-put, count-taken, count-none, count-middle, each-counted}

abbrev Node : Type 0
Node = Box (TheNode TableName) Global

-- names of which neither is less are one
pub names_total : IsTotalOrder name_cmp
names_total = then_total (on_total (λ (x : TableName). x.text) nat_list_cmp_total) (then_total (on_total (λ (x : TableName). x.len) nat_cmp_total) (on_total (λ (x : TableName). x.table) nat_cmp_total))

then-equal : (a b : Ordering) → ordering_then a b ≡ Equal → (a ≡ Equal) × (b ≡ Equal)
then-equal Less b e = cc
then-equal Equal b e = (refl, e)
then-equal Greater b e = cc

nats-same : (a b : ℕ) → nat_cmp a b ≡ Equal → a ≡ b
nats-same a b e = by_ranked _ _ _ (nat_cmp a b) (ranked a b (nat_cmp a b) refl) (λ l _. cc) (λ _ h. h) (λ l _. cc)

exact : (a b : TableName) → name_cmp a b ≡ Equal → a ≡ b
exact a b e =
    let p = then-equal _ _ e in
    let q = then-equal _ _ p.1 in
    let text = exact_bytes a.text b.text p.0 in
    let len = nats-same a.len b.len q.0 in
    let table = nats-same a.table b.table q.1 in
    λ i. record { text = text i; len = len i; table = table i }

is-same : (a b : TableName) → is_eq (name_cmp a b) ≡ true → a ≡ b
is-same a b e = exact a b ((Equal-is (name_cmp a b)).0 e)

turned : (o p : Ordering) → p ≡ ordering_reverse o → is_lt o ≡ false → is_lt p ≡ false → o ≡ Equal
turned Less p e a b = cc
turned Equal p e a b = refl
turned Greater p e a b = absurd (false≢true (sym b ∙ ap is_lt e))

neither-less : (a b : TableName) → less name_cmp a b ≡ false → less name_cmp b a ≡ false → a ≡ b
neither-less a b p q = exact a b (turned (name_cmp a b) (name_cmp b a) (names_total.antisymm b a) p q)

itself : (a : TableName) → name_cmp a a ≡ Equal
itself a = at (name_cmp a a) (names_total.antisymm a a)
  where
    at : (o : Ordering) → o ≡ ordering_reverse o → o ≡ Equal
    at Less e = cc
    at Equal e = refl
    at Greater e = cc

-- the names of tables by their bytes and numbers
name-back : (n m : Name) (t u : ℕ) → table_name n t ≡ table_name m u → n ≡ m
name-back n m t u e =
    let text = ap (λ (x : TableName). x.text) e in
    let len : length n ≡ length m = ap (λ (x : TableName). x.len) e in
    sym (take-append_seam n _) ∙ (ap (λ k. take k (table_name n t).text) len ∙ (ap (take (length m)) text ∙ take-append_seam m _))

pub same-name : (n m : Name) (t : ℕ) → is_eq (name_cmp (table_name n t) (table_name m t)) ≡ pointwise nat_eq n m
same-name n m t = elim (cases_Bool (pointwise nat_eq n m)) [
  | inl is ↦
      let e : n ≡ m = same_text n m (sym is) in
      subst (λ k. is_eq (name_cmp (table_name n t) (table_name k t)) ≡ pointwise nat_eq n k) e (ap is_eq (itself (table_name n t)) ∙ sym (same_bytes n))
  | inr not ↦ elim (cases_Bool (is_eq (name_cmp (table_name n t) (table_name m t)))) [
    | inl is ↦ absurd (false≢true (sym not ∙ subst (λ k. pointwise nat_eq n k ≡ true) (name-back n m t t (is-same (table_name n t) (table_name m t) is)) (same_bytes n)))
    | inr none ↦ none ∙ sym not
  ]
]

pub other-table : (n m : Name) (t u : ℕ) → t ≢ u → is_eq (name_cmp (table_name n t) (table_name m u)) ≡ false
other-table n m t u ne = elim (cases_Bool (is_eq (name_cmp (table_name n t) (table_name m u)))) [
  | inl is ↦ absurd (ne (ap (λ (x : TableName). x.table) (is-same (table_name n t) (table_name m u) is)))
  | inr none ↦ none
]

-- a table whose name is not shown is shown as none
pub hidden : (n : Name) (o : Option Entered) → is_shown o ≡ false → is_shown_as n o ≡ false
hidden n None h = refl
hidden n (Some e) h = rw h refl

abbrev test : Name → ℕ → TableName → Bool
test n t x = is_eq (name_cmp x (table_name n t))

module _ (was now : Known) (xs ys : List TableName) (t : ℕ) (beside : (u : ℕ) → u ≢ t → now u ≡ was u) (are : AreShown was xs) where
  -- another table goes in place of one that was not shown, and is not shown
  pub shown-hidden : is_shown (was t) ≡ false → is_shown (now t) ≡ false → AreShown now xs
  shown-hidden before behind = λ n u. elim (cases_eq u t) [
    | inl same ↦ are n u ∙ (ap (λ k. cond (is_shown_as n (was k)) 1 0) same ∙ (rw (hidden n (was t) before) (sym (ap (λ k. cond (is_shown_as n (now k)) 1 0) same ∙ rw (hidden n (now t) behind) refl))))
    | inr other ↦ rw (beside u other) (are n u)
  ]

  module _ (e f : Entered) (entered : was t ≡ Some e) (left : now t ≡ Some f) where
    -- a name is put in
    pub shown-put : is_none e.node ≡ false → is_none f.node ≡ true → f.table ≡ e.table → IsPut name_cmp xs ys (table_name e.table.name t) → AreShown now ys
    shown-put before behind table put = λ n u. elim (cases_eq u t) [
      | inl same ↦
          let c = count-put (test n t) name_cmp xs ys (table_name e.table.name t) put in
          let o : count_by (test n t) xs ≡ 0 = are n t ∙ rw (entered, before) refl in
          let k : cond {A = ℕ} (test n t (table_name e.table.name t)) 1 0 ≡ cond (is_shown_as n (now t)) 1 0 = rw (left, behind, table, same-name e.table.name n t) refl in
          let g : count_by (test n t) ys ≡ cond (is_shown_as n (now t)) 1 0 = omega (arith, c, o, k) in
          subst (λ k. count_by (test n k) ys ≡ cond (is_shown_as n (now k)) 1 0) (sym same) g
      | inr other ↦
          let c = count-put (test n u) name_cmp xs ys (table_name e.table.name t) put in
          let k : cond {A = ℕ} (test n u (table_name e.table.name t)) 1 0 ≡ 0 = rw (other-table e.table.name n t u (λ s. other (sym s))) refl in
          rw (beside u other) (omega (arith, c, k, are n u))
    ]

    -- a name is taken out
    pub shown-taken : (x : TableName) → is_none f.node ≡ false → IsTaken name_cmp xs ys (table_name e.table.name t) x → AreShown now ys
    shown-taken x behind taken = λ n u. elim (cases_eq u t) [
      | inl same ↦
          let c = counted n t in
          let m = counted e.table.name t in
          let one : cond {A = ℕ} (test e.table.name t (table_name e.table.name t)) 1 0 ≡ 1 = rw (itself (table_name e.table.name t)) refl in
          let w = are e.table.name t ∙ ap (λ o. cond (is_shown_as e.table.name o) 1 0) entered in
          let there : is_none e.node ≡ true = shown (is_none e.node) (pointwise nat_eq e.table.name e.table.name) (omega (arith, m, one, w)) in
          let o : count_by (test n t) xs ≡ cond (test n t (table_name e.table.name t)) 1 0 = are n t ∙ rw (entered, there, same-name e.table.name n t) refl in
          let g : count_by (test n t) ys ≡ cond (is_shown_as n (now t)) 1 0 = rw (left, behind) (omega (arith, c, o)) in
          subst (λ k. count_by (test n k) ys ≡ cond (is_shown_as n (now k)) 1 0) (sym same) g
      | inr other ↦
          let c = counted n u in
          let k : cond {A = ℕ} (test n u (table_name e.table.name t)) 1 0 ≡ 0 = rw (other-table e.table.name n t u (λ s. other (sym s))) refl in
          rw (beside u other) (omega (arith, c, k, are n u))
    ]
      where
        is : x ≡ table_name e.table.name t
        is = neither-less x (table_name e.table.name t) taken.not_less taken.not_greater

        counted : (n : Name) (u : ℕ) → count_by (test n u) xs ≡ count_by (test n u) ys + cond (test n u (table_name e.table.name t)) 1 0
        counted n u = rw is at (count-taken (test n u) name_cmp xs ys (table_name e.table.name t) x taken)

        shown : (a b : Bool) → 0 < cond {A = ℕ} (a && b) 1 0 → a ≡ true
        shown true b h = refl
        shown false b h = absurd (omega arith)

-- where no name is to be taken out, it was not shown
pub shown-none : (get : Known) (xs : List TableName) (t : ℕ) (e : Entered) → AreShown get xs → get t ≡ Some e → HasNone name_cmp xs (table_name e.table.name t) → is_none e.node ≡ false
shown-none get xs t e are entered none = elim (cases_Bool (is_none e.node)) [
  | inl is ↦
      let y = table_name e.table.name t in
      let n = count-none (test e.table.name t) xs (each-weaker _ _ xs (λ x h. fails x (test e.table.name t x) refl h) none) in
      let one : cond {A = ℕ} (is_shown_as e.table.name (get t)) 1 0 ≡ 1 = rw (entered, is, same_bytes e.table.name) refl in
      absurd (omega (arith, n, one, are e.table.name t))
  | inr not ↦ not
]
  where
    not-less : less name_cmp (table_name e.table.name t) (table_name e.table.name t) ≡ false
    not-less = ap is_lt (itself (table_name e.table.name t))

    fails : (x : TableName) (b : Bool) → test e.table.name t x ≡ b → (less name_cmp x (table_name e.table.name t) ≡ false → less name_cmp (table_name e.table.name t) x ≡ true) → test e.table.name t x ≡ false
    fails x false is h = is
    fails x true is h =
        let s = is-same x (table_name e.table.name t) is in
        let l : less name_cmp x (table_name e.table.name t) ≡ false = rw s not-less in
        absurd (false≢true (sym not-less ∙ subst (λ y. less name_cmp (table_name e.table.name t) y ≡ true) s (h l)))

first-not : (a b : Ordering) → is_lt (ordering_then a b) ≡ false → is_lt a ≡ false
first-not Less b h = h
first-not Equal b h = refl
first-not Greater b h = refl

then-not : (a b : Ordering) → a ≡ Equal → is_lt (ordering_then a b) ≡ false → is_lt b ≡ false
then-not Less b e h = cc
then-not Equal b e h = h
then-not Greater b e h = cc

-- what is between a name with one number and with another is that name
between : (n : Name) (t : ℕ) (x : TableName) → less name_cmp (table_name n t) x ≡ false → less name_cmp x (table_name n 0) ≡ false → (pointwise nat_eq x.text (table_name n 0).text && (x.len == length n)) ≡ true
between n t x a b =
    let text = (table_name n 0).text in
    let p = turned (slice_cmp nat_cmp x.text text) (slice_cmp nat_cmp text x.text) (nat_list_cmp_total.antisymm text x.text) (first-not _ _ b) (first-not _ _ a) in
    let q = turned (slice_cmp nat_cmp text x.text) (slice_cmp nat_cmp x.text text) (nat_list_cmp_total.antisymm x.text text) (first-not _ _ a) (first-not _ _ b) in
    let c = then-not (slice_cmp nat_cmp text x.text) _ q a in
    let d = then-not (slice_cmp nat_cmp x.text text) _ p b in
    let l = turned (nat_cmp x.len (length n)) (nat_cmp (length n) x.len) (nat_cmp_total.antisymm (length n) x.len) (first-not _ _ d) (first-not _ _ c) in
    and_from _ _ (subst (λ y. pointwise nat_eq y text ≡ true) (sym (exact_bytes x.text text p)) (same_bytes text)) (eq-eqb x.len (length n) (nats-same x.len (length n) l))

-- what a table was entered with, by its name
entered-of : (o : Option Entered) (t : ℕ) (x : TableName) → option_map (λ (e : Entered). table_name e.table.name t) o ≡ Some x → (e : Entered) × (o ≡ Some e) × (x ≡ table_name e.table.name t)
entered-of None t x h = absurd (cc)
entered-of (Some e) t x h = (e, refl, cc)

none-not : (o : Option Node) (node : Node) → o ≡ Some node → is_none o ≡ false
none-not o node e = rw e refl

module _ (was now : Known) (xs ys : List TableName) (t : ℕ) (x : TableName) (node : Node) (named : option_map (λ (e : Entered). table_name e.table.name t) (was t) ≡ Some x) (beside : (u : ℕ) → u ≢ t → now u ≡ was u) (are : AreShown was xs) where
  -- a name is shown, and is no longer
  pub names-show : option_and_then (λ (e : Entered). e.node) (was t) ≡ Some node → now t ≡ option_map (λ (e : Entered). record e { node = None }) (was t) → IsPut name_cmp xs ys x → AreShown now ys
  names-show given here put =
      let e = entered-of (was t) t x named in
      shown-put was now xs ys t beside are e.0 (record e.0 { node = None }) e.1 (here ∙ ap (option_map (λ (e : Entered). record e { node = None })) e.1)
      (none-not e.0.node node (sym (ap (option_and_then (λ (e : Entered). e.node)) e.1) ∙ given)) refl refl (subst (λ y. IsPut name_cmp xs ys y) e.2 put)

  pub names-hide : (y : TableName) → now t ≡ option_map (λ (e : Entered). record e { node = Some node }) (was t) → IsTaken name_cmp xs ys x y → AreShown now ys
  names-hide y here taken =
      let e = entered-of (was t) t x named in
      shown-taken was now xs ys t beside are e.0 (record e.0 { node = Some node }) e.1 (here ∙ ap (option_map (λ (e : Entered). record e { node = Some node })) e.1) y refl (subst (λ z. IsTaken name_cmp xs ys z y) e.2 taken)

pub names-none : (get : Known) (xs : List TableName) (t : ℕ) (x : TableName) → option_map (λ (e : Entered). table_name e.table.name t) (get t) ≡ Some x → AreShown get xs → HasNone name_cmp xs x → Shows get get t false
names-none get xs t x named are none =
    let e = entered-of (get t) t x named in
    record {
      kept = λ u. refl;
      here = ap is_shown e.1 ∙ (shown-none get xs t e.0 are e.1 (subst (HasNone name_cmp xs) e.2 none) ∙ sym (and-none (is_some (get t))));
      beside = λ u ne. refl;
    }
  where
    and-none : (b : Bool) → (b && false) ≡ false
    and-none true = refl
    and-none false = refl

-- the same tables have numbers of 32 bits
pub numbers-kept : (was now : Known) (t : ℕ) (f : Entered → Entered) → now t ≡ option_map f (was t) → ((u : ℕ) → u ≢ t → now u ≡ was u) → AreNumbers was → AreNumbers now
numbers-kept was now t f here beside are = λ u some. elim (cases_eq u t) [
  | inl same ↦ are u (ap (λ k. is_some (was k)) same ∙ (sym (mapped (was t)) ∙ (ap is_some (sym here) ∙ (ap (λ k. is_some (now k)) (sym same) ∙ some))))
  | inr other ↦ are u (ap is_some (sym (beside u other)) ∙ some)
]
  where
    mapped : (o : Option Entered) → is_some (option_map f o) ≡ is_some o
    mapped None = refl
    mapped (Some e) = refl

-- a table of 32 bits more
pub numbers-more : (was now : Known) (t : ℕ) → t < 2 ^ 32 → ((u : ℕ) → u ≢ t → now u ≡ was u) → AreNumbers was → AreNumbers now
numbers-more was now t few beside are = λ u some. elim (cases_eq u t) [
  | inl same ↦ omega (arith, same, few)
  | inr other ↦ are u (ap is_some (sym (beside u other)) ∙ some)
]

-- the first name from the least on that a table may have
module _ (get : Known) (xs : List TableName) (n : Name) (are : AreShown get xs) (ordered : IsOrdered name_cmp xs) where
  stands : (t : ℕ) → is_shown_as n (get t) ≡ true → 0 < count_by (test n t) xs
  stands t h =
      let one : cond {A = ℕ} (is_shown_as n (get t)) 1 0 ≡ 1 = rw h refl in
      omega (arith, one, are n t)

  of-shown : (P : TableName → Type 0) (t : ℕ) → is_shown_as n (get t) ≡ true → Each P xs → P (table_name n t)
  of-shown P t h all = each-counted (test n t) P (table_name n t) xs (λ x e. is-same x (table_name n t) e) all (stands t h)

  -- by the name, and then by the number
  number-less : (t u : ℕ) → less name_cmp (table_name n t) (table_name n u) ≡ is_lt (nat_cmp t u)
  number-less t u = rw (ap-text, ap-len) refl
    where
      ap-text : slice_cmp nat_cmp (table_name n t).text (table_name n t).text ≡ Equal
      ap-text = (then-equal (slice_cmp nat_cmp (table_name n t).text (table_name n t).text) (ordering_then (nat_cmp (length n) (length n)) (nat_cmp t t)) (itself (table_name n t))).0

      ap-len : nat_cmp (length n) (length n) ≡ Equal
      ap-len = (then-equal (nat_cmp (length n) (length n)) (nat_cmp t t) (then-equal (slice_cmp nat_cmp (table_name n t).text (table_name n t).text) (ordering_then (nat_cmp (length n) (length n)) (nat_cmp t t)) (itself (table_name n t))).1).0

  from-least : (t : ℕ) → less name_cmp (table_name n t) (table_name n 0) ≡ false
  from-least t = number-less t 0 ∙ grind (arith, nat_tests)

  no-less : (t u : ℕ) → less name_cmp (table_name n t) (table_name n u) ≡ false → u ≤ t
  no-less t u h =
      let e : is_lt (nat_cmp t u) ≡ false = sym (number-less t u) ∙ h in
      grind (arith, nat_tests)

  -- there is none
  pub named-none : AreBelow name_cmp (table_name n 0) xs → (t : ℕ) → is_shown_as n (get t) ≡ false
  named-none below t = elim (cases_Bool (is_shown_as n (get t))) [
    | inl is ↦ absurd (false≢true (sym (from-least t) ∙ of-shown (λ x. less name_cmp x (table_name n 0) ≡ true) t is below))
    | inr not ↦ not
  ]

  module _ (x : TableName) (h : IsFirstFrom name_cmp xs (table_name n 0) x) where
    -- what is shown as the name is not less than the first
    abbrev IsBehind : TableName → Type 0
    IsBehind y = less name_cmp y (table_name n 0) ≡ false → less name_cmp y x ≡ false

    behind : Each IsBehind xs
    behind =
        subst (Each IsBehind) (sym h.is) (each-append IsBehind h.before (x ∷ h.behind)
        (each-weaker _ IsBehind h.before (λ y l f. absurd (false≢true (sym f ∙ l))) h.low)
        ((λ _. ap is_lt (itself x)), each-weaker _ IsBehind h.behind (λ y l _. l) (ordered-from name_cmp h.before h.behind x (subst (IsOrdered name_cmp) h.is ordered))))

    not-before : (t : ℕ) → is_shown_as n (get t) ≡ true → less name_cmp (table_name n t) x ≡ false
    not-before t s = of-shown IsBehind t s behind (from-least t)

    -- it has the name
    pub named-one : (pointwise nat_eq x.text (table_name n 0).text && (x.len == length n)) ≡ true → IsLeastShown get n x.table
    named-one same =
        let p = and_parts _ _ same in
        let text : x.text ≡ (table_name n 0).text = same_text x.text (table_name n 0).text (sym p.0) in
        let len : x.len ≡ length n = eqb-true x.len (length n) p.1 in
        let e : x ≡ table_name n x.table = λ i. record { text = text i; len = len i; table = x.table } in
        let c : 0 < count_by (test n x.table) xs = omega (arith, ap (count_by (test n x.table)) h.is, count-middle (test n x.table) h.before h.behind x, ap {B = ℕ} (λ y. cond (is_eq (name_cmp x y)) 1 0) (sym e), ap {B = ℕ} (λ o. cond (is_eq o) 1 0) (itself x)) in
        record {
          one = one (is_shown_as n (get x.table)) (omega (arith, c, are n x.table));
          least = λ t s. no-less t x.table (subst (λ y. less name_cmp (table_name n t) y ≡ false) e (not-before t s));
        }
      where
        one : (b : Bool) → 0 < cond {A = ℕ} b 1 0 → b ≡ true
        one true h = refl
        one false h = absurd (omega arith)

    -- it has not, so that there is none
    pub named-other : (pointwise nat_eq x.text (table_name n 0).text && (x.len == length n)) ≡ false → (t : ℕ) → is_shown_as n (get t) ≡ false
    named-other other t = elim (cases_Bool (is_shown_as n (get t))) [
      | inl is ↦ absurd (false≢true (sym other ∙ between n t x (not-before t is) h.high))
      | inr not ↦ not
    ]
