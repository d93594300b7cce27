-- The finite map that the entries of a `BTreeMap` with numbers as keys make.
use Rattle.std.proofs.Common.{◌≡◌, ℕ, cond, refl, ap, sym, ◌∙◌, List, [], ◌∷◌, Some, None}
use Rattle.std.specs.BTreeMap as tree
use Rattle.std.specs.BTreeMap.{BTreeMap, is_at}
use Rattle.std.specs.FinMap as map
use Rattle.std.specs.FinMap.{FinMap, find, from_entries, get-from_entries, get-insert, get-remove, same_map, nat_cmp-IsAntisymmetric}
use Rattle.std.specs.Map.{lookup}
use Rattle.std.specs.Ordering.{nat_cmp, eq_by_cmp}
use Rattle.std.specs.Cmp.{nat_cmp_total, eq_by_cmp_equiv}

module _ {V : Type 0} where
  abbrev pub made : BTreeMap ℕ V → FinMap nat_cmp V
  made m = from_entries m.entries

  find_lookup : (es : List (ℕ × V)) (q : ℕ) → find nat_cmp q es ≡ lookup (is_at (nat_cmp q)) es
  find_lookup [] q = refl
  find_lookup (e ∷ es) q = ap (cond (is_at (nat_cmp q) e.0) (Some e.1)) (find_lookup es q)

  pub get-made : (m : BTreeMap ℕ V) (q : ℕ) → map.get (made m) q ≡ tree.get nat_cmp m q
  get-made m q = get-from_entries nat_cmp_total m.entries q ∙ find_lookup m.entries q

  pub insert-made : (m n : BTreeMap ℕ V) (k : ℕ) (v : V) → ((q : ℕ) → tree.get nat_cmp n q ≡ cond (is_at (nat_cmp k) q) (Some v) (tree.get nat_cmp m q)) → made n ≡ map.insert (made m) k v
  insert-made m n k v h = same_map nat_cmp_total nat_cmp-IsAntisymmetric _ _ (λ q.
      get-made n q ∙ h q ∙ ap (λ b. cond b (Some v) (tree.get nat_cmp m q)) ((eq_by_cmp_equiv nat_cmp_total).symm k q)
      ∙ sym (get-insert nat_cmp_total (made m) k v q ∙ ap (cond (eq_by_cmp nat_cmp q k) (Some v)) (get-made m q)))

  pub remove-made : (m n : BTreeMap ℕ V) (k : ℕ) → ((q : ℕ) → tree.get nat_cmp n q ≡ cond (is_at (nat_cmp k) q) None (tree.get nat_cmp m q)) → made n ≡ map.remove (made m) k
  remove-made m n k h = same_map nat_cmp_total nat_cmp-IsAntisymmetric _ _ (λ q.
      get-made n q ∙ h q ∙ ap (λ b. cond b None (tree.get nat_cmp m q)) ((eq_by_cmp_equiv nat_cmp_total).symm k q)
      ∙ sym (get-remove nat_cmp_total (made m) k q ∙ ap (cond (eq_by_cmp nat_cmp q k) None) (get-made m q)))
