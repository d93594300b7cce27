use Rattle.std.proofs.Common.{◌≡◌, inl, inr, ℕ, ap, sym, ◌∙◌, List, [], Some, arith}
use Rattle.std.specs.BTreeMap as tree
use Rattle.std.specs.Ordering.{nat_cmp}
use Rattle.std.specs.Cmp.{nat_cmp_total}
use Rattle.std.proofs.lemmas.Map.Entries.{btree_map_get_place}
use Rattle.ids_model.specs.Slots.{Own, own_at}
use Rattle.fast_recovery.proofs.Made.{get-made}
use Rattle.fast_recovery.proofs.Greatest.{Entry, greatest_from, above-first, above-each, one-of}
use Rattle.fast_recovery.proofs.owners.Owners.greatest_table.Goals as goal

-- the number is the greatest of all entries
all : (c : goal.In-None) → c.loop-owner.greatest ≡ greatest_from 99 c.self.inside.owners.entries
all c =
    let over : c.loop-owner.owner-iterator ≡ [] = c.in-None.ensures.steps.0 in
    let whole : c.into_iter-owner-iterator.result ≡ c.self.inside.owners.entries = c.into_iter-owner-iterator.ensures.into_iter_gives ∙ c.iter-owner-items.ensures.rest in
    sym (ap (λ (es : List Entry). greatest_from c.loop-owner.greatest es) over) ∙ c.loop-owner.invariant ∙ ap (λ (es : List Entry). greatest_from 99 es) whole

-- what the map has at a page is what the entries have
at-page : (c : goal.In-None) (page : ℕ) → own_at c.args.self.now page ≡ tree.get nat_cmp c.self.inside.owners page
at-page c page = sym (ap (λ (m : Own). own_at m page) c.self.view_is) ∙ get-made c.self.inside.owners page

pub returns-clause-least : goal.returns-clause-least
returns-clause-least c = omega (arith, above-first 99 c.self.inside.owners.entries, all c)

pub returns-clause-owners : goal.returns-clause-owners
returns-clause-owners c = λ page owner is.
    omega (arith, above-each 99 c.self.inside.owners.entries _ owner (sym (at-page c page) ∙ is), all c)

pub returns-clause-is_one : goal.returns-clause-is_one
returns-clause-is_one c = elim (one-of 99 c.self.inside.owners.entries) [
  | inl e ↦ inl (all c ∙ e)
  | inr f ↦ inr (f.1, f.2, at-page c f.1 ∙ btree_map_get_place nat_cmp_total c.self.inside.owners f.0 f.1 _ c.iter-owner-items.ensures.ordered f.3 ∙ ap (λ n. Some (n, f.2)) (sym (all c)))
]
