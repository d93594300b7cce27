use Rattle.std.proofs.Common.{◌≡◌, ℕ, ◌+◌, Some, None, refl, ◌∙◌, sym, ap, subst, arith, length}
use Rattle.std.specs.List.{count_by}
use Rattle.std.specs.Ordering.{is_eq}
use Rattle.std.specs.BTreeMap as tree
use Rattle.ids_base.specs.declared.lock.Key.{Key}
use Rattle.table_space.specs.Emptied.{is_of, IsWhole, Stands, HasOneMore, IsExchanged}
use Rattle.table_space.specs.Index.{empty_of}
use Rattle.table_space.specs.Numbers.{name_cmp}
use Rattle.table_space.proofs.EmptyLists.{taken-fewer, taken-spare, put-more, more-longer, each-more, each-fewer, exchanged-count, not-taken}
use Rattle.table_space.proofs.index.Index.change.Goals as goal

pub invariant_of-self : goal.invariant_of-self
invariant_of-self c =
    let e = c.args.from.now in
    let f = c.args.to in
    let s = subst (λ z. Stands z.empty e) (sym c.self.view_is) c.requires.there in
    let went : HasOneMore c.take.new.self.items c.self.inside.empty.items e = taken-fewer _ _ _ _ c.take.ensures.taken s in
    let spare = taken-spare _ _ _ _ _ _ c.take.ensures.taken c.take.ensures.spare s in
    let came : HasOneMore c.take.new.self.items c.put.new.self.items f = put-more _ _ _ c.put.ensures.put in
    record {
      sorted = c.self.invariant.sorted;
      ordered = c.put.ensures.ordered;
      few = omega (arith, more-longer _ _ _ went, more-longer _ _ _ came, spare, c.put.ensures.spare, c.self.invariant.few);
      room = omega (arith, spare, c.put.ensures.spare, c.self.invariant.room);
      whole = each-more IsWhole _ _ f came (each-fewer IsWhole _ _ e went c.self.invariant.whole) c.requires.whole;
      counted = λ t k. c.self.invariant.counted t k ∙ sym (exchanged-count (is_of t k) _ _ _ e f went came (λ i. is_eq (name_cmp (c.requires.table i, c.requires.key i) (t, k))));
    }

pub returns-then-is_some-clause-exchanged : goal.returns-then-is_some-clause-exchanged
returns-then-is_some-clause-exchanged c =
    let v = c.self.view_is in
    let s = subst (λ z. Stands z.empty c.args.from.now) (sym v) c.requires.there in
    record { beside = c.take.new.self.items; left = subst (λ z. HasOneMore c.take.new.self.items z.empty c.args.from.now) v (taken-fewer _ _ _ _ c.take.ensures.taken s); joined = put-more _ _ _ c.put.ensures.put }

pub returns-else-is_some-clause-exchanged : goal.returns-else-is_some-clause-exchanged
returns-else-is_some-clause-exchanged c =
    absurd (not-taken _ _ _ _ c.take.ensures.taken (subst (λ z. Stands z.empty c.args.from.now) (sym c.self.view_is) c.requires.there) (sym c.is_some.ensures ∙ c.if-is_some.false))
