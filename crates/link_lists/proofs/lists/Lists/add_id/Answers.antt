use Rattle.std.proofs.Common.{◌≡◌, ◌∙◌, ℕ, ◌+◌, ◌≤◌, ◌<◌, sym, refl, arith, Result, Ok, Err, OnOk, OnErr, IfOk}
use Rattle.link_lists.specs.Web.{home_of}
use Rattle.link_lists.proofs.Seen.{length-made}
use Rattle.link_lists.proofs.Calls.{is-sound, ids-are, grown-well, grown-lists, grown-homes, grown-count}
use Rattle.link_lists.proofs.lists.Lists.add_id.Goals as goal

rises : {E : Type 0} (r : Result ℕ E) (n m : ℕ) → OnOk r (m ≡ n + 1) → OnErr r (m ≡ n) → n ≤ m
rises (Ok x) n m h g = omega (arith, h)
rises (Err e) n m h g = omega (arith, g)

told : {E : Type 0} (r : Result ℕ E) (n m k : ℕ) → n ≡ m → IfOk r (λ id. (id ≡ n) × (id < k)) → IfOk r (λ id. id ≡ m)
told (Ok x) n m k e h = h.0 ∙ e
told (Err x) n m k e h = tt

more : {E : Type 0} (r : Result ℕ E) (n m a b : ℕ) → n ≡ a → m ≡ b → OnOk r (m ≡ n + 1) → OnOk r (b ≡ a + 1)
more (Ok x) n m a b e f h = omega (arith, e, f, h)
more (Err x) n m a b e f h = tt

same : {E : Type 0} (r : Result ℕ E) (n m a b : ℕ) → n ≡ a → m ≡ b → OnErr r (m ≡ n) → OnErr r (b ≡ a)
same (Ok x) n m a b e f h = tt
same (Err x) n m a b e f h = omega (arith, e, f, h)

pub add_id-requires : goal.add_id-requires
add_id-requires c = let e = ids-are _ _ c.self.view_is c.self.invariant in let h = c.requires in omega (arith, e, h)

pub invariant_of-self : goal.invariant_of-self
invariant_of-self c = grown-well _ _ c.self.view_is c.self.invariant c.add_id.new.self c.add_id.ensures.lists (rises c.add_id.result c.self.inside.web.ids c.add_id.new.self.ids c.add_id.ensures.more c.add_id.ensures.same_ids) c.add_id.new.self.few_ids c.add_id.ensures.next c.add_id.ensures.prev c.add_id.ensures.home

pub returns-clause-id : goal.returns-clause-id
returns-clause-id c = told c.add_id.result _ _ _ (ids-are _ _ c.self.view_is c.self.invariant) c.add_id.ensures.id

pub returns-clause-more : goal.returns-clause-more
returns-clause-more c = more c.add_id.result _ _ _ _ (ids-are _ _ c.self.view_is c.self.invariant) (sym (length-made c.add_id.new.self.ids (home_of c.add_id.new.self))) c.add_id.ensures.more

pub returns-clause-err : goal.returns-clause-err
returns-clause-err c = same c.add_id.result _ _ _ _ (ids-are _ _ c.self.view_is c.self.invariant) (sym (length-made c.add_id.new.self.ids (home_of c.add_id.new.self))) c.add_id.ensures.same_ids

pub returns-clause-lists : goal.returns-clause-lists
returns-clause-lists c = grown-count _ _ c.self.view_is c.self.invariant c.add_id.new.self c.add_id.ensures.lists (rises c.add_id.result c.self.inside.web.ids c.add_id.new.self.ids c.add_id.ensures.more c.add_id.ensures.same_ids) c.add_id.new.self.few_ids c.add_id.ensures.next c.add_id.ensures.prev c.add_id.ensures.home

pub returns-clause-same : goal.returns-clause-same
returns-clause-same c = grown-lists _ _ c.self.view_is c.self.invariant c.add_id.new.self c.add_id.ensures.lists (rises c.add_id.result c.self.inside.web.ids c.add_id.new.self.ids c.add_id.ensures.more c.add_id.ensures.same_ids) c.add_id.new.self.few_ids c.add_id.ensures.next c.add_id.ensures.prev c.add_id.ensures.home

pub returns-clause-homes : goal.returns-clause-homes
returns-clause-homes c = grown-homes _ _ c.self.view_is c.self.invariant c.add_id.new.self c.add_id.ensures.lists (rises c.add_id.result c.self.inside.web.ids c.add_id.new.self.ids c.add_id.ensures.more c.add_id.ensures.same_ids) c.add_id.new.self.few_ids c.add_id.ensures.next c.add_id.ensures.prev c.add_id.ensures.home

pub returns-clause-sound : goal.returns-clause-sound
returns-clause-sound c = is-sound _ _ refl (grown-well _ _ c.self.view_is c.self.invariant c.add_id.new.self c.add_id.ensures.lists (rises c.add_id.result c.self.inside.web.ids c.add_id.new.self.ids c.add_id.ensures.more c.add_id.ensures.same_ids) c.add_id.new.self.few_ids c.add_id.ensures.next c.add_id.ensures.prev c.add_id.ensures.home)
