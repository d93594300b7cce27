use Rattle.std.proofs.Common.{◌<◌, ◌≡◌, ◌+◌, ◌-◌, ◌∙◌, ◌++◌, ◌∷◌, [], List, ℕ, arith, ap, sym, refl, replicate}
use Rattle.std.specs.List.{range_with_len}
use Rattle.std.proofs.lemmas.List.{replicate_more}
use Rattle.mem_pools.specs.declared.chains.Ends.{Ends}
use Rattle.mem_pools.proofs.Linking.{each_once}
use Rattle.mem_pools.proofs.Made.{nothing, range-more, linked-made, IsLinked-made}
use Rattle.mem_pools.proofs.chains.Chains.new.Goals as goal

pub loop-block-preserved : goal.loop-block-preserved
loop-block-preserved c = record {
  linked = let more = range-more c.loop-block.block (c.loop-block.block + 1) refl in cc;
  len = omega arith;
  room = cc;
}

pub loop-init : goal.loop-init
loop-init c = record {
  made = c.push_reserved-2.ensures.items ∙ ap (λ (es : List Ends). es ++ record { first = 0; last = c.saturating_sub.result; count = c.args.blocks } ∷ []) c.in_ok-ends.ensures.items ∙ ap (λ (n : ℕ). record { first = 0; last = n; count = c.args.blocks } ∷ []) c.saturating_sub.ensures;
  len = omega (arith, c.in_ok-ends.ensures.len);
  room = let room = c.in_ok-ends.ensures.exact in cc;
}

pub loop-preserved : goal.loop-preserved
loop-preserved c = record {
  made = let more = replicate_more c.loop.counter nothing in
      c.push_reserved-in-loop.ensures.items ∙ ap (λ (es : List Ends). es ++ nothing ∷ []) c.loop.invariant.made ∙ ap (λ (es : List Ends). record { first = 0; last = c.args.blocks - 1; count = c.args.blocks } ∷ es) more;
  len = omega arith;
  room = cc;
}

pub invariant_of-result : goal.invariant_of-result
invariant_of-result c =
    let whole : c.loop-block.block ≡ c.args.blocks = omega arith in
    let all : c.loop.counter ≡ c.args.others = omega arith in
    let links = c.loop-block.invariant.linked ∙ ap (range_with_len 1) whole in
    let ends = c.loop.invariant.made ∙ ap (λ (k : ℕ). record { first = 0; last = c.args.blocks - 1; count = c.args.blocks } ∷ replicate k nothing) all in
    rw (links, ends) (IsLinked-made c.args.blocks c.args.others (c.args.blocks - 1) (omega arith) (λ some. omega arith))

pub returns-clause-made : goal.returns-clause-made
returns-clause-made c =
    let whole : c.loop-block.block ≡ c.args.blocks = omega arith in
    let all : c.loop.counter ≡ c.args.others = omega arith in
    let links = c.loop-block.invariant.linked ∙ ap (range_with_len 1) whole in
    let ends = c.loop.invariant.made ∙ ap (λ (k : ℕ). record { first = 0; last = c.args.blocks - 1; count = c.args.blocks } ∷ replicate k nothing) all in
    rw (links, ends) (linked-made c.args.blocks c.args.others (c.args.blocks - 1))

pub returns-clause-owned : goal.returns-clause-owned
returns-clause-owned c = each_once c.loop-block.next.items c.loop.ends.items _ (invariant_of-result c) refl
