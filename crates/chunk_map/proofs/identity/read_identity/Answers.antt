use Rattle.std.proofs.Common.{◌≡◌, ◌∙◌, ◌≤◌, ◌*◌, ◌/◌, ℕ, Some, sym, subst, arith}
use mathlib.Core.Bool.{true≢false}
use Rattle.ids_outside.specs.Images.{pages_of}
use Rattle.chunk_map.specs.Layouts.{HasPages, identity_body}
use Rattle.chunk_map.specs.Checkpoints.{root_block, NoCheckpoint}
use Rattle.chunk_map.specs.declared.layout.Layout.{Layout}
use Rattle.chunk_map.proofs.Bodies.{same_layout, block_where}
use Rattle.chunk_map.proofs.identity.read_identity.Goals as goal

whole : (n m : ℕ) → n ≡ 2048 * m → n / 2048 ≡ m
whole n m is = omega (arith, is)

pub returns-else-has_pages-clause-fault : goal.returns-else-has_pages-clause-fault
returns-else-has_pages-clause-fault g c = λ tells.
    let d = g.D.Disk in let x = d.image c.args.disk.now in
    let block : root_block 0 x ≡ Some c.read.new.into = c.in_ok-is_open.ensures.block tells ∙ block_where _ _ c.if-not-is_open.false in
    let found : NoCheckpoint x → ⊥ = subst (λ z. NoCheckpoint z → ⊥) c.read.ensures.same ((c.in_ok-has_checkpoint.ensures.found tells).0 c.if-not-has_checkpoint.false) in
    let some = c.in-Some.ensures.some in
    let size : (j : ℕ) → pages_of x j ≡ d.size c.has_checkpoint.new.disk j = λ j.
    whole _ _ (g.met.D.Disk.image_size c.args.disk.now j tells) ∙ sym (c.has_checkpoint.ensures.sizes j ∙ c.read.ensures.sizes j) in (
      ((c.read.new.into, block, c.has_mark.ensures.0 c.if-not-has_mark.false), found),
      λ l has.
          let bodies : identity_body l ≡ identity_body c.in-Some.layout = cc (block, has.block, some.1) in
          let same = same_layout l c.in-Some.layout has.layout some.0 bodies in
          let pages : HasPages (pages_of x) c.in-Some.layout = subst (λ (m : Layout). HasPages (pages_of x) m) same has.pages in
          let lies : HasPages (d.size c.has_checkpoint.new.disk) c.in-Some.layout = record {
            root = subst (λ (n : ℕ). c.in-Some.layout.root ≤ n) (size 0) pages.root;
            chunks = λ j from to. subst (λ (n : ℕ). c.in-Some.layout.data_pages ≤ n) (size j) (pages.chunks j from to);
          } in
          true≢false (sym (c.has_pages.ensures.1 lies) ∙ c.if-has_pages.false),
    )
