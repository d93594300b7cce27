use Rattle.std.proofs.Common.{◌≡◌, ◌∙◌, ap, Some}
use Rattle.chunk_map.specs.Checkpoints.{page_of, root_block, checkpoint_body}
use Rattle.chunk_map.specs.declared.checkpoint.CheckpointPage.{CheckpointPage}
use Rattle.chunk_map.proofs.Bodies.{same_checkpoint, block_where}
use Rattle.chunk_map.proofs.checkpoint.look_at.Goals as goal

pub returns-else-page_of-page-clause-found : goal.returns-else-page_of-page-clause-found
returns-else-page_of-page-clause-found g c = λ tells.
    let x = g.D.Disk.image c.args.disk.now in
    let there : root_block c.args.page x ≡ Some c.read.new.into = c.in_ok-read.ensures.block tells ∙ block_where _ _ c.if-not-branch.false in
    let some = c.in-Some.ensures.some in
    record {
      not_closed = λ none. cc (there, none);
      unread = λ p on.
          let bodies : checkpoint_body c.in-Some.found ≡ checkpoint_body p = cc (there, on.block, some.1) in
          let same = same_checkpoint c.in-Some.found p some.0 on.checkpoint bodies in
          c.if-page_of-page.false (c.page_of.ensures ∙ ap (λ (q : CheckpointPage). page_of q.number) same ∙ on.place);
    }
