use Rattle.std.proofs.Common.{◌≡◌, ◌∙◌, ◌-◌, Some, List, ℕ, sym, ap, arith}
use Rattle.std.proofs.lemmas.Result.{on_ok_weaker}
use Rattle.chunk_map.specs.Checkpoints.{root_page, root_block, checkpoint_body, page_of}
use Rattle.chunk_map.proofs.Renewing.{step_as, next_same, other_apart, renews, is_newest}
use Rattle.chunk_map.proofs.checkpoint.write_next.Goals as goal

pub returns-clause-any_moment : goal.returns-clause-any_moment
returns-clause-any_moment g c =
    let m = g.met.D.Disk in let old = c.args.disk.now in let p = c.args.page.now in let n = p.number in
    c.seen_as.ensures (c.page_of.result, c.bytes-body.result) p old c.rewrite.new.disk c.rewrite.ensures.any_moment (λ x y left step.
    let tells = m.left_tells old (g.D.Disk.now old) x (m.counts_now old x left) in
    let renewal = step_as c.page_of.result (page_of n) c.bytes-body.result (checkpoint_body p) x y c.page_of.ensures c.bytes-body.ensures.body step in
    let other : root_block (3 - page_of n) y ≡ root_block (3 - page_of n) x =
    c.apart.ensures.blocks (root_page (page_of n)) (root_page (3 - page_of n)) x y (other_apart n) renewal.elsewhere 0 (omega arith) in
    renews p x y c.bytes-body.ensures.fits c.requires.block c.requires.index other
    (next_same n (g.D.Disk.image old) x (c.requires.stable x left) (c.requires.next tells)) renewal)

pub returns-clause-shown : goal.returns-clause-shown
returns-clause-shown g c = λ tells.
    let p = c.args.page.now in let n = p.number in let x = g.D.Disk.image c.args.disk.now in let y = g.D.Disk.image c.rewrite.new.disk in
    let renewal = step_as c.page_of.result (page_of n) c.bytes-body.result (checkpoint_body p) x y c.page_of.ensures c.bytes-body.ensures.body (c.rewrite.ensures.shown tells) in
    let other : root_block (3 - page_of n) y ≡ root_block (3 - page_of n) x =
    c.apart.ensures.blocks (root_page (page_of n)) (root_page (3 - page_of n)) x y (other_apart n) renewal.elsewhere 0 (omega arith) in
    renews p x y c.bytes-body.ensures.fits c.requires.block c.requires.index other (c.requires.next tells) renewal

pub returns-clause-newest : goal.returns-clause-newest
returns-clause-newest g c =
    let p = c.args.page.now in let n = p.number in let x = g.D.Disk.image c.args.disk.now in let y = g.D.Disk.image c.rewrite.new.disk in
    on_ok_weaker c.rewrite.result (λ (written : g.D.Disk.tells → root_block c.page_of.result y ≡ Some c.bytes-body.result) (tells : g.D.Disk.tells).
    let renewal = step_as c.page_of.result (page_of n) c.bytes-body.result (checkpoint_body p) x y c.page_of.ensures c.bytes-body.ensures.body (c.rewrite.ensures.shown tells) in
    let other : root_block (3 - page_of n) y ≡ root_block (3 - page_of n) x =
    c.apart.ensures.blocks (root_page (page_of n)) (root_page (3 - page_of n)) x y (other_apart n) renewal.elsewhere 0 (omega arith) in
    let there : root_block (page_of n) y ≡ Some (checkpoint_body p) =
    ap (λ (k : ℕ). root_block k y) (sym c.page_of.ensures) ∙ written tells ∙ ap (λ (b : List ℕ). Some b) c.bytes-body.ensures.body in
    is_newest p x y c.bytes-body.ensures.fits c.requires.block c.requires.index other (c.requires.next tells) there) c.rewrite.ensures.written
