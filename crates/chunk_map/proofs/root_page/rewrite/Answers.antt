use Rattle.std.proofs.Common.{◌≡◌, inl, inr, ◌∙◌, Some, List, ℕ, ap, subst, arith}
use Rattle.ids_outside.specs.Stops.{Leaves}
use Rattle.gate_blocks.specs.Gates.{body, Opening}
use Rattle.gate_blocks.specs.declared.region.Region.{Region}
use Rattle.chunk_map.specs.Checkpoints.{root_page}
use Rattle.chunk_map.proofs.root_page.rewrite.Goals as goal

pub returns-clause-any_moment : goal.returns-clause-any_moment
returns-clause-any_moment g c =
    let d = g.D.Disk in let m = g.met.D.Disk in let old = c.args.disk.now in let mid = c.stage.new.disk in let new = c.open_gates.new.disk in
    let k = c.args.page in let r = root_page k in let bytes = c.args.new.now in
    let run : Leaves d.now d.can_leave d.left_at mid new (Opening r 0 1) =
    subst (λ (s : Region). Leaves d.now d.can_leave d.left_at mid new (Opening s 0 1)) c.region.ensures c.open_gates.ensures.any_moment in
    c.then.ensures (k, bytes) k (k, bytes) old mid new c.stage.ensures.any_moment run (λ x y left step. step) (λ x e y left step left_e last.
    let tells = m.left_tells mid (d.now mid) e (m.counts_now mid e left_e) in
    let there : body r 0 e ≡ bytes = ap (λ z. body r 0 z) (c.in_ok-stage.ensures.durable e left_e) ∙ c.in_ok-stage.ensures.there tells in
    record {
      elsewhere = c.changes.ensures.both r x e y step.elsewhere (c.elsewhere.ensures.opening r 0 1 e y (omega arith) last);
      block = elim (last.each 0 (omega arith, omega arith)) [
        | inl closed ↦ inr (inl closed)
        | inr is ↦ inr (inr (is ∙ ap (λ (b : List ℕ). Some b) there))
      ];
    })
