use Rattle.std.proofs.Common.{◌∙◌, sym, ap, arith, [], ◌∷◌}
use Rattle.std.proofs.lemmas.Result.{on_ok_weaker}
use Rattle.gate_blocks.specs.Gates.{body, HasBodies}
use Rattle.gate_blocks.specs.declared.region.Region.{Region}
use Rattle.chunk_map.proofs.root_page.stage.Goals as goal

pub returns-clause-there : goal.returns-clause-there
returns-clause-there g c =
    let d = g.D.Disk in let y = d.image c.write_bodies.new.disk in
    on_ok_weaker c.write_bodies.result (λ (bodies : d.tells → HasBodies c.region-place.result 0 (c.args.new.now ∷ []) y) (tells : d.tells).
    ap (λ (r : Region). body r 0 y) (sym c.region-place.ensures) ∙ bodies tells 0 (omega arith)) c.write_bodies.ensures.bodies
