use Rattle.std.proofs.Common.{◌≡◌, ◌<◌, ◌≤◌, ◌+◌, ℕ, [], length, take, get_or, Some, sym, subst, ap, ◌∙◌, arith, refl}
use Rattle.std.proofs.lemmas.List.{length-take-le, get_or-take}
use Rattle.std.proofs.lemmas.Result.{on_ok_weaker}
use Rattle.gate_blocks.specs.Gates.{block, body, Within}
use Rattle.log_files.specs.Log.{ring_place, body_at}
use Rattle.log_files.specs.Files.{HasFiles, taken}
use Rattle.log_files.proofs.Steps.{both_ok}
use Rattle.log_files.proofs.Writing.{staged_of, opening_of, spelled_of, opened_of}
use Rattle.log_files.proofs.Growing.{each_has_record, closed_new, none_grown, some_grown, all_has, kept_grown, opened_new}
use Rattle.log_files.proofs.files.LogFiles.write_group.Goals as goal

pub spell-requires-clause-each : goal.spell-requires-clause-each
spell-requires-clause-each g c = each_has_record c.args.bodies.now c.args.self.now.next c.requires.numbered

pub write_bodies-requires-clause-closed : goal.write_bodies-requires-clause-closed
write_bodies-requires-clause-closed g c = λ x left k w.
    let f = c.args.self.now in let bodies = c.args.bodies.now in let ring = c.next.ensures.ring in
    let at : c.place-at.result ≡ ring_place f.region f.next = c.place-at.ensures.place ∙ ap (λ n. ring_place f.region n) c.next.ensures.next in
    let among : Within (ring_place f.region f.next) (length bodies) k = (omega (arith, w.0, at), omega (arith, w.1, at, length-take-le (length bodies) c.spell.new.into)) in
    ap (λ r. block r k x) c.region-region.ensures.region ∙ closed_new f ring bodies c.requires.straight c.requires.room x (c.requires.ready.files x left) k among

pub returns-in_err-write_bodies-clause-any_moment : goal.returns-in_err-write_bodies-clause-any_moment
returns-in_err-write_bodies-clause-any_moment g c =
    let f = c.args.self.now in let bodies = c.args.bodies.now in let ring = c.next.ensures.ring in let straight = c.requires.straight in let room = c.requires.room in let ready = c.requires.ready in
    let into = c.spell.new.into in let ws = take (length bodies) into in
    let r = c.region-region.result in let at = c.place-at.result in
    let er = c.region-region.ensures.region in
    let ea : at ≡ ring_place f.region f.next = c.place-at.ensures.place ∙ ap (λ n. ring_place f.region n) c.next.ensures.next in
    let en : length ws ≡ length bodies = length-take-le (length bodies) into (omega arith) in
    let items : (k : ℕ) → k < length bodies → get_or ws k [] ≡ get_or into k [] = λ k lt. get_or-take (length bodies) into k [] lt in
    c.seen_as.ensures (r, at, length ws) (f, bodies) c.args.disk.now c.write_bodies.new.disk c.write_bodies.ensures.any_moment (λ x y left staged.
    let staged' = staged_of f bodies r at (length ws) er ea en x y staged in
    none_grown f ring bodies straight room x y (ready.files x left) staged' (c.elsewhere.ensures.staged f.region (ring_place f.region f.next) (length bodies) x y straight staged'))

pub returns-clause-any_moment : goal.returns-clause-any_moment
returns-clause-any_moment g c =
    let f = c.args.self.now in let bodies = c.args.bodies.now in let ring = c.next.ensures.ring in let straight = c.requires.straight in let room = c.requires.room in let ready = c.requires.ready in
    let into = c.spell.new.into in let ws = take (length bodies) into in
    let r = c.region-region.result in let at = c.place-at.result in
    let er = c.region-region.ensures.region in
    let ea : at ≡ ring_place f.region f.next = c.place-at.ensures.place ∙ ap (λ n. ring_place f.region n) c.next.ensures.next in
    let en : length ws ≡ length bodies = length-take-le (length bodies) into (omega arith) in
    let items : (k : ℕ) → k < length bodies → get_or ws k [] ≡ get_or into k [] = λ k lt. get_or-take (length bodies) into k [] lt in
    let d = g.D.Disk in let mid = c.write_bodies.new.disk in
    c.then.ensures (r, at, length ws) (r, at, length bodies) (f, bodies) c.args.disk.now mid c.open_gates.new.disk c.write_bodies.ensures.any_moment c.open_gates.ensures.any_moment
    (λ x y left staged.
    let staged' = staged_of f bodies r at (length ws) er ea en x y staged in
    none_grown f ring bodies straight room x y (ready.files x left) staged' (c.elsewhere.ensures.staged f.region (ring_place f.region f.next) (length bodies) x y straight staged'))
    (λ x e y left staged left_e opening.
    let tells = g.met.D.Disk.left_tells mid (d.now mid) e (g.met.D.Disk.counts_now mid e left_e) in
    let staged' = staged_of f bodies r at (length ws) er ea en x e staged in
    let opening' = opening_of f bodies r at (length bodies) er ea refl e y opening in
    let spelled = spelled_of f bodies r at er ea into ws items c.spell.ensures (d.image mid) e (c.in_ok-write_bodies.ensures.bodies tells) (c.in_ok-write_bodies.ensures.durable e left_e) (sym en) in
    some_grown f ring bodies straight room c.requires.numbered x e y (ready.files x left) staged' spelled opening'
    (c.changes.ensures.both f.region x e y (c.elsewhere.ensures.staged f.region (ring_place f.region f.next) (length bodies) x e straight staged')
    (c.elsewhere.ensures.opening f.region (ring_place f.region f.next) (length bodies) e y straight opening')))

pub returns-clause-ready : goal.returns-clause-ready
returns-clause-ready g c =
    let f = c.args.self.now in let bodies = c.args.bodies.now in let ring = c.next.ensures.ring in let straight = c.requires.straight in let room = c.requires.room in let ready = c.requires.ready in
    let into = c.spell.new.into in let ws = take (length bodies) into in
    let r = c.region-region.result in let at = c.place-at.result in
    let er = c.region-region.ensures.region in
    let ea : at ≡ ring_place f.region f.next = c.place-at.ensures.place ∙ ap (λ n. ring_place f.region n) c.next.ensures.next in
    let en : length ws ≡ length bodies = length-take-le (length bodies) into (omega arith) in
    let items : (k : ℕ) → k < length bodies → get_or ws k [] ≡ get_or into k [] = λ k lt. get_or-take (length bodies) into k [] lt in
    let d = g.D.Disk in let m = g.met.D.Disk in let old = c.args.disk.now in let mid = c.write_bodies.new.disk in let new = c.open_gates.new.disk in
    both_ok c.open_gates.result (λ only opened. record {
      lies = subst (λ (n : ℕ). f.region.first + f.region.count ≤ n) (sym (c.open_gates.ensures.sizes f.region.chunk ∙ c.write_bodies.ensures.sizes f.region.chunk)) ready.lies;
      files = λ x left.
          let tells = m.left_tells new (d.now new) x (m.counts_now new x left) in
          let staged' = staged_of f bodies r at (length ws) er ea en (d.image old) (d.image mid) (c.write_bodies.ensures.shown tells) in
          let opening' = opening_of f bodies r at (length bodies) er ea refl (d.image mid) (d.image new) c.open_gates.ensures.shown in
          let spelled = spelled_of f bodies r at er ea into ws items c.spell.ensures (d.image mid) (d.image mid) (c.in_ok-write_bodies.ensures.bodies tells) refl (sym en) in
          subst (λ i. HasFiles (taken f (length bodies)) i) (sym (only x left))
          (all_has f ring bodies straight room c.requires.numbered (d.image old) (d.image mid) (d.image new) (ready.files (d.image old) (m.image_left old tells)) staged' spelled opening'
          (λ k w. opened_of f bodies r at er ea (d.image mid) (d.image new) (opened tells) k w));
      stable = λ x left b from below. ap (λ i. body_at f.region b i) (only x left);
    }) c.open_gates.ensures.durable c.open_gates.ensures.opened

pub returns-clause-kept : goal.returns-clause-kept
returns-clause-kept g c =
    let f = c.args.self.now in let bodies = c.args.bodies.now in let ring = c.next.ensures.ring in let straight = c.requires.straight in let room = c.requires.room in let ready = c.requires.ready in
    let into = c.spell.new.into in let ws = take (length bodies) into in
    let r = c.region-region.result in let at = c.place-at.result in
    let er = c.region-region.ensures.region in
    let ea : at ≡ ring_place f.region f.next = c.place-at.ensures.place ∙ ap (λ n. ring_place f.region n) c.next.ensures.next in
    let en : length ws ≡ length bodies = length-take-le (length bodies) into (omega arith) in
    let items : (k : ℕ) → k < length bodies → get_or ws k [] ≡ get_or into k [] = λ k lt. get_or-take (length bodies) into k [] lt in
    let d = g.D.Disk in let m = g.met.D.Disk in let old = c.args.disk.now in let mid = c.write_bodies.new.disk in let new = c.open_gates.new.disk in
    on_ok_weaker c.open_gates.result (λ (opened : d.tells → (k : ℕ) → Within at (length bodies) k → block r k (d.image new) ≡ Some (body r k (d.image mid))) (tells : d.tells).
    let staged' = staged_of f bodies r at (length ws) er ea en (d.image old) (d.image mid) (c.write_bodies.ensures.shown tells) in
    let opening' = opening_of f bodies r at (length bodies) er ea refl (d.image mid) (d.image new) c.open_gates.ensures.shown in
    let spelled = spelled_of f bodies r at er ea into ws items c.spell.ensures (d.image mid) (d.image mid) (c.in_ok-write_bodies.ensures.bodies tells) refl (sym en) in
    kept_grown f ring bodies straight room c.requires.numbered (d.image old) (d.image mid) (d.image new) (ready.files (d.image old) (m.image_left old tells)) staged' spelled opening') c.open_gates.ensures.opened

pub returns-clause-counted : goal.returns-clause-counted
returns-clause-counted g c =
    let f = c.args.self.now in let bodies = c.args.bodies.now in let ring = c.next.ensures.ring in let straight = c.requires.straight in let room = c.requires.room in let ready = c.requires.ready in
    let into = c.spell.new.into in let ws = take (length bodies) into in
    let r = c.region-region.result in let at = c.place-at.result in
    let er = c.region-region.ensures.region in
    let ea : at ≡ ring_place f.region f.next = c.place-at.ensures.place ∙ ap (λ n. ring_place f.region n) c.next.ensures.next in
    let en : length ws ≡ length bodies = length-take-le (length bodies) into (omega arith) in
    let items : (k : ℕ) → k < length bodies → get_or ws k [] ≡ get_or into k [] = λ k lt. get_or-take (length bodies) into k [] lt in
    let d = g.D.Disk in let m = g.met.D.Disk in let old = c.args.disk.now in let mid = c.write_bodies.new.disk in let new = c.open_gates.new.disk in
    on_ok_weaker c.open_gates.result (λ (opened : d.tells → (k : ℕ) → Within at (length bodies) k → block r k (d.image new) ≡ Some (body r k (d.image mid))) (tells : d.tells).
    let staged' = staged_of f bodies r at (length ws) er ea en (d.image old) (d.image mid) (c.write_bodies.ensures.shown tells) in
    let opening' = opening_of f bodies r at (length bodies) er ea refl (d.image mid) (d.image new) c.open_gates.ensures.shown in
    let spelled = spelled_of f bodies r at er ea into ws items c.spell.ensures (d.image mid) (d.image mid) (c.in_ok-write_bodies.ensures.bodies tells) refl (sym en) in
    λ k e lt. opened_new f ring bodies straight room c.requires.numbered (d.image old) (d.image mid) (d.image new) (ready.files (d.image old) (m.image_left old tells)) staged' spelled opening' k e lt
    (opened_of f bodies r at er ea (d.image mid) (d.image new) (opened tells) (ring_place f.region f.next + k) (omega arith, omega (arith, lt)))) c.open_gates.ensures.opened
