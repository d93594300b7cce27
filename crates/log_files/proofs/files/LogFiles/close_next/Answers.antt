use Rattle.std.proofs.Common.{◌≡◌, ◌≤◌, ◌+◌, ◌-◌, ℕ, None, min, sym, subst, ap, ◌∙◌, arith, refl}
use Rattle.std.proofs.lemmas.Result.{on_ok_weaker}
use Rattle.ids_outside.specs.Images.{Image}
use Rattle.gate_blocks.specs.Gates.{block, Within, Closing}
use Rattle.gate_blocks.specs.declared.region.Region.{Region}
use Rattle.log_files.specs.Log.{ring_place, body_at}
use Rattle.log_files.specs.Files.{HasFiles, Loses, next_free}
use Rattle.log_files.proofs.Steps.{both_ok}
use Rattle.log_files.proofs.Clearing.{clears, loses_then}
use Rattle.log_files.proofs.Spans.{first_loses, second_loses, places_closed, stays_closed, next_freed}
use Rattle.log_files.proofs.files.LogFiles.close_next.Goals as goal

pub returns-in_err-clear_some-clause-any_moment : goal.returns-in_err-clear_some-clause-any_moment
returns-in_err-clear_some-clause-any_moment g c =
    let f = c.args.self.now in let ring = c.region-region.ensures.ring in let ready = c.requires.ready in
    let r = c.region-region.result in let at = c.place-at.result in let straight = c.min-straight.result in let n = c.next_len-count.result in let more = n - straight in
    let er : r ≡ f.region = c.region-region.ensures.region in
    let ea : at ≡ ring_place f.region f.limit = c.place-at.ensures.place ∙ ap (λ n. ring_place f.region n) c.limit.ensures.limit in
    let short : straight ≡ min n (f.region.count - ring_place f.region f.limit) =
    c.min-straight.ensures ∙ (λ i. min n ((er i).count - ea i)) in
    let room : f.limit + n ≤ f.first + f.region.count = omega (arith, c.next_len-count.ensures, c.requires.room) in
    let one : (x y : Image) → Closing r at straight x y → Loses f x y = first_loses f ring f.limit n ring.free room straight short c.elsewhere.ensures.closing r er at ea in
    c.seen_as.ensures (r, at, straight) f c.args.disk.now c.clear_some.new.disk c.clear_some.ensures.any_moment
    (λ x y left closing. clears f ring x y (ready.files x left).held ((ready.files x left).ends f.next (omega arith)) (one x y closing))

pub returns-clause-any_moment : goal.returns-clause-any_moment
returns-clause-any_moment g c =
    let f = c.args.self.now in let ring = c.region-region.ensures.ring in let ready = c.requires.ready in
    let r = c.region-region.result in let at = c.place-at.result in let straight = c.min-straight.result in let n = c.next_len-count.result in let more = n - straight in
    let er : r ≡ f.region = c.region-region.ensures.region in
    let ea : at ≡ ring_place f.region f.limit = c.place-at.ensures.place ∙ ap (λ n. ring_place f.region n) c.limit.ensures.limit in
    let short : straight ≡ min n (f.region.count - ring_place f.region f.limit) =
    c.min-straight.ensures ∙ (λ i. min n ((er i).count - ea i)) in
    let room : f.limit + n ≤ f.first + f.region.count = omega (arith, c.next_len-count.ensures, c.requires.room) in
    let one : (x y : Image) → Closing r at straight x y → Loses f x y = first_loses f ring f.limit n ring.free room straight short c.elsewhere.ensures.closing r er at ea in
    let two : (x y : Image) → Closing r 0 more x y → Loses f x y = second_loses f ring f.limit n ring.free room straight short c.elsewhere.ensures.closing r er more refl in
    c.then.ensures (r, at, straight) (r, 0, more) f c.args.disk.now c.clear_some.new.disk c.clear_some-2.new.disk c.clear_some.ensures.any_moment c.clear_some-2.ensures.any_moment
    (λ x y left closing. clears f ring x y (ready.files x left).held ((ready.files x left).ends f.next (omega arith)) (one x y closing))
    (λ x e y left first left_e second. clears f ring x y (ready.files x left).held ((ready.files x left).ends f.next (omega arith)) (loses_then f x e y (one x e first) (two e y second)))

pub returns-clause-kept : goal.returns-clause-kept
returns-clause-kept g c =
    let f = c.args.self.now in let ring = c.region-region.ensures.ring in let ready = c.requires.ready in
    let r = c.region-region.result in let at = c.place-at.result in let straight = c.min-straight.result in let n = c.next_len-count.result in let more = n - straight in
    let er : r ≡ f.region = c.region-region.ensures.region in
    let ea : at ≡ ring_place f.region f.limit = c.place-at.ensures.place ∙ ap (λ n. ring_place f.region n) c.limit.ensures.limit in
    let short : straight ≡ min n (f.region.count - ring_place f.region f.limit) =
    c.min-straight.ensures ∙ (λ i. min n ((er i).count - ea i)) in
    let room : f.limit + n ≤ f.first + f.region.count = omega (arith, c.next_len-count.ensures, c.requires.room) in
    let one : (x y : Image) → Closing r at straight x y → Loses f x y = first_loses f ring f.limit n ring.free room straight short c.elsewhere.ensures.closing r er at ea in
    let two : (x y : Image) → Closing r 0 more x y → Loses f x y = second_loses f ring f.limit n ring.free room straight short c.elsewhere.ensures.closing r er more refl in
    let d = g.D.Disk in let mid = c.clear_some.new.disk in let new = c.clear_some-2.new.disk in
    on_ok_weaker c.clear_some-2.result (λ (closed : d.tells → (k : ℕ) → Within 0 more k → block r k (d.image new) ≡ None) (tells : d.tells).
    (loses_then f (d.image c.args.disk.now) (d.image mid) (d.image new) (one (d.image c.args.disk.now) (d.image mid) (c.clear_some.ensures.shown tells)) (two (d.image mid) (d.image new) (c.clear_some-2.ensures.shown tells))).kept)
    c.clear_some-2.ensures.closed

pub returns-clause-ready : goal.returns-clause-ready
returns-clause-ready g c =
    let f = c.args.self.now in let ring = c.region-region.ensures.ring in let ready = c.requires.ready in
    let r = c.region-region.result in let at = c.place-at.result in let straight = c.min-straight.result in let n = c.next_len-count.result in let more = n - straight in
    let er : r ≡ f.region = c.region-region.ensures.region in
    let ea : at ≡ ring_place f.region f.limit = c.place-at.ensures.place ∙ ap (λ n. ring_place f.region n) c.limit.ensures.limit in
    let short : straight ≡ min n (f.region.count - ring_place f.region f.limit) =
    c.min-straight.ensures ∙ (λ i. min n ((er i).count - ea i)) in
    let room : f.limit + n ≤ f.first + f.region.count = omega (arith, c.next_len-count.ensures, c.requires.room) in
    let one : (x y : Image) → Closing r at straight x y → Loses f x y = first_loses f ring f.limit n ring.free room straight short c.elsewhere.ensures.closing r er at ea in
    let two : (x y : Image) → Closing r 0 more x y → Loses f x y = second_loses f ring f.limit n ring.free room straight short c.elsewhere.ensures.closing r er more refl in
    let d = g.D.Disk in let m = g.met.D.Disk in let old = c.args.disk.now in let mid = c.clear_some.new.disk in let new = c.clear_some-2.new.disk in
    both_ok c.clear_some-2.result (λ only closed. record {
      lies = subst (λ (n : ℕ). f.region.first + f.region.count ≤ n) (sym (c.clear_some-2.ensures.sizes f.region.chunk ∙ c.clear_some.ensures.sizes f.region.chunk)) ready.lies;
      files = λ x left.
          let tells = m.left_tells new (d.now new) x (m.counts_now new x left) in
          let first = c.clear_some.ensures.shown tells in let second = c.clear_some-2.ensures.shown tells in
          let loses = loses_then f (d.image old) (d.image mid) (d.image new) (one (d.image old) (d.image mid) first) (two (d.image mid) (d.image new) second) in
          let stays : (k : ℕ) → block f.region k (d.image old) ≡ None → block f.region k (d.image new) ≡ None = λ k was.
          subst (λ (q : Region). block q k (d.image new) ≡ None) er
          (stays_closed r 0 more (d.image mid) (d.image new) second k
          (stays_closed r at straight (d.image old) (d.image mid) first k (subst (λ (q : Region). block q k (d.image old) ≡ None) (sym er) was))) in
          subst (λ i. HasFiles (next_free f) i) (sym (only x left))
          (next_freed f (d.image old) (d.image new) (ready.files (d.image old) (m.image_left old tells)) loses stays
          (λ b from below. places_closed f ring f.limit n ring.free room straight short r er at more ea refl (d.image mid) (d.image new) (c.in_ok-clear_some.ensures.closed tells) (closed tells) second
          b from (omega (arith, below, c.next_len-count.ensures))));
      stable = λ x left b from below. ap (λ i. body_at f.region b i) (only x left);
    }) c.clear_some-2.ensures.durable c.clear_some-2.ensures.closed

pub returns-in_err-clear_some-clause-shown : goal.returns-in_err-clear_some-clause-shown
returns-in_err-clear_some-clause-shown g c = λ tells.
    let f = c.args.self.now in let ring = c.region-region.ensures.ring in let ready = c.requires.ready in
    let r = c.region-region.result in let at = c.place-at.result in let straight = c.min-straight.result in let n = c.next_len-count.result in let more = n - straight in
    let er : r ≡ f.region = c.region-region.ensures.region in
    let ea : at ≡ ring_place f.region f.limit = c.place-at.ensures.place ∙ ap (λ n. ring_place f.region n) c.limit.ensures.limit in
    let short : straight ≡ min n (f.region.count - ring_place f.region f.limit) =
    c.min-straight.ensures ∙ (λ i. min n ((er i).count - ea i)) in
    let room : f.limit + n ≤ f.first + f.region.count = omega (arith, c.next_len-count.ensures, c.requires.room) in
    let one : (x y : Image) → Closing r at straight x y → Loses f x y = first_loses f ring f.limit n ring.free room straight short c.elsewhere.ensures.closing r er at ea in
    (one (g.D.Disk.image c.args.disk.now) (g.D.Disk.image c.clear_some.new.disk) (c.clear_some.ensures.shown tells)).elsewhere

pub returns-clause-shown : goal.returns-clause-shown
returns-clause-shown g c = λ tells.
    let f = c.args.self.now in let ring = c.region-region.ensures.ring in let ready = c.requires.ready in
    let r = c.region-region.result in let at = c.place-at.result in let straight = c.min-straight.result in let n = c.next_len-count.result in let more = n - straight in
    let er : r ≡ f.region = c.region-region.ensures.region in
    let ea : at ≡ ring_place f.region f.limit = c.place-at.ensures.place ∙ ap (λ n. ring_place f.region n) c.limit.ensures.limit in
    let short : straight ≡ min n (f.region.count - ring_place f.region f.limit) =
    c.min-straight.ensures ∙ (λ i. min n ((er i).count - ea i)) in
    let room : f.limit + n ≤ f.first + f.region.count = omega (arith, c.next_len-count.ensures, c.requires.room) in
    let one : (x y : Image) → Closing r at straight x y → Loses f x y = first_loses f ring f.limit n ring.free room straight short c.elsewhere.ensures.closing r er at ea in
    let two : (x y : Image) → Closing r 0 more x y → Loses f x y = second_loses f ring f.limit n ring.free room straight short c.elsewhere.ensures.closing r er more refl in
    let d = g.D.Disk in let mid = c.clear_some.new.disk in let new = c.clear_some-2.new.disk in
    (loses_then f (d.image c.args.disk.now) (d.image mid) (d.image new) (one (d.image c.args.disk.now) (d.image mid) (c.clear_some.ensures.shown tells)) (two (d.image mid) (d.image new) (c.clear_some-2.ensures.shown tells))).elsewhere
