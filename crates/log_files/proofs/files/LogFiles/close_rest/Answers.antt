use Rattle.std.proofs.Common.{◌≡◌, ◌≤◌, ◌+◌, ◌-◌, ℕ, None, min, sym, subst, ap, ◌∙◌, arith, refl}
use Rattle.std.proofs.lemmas.Result.{on_ok_weaker}
use Rattle.ids_outside.specs.Images.{Image}
use Rattle.gate_blocks.specs.Gates.{block, Within, Closing}
use Rattle.log_files.specs.Log.{ring_place, body_at}
use Rattle.log_files.specs.Files.{HasFiles, Loses, all_free}
use Rattle.log_files.proofs.Steps.{both_ok}
use Rattle.log_files.proofs.Clearing.{closing_of, closed_of, closes, clears, loses_then, first_free, second_free, all_freed}
use Rattle.log_files.proofs.files.LogFiles.close_rest.Goals as goal

pub returns-in_err-clear_some-clause-any_moment : goal.returns-in_err-clear_some-clause-any_moment
returns-in_err-clear_some-clause-any_moment g c =
    let f = c.args.self.now in let ring = c.rest-rest.ensures.ring in let read = c.requires in
    let r = c.region-region.result in let at = c.place-at.result in let straight = c.min-straight.result in let more = c.rest-rest.result - straight in
    let er : r ≡ f.region = c.region-region.ensures.region in
    let ea : at ≡ ring_place f.region f.next = c.place-at.ensures.place ∙ ap (λ n. ring_place f.region n) c.next.ensures.next in
    let all : c.rest-rest.result ≡ f.first + f.region.count - f.next = omega (arith, c.rest-rest.ensures.rest) in
    let short : straight ≡ min (f.first + f.region.count - f.next) (f.region.count - ring_place f.region f.next) =
    c.min-straight.ensures ∙ (λ i. min (all i) ((er i).count - ea i)) in
    let em : more ≡ f.first + f.region.count - f.next - straight = ap (λ n. n - straight) all in
    let one : (x y : Image) → Closing r at straight x y → Loses f x y = λ x y closing.
    let closing' = closing_of f r (ring_place f.region f.next) er at straight straight ea refl x y closing in
    closes f ring (ring_place f.region f.next) straight x y (first_free f ring straight short) closing'
    (c.elsewhere.ensures.closing f.region (ring_place f.region f.next) straight x y (omega (arith, short, c.place-at.ensures.within, ea)) closing') in
    let two : (x y : Image) → Closing r 0 more x y → Loses f x y = λ x y closing.
    let closing' = closing_of f r 0 er 0 more (f.first + f.region.count - f.next - straight) refl em x y closing in
    closes f ring 0 (f.first + f.region.count - f.next - straight) x y (second_free f ring straight short) closing'
    (c.elsewhere.ensures.closing f.region 0 (f.first + f.region.count - f.next - straight) x y (omega (arith, ring.free, ring.once, ring.order)) closing') in
    c.seen_as.ensures (r, at, straight) f c.args.disk.now c.clear_some.new.disk c.clear_some.ensures.any_moment
    (λ x y left closing. clears f ring x y (read.held x left) (read.ends x left) (one x y closing))

pub returns-clause-any_moment : goal.returns-clause-any_moment
returns-clause-any_moment g c =
    let f = c.args.self.now in let ring = c.rest-rest.ensures.ring in let read = c.requires in
    let r = c.region-region.result in let at = c.place-at.result in let straight = c.min-straight.result in let more = c.rest-rest.result - straight in
    let er : r ≡ f.region = c.region-region.ensures.region in
    let ea : at ≡ ring_place f.region f.next = c.place-at.ensures.place ∙ ap (λ n. ring_place f.region n) c.next.ensures.next in
    let all : c.rest-rest.result ≡ f.first + f.region.count - f.next = omega (arith, c.rest-rest.ensures.rest) in
    let short : straight ≡ min (f.first + f.region.count - f.next) (f.region.count - ring_place f.region f.next) =
    c.min-straight.ensures ∙ (λ i. min (all i) ((er i).count - ea i)) in
    let em : more ≡ f.first + f.region.count - f.next - straight = ap (λ n. n - straight) all in
    let one : (x y : Image) → Closing r at straight x y → Loses f x y = λ x y closing.
    let closing' = closing_of f r (ring_place f.region f.next) er at straight straight ea refl x y closing in
    closes f ring (ring_place f.region f.next) straight x y (first_free f ring straight short) closing'
    (c.elsewhere.ensures.closing f.region (ring_place f.region f.next) straight x y (omega (arith, short, c.place-at.ensures.within, ea)) closing') in
    let two : (x y : Image) → Closing r 0 more x y → Loses f x y = λ x y closing.
    let closing' = closing_of f r 0 er 0 more (f.first + f.region.count - f.next - straight) refl em x y closing in
    closes f ring 0 (f.first + f.region.count - f.next - straight) x y (second_free f ring straight short) closing'
    (c.elsewhere.ensures.closing f.region 0 (f.first + f.region.count - f.next - straight) x y (omega (arith, ring.free, ring.once, ring.order)) closing') in
    c.then.ensures (r, at, straight) (r, 0, more) f c.args.disk.now c.clear_some.new.disk c.clear_some-2.new.disk c.clear_some.ensures.any_moment c.clear_some-2.ensures.any_moment
    (λ x y left closing. clears f ring x y (read.held x left) (read.ends x left) (one x y closing))
    (λ x e y left first left_e second. clears f ring x y (read.held x left) (read.ends x left) (loses_then f x e y (one x e first) (two e y second)))

pub returns-clause-kept : goal.returns-clause-kept
returns-clause-kept g c =
    let f = c.args.self.now in let ring = c.rest-rest.ensures.ring in let read = c.requires in
    let r = c.region-region.result in let at = c.place-at.result in let straight = c.min-straight.result in let more = c.rest-rest.result - straight in
    let er : r ≡ f.region = c.region-region.ensures.region in
    let ea : at ≡ ring_place f.region f.next = c.place-at.ensures.place ∙ ap (λ n. ring_place f.region n) c.next.ensures.next in
    let all : c.rest-rest.result ≡ f.first + f.region.count - f.next = omega (arith, c.rest-rest.ensures.rest) in
    let short : straight ≡ min (f.first + f.region.count - f.next) (f.region.count - ring_place f.region f.next) =
    c.min-straight.ensures ∙ (λ i. min (all i) ((er i).count - ea i)) in
    let em : more ≡ f.first + f.region.count - f.next - straight = ap (λ n. n - straight) all in
    let one : (x y : Image) → Closing r at straight x y → Loses f x y = λ x y closing.
    let closing' = closing_of f r (ring_place f.region f.next) er at straight straight ea refl x y closing in
    closes f ring (ring_place f.region f.next) straight x y (first_free f ring straight short) closing'
    (c.elsewhere.ensures.closing f.region (ring_place f.region f.next) straight x y (omega (arith, short, c.place-at.ensures.within, ea)) closing') in
    let two : (x y : Image) → Closing r 0 more x y → Loses f x y = λ x y closing.
    let closing' = closing_of f r 0 er 0 more (f.first + f.region.count - f.next - straight) refl em x y closing in
    closes f ring 0 (f.first + f.region.count - f.next - straight) x y (second_free f ring straight short) closing'
    (c.elsewhere.ensures.closing f.region 0 (f.first + f.region.count - f.next - straight) x y (omega (arith, ring.free, ring.once, ring.order)) closing') in
    let d = g.D.Disk in let mid = c.clear_some.new.disk in let new = c.clear_some-2.new.disk in
    on_ok_weaker c.clear_some-2.result (λ (closed : d.tells → (k : ℕ) → Within 0 more k → block r k (d.image new) ≡ None) (tells : d.tells).
    (loses_then f (d.image c.args.disk.now) (d.image mid) (d.image new) (one (d.image c.args.disk.now) (d.image mid) (c.clear_some.ensures.shown tells)) (two (d.image mid) (d.image new) (c.clear_some-2.ensures.shown tells))).kept)
    c.clear_some-2.ensures.closed

pub returns-clause-ready : goal.returns-clause-ready
returns-clause-ready g c =
    let f = c.args.self.now in let ring = c.rest-rest.ensures.ring in let read = c.requires in
    let r = c.region-region.result in let at = c.place-at.result in let straight = c.min-straight.result in let more = c.rest-rest.result - straight in
    let er : r ≡ f.region = c.region-region.ensures.region in
    let ea : at ≡ ring_place f.region f.next = c.place-at.ensures.place ∙ ap (λ n. ring_place f.region n) c.next.ensures.next in
    let all : c.rest-rest.result ≡ f.first + f.region.count - f.next = omega (arith, c.rest-rest.ensures.rest) in
    let short : straight ≡ min (f.first + f.region.count - f.next) (f.region.count - ring_place f.region f.next) =
    c.min-straight.ensures ∙ (λ i. min (all i) ((er i).count - ea i)) in
    let em : more ≡ f.first + f.region.count - f.next - straight = ap (λ n. n - straight) all in
    let one : (x y : Image) → Closing r at straight x y → Loses f x y = λ x y closing.
    let closing' = closing_of f r (ring_place f.region f.next) er at straight straight ea refl x y closing in
    closes f ring (ring_place f.region f.next) straight x y (first_free f ring straight short) closing'
    (c.elsewhere.ensures.closing f.region (ring_place f.region f.next) straight x y (omega (arith, short, c.place-at.ensures.within, ea)) closing') in
    let two : (x y : Image) → Closing r 0 more x y → Loses f x y = λ x y closing.
    let closing' = closing_of f r 0 er 0 more (f.first + f.region.count - f.next - straight) refl em x y closing in
    closes f ring 0 (f.first + f.region.count - f.next - straight) x y (second_free f ring straight short) closing'
    (c.elsewhere.ensures.closing f.region 0 (f.first + f.region.count - f.next - straight) x y (omega (arith, ring.free, ring.once, ring.order)) closing') in
    let d = g.D.Disk in let m = g.met.D.Disk in let old = c.args.disk.now in let mid = c.clear_some.new.disk in let new = c.clear_some-2.new.disk in
    both_ok c.clear_some-2.result (λ only closed. record {
      lies = subst (λ (n : ℕ). f.region.first + f.region.count ≤ n) (sym (c.clear_some-2.ensures.sizes f.region.chunk ∙ c.clear_some.ensures.sizes f.region.chunk)) read.lies;
      files = λ x left.
          let tells = m.left_tells new (d.now new) x (m.counts_now new x left) in
          let loses = loses_then f (d.image old) (d.image mid) (d.image new) (one (d.image old) (d.image mid) (c.clear_some.ensures.shown tells)) (two (d.image mid) (d.image new) (c.clear_some-2.ensures.shown tells)) in
          subst (λ i. HasFiles (all_free f) i) (sym (only x left))
          (all_freed f ring straight short (d.image old) (d.image new) (read.held (d.image old) (m.image_left old tells)) loses
          (λ k. closed_of f r at straight more er ea em (d.image mid) (d.image new) (c.in_ok-clear_some.ensures.closed tells) (closed tells) (c.clear_some-2.ensures.shown tells) k));
      stable = λ x left b from below. ap (λ i. body_at f.region b i) (only x left);
    }) c.clear_some-2.ensures.durable c.clear_some-2.ensures.closed

pub returns-in_err-clear_some-clause-shown : goal.returns-in_err-clear_some-clause-shown
returns-in_err-clear_some-clause-shown g c = λ tells.
    let f = c.args.self.now in let ring = c.rest-rest.ensures.ring in let read = c.requires in
    let r = c.region-region.result in let at = c.place-at.result in let straight = c.min-straight.result in let more = c.rest-rest.result - straight in
    let er : r ≡ f.region = c.region-region.ensures.region in
    let ea : at ≡ ring_place f.region f.next = c.place-at.ensures.place ∙ ap (λ n. ring_place f.region n) c.next.ensures.next in
    let all : c.rest-rest.result ≡ f.first + f.region.count - f.next = omega (arith, c.rest-rest.ensures.rest) in
    let short : straight ≡ min (f.first + f.region.count - f.next) (f.region.count - ring_place f.region f.next) =
    c.min-straight.ensures ∙ (λ i. min (all i) ((er i).count - ea i)) in
    let em : more ≡ f.first + f.region.count - f.next - straight = ap (λ n. n - straight) all in
    let one : (x y : Image) → Closing r at straight x y → Loses f x y = λ x y closing.
    let closing' = closing_of f r (ring_place f.region f.next) er at straight straight ea refl x y closing in
    closes f ring (ring_place f.region f.next) straight x y (first_free f ring straight short) closing'
    (c.elsewhere.ensures.closing f.region (ring_place f.region f.next) straight x y (omega (arith, short, c.place-at.ensures.within, ea)) closing') in
    (one (g.D.Disk.image c.args.disk.now) (g.D.Disk.image c.clear_some.new.disk) (c.clear_some.ensures.shown tells)).elsewhere

pub returns-clause-shown : goal.returns-clause-shown
returns-clause-shown g c = λ tells.
    let f = c.args.self.now in let ring = c.rest-rest.ensures.ring in let read = c.requires in
    let r = c.region-region.result in let at = c.place-at.result in let straight = c.min-straight.result in let more = c.rest-rest.result - straight in
    let er : r ≡ f.region = c.region-region.ensures.region in
    let ea : at ≡ ring_place f.region f.next = c.place-at.ensures.place ∙ ap (λ n. ring_place f.region n) c.next.ensures.next in
    let all : c.rest-rest.result ≡ f.first + f.region.count - f.next = omega (arith, c.rest-rest.ensures.rest) in
    let short : straight ≡ min (f.first + f.region.count - f.next) (f.region.count - ring_place f.region f.next) =
    c.min-straight.ensures ∙ (λ i. min (all i) ((er i).count - ea i)) in
    let em : more ≡ f.first + f.region.count - f.next - straight = ap (λ n. n - straight) all in
    let one : (x y : Image) → Closing r at straight x y → Loses f x y = λ x y closing.
    let closing' = closing_of f r (ring_place f.region f.next) er at straight straight ea refl x y closing in
    closes f ring (ring_place f.region f.next) straight x y (first_free f ring straight short) closing'
    (c.elsewhere.ensures.closing f.region (ring_place f.region f.next) straight x y (omega (arith, short, c.place-at.ensures.within, ea)) closing') in
    let two : (x y : Image) → Closing r 0 more x y → Loses f x y = λ x y closing.
    let closing' = closing_of f r 0 er 0 more (f.first + f.region.count - f.next - straight) refl em x y closing in
    closes f ring 0 (f.first + f.region.count - f.next - straight) x y (second_free f ring straight short) closing'
    (c.elsewhere.ensures.closing f.region 0 (f.first + f.region.count - f.next - straight) x y (omega (arith, ring.free, ring.once, ring.order)) closing') in
    let d = g.D.Disk in let mid = c.clear_some.new.disk in let new = c.clear_some-2.new.disk in
    (loses_then f (d.image c.args.disk.now) (d.image mid) (d.image new) (one (d.image c.args.disk.now) (d.image mid) (c.clear_some.ensures.shown tells)) (two (d.image mid) (d.image new) (c.clear_some-2.ensures.shown tells))).elsewhere
