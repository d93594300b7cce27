use Rattle.std.proofs.Common.{◌≡◌, ◌≤◌, ◌+◌, ◌-◌, ◌++◌, ℕ, List, [], length, take, drop, sym, subst, ap, ◌∙◌, arith, refl, length-append}
use Rattle.std.proofs.Math.Seq.{take-add, take-length}
use Rattle.std.proofs.lemmas.List.{length-take-le, take-append-drop, length-drop}
use Rattle.ids_outside.specs.Images.{SameBut}
use Rattle.gate_blocks.specs.Gates.{RegionPlaces}
use Rattle.log_records.specs.Bodies.{Body}
use Rattle.log_files.specs.Moments.{Within}
use Rattle.log_files.specs.Files.{Files, IsReady, AreNumbered, Grows, Appends, KeepsRetained, Count, taken}
use Rattle.log_files.proofs.Groups.{numbered_from, counts_left, counts_on, grows_wider, grows_on, appends_front, none_same, both_same}
use Rattle.log_files.proofs.Tails.{appends, retained_on}
use Rattle.log_files.proofs.files.LogFiles.write_groups.Goals as goal

pub write_group-requires-clause-numbered : goal.write_group-requires-clause-numbered
write_group-requires-clause-numbered g c =
    let done = c.loop-done.done in
    subst (λ (n : ℕ). AreNumbered n (take (done + c.group_len-count.result - done) (drop done c.args.bodies.now))) (sym (ap (λ (f : Files). f.next) c.loop-done.invariant.files))
    (numbered_from c.args.bodies.now c.args.self.now.next done (done + c.group_len-count.result - done) c.requires.numbered)

pub loop-done-init : goal.loop-done-init
loop-done-init g c =
    let f = c.args.self.now in
    let same : f ≡ taken f 0 = ap (λ (n : ℕ). let t : Files = record f { next = n } in t) (let e : f.next ≡ f.next + 0 = omega arith in e) in
    record {
      within = omega arith;
      files = c.copy-files.ensures.same ∙ same;
      ready = subst (λ (t : Files). IsReady g.D.Disk t c.args.disk.now) (sym c.copy-files.ensures.same) c.requires.ready;
      kept = λ tells b from below. refl;
      counted = λ tells k d lt. absurd (omega (arith, lt));
      run = c.started.ensures (f, []) c.args.disk.now (λ x left. record {
        kept = λ b from below. refl;
        new = λ k d lt. absurd (omega (arith, lt));
        behind = λ b from. (c.requires.ready.files x left).ends b (omega (arith, from));
        whole = (c.requires.ready.files x left).whole;
        elsewhere = none_same (RegionPlaces f.region) x;
      });
      shown = λ tells. none_same (RegionPlaces f.region) (g.D.Disk.image c.args.disk.now);
      sizes = λ j. refl;
      faults = omega arith;
    }

pub loop-done-preserved : goal.loop-done-preserved
loop-done-preserved g c =
    let f = c.args.self.now in let bodies = c.args.bodies.now in let inv = c.loop-done.invariant in let d = g.D.Disk in let ring = c.copy-files.ensures.ring in
    let s = c.loop-done.files in let done = c.loop-done.done in let count = c.group_len-count.result in
    let front = take done bodies in let group = take (done + count - done) (drop done bodies) in
    let mid = c.loop-done.disk in let new = c.write_group.new.disk in
    let long : length front ≡ done = length-take-le done bodies inv.within in
    let are : s ≡ taken f (length front) = inv.files ∙ ap (λ (n : ℕ). taken f n) (sym long) in
    let part : length group ≡ count = length-take-le (done + count - done) (drop done bodies) (omega (arith, length-drop done bodies, c.group_len-count.ensures.within)) ∙ (omega arith) in
    let fronts : take (done + count) bodies ≡ front ++ group = take-add done count bodies ∙ ap (λ (n : ℕ). front ++ take n (drop done bodies)) (omega arith) in
    let run = c.then.ensures (f, front) (s, group) (f, front ++ group) c.args.disk.now mid new inv.run c.write_group.ensures.any_moment
    (λ x y left grows. grows_wider f front group x y grows)
    (λ x e y left first left_e second.
    let tells = g.met.D.Disk.left_tells mid (d.now mid) e (g.met.D.Disk.counts_now mid e left_e) in
    grows_on f front group x e y ring.order first
    (counts_left f front (d.image mid) e ring.order (inv.counted tells) (subst (λ (t : Files). KeepsRetained t (d.image mid) e) are (inv.ready.stable e left_e)))
    (subst (λ (t : Files). Grows t group e y) are second)) in
    let after : c.take.new.self ≡ taken s (length group) = c.take.ensures ∙ ap (λ (n : ℕ). taken s n) (sym part) in
    record {
      within = omega (arith, c.group_len-count.ensures.within, c.loop-done-test.true);
      files = c.take.ensures ∙ ap (λ (t : Files). taken t count) inv.files ∙ ap (λ (n : ℕ). let t : Files = record f { next = n } in t) (let e : f.next + done + count ≡ f.next + (done + count) = omega arith in e);
      ready = subst (λ (t : Files). IsReady d t new) (sym after) c.in_ok-write_group.ensures.ready;
      kept = λ tells b from below.
          (subst (λ (t : Files). KeepsRetained t (d.image mid) (d.image new)) are (c.in_ok-write_group.ensures.kept tells)) b from (omega (arith, below)) ∙ inv.kept tells b from below;
      counted = λ tells. subst (λ (l : List Body). Count f.region f.next l (d.image new)) (sym fronts)
          (counts_on f front group (d.image mid) (d.image new) (inv.counted tells) (subst (λ (t : Files). KeepsRetained t (d.image mid) (d.image new)) are (c.in_ok-write_group.ensures.kept tells)) ring.order
          (subst (λ (t : Files). Count t.region t.next group (d.image new)) are (c.in_ok-write_group.ensures.counted tells)));
      run = subst (λ (l : List Body). Within d c.args.disk.now new (Grows f l)) (sym fronts) run;
      shown = λ tells. both_same (RegionPlaces f.region) (d.image c.args.disk.now) (d.image mid) (d.image new) (inv.shown tells)
          (subst (λ (t : Files). SameBut (RegionPlaces t.region) (d.image mid) (d.image new)) inv.files (c.write_group.ensures.shown tells));
      sizes = λ j. c.write_group.ensures.sizes j ∙ inv.sizes j;
      faults = omega (arith, inv.faults, c.write_group.ensures.cause.later);
    }

pub returns-in_err-write_group-clause-any_moment : goal.returns-in_err-write_group-clause-any_moment
returns-in_err-write_group-clause-any_moment g c =
    let f = c.args.self.now in let bodies = c.args.bodies.now in let inv = c.loop-done.invariant in let d = g.D.Disk in let ring = c.copy-files.ensures.ring in
    let s = c.loop-done.files in let done = c.loop-done.done in let count = c.group_len-count.result in
    let front = take done bodies in let group = take (done + count - done) (drop done bodies) in
    let mid = c.loop-done.disk in let new = c.write_group.new.disk in
    let long : length front ≡ done = length-take-le done bodies inv.within in
    let are : s ≡ taken f (length front) = inv.files ∙ ap (λ (n : ℕ). taken f n) (sym long) in
    let part : length group ≡ count = length-take-le (done + count - done) (drop done bodies) (omega (arith, length-drop done bodies, c.group_len-count.ensures.within)) ∙ (omega arith) in
    let fronts : take (done + count) bodies ≡ front ++ group = take-add done count bodies ∙ ap (λ (n : ℕ). front ++ take n (drop done bodies)) (omega arith) in
    let run = c.then.ensures (f, front) (s, group) (f, front ++ group) c.args.disk.now mid new inv.run c.write_group.ensures.any_moment
    (λ x y left grows. grows_wider f front group x y grows)
    (λ x e y left first left_e second.
    let tells = g.met.D.Disk.left_tells mid (d.now mid) e (g.met.D.Disk.counts_now mid e left_e) in
    grows_on f front group x e y ring.order first
    (counts_left f front (d.image mid) e ring.order (inv.counted tells) (subst (λ (t : Files). KeepsRetained t (d.image mid) e) are (inv.ready.stable e left_e)))
    (subst (λ (t : Files). Grows t group e y) are second)) in
    let rest = drop (done + count) bodies in
    let all : (front ++ group) ++ rest ≡ bodies = ap (λ (l : List Body). l ++ rest) (sym fronts) ∙ take-append-drop (done + count) bodies in
    let room : f.next + length (front ++ group) ≤ f.limit =
    omega (arith, c.requires.room, ap (λ (l : List Body). length l) all, length-append (front ++ group) rest) in
    c.seen_as.ensures (f, front ++ group) (f, bodies) c.args.disk.now new run (λ x y left grows.
    subst (λ (l : List Body). Appends f l x y) all (appends_front f (front ++ group) rest x y (appends f (front ++ group) x y ring room (c.requires.ready.files x left) grows)))

pub returns-in_err-write_group-clause-shown : goal.returns-in_err-write_group-clause-shown
returns-in_err-write_group-clause-shown g c = λ tells.
    let f = c.args.self.now in let inv = c.loop-done.invariant in let d = g.D.Disk in let mid = c.loop-done.disk in let new = c.write_group.new.disk in
    both_same (RegionPlaces f.region) (d.image c.args.disk.now) (d.image mid) (d.image new) (inv.shown tells)
    (subst (λ (t : Files). SameBut (RegionPlaces t.region) (d.image mid) (d.image new)) inv.files (c.write_group.ensures.shown tells))

pub returns-clause-ready : goal.returns-clause-ready
returns-clause-ready g c =
    let f = c.args.self.now in let inv = c.loop-done.invariant in let d = g.D.Disk in
    let all : c.loop-done.done ≡ length c.args.bodies.now = omega (arith, inv.within, c.loop-done-test.false) in
    subst (λ (t : Files). IsReady d t c.loop-done.disk) (inv.files ∙ ap (λ (n : ℕ). taken f n) all) inv.ready

pub returns-clause-appended : goal.returns-clause-appended
returns-clause-appended g c = λ tells.
    let f = c.args.self.now in let bodies = c.args.bodies.now in let inv = c.loop-done.invariant in
    let all : c.loop-done.done ≡ length bodies = omega (arith, inv.within, c.loop-done-test.false) in
    let whole : take c.loop-done.done bodies ≡ bodies = ap (λ (n : ℕ). take n bodies) all ∙ take-length bodies in
    let has = c.requires.ready.files (g.D.Disk.image c.args.disk.now) (g.met.D.Disk.image_left c.args.disk.now tells) in
    retained_on f bodies (g.D.Disk.image c.args.disk.now) (g.D.Disk.image c.loop-done.disk) c.copy-files.ensures.ring.order has (inv.kept tells)
    (subst (λ (l : List Body). Count f.region f.next l (g.D.Disk.image c.loop-done.disk)) whole (inv.counted tells))

pub returns-clause-any_moment : goal.returns-clause-any_moment
returns-clause-any_moment g c =
    let f = c.args.self.now in let bodies = c.args.bodies.now in let inv = c.loop-done.invariant in
    let all : c.loop-done.done ≡ length bodies = omega (arith, inv.within, c.loop-done-test.false) in
    let whole : take c.loop-done.done bodies ≡ bodies = ap (λ (n : ℕ). take n bodies) all ∙ take-length bodies in
    c.seen_as.ensures (f, take c.loop-done.done bodies) (f, bodies) c.args.disk.now c.loop-done.disk inv.run (λ x y left grows.
    appends f bodies x y c.copy-files.ensures.ring c.requires.room (c.requires.ready.files x left) (subst (λ (l : List Body). Grows f l x y) whole grows))
