use Rattle.std.proofs.Common.{◌≡◌, ◌≤◌, ◌+◌, Some, refl, arith, rules, sym, subst, ap, ◌∙◌}
use Rattle.gate_blocks.specs.declared.region.Region.{Region}
use Rattle.ids_outside.specs.Images.{Image}
use Rattle.log_files.specs.Log.{body_at, IsReadAs}
use Rattle.log_files.specs.declared.read.BlockRead.{BlockRead}
use Rattle.log_files.specs.declared.read.BlockRead.TheVariants as reads
use Rattle.ids_model.specs.Recovered.{State}
use Rattle.fast_recovery.specs.PagedStates.{IsPagedState}
use Rattle.fast_recovery.specs.LogRead.{LogFault}
use Rattle.fast_recovery.proofs.Ordered.{alone-goes}
use Rattle.fast_recovery.proofs.BlocksRead.{read-none, read-next, read-all, read-broken, read-fault, ends-full}
use Rattle.fast_recovery.proofs.Paging.{paged-nothing}
use Rattle.fast_recovery.proofs.Causes.{records-cause}
use Rattle.fast_recovery.proofs.Results.{err-goes-up}
use Rattle.fast_recovery.proofs.roll_forward.read_log.Goals as goal

pub returns-in-Absent-clause-read : goal.returns-in-Absent-clause-read
returns-in-Absent-clause-read g c = λ tells.
    let r = c.args.files.now.region in let x = g.D.Disk.image c.args.disk.now in let inv = c.loop-past.invariant in let p = c.loop-past.past in
    let found : IsReadAs r p.next x reads.Absent = subst (λ (f : BlockRead). IsReadAs r p.next x f) c.in-Absent.is (subst (λ (y : Image). IsReadAs r p.next y c.in_ok-found.found) inv.same (c.in_ok-found.ensures.read tells)) in
    read-all r x c.args.pages c.new-past.result p c.new-past.ensures.none c.new-past.ensures.last_tx c.new-past.ensures.replay inv.from inv.to (inv.read tells) found.0 found.1

pub returns-in-Broken-clause-fault : goal.returns-in-Broken-clause-fault
returns-in-Broken-clause-fault g c = λ tells.
    let r = c.args.files.now.region in let x = g.D.Disk.image c.args.disk.now in let inv = c.loop-past.invariant in let p = c.loop-past.past in
    let found : IsReadAs r p.next x reads.Broken = subst (λ (f : BlockRead). IsReadAs r p.next x f) c.in-Broken.is (subst (λ (y : Image). IsReadAs r p.next y c.in_ok-found.found) inv.same (c.in_ok-found.ensures.read tells)) in
    read-broken r x c.args.pages c.new-past.result p c.new-past.ensures.none c.new-past.ensures.last_tx c.new-past.ensures.replay inv.from inv.to (inv.read tells) found.0 found.1

pub loop-past-preserved : goal.loop-past-preserved
loop-past-preserved g c =
    let r = c.args.files.now.region in let x = g.D.Disk.image c.args.disk.now in let inv = c.loop-past.invariant in let p = c.loop-past.past in
    let count : (c.region.result).count ≡ r.count = ap (λ (q : Region). q.count) c.region.ensures.region in
    record {
      from = omega (arith, c.in_ok-note_body.ensures.next, inv.from);
      to = omega (arith, c.in_ok-note_body.ensures.next, c.loop-past-test.true, c.from-last.ensures, count);
      read = λ tells.
          let there : body_at r p.next x ≡ Some c.in-Body.body = subst (λ (f : BlockRead). IsReadAs r p.next x f) c.in-Body.is (subst (λ (y : Image). IsReadAs r p.next y c.in_ok-found.found) inv.same (c.in_ok-found.ensures.read tells)) in
          read-next r x c.runs_join.ensures c.args.pages c.new-past.result p c.note_body.new.self c.in-Body.body inv.from (inv.read tells) there c.in_ok-note_body.ensures.goes_on c.in_ok-note_body.ensures.next;
      alone = alone-goes c.args.pages p c.in-Body.body.entries c.note_body.new.self inv.alone c.in_ok-note_body.ensures.goes_on;
      paged = c.in_ok-note_body.ensures.paged inv.paged;
      same = c.read_from.ensures.same ∙ inv.same;
      stop = λ y left. inv.stop y (c.read_from.ensures.stop y left);
      run = c.then.ensures tt tt tt c.args.disk.now c.loop-past.disk c.read_from.new.disk inv.run c.read_from.ensures.any_moment (λ d y left one. one) (λ d e y left one left_e two. two ∙ one);
      sizes = λ j. c.read_from.ensures.sizes j ∙ inv.sizes j;
      faults = omega (arith, inv.faults, c.read_from.ensures.cause.later);
    }

pub returns-in_err-note_body-clause-fault : goal.returns-in_err-note_body-clause-fault
returns-in_err-note_body-clause-fault g c =
    let r = c.args.files.now.region in let x = g.D.Disk.image c.args.disk.now in let inv = c.loop-past.invariant in let p = c.loop-past.past in
    let count : (c.region.result).count ≡ r.count = ap (λ (q : Region). q.count) c.region.ensures.region in
    err-goes-up c.from_residual-in_err-note_body.result _ (λ e. g.D.Disk.tells → LogFault c.args.pages r x e) c.from_residual-in_err-note_body.ensures.1 (λ e is tells.
    let same : e ≡ c.in_err-note_body.field-0.0 = is in
    let there : body_at r p.next x ≡ Some c.in-Body.body = subst (λ (f : BlockRead). IsReadAs r p.next x f) c.in-Body.is (subst (λ (y : Image). IsReadAs r p.next y c.in_ok-found.found) inv.same (c.in_ok-found.ensures.read tells)) in
    let below : p.next ≤ r.count = omega (arith, c.loop-past-test.true, c.from-last.ensures, count) in
    subst (λ f. LogFault c.args.pages r x f) (sym same) (records-cause c.args.pages r x p c.in-Body.body.entries c.in_err-note_body.field-0.0
    (λ pos. read-fault r x c.runs_join.ensures c.args.pages c.new-past.result p c.in-Body.body pos c.new-past.ensures.none c.new-past.ensures.last_tx c.new-past.ensures.replay inv.from below (inv.read tells) there)
    c.in_err-note_body.ensures.fault))

pub loop-past-init : goal.loop-past-init
loop-past-init g c =
    let r = c.args.files.now.region in let x = g.D.Disk.image c.args.disk.now in let p = c.new-past.result in
    record {
      from = omega (arith, c.new-past.ensures.next);
      to = omega (arith, c.new-past.ensures.next);
      read = λ tells. read-none r x c.args.pages p c.new-past.ensures.next;
      alone = search rules;
      paged = subst (λ (s : State). IsPagedState c.args.pages s) (sym c.new-past.ensures.replay) (paged-nothing c.args.pages);
      same = refl;
      stop = λ y left. left;
      run = search rules;
      sizes = λ j. refl;
      faults = omega arith;
    }

pub returns-clause-read : goal.returns-clause-read
returns-clause-read g c = λ tells.
    let r = c.args.files.now.region in let x = g.D.Disk.image c.args.disk.now in let inv = c.loop-past.invariant in let p = c.loop-past.past in
    let count : (c.region.result).count ≡ r.count = ap (λ (q : Region). q.count) c.region.ensures.region in
    let all : p.next ≡ 1 + r.count = omega (arith, inv.to, c.loop-past-test.false, c.from-last.ensures, count) in
    let ends = ends-full r x p.next (omega (arith, c.region.ensures.ring.some)) all (inv.read tells).held in
    read-all r x c.args.pages c.new-past.result p c.new-past.ensures.none c.new-past.ensures.last_tx c.new-past.ensures.replay inv.from inv.to (inv.read tells) ends.0 ends.1
