use Rattle.std.proofs.Common.{◌≡◌, ◌==◌, ◌∙◌, ℕ, Option, Some, None, IsSome, length, unwrap_or, sym, ap, subst, arith}
use Rattle.std.proofs.Math.ListN.{set}
use Rattle.std.proofs.lemmas.List.{get_or_default}
use Rattle.thread_queues.specs.Placed.{Placed, running_at, stopped, ended, without_first}
use Rattle.thread_queues.specs.Slotted.{Slotted}
use Rattle.thread_queues.specs.Shown.{shown}
use Rattle.thread_queues.specs.Kept.{placed_of, IsCounted}
use Rattle.thread_queues.proofs.Counting.{runs_lt}
use Rattle.thread_queues.proofs.Counted.{runs-live, counted-ended, one-gone}
use Rattle.thread_queues.proofs.Placing.{apart-six}
use Rattle.thread_queues.proofs.places.Threads.end.Goals as goal

pub remove-requires-clause-lives : goal.remove-requires-clause-lives
remove-requires-clause-lives c =
    let a = c.self.inside in
    let t = c.in-Some.thread in
    let p = placed_of a in
    let there = runs_lt a.running.items c.args.vp (subst (λ (x : Placed). IsSome (running_at x c.args.vp)) (sym c.self.view_is) c.requires) in
    let at : running_at p c.args.vp ≡ Some t = get_or_default a.running.items c.args.vp None c.index.result.now there ∙ sym c.index.ensures ∙ c.in-Some.is in
    let runs = runs-live p c.args.vp t c.self.invariant.counted at in
    runs.0

pub remove-requires-clause-apart : goal.remove-requires-clause-apart
remove-requires-clause-apart c =
    let a = c.self.inside in
    let t = c.in-Some.thread in
    let p = placed_of a in
    let there = runs_lt a.running.items c.args.vp (subst (λ (x : Placed). IsSome (running_at x c.args.vp)) (sym c.self.view_is) c.requires) in
    let at : running_at p c.args.vp ≡ Some t = get_or_default a.running.items c.args.vp None c.index.result.now there ∙ sym c.index.ensures ∙ c.in-Some.is in
    let runs = runs-live p c.args.vp t c.self.invariant.counted at in
    apart-six a.slots c.self.invariant.six t runs.1 runs.2 runs.3

pub overflow_sub-self : goal.overflow_sub-self
overflow_sub-self c =
    let a = c.self.inside in
    let t = c.in-Some.thread in
    let p = placed_of a in
    let there = runs_lt a.running.items c.args.vp (subst (λ (x : Placed). IsSome (running_at x c.args.vp)) (sym c.self.view_is) c.requires) in
    let at : running_at p c.args.vp ≡ Some t = get_or_default a.running.items c.args.vp None c.index.result.now there ∙ sym c.index.ensures ∙ c.in-Some.is in
    let runs = runs-live p c.args.vp t c.self.invariant.counted at in
    omega (arith, c.self.invariant.live, one-gone a.slots.live t runs.0)

pub invariant_of-self : goal.invariant_of-self
invariant_of-self c =
    let a = c.self.inside in
    let t = c.in-Some.thread in
    let p = placed_of a in
    let there = runs_lt a.running.items c.args.vp (subst (λ (x : Placed). IsSome (running_at x c.args.vp)) (sym c.self.view_is) c.requires) in
    let at : running_at p c.args.vp ≡ Some t = get_or_default a.running.items c.args.vp None c.index.result.now there ∙ sym c.index.ensures ∙ c.in-Some.is in
    let runs = runs-live p c.args.vp t c.self.invariant.counted at in
    let e = ap (λ (s : Slotted). shown a.cpu a.tick s (set a.running.items c.args.vp None)) c.remove.ensures in
    record {
      counted = subst IsCounted (sym e) (counted-ended p c.args.vp t c.self.invariant.counted at runs.0);
      six = ap (λ (s : Slotted). length s.queues) c.remove.ensures ∙ c.self.invariant.six;
      few = c.self.invariant.few;
      live = omega (arith, c.self.invariant.live, ap (λ (s : Slotted). length s.live) (c.remove.ensures), one-gone a.slots.live t runs.0);
    }

pub returns-in-Some : goal.returns-in-Some
returns-in-Some c =
    let a = c.self.inside in
    let t = c.in-Some.thread in
    let p = placed_of a in
    let there = runs_lt a.running.items c.args.vp (subst (λ (x : Placed). IsSome (running_at x c.args.vp)) (sym c.self.view_is) c.requires) in
    let at : running_at p c.args.vp ≡ Some t = get_or_default a.running.items c.args.vp None c.index.result.now there ∙ sym c.index.ensures ∙ c.in-Some.is in
    let runs = runs-live p c.args.vp t c.self.invariant.counted at in
    ap (λ (s : Slotted). shown a.cpu a.tick s (set a.running.items c.args.vp None)) c.remove.ensures
    ∙ ap (λ (o : Option ℕ). record (stopped p c.args.vp) { live = without_first (λ x. x == unwrap_or o 0) p.live }) (sym at)
    ∙ ap (λ (x : Placed). ended x c.args.vp) c.self.view_is
