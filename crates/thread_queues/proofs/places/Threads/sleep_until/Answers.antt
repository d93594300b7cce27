use Rattle.std.proofs.Common.{◌≡◌, ◌++◌, ◌∷◌, ◌∙◌, [], ℕ, Option, Some, None, IsSome, length, unwrap_or, refl, sym, ap, subst}
use Rattle.std.proofs.Math.ListN.{set}
use Rattle.std.proofs.lemmas.List.{get_or_default, length-set}
use Rattle.ids_base.specs.declared.class.Class.{Class}
use Rattle.ids_base.specs.Classes.{class_of}
use Rattle.thread_queues.specs.declared.event.Event.TheVariants.{Lock}
use Rattle.thread_queues.specs.Placed.{Placed, running_at, stopped, sleeping}
use Rattle.thread_queues.specs.Slotted.{Slotted}
use Rattle.thread_queues.specs.Shown.{shown, sleeper}
use Rattle.thread_queues.specs.Kept.{placed_of, IsCounted}
use Rattle.thread_queues.proofs.Counting.{runs_lt}
use Rattle.thread_queues.proofs.Counted.{runs-live, counted-sleeps}
use Rattle.thread_queues.proofs.Placing.{sleep-shown, apart-six}
use Rattle.thread_queues.proofs.places.Threads.sleep_until.Goals as goal

pub put-requires-clause-lives : goal.put-requires-clause-lives
put-requires-clause-lives c =
    let a = c.self.inside in
    let t = c.in-Some.thread in
    let p = placed_of a in
    let there = runs_lt a.running.items c.args.vp (subst (λ (x : Placed). IsSome (running_at x c.args.vp)) (sym c.self.view_is) c.requires) in
    let at : running_at p c.args.vp ≡ Some t = get_or_default a.running.items c.args.vp None c.index.result.now there ∙ sym c.index.ensures ∙ c.in-Some.is in
    let runs = runs-live p c.args.vp t c.self.invariant.counted at in
    runs.0

pub put-requires-clause-apart : goal.put-requires-clause-apart
put-requires-clause-apart c =
    let a = c.self.inside in
    let t = c.in-Some.thread in
    let p = placed_of a in
    let there = runs_lt a.running.items c.args.vp (subst (λ (x : Placed). IsSome (running_at x c.args.vp)) (sym c.self.view_is) c.requires) in
    let at : running_at p c.args.vp ≡ Some t = get_or_default a.running.items c.args.vp None c.index.result.now there ∙ sym c.index.ensures ∙ c.in-Some.is in
    let runs = runs-live p c.args.vp t c.self.invariant.counted at in
    apart-six a.slots c.self.invariant.six t runs.1 runs.2 runs.3

pub invariant_of-self : goal.invariant_of-self
invariant_of-self c =
    let a = c.self.inside in
    let t = c.in-Some.thread in
    let p = placed_of a in
    let there = runs_lt a.running.items c.args.vp (subst (λ (x : Placed). IsSome (running_at x c.args.vp)) (sym c.self.view_is) c.requires) in
    let at : running_at p c.args.vp ≡ Some t = get_or_default a.running.items c.args.vp None c.index.result.now there ∙ sym c.index.ensures ∙ c.in-Some.is in
    let runs = runs-live p c.args.vp t c.self.invariant.counted at in
    let e = ap (λ (s : Slotted). shown a.cpu a.tick s (set a.running.items c.args.vp None)) c.put.ensures ∙ sleep-shown a.cpu a.tick a.slots.live (set a.running.items c.args.vp None) a.slots.queues c.self.invariant.six (record { event = Lock; thread = t; class = c.of_processor.result; due = Some c.args.tick }) in
    record {
      counted = subst IsCounted (sym e) (counted-sleeps p c.args.vp t (sleeper (record { event = Lock; thread = t; class = c.of_processor.result; due = Some c.args.tick })) refl c.self.invariant.counted at);
      six = ap (λ (s : Slotted). length s.queues) c.put.ensures ∙ length-set a.slots.queues 5 _ ∙ c.self.invariant.six;
      few = c.self.invariant.few;
      live = c.self.invariant.live ∙ sym (ap (λ (s : Slotted). length s.live) (c.put.ensures));
    }

pub returns-in-Some : goal.returns-in-Some
returns-in-Some c =
    let a = c.self.inside in
    let t = c.in-Some.thread in
    let p = placed_of a in
    let there = runs_lt a.running.items c.args.vp (subst (λ (x : Placed). IsSome (running_at x c.args.vp)) (sym c.self.view_is) c.requires) in
    let at : running_at p c.args.vp ≡ Some t = get_or_default a.running.items c.args.vp None c.index.result.now there ∙ sym c.index.ensures ∙ c.in-Some.is in
    let runs = runs-live p c.args.vp t c.self.invariant.counted at in
    let e = ap (λ (s : Slotted). shown a.cpu a.tick s (set a.running.items c.args.vp None)) c.put.ensures ∙ sleep-shown a.cpu a.tick a.slots.live (set a.running.items c.args.vp None) a.slots.queues c.self.invariant.six (record { event = Lock; thread = t; class = c.of_processor.result; due = Some c.args.tick }) in
    e ∙ ap (λ (k : Class). record (stopped p c.args.vp) { sleeps = p.sleeps ++ record { due = c.args.tick; thread = t; class = k } ∷ [] }) c.of_processor.ensures
    ∙ ap (λ (o : Option ℕ). record (stopped p c.args.vp) { sleeps = p.sleeps ++ record { due = c.args.tick; thread = unwrap_or o 0; class = class_of a.cpu c.args.vp } ∷ [] }) (sym at)
    ∙ ap (λ (x : Placed). sleeping x c.args.vp c.args.tick) c.self.view_is
