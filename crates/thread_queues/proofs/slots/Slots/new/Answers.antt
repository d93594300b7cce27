use Rattle.std.proofs.Common.{rules, ◌≡◌, ◌∙◌, ℕ, Option, None, Some, [], length, nat_eq, ap, sym, arith}
use Rattle.std.specs.HashMap.{get}
use Rattle.std.proofs.lemmas.List.{get_or_past}
use Rattle.thread_queues.specs.Firsts.{due_at}
use Rattle.thread_queues.specs.Slotted.{limit_in}
use Rattle.thread_queues.specs.Laid.{block_at}
use Rattle.thread_queues.proofs.Bucketing.{idle-home}
use Rattle.thread_queues.proofs.Growing.{none-shown, none-bucketed}
use Rattle.thread_queues.proofs.slots.Slots.new.Goals as goal

none-some : {o : Option ℕ} {l : ℕ} → o ≡ None → o ≡ Some l → ⊥
none-some e f = cc

pub invariant_of-result : goal.invariant_of-result
invariant_of-result c =
    let no-ids = c.in_ok-alive.ensures.no_ids in
    let queued = idle-home c.in_ok-queues.queues c.in_ok-queues.ensures.sound c.in_ok-queues.ensures.empty in
    let living = idle-home c.in_ok-alive.alive c.in_ok-alive.ensures.sound c.in_ok-alive.ensures.empty in
    let lost : (t : ℕ) → get nat_eq c.new-5.result t ≡ None = λ t. search rules in
    record {
      alive_sound = c.in_ok-alive.ensures.sound;
      queues_sound = c.in_ok-queues.ensures.sound;
      alive_count = c.in_ok-alive.ensures.lists;
      queue_count = c.in_ok-queues.ensures.lists;
      room = record {
        queue_room = (omega (arith, no-ids), omega (arith, no-ids, c.in_ok-queues.ensures.no_ids));
        bucket_room = (omega (arith, no-ids), omega (arith, no-ids, c.in_ok-buckets.ensures.no_places));
        block_room = (omega (arith, no-ids), omega (arith, no-ids, ap length c.new-3.ensures.items));
        limit_room = (omega (arith, no-ids), omega (arith, no-ids, ap length c.new-4.ensures));
        full = omega (arith, no-ids, ap length (c.in_ok-alive.ensures.empty 0), ap length (c.in_ok-alive.ensures.empty 1));
        few = omega (arith, no-ids);
      };
      lives = λ x q e. absurd (none-some (queued x) e);
      found = λ t x. (λ e. absurd (none-some (lost t) e), λ r. absurd (none-some (living x) r.0));
      bucketed = none-bucketed c.in_ok-queues.queues c.in_ok-buckets.buckets c.new-3.result.items (c.in_ok-queues.ensures.empty 4) c.in_ok-buckets.ensures.wide c.in_ok-buckets.ensures.no_places c.in_ok-buckets.ensures.empty c.in_ok-buckets.ensures.sound;
      limited = λ x. ap (λ ds. due_at ds x) c.new-4.ensures ∙ get_or_past [] x None (omega arith) ∙ ap (λ (o : Option ℕ). limit_in o (block_at c.new-3.result.items x)) (sym (queued x));
    }

pub returns : goal.returns
returns c = none-shown c.in_ok-alive.alive c.in_ok-queues.queues c.new-3.result.items (c.in_ok-alive.ensures.empty 0) c.in_ok-queues.ensures.lists c.in_ok-queues.ensures.empty
