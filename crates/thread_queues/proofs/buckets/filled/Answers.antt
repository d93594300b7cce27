use Rattle.std.proofs.Common.{◌≡◌, ◌∙◌, ◌++◌, ◌==◌, ◌∷◌, [], ℕ, true, cond, List, Option, IsSome, length, refl, ap, sym, subst, arith}
use Rattle.std.specs.List.{filter}
use Rattle.link_lists.specs.Lists.{list_at, first_of, behind, has}
use Rattle.thread_queues.specs.Laid.{block_at, bucket_of}
use Rattle.thread_queues.proofs.Walking.{from, from-first, walked, walk-shorter, walk-here, walk-later, walk-filter}
use Rattle.thread_queues.proofs.Bucketing.{pushed-lists, one-over, idle-home}
use Rattle.thread_queues.proofs.buckets.filled.Goals as goal

pub loop-at-init : goal.loop-at-init
loop-at-init c =
    let xs = list_at c.args.queues.now 4 in
    let all : from c.front-at.result xs ≡ xs = ap (λ (o : Option ℕ). from o xs) c.front-at.ensures.front ∙ from-first xs in
    record {
      at = c.front-at.ensures.front ∙ ap first_of (sym all);
      sound = c.in_ok-buckets.ensures.sound;
      count = c.in_ok-buckets.ensures.count;
      places = c.in_ok-buckets.ensures.places;
      free = λ x h. idle-home c.in_ok-buckets.buckets c.in_ok-buckets.ensures.sound c.in_ok-buckets.ensures.empty x;
      all = λ b. ap (λ (ids : List ℕ). ids ++ filter (λ x. bucket_of c.args.count (block_at c.args.blocks.now x).event == b) (from c.front-at.result xs)) (c.in_ok-buckets.ensures.empty b)
          ∙ ap (filter (λ x. bucket_of c.args.count (block_at c.args.blocks.now x).event == b)) all;
    }

pub bounds-blocks-id : goal.bounds-blocks-id
bounds-blocks-id c =
    let xs = list_at c.args.queues.now 4 in
    let w = walked xs c.loop-at.at c.in-Some.id (c.front-at.ensures.sound.once 4) c.in-Some.is c.loop-at.invariant.at in
    c.requires.blocks c.in-Some.id w.has

pub push_back-requires-clause-there : goal.push_back-requires-clause-there
push_back-requires-clause-there c =
    let xs = list_at c.args.queues.now 4 in
    let w = walked xs c.loop-at.at c.in-Some.id (c.front-at.ensures.sound.once 4) c.in-Some.is c.loop-at.invariant.at in
    let low = c.requires.places c.in-Some.id w.has in
    omega (arith, low, c.loop-at.invariant.places)

pub push_back-requires-clause-free : goal.push_back-requires-clause-free
push_back-requires-clause-free c =
    let xs = list_at c.args.queues.now 4 in
    let w = walked xs c.loop-at.at c.in-Some.id (c.front-at.ensures.sound.once 4) c.in-Some.is c.loop-at.invariant.at in
    c.loop-at.invariant.free c.in-Some.id (walk-here xs c.loop-at.at c.in-Some.id w)

pub next-at-requires : goal.next-at-requires
next-at-requires c =
    let xs = list_at c.args.queues.now 4 in
    let w = walked xs c.loop-at.at c.in-Some.id (c.front-at.ensures.sound.once 4) c.in-Some.is c.loop-at.invariant.at in
    let home = (c.front-at.ensures.sound.home 4 c.in-Some.id).1 w.has in
    subst (λ (o : Option ℕ). IsSome o) (sym home) refl

pub loop-at-smaller : goal.loop-at-smaller
loop-at-smaller c =
    let xs = list_at c.args.queues.now 4 in
    let w = walked xs c.loop-at.at c.in-Some.id (c.front-at.ensures.sound.once 4) c.in-Some.is c.loop-at.invariant.at in
    let home = (c.front-at.ensures.sound.home 4 c.in-Some.id).1 w.has in
    let next = c.next-at.ensures.next 4 home in
    let less = walk-shorter xs c.loop-at.at c.in-Some.id w in
    let same = ap (λ (o : Option ℕ). length (from o xs)) next in
    omega (arith, less, same)

pub loop-at-preserved : goal.loop-at-preserved
loop-at-preserved c =
    let xs = list_at c.args.queues.now 4 in
    let id = c.in-Some.id in
    let once = c.front-at.ensures.sound.once 4 in
    let w = walked xs c.loop-at.at id once c.in-Some.is c.loop-at.invariant.at in
    let home = (c.front-at.ensures.sound.home 4 id).1 w.has in
    let next = c.next-at.ensures.next 4 home in
    record {
      at = next ∙ w.at ∙ ap (λ (o : Option ℕ). first_of (from o xs)) (sym next);
      sound = c.push_back.ensures.sound;
      count = c.push_back.ensures.counts.lists ∙ c.loop-at.invariant.count;
      places = c.push_back.ensures.counts.ids ∙ c.loop-at.invariant.places;
      free = λ x h.
          let later = walk-later xs c.loop-at.at id once w x (subst (λ (o : Option ℕ). has x (from o xs) ≡ true) next h) in
          c.push_back.ensures.home.others x later.0 ∙ c.loop-at.invariant.free x later.1;
      all = λ b.
          ap (λ (o : Option ℕ). list_at c.push_back.new.self b ++ filter (λ x. bucket_of c.args.count (block_at c.args.blocks.now x).event == b) (from o xs)) next
          ∙ ap (λ (ids : List ℕ). ids ++ filter (λ x. bucket_of c.args.count (block_at c.args.blocks.now x).event == b) (from (behind id xs) xs))
          (pushed-lists c.loop-at.buckets c.push_back.new.self c.bucket_of.result id c.push_back.ensures.list b
          ∙ ap (λ (k : ℕ). cond (k == b) (list_at c.loop-at.buckets b ++ id ∷ []) (list_at c.loop-at.buckets b)) c.bucket_of.ensures.bucket)
          ∙ one-over (λ x. bucket_of c.args.count (block_at c.args.blocks.now x).event == b) id (list_at c.loop-at.buckets b) (from (behind id xs) xs)
          ∙ sym (ap (λ (ids : List ℕ). list_at c.loop-at.buckets b ++ ids) (walk-filter (λ x. bucket_of c.args.count (block_at c.args.blocks.now x).event == b) xs c.loop-at.at id w))
          ∙ c.loop-at.invariant.all b;
    }
