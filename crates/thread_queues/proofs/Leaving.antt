-- The lists, blocks and limits stand for the threads, as a thread leaves a queue.
use Rattle.std.proofs.Common.{◌≡◌, ◌∙◌, ℕ, ◌<◌, ◌==◌, true, false, List, [], length, map, get_or, refl, ap, sym, subst, arith, inl, inr, Option, Some, None}
use Rattle.std.proofs.Math.ListN.{set}
use Rattle.std.specs.List.{filter, find}
use Rattle.std.proofs.lemmas.List.{get_or-set_same, get_or-set_other, length-set, length-map}
use Rattle.std.proofs.lemmas.Bool.{cases_eq, eq-eqb, ne_eqb}
use Rattle.link_lists.specs.Lists.{Lists, list_at, home_at, list_count, ListBecomes, HomeBecomes, SameCounts, IsSound, has, without}
use Rattle.thread_queues.specs.declared.event.Due.{Due}
use Rattle.thread_queues.specs.declared.event.Waiter.{Waiter}
use Rattle.thread_queues.specs.Firsts.{due_at}
use Rattle.thread_queues.specs.Placed.{without_first}
use Rattle.thread_queues.specs.Slotted.{limit_in, queue_at, taken_from}
use Rattle.thread_queues.specs.Laid.{block_at, number_at, bucket_of, slotted, IsBucketed, IsLaid}
use Rattle.thread_queues.proofs.Ids.{filter-without, without-first-map, find-map}
use Rattle.thread_queues.proofs.Moving.{same-room, taken-lists, map-lists, same-at}

-- an id was taken out of the list that it was in
pub record IsUnlinked (old new : Lists) (l x : ℕ) : Type 0 where
  pub list : ListBecomes old new l (without x (list_at old l))
  pub home : HomeBecomes old new x None
  pub counts : SameCounts old new
  pub sound : IsSound new

-- an id was taken out of the bucket that it was in, if it was in one
pub record IsTakenFromBucket (old new : Lists) (x : ℕ) : Type 0 where
  pub lists : (k : ℕ) → list_at new k ≡ without x (list_at old k)
  pub counts : SameCounts old new
  pub sound : IsSound new

module _ (al qs bu : Lists) (bs : List Waiter) (li : List (Option Due)) (id_of : ℕ → Option ℕ) (laid : IsLaid al qs bu bs li id_of) (q x : ℕ) (here : home_at qs x ≡ Some q) where
  same-some : (m n : ℕ) → Some m ≡ Some n → m ≡ n
  same-some m n e = cc

  -- another one there has another number
  only-number : (y : ℕ) → has y (list_at qs q) ≡ true → (y ≡ x → ⊥) → (number_at bs y == number_at bs x) ≡ false
  only-number y h ne = ne_eqb (number_at bs y) (number_at bs x) (λ e.
      let fy = (laid.found (number_at bs x) y).1 (laid.lives y q ((laid.queues_sound.home q y).1 h), e) in
      let fx = (laid.found (number_at bs x) x).1 (laid.lives x q here, refl) in
      ne (same-some y x (sym fy ∙ fx)))

  -- a thread is found by its number in the queue that it stands in
  pub found-there : find (λ w. w.thread == number_at bs x) (queue_at (slotted al qs bs) q) ≡ Some (block_at bs x)
  found-there = ap (find (λ w. w.thread == number_at bs x)) (map-lists (map (block_at bs)) qs.lists q refl)
      ∙ find-map (block_at bs) (λ w. w.thread == number_at bs x) x (list_at qs q) ((laid.queues_sound.home q x).0 here) (eq-eqb (number_at bs x) (number_at bs x) refl) only-number

module _ (al qs bu : Lists) (bs : List Waiter) (li : List (Option Due)) (id_of : ℕ → Option ℕ) (laid : IsLaid al qs bu bs li id_of)
    (qs' bu' : Lists) (q x : ℕ) (here : home_at qs x ≡ Some q) (out : IsUnlinked qs qs' q x) (gone : IsTakenFromBucket bu bu' x) where
  none-some : (o : Option ℕ) (l : ℕ) → o ≡ None → o ≡ Some l → ⊥
  none-some o l e f = cc

  low : q < 6
  low = omega (arith, (laid.queues_sound.there q x here).0, laid.queue_count)

  others : (y : ℕ) → has y (list_at qs q) ≡ true → (y ≡ x → ⊥) → (number_at bs y == number_at bs x) ≡ false
  others = only-number al qs bu bs li id_of laid q x here

  in-queue : has x (list_at qs q) ≡ true
  in-queue = (laid.queues_sound.home q x).0 here

  take-at : (k : ℕ) → get_or (map (λ ids. map (block_at bs) ids) qs'.lists) k [] ≡ get_or (set (map (λ ids. map (block_at bs) ids) qs.lists) q (without_first (λ w. w.thread == number_at bs x) (get_or (map (λ ids. map (block_at bs) ids) qs.lists) q []))) k []
  take-at k = map-lists (map (block_at bs)) qs'.lists k refl ∙ elim (cases_eq k q) [
    | inl e ↦ subst (λ (j : ℕ). map (block_at bs) (list_at qs' j) ≡ get_or (set olds q rest) j []) (sym e) (
        ap (map (block_at bs)) out.list.this
        ∙ without-first-map (block_at bs) (λ w. w.thread == number_at bs x) x (list_at qs q) (laid.queues_sound.once q) in-queue (eq-eqb (number_at bs x) (number_at bs x) refl) others
        ∙ ap (without_first (λ w. w.thread == number_at bs x)) (sym (map-lists (map (block_at bs)) qs.lists q refl))
        ∙ sym (get_or-set_same olds q rest [] there-q))
    | inr ne ↦ ap (map (block_at bs)) (out.list.others k ne) ∙ sym (map-lists (map (block_at bs)) qs.lists k refl) ∙ sym (get_or-set_other olds q k rest [] ne)
  ]
    where
      olds : List (List Waiter)
      olds = map (λ ids. map (block_at bs) ids) qs.lists

      rest : List Waiter
      rest = without_first (λ w. w.thread == number_at bs x) (get_or olds q [])

      there-q : q < length olds
      there-q = omega (arith, low, laid.queue_count, length-map qs.lists (λ ids. map (block_at bs) ids))

  pub take-shown : slotted al qs' bs ≡ taken_from (slotted al qs bs) q (number_at bs x)
  take-shown = ap (λ (ls : List (List Waiter)). record { live = map (number_at bs) (list_at al 0); queues = ls })
      (same-at (map (λ ids. map (block_at bs) ids) qs'.lists) (set (map (λ ids. map (block_at bs) ids) qs.lists) q (without_first (λ w. w.thread == number_at bs x) (get_or (map (λ ids. map (block_at bs) ids) qs.lists) q [])))
      (length-map qs'.lists (λ ids. map (block_at bs) ids) ∙ out.counts.lists ∙ sym (length-set (map (λ ids. map (block_at bs) ids) qs.lists) q (without_first (λ w. w.thread == number_at bs x) (get_or (map (λ ids. map (block_at bs) ids) qs.lists) q [])) ∙ length-map qs.lists (λ ids. map (block_at bs) ids)))
      take-at)

  take-bucketed : IsBucketed qs' bu' bs
  take-bucketed = record {
    sound = gone.sound;
    wide = omega (arith, laid.bucketed.wide, gone.counts.lists);
    many = omega (arith, laid.bucketed.many, gone.counts.lists, gone.counts.ids);
    waiting = λ b. gone.lists b ∙ ap (without x) (laid.bucketed.waiting b)
        ∙ sym (filter-without (λ y. bucket_of (list_count bu) (block_at bs y).event == b) x (list_at qs 4))
        ∙ ap (filter (λ y. bucket_of (list_count bu) (block_at bs y).event == b)) (sym (taken-lists qs qs' q x laid.queues_sound here out.list 4))
        ∙ ap (λ (n : ℕ). filter (λ y. bucket_of n (block_at bs y).event == b) (list_at qs' 4)) (sym gone.counts.lists);
  }

  take-limited : (y : ℕ) → due_at (set li x None) y ≡ limit_in (home_at qs' y) (block_at bs y)
  take-limited y = elim (cases_eq y x) [
    | inl e ↦ subst (λ (z : ℕ). due_at (set li x None) z ≡ limit_in (home_at qs' z) (block_at bs z)) (sym e)
        (get_or-set_same li x None None (omega (arith, (laid.alive_sound.there 0 x (laid.lives x q here)).1, laid.room.limit_room.0)) ∙ ap (λ (o : Option ℕ). limit_in o (block_at bs x)) (sym out.home.this))
    | inr ne ↦ get_or-set_other li x y None None ne ∙ laid.limited y ∙ ap (λ (o : Option ℕ). limit_in o (block_at bs y)) (sym (out.home.others y ne))
  ]

  -- an id that is in a queue still was in it before, and is another one
  still : (y p : ℕ) → home_at qs' y ≡ Some p → (home_at qs y ≡ Some p) × (y ≡ x → ⊥)
  still y p e = elim (cases_eq y x) [
    | inl s ↦ absurd (none-some (home_at qs' y) p (ap (home_at qs') s ∙ out.home.this) e)
    | inr ne ↦ (sym (out.home.others y ne) ∙ e, ne)
  ]

  pub take-laid : IsLaid al qs' bu' bs (set li x None) id_of
  take-laid = record {
    alive_sound = laid.alive_sound;
    queues_sound = out.sound;
    alive_count = laid.alive_count;
    queue_count = out.counts.lists ∙ laid.queue_count;
    room = same-room al qs bu al qs' bu' (length bs) (length bs) (length li) (length (set li x None)) laid.room refl out.counts.ids gone.counts.ids refl (length-set {A = Option Due} li x None) refl;
    lives = λ y p e. laid.lives y p (still y p e).0;
    found = laid.found;
    bucketed = take-bucketed;
    limited = take-limited;
  }
