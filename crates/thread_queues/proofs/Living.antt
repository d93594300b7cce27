-- The lists, blocks and limits stand for the threads, as a thread begins to live and ends.
use Rattle.std.proofs.Common.{◌≡◌, ◌≢◌, ◌∙◌, ℕ, ◌<◌, ◌==◌, true, false, List, [], ◌∷◌, ◌++◌, length, map, refl, ap, sym, subst, arith, inl, inr, length-append, Option, Some, None}
use Rattle.std.proofs.Math.ListN.{set}
use Rattle.std.proofs.lemmas.List.{length-set, length-map, map-append}
use Rattle.std.proofs.lemmas.Bool.{cases_eq, eq-eqb, ne_eqb}
use Rattle.link_lists.specs.Lists.{Lists, list_at, home_at, SameCounts, has, without}
use Rattle.link_lists.proofs.Members.{has-both}
use Rattle.thread_queues.specs.declared.event.Due.{Due}
use Rattle.thread_queues.specs.declared.event.Waiter.{Waiter}
use Rattle.thread_queues.specs.Firsts.{due_at}
use Rattle.thread_queues.specs.Placed.{times}
use Rattle.thread_queues.specs.Slotted.{limit_in, with_thread, without_thread}
use Rattle.thread_queues.specs.Laid.{block_at, number_at, slotted, IsLaid}
use Rattle.thread_queues.proofs.Bucketing.{still-bucketed}
use Rattle.thread_queues.proofs.Ids.{map-same, without-first-map, times-has}
use Rattle.thread_queues.proofs.Moving.{same-room, length-without, not-in, block-same, block-other, same-at, map-lists}
use Rattle.thread_queues.proofs.Putting.{IsPushed}
use Rattle.thread_queues.proofs.Leaving.{IsUnlinked}

module _ (al qs bu : Lists) (bs : List Waiter) (li : List (Option Due)) (id_of : ℕ → Option ℕ) (laid : IsLaid al qs bu bs li id_of) (al1 al2 : Lists) (x : ℕ) where
  none-some : {o : Option ℕ} {l : ℕ} → o ≡ None → o ≡ Some l → ⊥
  none-some e f = cc

  zero-one : {o : Option ℕ} → o ≡ Some 0 → o ≡ Some 1 → ⊥
  zero-one e f = apart (some-one (sym e ∙ f))
    where
      some-one : {m n : ℕ} → Some m ≡ Some n → m ≡ n
      some-one e = cc

      apart : ◌≡◌ {A = ℕ} 0 1 → ⊥
      apart h = omega (arith, h)

  -- an id moves from one of the two lists to the other
  module _ (from to : ℕ) (apart : from ≡ to → ⊥) (out : IsUnlinked al al1 from x) (pushed : IsPushed al1 al2 to x) where
    moved-other : (y : ℕ) → y ≢ x → home_at al2 y ≡ home_at al y
    moved-other y ne = pushed.home.others y ne ∙ out.home.others y ne

    moved-counts : SameCounts al al2
    moved-counts = record { lists = pushed.counts.lists ∙ out.counts.lists; ids = pushed.counts.ids ∙ out.counts.ids }

    moved-to : list_at al2 to ≡ list_at al to ++ x ∷ []
    moved-to = pushed.list.this ∙ ap (λ (ids : List ℕ). ids ++ x ∷ []) (out.list.others to (λ e. apart (sym e)))

    moved-from : list_at al2 from ≡ without x (list_at al from)
    moved-from = pushed.list.others from apart ∙ out.list.this

  -- a free place is given to a thread
  module _ (t : ℕ) (w : Waiter) (is : w.thread ≡ t) (free : home_at al x ≡ Some 1) (new : times t (slotted al qs bs).live ≡ 0) (out : IsUnlinked al al1 1 x) (pushed : IsPushed al1 al2 0 x)
      (id_of' : ℕ → Option ℕ) (this : id_of' t ≡ Some x) (others : (u : ℕ) → u ≢ t → id_of' u ≡ id_of u) where
    in-blocks : x < length bs
    in-blocks = omega (arith, (laid.alive_sound.there 1 x free).1, laid.room.block_room.0)

    idle : home_at qs x ≡ None
    idle = elim (home_at qs x) as (λ (o : Option ℕ). home_at qs x ≡ o → o ≡ None) [ None ↦ (λ e. refl) | Some q ↦ (λ e. absurd (zero-one (laid.lives x q e) free)) ] refl

    nowhere : (l : ℕ) → has x (list_at qs l) ≡ false
    nowhere l = not-in qs laid.queues_sound x l (λ h. none-some idle h)

    not-live : has x (list_at al 0) ≡ false
    not-live = not-in al laid.alive_sound x 0 (λ h. zero-one h free)

    block-in : (l y : ℕ) → has y (list_at qs l) ≡ true → block_at (set bs x w) y ≡ block_at bs y
    block-in l y h = block-other bs x y w (λ e. has-both y (list_at qs l) h (subst (λ (z : ℕ). has z (list_at qs l) ≡ false) (sym e) (nowhere l)))

    pub added-live : (slotted al2 qs (set bs x w)).live ≡ (slotted al qs bs).live ++ t ∷ []
    added-live =
        ap (map (number_at (set bs x w))) (moved-to 1 0 (λ e. omega (arith, e)) out pushed)
        ∙ map-append (number_at (set bs x w)) (list_at al 0) (x ∷ [])
        ∙ ap (λ (n : ℕ). map (number_at (set bs x w)) (list_at al 0) ++ n ∷ []) (ap (λ (b : Waiter). b.thread) (block-same bs x w in-blocks) ∙ is)
        ∙ ap (λ (ns : List ℕ). ns ++ t ∷ []) (map-same (number_at (set bs x w)) (number_at bs) (list_at al 0) (λ y h. ap (λ (b : Waiter). b.thread) (block-other bs x y w (λ e. has-both y (list_at al 0) h (subst (λ (z : ℕ). has z (list_at al 0) ≡ false) (sym e) not-live)))))

    pub added-found : (u y : ℕ) → (id_of' u ≡ Some y → (home_at al2 y ≡ Some 0) × (number_at (set bs x w) y ≡ u)) × ((home_at al2 y ≡ Some 0) × (number_at (set bs x w) y ≡ u) → id_of' u ≡ Some y)
    added-found u y = (
      λ e. elim (cases_eq u t) [
        | inl s ↦ let z : y ≡ x = some-same (sym e ∙ ap id_of' s ∙ this) in (ap (home_at al2) z ∙ pushed.home.this, ap (number_at (set bs x w)) z ∙ at-x ∙ sym s)
        | inr ne ↦ let r = (laid.found u y).0 (sym (others u ne) ∙ e) in
            let nx : y ≢ x = λ s. zero-one (sym (ap (home_at al) s) ∙ r.0) free in
            (moved-other 1 0 (λ e. omega (arith, e)) out pushed y nx ∙ r.0, ap (λ (b : Waiter). b.thread) (block-other bs x y w nx) ∙ r.1)
      ],
      λ r. elim (cases_eq y x) [
        | inl s ↦ ap id_of' (sym r.1 ∙ ap (number_at (set bs x w)) s ∙ at-x) ∙ this ∙ ap Some (sym s)
        | inr nx ↦ let home = sym (moved-other 1 0 (λ e. omega (arith, e)) out pushed y nx) ∙ r.0 in
            let number : number_at bs y ≡ u = sym (ap (λ (b : Waiter). b.thread) (block-other bs x y w nx)) ∙ r.1 in
            others u (λ e. not-new y home (number ∙ e)) ∙ (laid.found u y).1 (home, number)
      ],
    )
      where
        some-same : {m n : ℕ} → Some m ≡ Some n → m ≡ n
        some-same e = cc

        at-x : number_at (set bs x w) x ≡ t
        at-x = ap (λ (b : Waiter). b.thread) (block-same bs x w in-blocks) ∙ is

        not-new : (y : ℕ) → home_at al y ≡ Some 0 → number_at bs y ≡ t → ⊥
        not-new y home number = let some : 0 < times (number_at bs y) (map (number_at bs) (list_at al 0)) = times-has (number_at bs) (list_at al 0) y ((laid.alive_sound.home 0 y).0 home) in
            omega (arith, some, ap (λ (n : ℕ). times n (map (number_at bs) (list_at al 0))) number, new)

    pub added-shown : slotted al2 qs (set bs x w) ≡ with_thread (slotted al qs bs) t
    added-shown = ap (λ (ns : List ℕ). record { live = ns; queues = map (λ ids. map (block_at (set bs x w)) ids) qs.lists }) added-live
        ∙ ap (λ (ls : List (List Waiter)). record { live = (slotted al qs bs).live ++ t ∷ []; queues = ls })
        (same-at (map (λ ids. map (block_at (set bs x w)) ids) qs.lists) (map (λ ids. map (block_at bs) ids) qs.lists) (length-map qs.lists (λ ids. map (block_at (set bs x w)) ids) ∙ sym (length-map qs.lists (λ ids. map (block_at bs) ids)))
        (λ k. map-lists (map (block_at (set bs x w))) qs.lists k refl ∙ map-same (block_at (set bs x w)) (block_at bs) (list_at qs k) (block-in k) ∙ sym (map-lists (map (block_at bs)) qs.lists k refl)))

    added-limited : (y : ℕ) → due_at li y ≡ limit_in (home_at qs y) (block_at (set bs x w) y)
    added-limited y = elim (cases_eq y x) [
      | inl s ↦ laid.limited y ∙ none (home_at qs y) (block_at bs y) (block_at (set bs x w) y) (ap (home_at qs) s ∙ idle)
      | inr ne ↦ laid.limited y ∙ ap (limit_in (home_at qs y)) (sym (block-other bs x y w ne))
    ]
      where
        none : (o : Option ℕ) (v u : Waiter) → o ≡ None → limit_in o v ≡ limit_in o u
        none None v u e = refl
        none (Some q) v u e = absurd (none-some' e)
          where
            none-some' : Some q ≡ None → ⊥
            none-some' e = cc

    pub added-laid : IsLaid al2 qs bu (set bs x w) li id_of'
    added-laid = record {
      alive_sound = pushed.sound;
      queues_sound = laid.queues_sound;
      alive_count = counts.lists ∙ laid.alive_count;
      queue_count = laid.queue_count;
      room = same-room al qs bu al2 qs bu (length bs) (length (set bs x w)) (length li) (length li) laid.room counts.ids refl refl (length-set bs x w) refl (
          let to = ap length (moved-to 1 0 (λ s. omega (arith, s)) out pushed) in
          let less = ap length (moved-from 1 0 (λ s. omega (arith, s)) out pushed) in
          omega (arith, to, less, length-append (list_at al 0) (x ∷ []), length-without x (list_at al 1) (laid.alive_sound.once 1) ((laid.alive_sound.home 1 x).0 free)));
      lives = λ y q e. moved-other 1 0 (λ s. omega (arith, s)) out pushed y (λ s. none-some idle (sym (ap (home_at qs) s) ∙ e)) ∙ laid.lives y q e;
      found = λ u y. added-found u y;
      bucketed = still-bucketed qs bu bs laid.queues_sound laid.bucketed qs (set bs x w) refl (block-in 4);
      limited = added-limited;
    }
      where
        counts : SameCounts al al2
        counts = moved-counts 1 0 (λ s. omega (arith, s)) out pushed

  -- a thread that stands in no queue gives its place back
  module _ (t : ℕ) (number : number_at bs x ≡ t) (lives : home_at al x ≡ Some 0) (idle : home_at qs x ≡ None) (out : IsUnlinked al al1 0 x) (pushed : IsPushed al1 al2 1 x)
      (id_of' : ℕ → Option ℕ) (this : id_of' t ≡ None) (others : (u : ℕ) → u ≢ t → id_of' u ≡ id_of u) where
    other-number : (y : ℕ) → has y (list_at al 0) ≡ true → y ≢ x → (number_at bs y == t) ≡ false
    other-number y h ne = ne_eqb (number_at bs y) t (λ e. ne (some-same (sym ((laid.found t y).1 ((laid.alive_sound.home 0 y).1 h, e)) ∙ (laid.found t x).1 (lives, number))))
      where
        some-same : {m n : ℕ} → Some m ≡ Some n → m ≡ n
        some-same e = cc

    pub removed-shown : slotted al2 qs bs ≡ without_thread (slotted al qs bs) t
    removed-shown = ap (λ (ns : List ℕ). record { live = ns; queues = map (λ ids. map (block_at bs) ids) qs.lists })
        (ap (map (number_at bs)) (moved-from 0 1 (λ s. omega (arith, s)) out pushed)
        ∙ without-first-map (number_at bs) (λ n. n == t) x (list_at al 0) (laid.alive_sound.once 0) ((laid.alive_sound.home 0 x).0 lives) (eq-eqb (number_at bs x) t number) other-number)

    pub removed-laid : IsLaid al2 qs bu bs li id_of'
    removed-laid = record {
      alive_sound = pushed.sound;
      queues_sound = laid.queues_sound;
      alive_count = counts.lists ∙ laid.alive_count;
      queue_count = laid.queue_count;
      room = same-room al qs bu al2 qs bu (length bs) (length bs) (length li) (length li) laid.room counts.ids refl refl refl refl (
          let to = ap length (moved-to 0 1 (λ s. omega (arith, s)) out pushed) in
          let less = ap length (moved-from 0 1 (λ s. omega (arith, s)) out pushed) in
          omega (arith, to, less, length-append (list_at al 1) (x ∷ []), length-without x (list_at al 0) (laid.alive_sound.once 0) ((laid.alive_sound.home 0 x).0 lives)));
      lives = λ y q e. moved-other 0 1 (λ s. omega (arith, s)) out pushed y (λ s. none-some idle (sym (ap (home_at qs) s) ∙ e)) ∙ laid.lives y q e;
      found = λ u y. (
        λ e. elim (cases_eq u t) [
          | inl s ↦ absurd (none-some (ap id_of' s ∙ this) e)
          | inr ne ↦ let r = (laid.found u y).0 (sym (others u ne) ∙ e) in
              let nx : y ≢ x = λ s. ne (sym r.1 ∙ ap (number_at bs) s ∙ number) in
              (moved-other 0 1 (λ s. omega (arith, s)) out pushed y nx ∙ r.0, r.1)
        ],
        λ r. elim (cases_eq y x) [
          | inl s ↦ absurd (zero-one r.0 (ap (home_at al2) s ∙ pushed.home.this))
          | inr nx ↦ let home = sym (moved-other 0 1 (λ s. omega (arith, s)) out pushed y nx) ∙ r.0 in
              let before = (laid.found u y).1 (home, r.1) in
              others u (λ e. nx (some-same (sym before ∙ ap id_of e ∙ (laid.found t x).1 (lives, number)))) ∙ before
        ],
      );
      bucketed = laid.bucketed;
      limited = laid.limited;
    }
      where
        some-same : {m n : ℕ} → Some m ≡ Some n → m ≡ n
        some-same e = cc

        counts : SameCounts al al2
        counts = moved-counts 0 1 (λ s. omega (arith, s)) out pushed
