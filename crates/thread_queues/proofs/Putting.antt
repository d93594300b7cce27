-- The lists, blocks and limits stand for the threads, as a thread goes into a queue.
use Rattle.std.proofs.Common.{◌≡◌, ◌∙◌, ℕ, ◌<◌, ◌==◌, ◌&&◌, Bool, false, cond, List, [], ◌∷◌, ◌++◌, length, map, get_or, refl, ap, sym, subst, arith, inl, inr, Option, Some, None}
use Rattle.std.proofs.Math.ListN.{set}
use Rattle.std.specs.List.{filter}
use Rattle.std.proofs.lemmas.List.{get_or-set_same, get_or-set_other, length-set, length-map, map-append}
use Rattle.std.proofs.lemmas.Bool.{cases_eq, eq-eqb, ne_eqb}
use Rattle.link_lists.specs.Lists.{Lists, list_at, home_at, list_count, id_count, ListBecomes, HomeBecomes, SameCounts, IsSound, has}
use Rattle.link_lists.proofs.Members.{has-both}
use Rattle.thread_queues.specs.declared.event.Due.{Due}
use Rattle.thread_queues.specs.declared.event.Waiter.{Waiter}
use Rattle.thread_queues.specs.Firsts.{due_at}
use Rattle.thread_queues.specs.Slotted.{limit_in, put_in}
use Rattle.thread_queues.specs.Laid.{block_at, number_at, bucket_of, bucket_put, slotted, IsBucketed, IsLaid}
use Rattle.thread_queues.proofs.Ids.{map-same, filter-same, filter-end}
use Rattle.thread_queues.proofs.Moving.{same-room, not-in, block-same, block-other, number-kept, map-lists, same-at}
use Rattle.thread_queues.proofs.Laying.{queue-is}

-- an id was put at the end of a list that it was in none before
pub record IsPushed (old new : Lists) (l x : ℕ) : Type 0 where
  pub list : ListBecomes old new l (list_at old l ++ x ∷ [])
  pub home : HomeBecomes old new x (Some l)
  pub counts : SameCounts old new
  pub sound : IsSound new

-- an id went into a queue, and where it waits there, to the end of a bucket
pub record IsPutInBucket (old new : Lists) (q b x : ℕ) : Type 0 where
  pub lists : (k : ℕ) → list_at new k ≡ bucket_put q b x k (list_at old k)
  pub counts : SameCounts old new
  pub sound : IsSound new

module _ (al qs bu : Lists) (bs : List Waiter) (li : List (Option Due)) (id_of : ℕ → Option ℕ) (laid : IsLaid al qs bu bs li id_of) where
  none-some : (o : Option ℕ) (l : ℕ) → o ≡ None → o ≡ Some l → ⊥
  none-some o l e f = cc

  -- a thread goes into a queue
  module _ (qs' bu' : Lists) (q x : ℕ) (w : Waiter) (lt : q < 6) (live : home_at al x ≡ Some 0) (number : number_at bs x ≡ w.thread) (free : home_at qs x ≡ None)
      (pushed : IsPushed qs qs' q x) (bucket : IsPutInBucket bu bu' q (bucket_of (list_count bu) w.event) x) where
    there : x < id_count al
    there = (laid.alive_sound.there 0 x live).1

    in-blocks : x < length bs
    in-blocks = omega (arith, there, laid.room.block_room.0)

    nowhere : (l : ℕ) → has x (list_at qs l) ≡ false
    nowhere l = not-in qs laid.queues_sound x l (λ h. none-some (home_at qs x) l free h)

    blocks-kept : (l : ℕ) → map (block_at (set bs x w)) (list_at qs l) ≡ map (block_at bs) (list_at qs l)
    blocks-kept l = map-same (block_at (set bs x w)) (block_at bs) (list_at qs l) (λ y h. block-other bs x y w (λ e. has-both y (list_at qs l) h (subst (λ (z : ℕ). has z (list_at qs l) ≡ false) (sym e) (nowhere l))))

    -- the queues of the new lists and blocks are those of the old ones with one more
    put-at : (k : ℕ) → get_or (map (λ ids. map (block_at (set bs x w)) ids) qs'.lists) k [] ≡ get_or (set (map (λ ids. map (block_at bs) ids) qs.lists) q (get_or (map (λ ids. map (block_at bs) ids) qs.lists) q [] ++ w ∷ [])) k []
    put-at k = map-lists (map (block_at (set bs x w))) qs'.lists k refl ∙ elim (cases_eq k q) [
      | inl e ↦ subst (λ (j : ℕ). map (block_at (set bs x w)) (list_at qs' j) ≡ get_or (set olds q (get_or olds q [] ++ w ∷ [])) j []) (sym e) (
          ap (map (block_at (set bs x w))) pushed.list.this
          ∙ map-append (block_at (set bs x w)) (list_at qs q) (x ∷ [])
          ∙ ap (λ (v : Waiter). map (block_at (set bs x w)) (list_at qs q) ++ v ∷ []) (block-same bs x w in-blocks)
          ∙ ap (λ (vs : List Waiter). vs ++ w ∷ []) (blocks-kept q ∙ sym (queue-is al qs bu bs li id_of laid q))
          ∙ sym (get_or-set_same olds q (get_or olds q [] ++ w ∷ []) [] there-q))
      | inr ne ↦ ap (map (block_at (set bs x w))) (pushed.list.others k ne) ∙ blocks-kept k ∙ sym (queue-is al qs bu bs li id_of laid k) ∙ sym (get_or-set_other olds q k (get_or olds q [] ++ w ∷ []) [] ne)
    ]
      where
        olds : List (List Waiter)
        olds = map (λ ids. map (block_at bs) ids) qs.lists

        there-q : q < length olds
        there-q = omega (arith, lt, laid.queue_count, length-map qs.lists (λ ids. map (block_at bs) ids))

    pub put-shown : slotted al qs' (set bs x w) ≡ put_in (slotted al qs bs) q w
    put-shown =
        ap (λ (ns : List ℕ). record { live = ns; queues = map (λ ids. map (block_at (set bs x w)) ids) qs'.lists }) (map-same (number_at (set bs x w)) (number_at bs) (list_at al 0) (λ y h. number-kept bs x w in-blocks number y))
        ∙ ap (λ (ls : List (List Waiter)). record { live = map (number_at bs) (list_at al 0); queues = ls })
        (same-at (map (λ ids. map (block_at (set bs x w)) ids) qs'.lists) (set (map (λ ids. map (block_at bs) ids) qs.lists) q (get_or (map (λ ids. map (block_at bs) ids) qs.lists) q [] ++ w ∷ []))
        (length-map qs'.lists (λ ids. map (block_at (set bs x w)) ids) ∙ pushed.counts.lists ∙ sym (length-set (map (λ ids. map (block_at bs) ids) qs.lists) q (get_or (map (λ ids. map (block_at bs) ids) qs.lists) q [] ++ w ∷ []) ∙ length-map qs.lists (λ ids. map (block_at bs) ids)))
        put-at)

    -- each bucket, by the blocks with the new one
    kept : (b : ℕ) → list_at bu b ≡ filter (λ y. bucket_of (list_count bu) (block_at (set bs x w) y).event == b) (list_at qs 4)
    kept b = laid.bucketed.waiting b ∙ sym (filter-same (λ y. bucket_of (list_count bu) (block_at (set bs x w) y).event == b) (λ y. bucket_of (list_count bu) (block_at bs y).event == b) (list_at qs 4)
        (λ y h. ap (λ (v : Waiter). bucket_of (list_count bu) v.event == b) (block-other bs x y w (λ e. has-both y (list_at qs 4) h (subst (λ (z : ℕ). has z (list_at qs 4) ≡ false) (sym e) (nowhere 4))))))

    put-waiting : (b : ℕ) → list_at bu' b ≡ filter (λ y. bucket_of (list_count bu) (block_at (set bs x w) y).event == b) (list_at qs' 4)
    put-waiting b = bucket.lists b ∙ elim (cases_eq q 4) [
      | inl e ↦ ap (λ (t : Bool). cond (t && (bucket_of (list_count bu) w.event == b)) (list_at bu b ++ x ∷ []) (list_at bu b)) (eq-eqb q 4 e)
          ∙ ap (λ (ids : List ℕ). cond (bucket_of (list_count bu) w.event == b) (ids ++ x ∷ []) ids) (kept b)
          ∙ ap (λ (t : Bool). cond t (filter (λ y. bucket_of (list_count bu) (block_at (set bs x w) y).event == b) (list_at qs 4) ++ x ∷ []) (filter (λ y. bucket_of (list_count bu) (block_at (set bs x w) y).event == b) (list_at qs 4))) (ap (λ (v : Waiter). bucket_of (list_count bu) v.event == b) (sym (block-same bs x w in-blocks)))
          ∙ sym (filter-end (λ y. bucket_of (list_count bu) (block_at (set bs x w) y).event == b) (list_at qs 4) x)
          ∙ ap (filter (λ y. bucket_of (list_count bu) (block_at (set bs x w) y).event == b)) (sym (subst (λ (j : ℕ). list_at qs' j ≡ list_at qs j ++ x ∷ []) e pushed.list.this))
      | inr ne ↦ ap (λ (t : Bool). cond (t && (bucket_of (list_count bu) w.event == b)) (list_at bu b ++ x ∷ []) (list_at bu b)) (ne_eqb q 4 ne) ∙ kept b ∙ ap (filter (λ y. bucket_of (list_count bu) (block_at (set bs x w) y).event == b)) (sym (pushed.list.others 4 (λ e. ne (sym e))))
    ]

    put-bucketed : IsBucketed qs' bu' (set bs x w)
    put-bucketed = record {
      sound = bucket.sound;
      wide = omega (arith, laid.bucketed.wide, bucket.counts.lists);
      many = omega (arith, laid.bucketed.many, bucket.counts.lists, bucket.counts.ids);
      waiting = λ b. put-waiting b ∙ ap (λ (n : ℕ). filter (λ y. bucket_of n (block_at (set bs x w) y).event == b) (list_at qs' 4)) (sym bucket.counts.lists);
    }

    put-limited : (y : ℕ) → due_at (set li x (limit_in (Some q) w)) y ≡ limit_in (home_at qs' y) (block_at (set bs x w) y)
    put-limited y = elim (cases_eq y x) [
      | inl e ↦ subst (λ (z : ℕ). due_at (set li x (limit_in (Some q) w)) z ≡ limit_in (home_at qs' z) (block_at (set bs x w) z)) (sym e)
          (get_or-set_same li x (limit_in (Some q) w) None (omega (arith, there, laid.room.limit_room.0)) ∙ ap (limit_in (Some q)) (sym (block-same bs x w in-blocks)) ∙ ap (λ (o : Option ℕ). limit_in o (block_at (set bs x w) x)) (sym pushed.home.this))
      | inr ne ↦ get_or-set_other li x y (limit_in (Some q) w) None ne ∙ laid.limited y ∙ ap (λ (o : Option ℕ). limit_in o (block_at bs y)) (sym (pushed.home.others y ne)) ∙ ap (limit_in (home_at qs' y)) (sym (block-other bs x y w ne))
    ]

    pub put-laid : IsLaid al qs' bu' (set bs x w) (set li x (limit_in (Some q) w)) id_of
    put-laid = record {
      alive_sound = laid.alive_sound;
      queues_sound = pushed.sound;
      alive_count = laid.alive_count;
      queue_count = pushed.counts.lists ∙ laid.queue_count;
      room = same-room al qs bu al qs' bu' (length bs) (length (set bs x w)) (length li) (length (set li x (limit_in (Some q) w))) laid.room refl pushed.counts.ids bucket.counts.ids (length-set bs x w) (length-set li x (limit_in (Some q) w)) refl;
      lives = λ y p e. elim (cases_eq y x) [ inl s ↦ subst (λ (z : ℕ). home_at al z ≡ Some 0) (sym s) live | inr ne ↦ laid.lives y p (sym (pushed.home.others y ne) ∙ e) ];
      found = λ t y. (
        λ e. let r = (laid.found t y).0 e in (r.0, number-kept bs x w in-blocks number y ∙ r.1),
        λ r. (laid.found t y).1 (r.0, sym (number-kept bs x w in-blocks number y) ∙ r.1),
      );
      bucketed = put-bucketed;
      limited = put-limited;
    }
