-- The lists, blocks and limits stand for the threads, where places are added.
use Rattle.std.proofs.Common.{◌≡◌, ◌∙◌, ℕ, zero, suc, ◌+◌, ◌<◌, ◌==◌, true, List, [], ◌∷◌, ◌++◌, length, map, get_or, refl, ap, sym, subst, arith, inl, inr, length-append, Option, Some, None}
use Rattle.std.specs.List.{filter}
use Rattle.std.proofs.lemmas.List.{get_or_past}
use Rattle.std.proofs.lemmas.Bool.{cases_eq}
use Rattle.link_lists.specs.Lists.{Lists, list_at, home_at, list_count, id_count, first_of, has, IsSound}
use Rattle.link_lists.proofs.Members.{has-first}
use Rattle.thread_queues.specs.declared.event.Due.{Due}
use Rattle.thread_queues.specs.declared.event.Waiter.{Waiter}
use Rattle.thread_queues.specs.Firsts.{due_at}
use Rattle.thread_queues.specs.Grown.{IsMore, HasSameLive, IsGrown}
use Rattle.thread_queues.specs.Slotted.{limit_in, nothing}
use Rattle.thread_queues.specs.Laid.{no_waiter, block_at, number_at, bucket_of, slotted, IsBucketed, IsLaid}
use Rattle.thread_queues.proofs.Bucketing.{still-bucketed}
use Rattle.thread_queues.proofs.Moving.{same-at}
use Rattle.thread_queues.proofs.Putting.{IsPushed}

fun_ext : {A B : Type 0} {f g : A → B} → ((x : A) → f x ≡ g x) → f ≡ g
fun_ext h = λ i x. h x i

-- nothing is added
pub more-none : (v : Lists) → IsSound v → IsMore v v
more-none v sound = record { lists = refl; ids = omega arith; same = λ k. refl; homes = λ x. refl; sound = sound }

pub same-live : (v : Lists) → IsSound v → HasSameLive v v
same-live v sound = record { lists = refl; live = refl; stays = λ x e. e; was = λ x e. e; sound = sound }

-- one more than there was, where none is meant
pub default-more : {X : Type 0} (xs : List X) (d : X) (k : ℕ) → get_or (xs ++ d ∷ []) k d ≡ get_or xs k d
default-more [] d zero = refl
default-more [] d (suc k) = refl
default-more (x ∷ xs) d zero = refl
default-more (x ∷ xs) d (suc k) = default-more xs d k

module _ (al qs bu : Lists) (bs : List Waiter) (li : List (Option Due)) (id_of : ℕ → Option ℕ) (laid : IsLaid al qs bu bs li id_of)
    (al' qs' bu' : Lists) (bs' : List Waiter) (li' : List (Option Due)) (grown : IsGrown al qs bs li al' qs' bu' bs' li') where
  pub grown-shown : slotted al' qs' bs' ≡ slotted al qs bs
  grown-shown =
      ap (λ (f : ℕ → Waiter). record { live = map (λ x. (f x).thread) (list_at al' 0); queues = map (λ ids. map f ids) qs'.lists }) (fun_ext grown.same_blocks)
      ∙ ap (λ (ids : List ℕ). record { live = map (number_at bs) ids; queues = map (λ ids. map (block_at bs) ids) qs'.lists }) grown.live.live
      ∙ ap (λ (ls : List (List ℕ)). record { live = map (number_at bs) (list_at al 0); queues = map (λ ids. map (block_at bs) ids) ls }) (same-at qs'.lists qs.lists grown.more.lists grown.more.same)

  pub grown-laid : IsLaid al' qs' bu' bs' li' id_of
  grown-laid = record {
    alive_sound = grown.live.sound;
    queues_sound = grown.more.sound;
    alive_count = grown.live.lists ∙ laid.alive_count;
    queue_count = grown.more.lists ∙ laid.queue_count;
    room = grown.room;
    lives = λ x q e. grown.live.stays x (laid.lives x q (sym (grown.more.homes x) ∙ e));
    found = λ t x. (
      λ e. let r = (laid.found t x).0 e in (grown.live.stays x r.0, ap (λ (w : Waiter). w.thread) (grown.same_blocks x) ∙ r.1),
      λ r. (laid.found t x).1 (grown.live.was x r.0, ap (λ (w : Waiter). w.thread) (sym (grown.same_blocks x)) ∙ r.1),
    );
    bucketed = grown.bucketed;
    limited = λ x. grown.same_limits x ∙ laid.limited x ∙ ap (λ (o : Option ℕ). limit_in o (block_at bs x)) (sym (grown.more.homes x)) ∙ ap (limit_in (home_at qs' x)) (sym (grown.same_blocks x));
  }

-- the buckets are right of the queues and blocks with one more
pub queues-bucketed : (qs bu qs' : Lists) (bs bs' : List Waiter) → IsSound qs → IsBucketed qs bu bs → IsMore qs qs' → ((x : ℕ) → block_at bs' x ≡ block_at bs x) → IsBucketed qs' bu bs'
queues-bucketed qs bu qs' bs bs' sound bucketed more blocks = still-bucketed qs bu bs sound bucketed qs' bs' (more.same 4) (λ x h. blocks x)

pub blocks-more : (bs bs' : List Waiter) → bs' ≡ bs ++ no_waiter ∷ [] → ((x : ℕ) → block_at bs' x ≡ block_at bs x) × (length bs' ≡ length bs + 1)
blocks-more bs bs' e = (λ x. ap (λ (ws : List Waiter). block_at ws x) e ∙ default-more bs no_waiter x, ap length e ∙ length-append bs (no_waiter ∷ []))

pub limits-more : (li li' : List (Option Due)) → li' ≡ li ++ None ∷ [] → ((x : ℕ) → due_at li' x ≡ due_at li x) × (length li' ≡ length li + 1)
limits-more li li' e = (λ x. ap (λ (ds : List (Option Due)). due_at ds x) e ∙ default-more li None x, ap length e ∙ length-append li (None ∷ []))

pub live-more : (v w : Lists) → IsMore v w → HasSameLive v w
live-more v w more = record { lists = more.lists; live = more.same 0; stays = λ x e. more.homes x ∙ e; was = λ x e. sym (more.homes x) ∙ e; sound = more.sound }

-- a new place that no thread has
pub live-free : (v w u : Lists) (id : ℕ) → IsMore v w → id ≡ id_count v → IsPushed w u 1 id → HasSameLive v u
live-free v w u id more is pushed = record {
  lists = pushed.counts.lists ∙ more.lists;
  live = pushed.list.others 0 (λ e. omega (arith, e)) ∙ more.same 0;
  stays = λ x e. pushed.home.others x (λ s. none-some (get_or_past v.homes x None (omega (arith, s, is))) e) ∙ more.homes x ∙ e;
  was = λ x e. elim (cases_eq x id) [
    | inl s ↦ absurd (zero-one e (ap (home_at u) s ∙ pushed.home.this))
    | inr ne ↦ sym (more.homes x) ∙ sym (pushed.home.others x ne) ∙ e
  ];
  sound = pushed.sound;
}
  where
    none-some : {o : Option ℕ} {l : ℕ} → o ≡ None → o ≡ Some l → ⊥
    none-some e f = cc

    zero-one : {o : Option ℕ} → o ≡ Some 0 → o ≡ Some 1 → ⊥
    zero-one e f = absurd (apart (some-same (sym e ∙ f)))
      where
        some-same : {m n : ℕ} → Some m ≡ Some n → m ≡ n
        some-same e = cc

        apart : ◌≡◌ {A = ℕ} 0 1 → ⊥
        apart h = omega (arith, h)

pub first-in : (xs : List ℕ) (x : ℕ) → Some x ≡ first_of xs → has x xs ≡ true
first-in [] x e = cc
first-in (y ∷ ys) x e = let s : y ≡ x = cc in subst (λ (k : ℕ). has k (y ∷ ys) ≡ true) s (has-first y ys)

-- no thread is seen of empty lists
pub none-shown : (al qs : Lists) (bs : List Waiter) → list_at al 0 ≡ [] → list_count qs ≡ 6 → ((k : ℕ) → list_at qs k ≡ []) → slotted al qs bs ≡ nothing
none-shown al qs bs live count empty =
    ap (λ (ids : List ℕ). record { live = map (number_at bs) ids; queues = map (λ ids. map (block_at bs) ids) qs.lists }) live
    ∙ ap (λ (ls : List (List ℕ)). record { live = []; queues = map (λ ids. map (block_at bs) ids) ls }) (same-at qs.lists ([] ∷ [] ∷ [] ∷ [] ∷ [] ∷ [] ∷ []) count (λ k. empty k ∙ sym (none k)))
  where
    none : (k : ℕ) → get_or {A = List ℕ} ([] ∷ [] ∷ [] ∷ [] ∷ [] ∷ [] ∷ []) k [] ≡ []
    none zero = refl
    none (suc zero) = refl
    none (suc (suc zero)) = refl
    none (suc (suc (suc zero))) = refl
    none (suc (suc (suc (suc zero)))) = refl
    none (suc (suc (suc (suc (suc zero))))) = refl
    none (suc (suc (suc (suc (suc (suc k)))))) = refl

-- the buckets are right where nothing is in them and no thread waits
pub none-bucketed : (qs bu : Lists) (bs : List Waiter) → list_at qs 4 ≡ [] → 7 < list_count bu → id_count bu ≡ 0 → ((k : ℕ) → list_at bu k ≡ []) → IsSound bu → IsBucketed qs bu bs
none-bucketed qs bu bs idle wide places empty sound = record {
  sound = sound;
  wide = wide;
  many = omega (arith, wide, places);
  waiting = λ b. empty b ∙ ap (filter (λ x. bucket_of (list_count bu) (block_at bs x).event == b)) (sym idle);
}
