-- One id moves: what that makes of the lists, and of what is kept for each id.
use Rattle.std.proofs.Common.{◌≡◌, ◌≢◌, ◌∙◌, ℕ, ◌+◌, ◌<◌, true, false, List, [], ◌∷◌, ◌++◌, length, length-append, map, get_or, ap, sym, subst, arith, inl, inr, Option, Some, None}
use Rattle.std.proofs.Math.ListN.{set, get_or-map}
use Rattle.std.proofs.lemmas.List.{get_or-set_same, get_or-set_other, same_lists, get_or_default}
use Rattle.std.proofs.lemmas.Bool.{cases_eq}
use Rattle.link_lists.specs.Lists.{Lists, list_at, home_at, id_count, ListBecomes, IsSound, Once, has, without}
use Rattle.link_lists.proofs.Members.{not-has, parts-at, once-middle, without-parts}
use Rattle.thread_queues.specs.declared.event.Waiter.{Waiter}
use Rattle.thread_queues.specs.Laid.{no_waiter, block_at, number_at, HasRoom}
use Rattle.thread_queues.proofs.Ids.{without-none}

none-some : {A : Type 0} (o : Option A) (a : A) → o ≡ None → o ≡ Some a → ⊥
none-some o a e f = cc

-- an id of no list is in none, and one of another list is not in this
pub not-in : (v : Lists) → IsSound v → (x l : ℕ) → (home_at v x ≡ Some l → ⊥) → has x (list_at v l) ≡ false
not-in v sound x l never = not-has x (list_at v l) (λ h. never ((sound.home l x).1 h))

-- the blocks of which one is written
pub block-same : (bs : List Waiter) (x : ℕ) (w : Waiter) → x < length bs → block_at (set bs x w) x ≡ w
block-same bs x w h = get_or-set_same bs x w no_waiter h

pub block-other : (bs : List Waiter) (x y : ℕ) (w : Waiter) → y ≢ x → block_at (set bs x w) y ≡ block_at bs y
block-other bs x y w ne = get_or-set_other bs x y w no_waiter ne

-- all numbers stay, where a block is written with the number that it has
pub number-kept : (bs : List Waiter) (x : ℕ) (w : Waiter) → x < length bs → number_at bs x ≡ w.thread → (y : ℕ) → number_at (set bs x w) y ≡ number_at bs y
number-kept bs x w h same y = elim (cases_eq y x) [
  | inl e ↦ subst (λ (z : ℕ). number_at (set bs x w) z ≡ number_at bs z) (sym e) (ap (λ (b : Waiter). b.thread) (block-same bs x w h) ∙ sym same)
  | inr ne ↦ ap (λ (b : Waiter). b.thread) (block-other bs x y w ne)
]

-- an id is taken out of its list: each list is as it was without it
pub taken-lists : (old new : Lists) (l x : ℕ) → IsSound old → home_at old x ≡ Some l → ListBecomes old new l (without x (list_at old l)) → (k : ℕ) → list_at new k ≡ without x (list_at old k)
taken-lists old new l x sound home becomes k = elim (cases_eq k l) [
  | inl e ↦ subst (λ (j : ℕ). list_at new j ≡ without x (list_at old j)) (sym e) becomes.this
  | inr ne ↦ becomes.others k ne ∙ sym (without-none x (list_at old k) (not-in old sound x k (λ h. ne (other k l (sym h ∙ home)))))
]
  where
    other : (k l : ℕ) → Some k ≡ Some l → k ≡ l
    other k l e = cc

pub map-lists : {X : Type 0} (f : List ℕ → List X) (ls : List (List ℕ)) (q : ℕ) → f [] ≡ [] → get_or (map f ls) q [] ≡ f (get_or ls q [])
map-lists {X} f ls q e = ap (get_or (map f ls) q) (sym e) ∙ get_or-map f ls q []

-- two lists of lists that agree at each place
pub same-at : {X : Type 0} (xs ys : List (List X)) → length xs ≡ length ys → ((k : ℕ) → get_or xs k [] ≡ get_or ys k []) → xs ≡ ys
same-at {X} xs ys len at = same_lists xs ys len (λ k d h. get_or_default xs k d [] h ∙ at k ∙ sym (get_or_default ys k d [] (omega (arith, h, len))))

-- one less, where one is taken out
pub length-without : (x : ℕ) (xs : List ℕ) → Once xs → has x xs ≡ true → length (without x xs) + 1 ≡ length xs
length-without x xs once h =
    let p = parts-at x xs h in
    let apart = once-middle x p.0 p.1 (subst (λ (l : List ℕ). Once l) p.2 once) in
    let less : without x xs ≡ p.0 ++ p.1 = ap (without x) p.2 ∙ without-parts x p.0 p.1 apart in
    omega (arith, ap length less, ap length p.2, length-append p.0 p.1, length-append p.0 (x ∷ p.1))

-- there is room where nothing is added
pub same-room : (al qs bu al' qs' bu' : Lists) (n n' m m' : ℕ) → HasRoom al qs bu n m → id_count al' ≡ id_count al → id_count qs' ≡ id_count qs → id_count bu' ≡ id_count bu → n' ≡ n → m' ≡ m
    → length (list_at al' 0) + length (list_at al' 1) ≡ length (list_at al 0) + length (list_at al 1) → HasRoom al' qs' bu' n' m'
same-room al qs bu al' qs' bu' n n' m m' r a q b e f s = record {
  queue_room = (omega (arith, r.queue_room.0, a, q), omega (arith, r.queue_room.1, a, q));
  bucket_room = (omega (arith, r.bucket_room.0, a, b), omega (arith, r.bucket_room.1, a, b));
  block_room = (omega (arith, r.block_room.0, a, e), omega (arith, r.block_room.1, a, e));
  limit_room = (omega (arith, r.limit_room.0, a, f), omega (arith, r.limit_room.1, a, f));
  full = omega (arith, r.full, a, s);
  few = omega (arith, r.few, a);
}
