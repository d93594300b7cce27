-- The first of the threads that are behind one.
use Rattle.std.proofs.Common.{◌≡◌, ◌∙◌, ℕ, suc, Bool, true, false, cond, nat_lt, List, [], ◌∷◌, map, refl, ap, sym, subst, arith, ◌⊎◌, inl, inr, Option, Some, None, option_map, All}
use Rattle.std.specs.List.{Contains, filter}
use Rattle.std.proofs.Math.ListN.{get_or-map}
use Rattle.std.proofs.lemmas.Bool.Decides.{nat_tests}
use Rattle.std.proofs.lemmas.List.{length-map}
use Rattle.std.proofs.lemmas.List.Elements.{All-nil, All-cons, All-map, All-weaker}
use Rattle.thread_queues.specs.declared.event.Waiter.{Waiter}
use Rattle.thread_queues.specs.declared.order.Order.{Order}
use Rattle.thread_queues.specs.declared.order.Order.TheVariants.{Number, Events, Ticks}
use Rattle.thread_queues.specs.Laid.{block_at, number_at}
use Rattle.thread_queues.specs.Least.{behind, IsNotBefore, IsLeast}
use Rattle.thread_queues.specs.Orders.{comes_before, is_behind, first_from}

-- what is before something is not behind it, and nothing is before one that is not behind it
record IsOrder {X : Type 0} (b : X → X → Bool) : Type 0 where
  asym : (x y : X) → b x y ≡ true → b y x ≡ false
  between : (x y z : X) → b x y ≡ false → b y z ≡ false → b x z ≡ false

plain-order : IsOrder nat_lt
plain-order = record {
  asym = λ x y h. grind (arith, nat_tests);
  between = λ x y z h k. grind (arith, nat_tests);
}

orders : (order : Order) → IsOrder (comes_before order)
orders Number = record { asym = λ x y. plain-order.asym x.thread y.thread; between = λ x y z. plain-order.between x.thread y.thread z.thread }
orders Events = record {
  asym = λ x y h. grind (arith, nat_tests);
  between = λ x y z h k. grind (arith, nat_tests);
}
orders Ticks = record {
  asym = λ x y h. grind (arith, nat_tests);
  between = λ x y z h k. grind (arith, nat_tests);
}

not-self : (b : Bool) → (b ≡ true → b ≡ false) → b ≡ false
not-self true h = h refl
not-self false h = refl

later : {X : Type 0} (y x : X) (xs : List X) → Contains xs x → Contains (y ∷ xs) x
later y x xs h = (suc h.0, omega (arith, h.1), h.2)

here : {X : Type 0} (x y : X) (xs : List X) → x ≡ y → Contains (y ∷ xs) x
here x y xs e = (0, omega arith, sym e)

-- the first of x and those of a list
record IsFold (b : Waiter → Waiter → Bool) (x : Waiter) (ys : List Waiter) (o : Option Waiter) : Type 0 where
  first : Waiter
  is : o ≡ Some first
  low : b x first ≡ false
  among : (first ≡ x) ⊎ Contains ys first
  least : All (λ y. b y first ≡ false) ys

module _ (order : Order) (from : Option Waiter) where
  fold-least : (x : Waiter) (ws : List Waiter) → IsFold (comes_before order) x (filter (is_behind order from) ws) (first_from order from (Some x) ws)
  fold-least x [] = record { first = x; is = refl; low = not-self (comes_before order x x) ((orders order).asym x x); among = inl refl; least = All-nil (λ y. comes_before order y x ≡ false) }
  fold-least x (w ∷ ws) = step (is_behind order from w) (comes_before order w x) refl (λ y. fold-least y ws)
    where
      step : (p q : Bool) → comes_before order w x ≡ q → ((y : Waiter) → IsFold (comes_before order) y (filter (is_behind order from) ws) (first_from order from (Some y) ws))
          → IsFold (comes_before order) x (cond p (w ∷ filter (is_behind order from) ws) (filter (is_behind order from) ws)) (first_from order from (cond p (Some (cond q w x)) (Some x)) ws)
      step false q e rest = rest x
      step true false e rest =
          let k = rest x in
          record {
            first = k.first;
            is = k.is;
            low = k.low;
            among = elim k.among [ inl s ↦ inl s | inr m ↦ inr (later w k.first (filter (is_behind order from) ws) m) ];
            least = All-cons (λ y. comes_before order y k.first ≡ false) w (filter (is_behind order from) ws) ((orders order).between w x k.first e k.low) k.least;
          }
      step true true e rest =
          let k = rest w in
          record {
            first = k.first;
            is = k.is;
            low = (orders order).between x w k.first ((orders order).asym w x e) k.low;
            among = elim k.among [ inl s ↦ inr (here k.first w (filter (is_behind order from) ws) s) | inr m ↦ inr (later w k.first (filter (is_behind order from) ws) m) ];
            least = All-cons (λ y. comes_before order y k.first ≡ false) w (filter (is_behind order from) ws) k.low k.least;
          }

  none-least : (ws : List Waiter) → IsLeast (comes_before order) (filter (is_behind order from) ws) (first_from order from None ws)
  none-least [] = record { among = tt; least = All-nil (IsNotBefore (comes_before order) None) }
  none-least (w ∷ ws) = step (is_behind order from w) (none-least ws)
    where
      step : (p : Bool) → IsLeast (comes_before order) (filter (is_behind order from) ws) (first_from order from None ws)
          → IsLeast (comes_before order) (cond p (w ∷ filter (is_behind order from) ws) (filter (is_behind order from) ws)) (first_from order from (cond p (Some w) None) ws)
      step false rest = rest
      step true rest =
          let k = fold-least w ws in
          let xs = filter (is_behind order from) ws in
          subst (IsLeast (comes_before order) (w ∷ xs)) (sym k.is) (record {
            among = among k.first k.among;
            least = All-cons (IsNotBefore (comes_before order) (Some k.first)) w xs k.low k.least;
          })
        where
          among : (x : Waiter) → (x ≡ w) ⊎ Contains (filter (is_behind order from) ws) x → Contains (w ∷ filter (is_behind order from) ws) x
          among x (inl s) = here x w (filter (is_behind order from) ws) s
          among x (inr m) = later w x (filter (is_behind order from) ws) m

behind-test : (order : Order) (from : Option Waiter) (ws : List Waiter) → filter (is_behind order from) ws ≡ behind (comes_before order) from ws
behind-test order None [] = refl
behind-test order None (w ∷ ws) = ap (λ (vs : List Waiter). w ∷ vs) (behind-test order None ws)
behind-test order (Some from) ws = refl

-- the first that is found is the least of those behind
pub least-found : (order : Order) (from : Option Waiter) (ws : List Waiter) → IsLeast (comes_before order) (behind (comes_before order) from ws) (first_from order from None ws)
least-found order from ws = subst (λ (vs : List Waiter). IsLeast (comes_before order) vs (first_from order from None ws)) (behind-test order from ws) (none-least order from ws)

-- the same of what the threads are seen as
module _ {X Y : Type 0} (f : X → Y) (bx : X → X → Bool) (by : Y → Y → Bool) (same : (a b : X) → bx a b ≡ by (f a) (f b)) where
  behind-map : (from : Option X) (xs : List X) → map f (behind bx from xs) ≡ behind by (option_map f from) (map f xs)
  behind-map None xs = refl
  behind-map (Some x) [] = refl
  behind-map (Some x) (y ∷ ys) = pull (bx x y) ∙ ap (λ (b : Bool). cond b (f y ∷ map f (filter (bx x) ys)) (map f (filter (bx x) ys))) (same x y) ∙ ap (λ (zs : List Y). cond (by (f x) (f y)) (f y ∷ zs) zs) (behind-map (Some x) ys)
    where
      pull : (b : Bool) → map f (cond b (y ∷ filter (bx x) ys) (filter (bx x) ys)) ≡ cond b (f y ∷ map f (filter (bx x) ys)) (map f (filter (bx x) ys))
      pull true = refl
      pull false = refl

  map-least : (xs : List X) (o : Option X) → IsLeast bx xs o → IsLeast by (map f xs) (option_map f o)
  map-least xs None i = record { among = tt; least = All-map (IsNotBefore by None) f xs i.least }
  map-least xs (Some x) i = record {
    among = (i.among.0, omega (arith, i.among.1, length-map xs f), get_or-map f xs i.among.0 x ∙ ap f i.among.2);
    least = All-map (IsNotBefore by (Some (f x))) f xs (All-weaker (IsNotBefore bx (Some x)) (λ y. by (f y) (f x) ≡ false) (λ y h. sym (same y x) ∙ h) xs i.least);
  }

  pub least-map : (from : Option X) (xs : List X) (o : Option X) (from' : Option Y) → option_map f from ≡ from' → IsLeast bx (behind bx from xs) o → IsLeast by (behind by from' (map f xs)) (option_map f o)
  least-map from xs o from' e i =
      subst (λ (ys : List Y). IsLeast by ys (option_map f o)) (behind-map from xs ∙ ap (λ (p : Option Y). behind by p (map f xs)) e) (map-least (behind bx from xs) o i)

-- the same of the numbers of blocks
numbers : (bs : List Waiter) (xs : List ℕ) → map (λ w. w.thread) (map (block_at bs) xs) ≡ map (number_at bs) xs
numbers bs [] = refl
numbers bs (x ∷ xs) = ap (λ (ns : List ℕ). number_at bs x ∷ ns) (numbers bs xs)

pub live-least : (bs : List Waiter) (ids : List ℕ) (from : Option Waiter) (t : Option ℕ) (o : Option Waiter) → option_map (λ w. w.thread) from ≡ t → o ≡ first_from Number from None (map (block_at bs) ids)
    → IsLeast nat_lt (behind nat_lt t (map (number_at bs) ids)) (option_map (λ w. w.thread) o)
live-least bs ids from t o e is =
    subst (λ (ns : List ℕ). IsLeast nat_lt (behind nat_lt t ns) (option_map (λ w. w.thread) o)) (numbers bs ids)
    (least-map (λ (w : Waiter). w.thread) (comes_before Number) nat_lt (λ a b. refl) from (map (block_at bs) ids) o t e
    (subst (IsLeast (comes_before Number) (behind (comes_before Number) from (map (block_at bs) ids))) (sym is) (least-found Number from (map (block_at bs) ids))))
