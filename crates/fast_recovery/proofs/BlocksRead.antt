-- Reading the log block by block.
use Rattle.std.proofs.Common.{◌≡◌, ℕ, zero, suc, length, ◌+◌, ◌-◌, ◌%◌, ◌<◌, ◌≤◌, ◌==◌, Bool, true, false, cond, List, [], ◌∷◌, ◌++◌, Option, Some, None, refl, sym, ◌∙◌, ap, subst, arith, ◌⊎◌, inl, inr}
use Rattle.std.specs.Prelude.{option_and_then}
use Rattle.std.proofs.lemmas.Bool.{eqb-true}
use Rattle.std.proofs.lemmas.List.{append-nil}
use Rattle.std.proofs.lemmas.Grind.{flat_map-append}
use Rattle.ids_outside.specs.Images.{Image}
use Rattle.ids_base.specs.declared.position.LogPos.{LogPos}
use Rattle.gate_blocks.specs.Gates.{block}
use Rattle.gate_blocks.specs.declared.region.Region.{Region}
use Rattle.log_records.specs.Entries.{Entry}
use Rattle.log_records.specs.Bodies.{Body, body_of}
use Rattle.log_files.specs.Log.{ring_place, with_number, body_at, follow, bodies_from, tail_from, IsBroken}
use Rattle.log_files.proofs.Tails.{HasBody, counted_then, none_from}
use Rattle.log_files.proofs.Counted.{body_at-in, same_place, counted_is_whole}
use Rattle.fast_recovery.specs.KeptLog.{entries_in, tail_entries}
use Rattle.ids_model.specs.Recovered.{State, nothing, run}
use Rattle.ids_model.specs.RecoveryLaws.{RunsJoin}
use Rattle.fast_recovery.specs.Order.{open_in}
use Rattle.fast_recovery.specs.InPlace.{all_in_place, is_taken}
use Rattle.fast_recovery.specs.Rising.{all_rise, greatest_after, greatest_in}
use Rattle.fast_recovery.specs.LogRead.{GoesOn, HasRead, IsRefused, IsFirstDamagedRecord, IsBrokenEnd}
use Rattle.fast_recovery.specs.declared.past.Past.{Past}
use Rattle.fast_recovery.proofs.Ordered.{goes-none, goes-both}

-- the body of a block has its number
number_of : (r : Region) (b : ℕ) (x : Image) (body : Body) → 1 ≤ b → body_at r b x ≡ Some body → body.number ≡ b
number_of r b x body some counts = at (option_and_then body_of (block r (ring_place r b) x)) (sym (body_at-in r b x some) ∙ counts)
  where
    inside : (found : Body) (same : Bool) → (found.number == b) ≡ same → cond same (Some found) None ≡ Some body → body.number ≡ b
    inside found true is h = let one : found ≡ body = cc in ap (λ (q : Body). q.number) (sym one) ∙ eqb-true found.number b is
    inside found false is h = cc

    at : (o : Option Body) → with_number b o ≡ Some body → body.number ≡ b
    at None h = cc
    at (Some found) h = inside found (found.number == b) refl h

-- the records of the blocks before the next were noted
pub record ReadUpTo (pages : ℕ) (r : Region) (x : Image) (first now : Past) : Type 0 where
  pub goes : GoesOn pages first (entries_in (bodies_from r 1 (now.next - 1) x)) now
  pub held : (b : ℕ) → 1 ≤ b → b < now.next → HasBody r x b

module _ (r : Region) (x : Image) where
  pub read-none : (pages : ℕ) (p : Past) → p.next ≡ 1 → ReadUpTo pages r x p p
  read-none pages p at = record {
    goes = subst (λ (n : ℕ). GoesOn pages p (entries_in (bodies_from r 1 n x)) p) (let e : 0 ≡ p.next - 1 = omega (arith, at) in e) (goes-none pages p);
    held = λ b from below. absurd (omega (arith, at, from, below));
  }

  -- a block more
  pub bodies-next : (n : ℕ) (body : Body) → 1 ≤ n → ((b : ℕ) → 1 ≤ b → b < n → HasBody r x b) → body_at r n x ≡ Some body → (rest : ℕ)
      → bodies_from r 1 (n - 1 + suc rest) x ≡ bodies_from r 1 (n - 1) x ++ body ∷ bodies_from r (suc n) rest x
  bodies-next n body some held there rest =
      let at : 1 + (n - 1) ≡ n = omega (arith, some) in
      let next : bodies_from r (1 + (n - 1)) (suc rest) x ≡ body ∷ bodies_from r (suc n) rest x =
      ap (λ q. bodies_from r q (suc rest) x) at ∙ ap (λ (o : Option Body). follow o (bodies_from r (suc n) rest x)) there in
      counted_then r 1 (n - 1) (suc rest) x (λ q from below. held q from (omega (arith, below, at))) ∙ ap (λ (l : List Body). bodies_from r 1 (n - 1) x ++ l) next

  entries-next : (n : ℕ) (body : Body) → 1 ≤ n → ((b : ℕ) → 1 ≤ b → b < n → HasBody r x b) → body_at r n x ≡ Some body
      → entries_in (bodies_from r 1 (n - 1 + suc 0) x) ≡ entries_in (bodies_from r 1 (n - 1) x) ++ body.entries
  entries-next n body some held there =
      let front = bodies_from r 1 (n - 1) x in
      ap entries_in (bodies-next n body some held there 0) ∙ flat_map-append (λ (b : Body). b.entries) front (body ∷ [])
      ∙ ap (λ (l : List Entry). entries_in front ++ l) (append-nil body.entries)

  pub read-next : RunsJoin → (pages : ℕ) (first p q : Past) (body : Body) → 1 ≤ p.next → ReadUpTo pages r x first p → body_at r p.next x ≡ Some body → GoesOn pages p body.entries q
      → q.next ≡ p.next + 1 → ReadUpTo pages r x first q
  read-next join pages first p q body some read there goes at = record {
    goes = subst (λ (l : List Entry). GoesOn pages first l q) (sym whole) (goes-both pages join first p q _ body.entries read.goes goes);
    held = λ b from below. held b from (cases b p.next (omega (arith, below, at)));
  }
    where
      whole : entries_in (bodies_from r 1 (q.next - 1) x) ≡ entries_in (bodies_from r 1 (p.next - 1) x) ++ body.entries
      whole =
          let long : q.next - 1 ≡ p.next - 1 + suc 0 = omega (arith, at, some) in
          ap (λ n. entries_in (bodies_from r 1 n x)) long ∙ entries-next p.next body some read.held there

      cases : (b n : ℕ) → b < n + 1 → (b < n) ⊎ (b ≡ n)
      cases b n lt = grind (arith, lt)

      held : (b : ℕ) → 1 ≤ b → (b < p.next) ⊎ (b ≡ p.next) → HasBody r x b
      held b from (inl below) = read.held b from below
      held b from (inr same) = (body, ap (λ n. body_at r n x) same ∙ there)

  -- blocks that count are so many
  pub length-held : (b n : ℕ) → ((q : ℕ) → b ≤ q → q < b + n → HasBody r x q) → length (bodies_from r b n x) ≡ n
  length-held b zero held = refl
  length-held b (suc n) held =
      let here = held b (omega arith) (omega arith) in
      ap (λ (o : Option Body). length (follow o (bodies_from r (suc b) n x))) here.1
      ∙ ap (λ k. suc k) (length-held (suc b) n (λ q from below. held q (omega (arith, from)) (omega (arith, below))))

  -- where the next block does not count, the records are those of the log
  tail-is : (n : ℕ) → 1 ≤ n → n ≤ 1 + r.count → ((b : ℕ) → 1 ≤ b → b < n → HasBody r x b) → body_at r n x ≡ None → tail_from r 1 x ≡ bodies_from r 1 (n - 1) x
  tail-is n some within held ends =
      let all : r.count ≡ n - 1 + (r.count - (n - 1)) = omega (arith, some, within) in
      let at : 1 + (n - 1) ≡ n = omega (arith, some) in
      ap (λ m. bodies_from r 1 m x) all ∙ counted_then r 1 (n - 1) (r.count - (n - 1)) x (λ q from below. held q from (omega (arith, below, at)))
      ∙ ap (λ l. bodies_from r 1 (n - 1) x ++ l) (ap (λ q. bodies_from r q (r.count - (n - 1)) x) at ∙ none_from r n (r.count - (n - 1)) x ends)
      ∙ append-nil (bodies_from r 1 (n - 1) x)

  end-is : (n : ℕ) → 1 ≤ n → n ≤ 1 + r.count → ((b : ℕ) → 1 ≤ b → b < n → HasBody r x b) → body_at r n x ≡ None → n ≡ 1 + length (tail_from r 1 x)
  end-is n some within held ends =
      let at : 1 + (n - 1) ≡ n = omega (arith, some) in
      let long : length (tail_from r 1 x) ≡ n - 1 =
      ap (λ (l : List Body). length l) (tail-is n some within held ends) ∙ length-held 1 (n - 1) (λ q from below. held q from (omega (arith, below, at))) in
      omega (arith, long, some)

  pub read-all : (pages : ℕ) (first p : Past) → first.open_tx ≡ None → first.last_tx ≡ 0 → first.replay ≡ nothing → 1 ≤ p.next → p.next ≤ 1 + r.count → ReadUpTo pages r x first p → body_at r p.next x ≡ None
      → ¬ IsBroken r p.next x → HasRead pages r x p
  read-all pages first p shut unnumbered from_nothing some within read ends whole =
      let log : tail_entries r 1 x ≡ entries_in (bodies_from r 1 (p.next - 1) x) = ap entries_in (tail-is p.next some within read.held ends) in
      let goes : GoesOn pages first (tail_entries r 1 x) p = subst (λ (l : List Entry). GoesOn pages first l p) (sym log) read.goes in
      record {
        after = record {
          order = ap (λ o. open_in o (tail_entries r 1 x)) (sym shut) ∙ goes.order;
          places = subst (λ (s : State). all_in_place pages s.own (tail_entries r 1 x) ≡ true) from_nothing goes.places;
          replay = goes.replay ∙ ap (λ (s : State). run s (tail_entries r 1 x)) from_nothing;
          rising = subst (λ (n : ℕ). all_rise n (tail_entries r 1 x) ≡ true) unnumbered goes.rising;
          greatest = goes.greatest ∙ ap (λ (n : ℕ). greatest_after n (tail_entries r 1 x)) unnumbered;
        };
        held = read.held;
        ends = ends;
        whole = λ (broken : IsBroken r (1 + length (tail_from r 1 x)) x). whole (subst (λ (n : ℕ). IsBroken r n x) (sym (end-is p.next some within read.held ends)) broken);
      }

  -- a broken block that comes next is the one behind the tail
  pub read-broken : (pages : ℕ) (first p : Past) → first.open_tx ≡ None → first.last_tx ≡ 0 → first.replay ≡ nothing → 1 ≤ p.next → p.next ≤ 1 + r.count → ReadUpTo pages r x first p → body_at r p.next x ≡ None
      → IsBroken r p.next x → IsBrokenEnd pages r x p.next
  read-broken pages first p shut unnumbered from_nothing some within read ends broken =
      let log : tail_entries r 1 x ≡ entries_in (bodies_from r 1 (p.next - 1) x) = ap entries_in (tail-is p.next some within read.held ends) in
      let goes : GoesOn pages first (tail_entries r 1 x) p = subst (λ (l : List Entry). GoesOn pages first l p) (sym log) read.goes in
      record {
        behind = end-is p.next some within read.held ends;
        broken = broken;
        last = p.open_tx;
        in_order = ap (λ o. open_in o (tail_entries r 1 x)) (sym shut) ∙ goes.order;
        in_place = subst (λ (s : State). all_in_place pages s.own (tail_entries r 1 x) ≡ true) from_nothing goes.places;
        rising = subst (λ (n : ℕ). all_rise n (tail_entries r 1 x) ≡ true) unnumbered goes.rising;
      }

  -- where each block counts, the one behind the last has the place of the first, does not count and is not broken
  pub ends-full : (n : ℕ) → 0 < r.count → n ≡ 1 + r.count → ((b : ℕ) → 1 ≤ b → b < n → HasBody r x b) → (body_at r n x ≡ None) × (¬ IsBroken r n x)
  ends-full n some at held =
      let first = held 1 (omega arith) (omega (arith, some, at)) in
      let places : ring_place r 1 ≡ ring_place r n = turn (n - 1) (omega (arith, at)) in
      (same_place r 1 n x first.0 (omega (arith, at)) places (λ e. omega (arith, some, at, e)) first.1, counted_is_whole r 1 n x first.0 places first.1)
    where
      none : (c : ℕ) → 0 < c → 0 % c ≡ c % c
      none c some' = grind arith

      turn : (m : ℕ) → m ≡ r.count → (1 - 1) % r.count ≡ m % r.count
      turn m e = ap (λ k. k % r.count) (let z : 1 - 1 ≡ 0 = omega arith in z) ∙ none r.count some ∙ ap (λ k. k % r.count) (sym e)

  -- the first record of the next block that is not taken is the first of the log
  pub read-fault : RunsJoin → (pages : ℕ) (first p : Past) (body : Body) (pos : LogPos) → first.open_tx ≡ None → first.last_tx ≡ 0 → first.replay ≡ nothing → 1 ≤ p.next → p.next ≤ r.count
      → ReadUpTo pages r x first p → body_at r p.next x ≡ Some body → IsRefused pages p body.entries pos → IsFirstDamagedRecord pages r x pos
  read-fault join pages first p body pos shut unnumbered from_nothing some within read there why =
      let rest = r.count - p.next in
      let before = bodies_from r 1 (p.next - 1) x in
      let log : List Entry = entries_in before ++ why.front in
      let all : r.count ≡ p.next - 1 + suc rest = omega (arith, some, within) in
      let goes : GoesOn pages first log why.last = goes-both pages join first p why.last (entries_in before) why.front read.goes why.goes_on in
      let numbered : why.last.last_tx ≡ greatest_in log = goes.greatest ∙ ap (λ (n : ℕ). greatest_after n log) unnumbered in
      let made : why.last.replay ≡ run nothing log = goes.replay ∙ ap (λ (s : State). run s log) from_nothing in
      record {
        before = before;
        body = body;
        rest = bodies_from r (suc p.next) rest x;
        blocks = ap (λ n. bodies_from r 1 n x) all ∙ bodies-next p.next body some read.held there rest;
        number = number_of r p.next x body some there ∙ sym why.block;
        front = why.front;
        entry = why.entry;
        behind = why.behind;
        records = why.records;
        index = why.index;
        last = why.last.open_tx;
        in_order = ap (λ o. open_in o log) (sym shut) ∙ goes.order;
        in_place = subst (λ (s : State). all_in_place pages s.own log ≡ true) from_nothing goes.places;
        rising = subst (λ (n : ℕ). all_rise n log ≡ true) unnumbered goes.rising;
        refused = subst (λ (n : ℕ). is_taken pages n why.last.open_tx (run nothing log).own why.entry ≡ false) numbered
            (subst (λ (s : State). is_taken pages why.last.last_tx why.last.open_tx s.own why.entry ≡ false) made why.refused);
      }
