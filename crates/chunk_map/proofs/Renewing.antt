-- Writing the checkpoint page that comes next.
use Rattle.std.proofs.Common.{◌≡◌, ◌⊎◌, inl, inr, ◌≤◌, ℕ, ◌+◌, ◌-◌, List, Some, None, IsTrue, refl, sym, ◌∙◌, subst, arith}
use Rattle.ids_outside.specs.Images.{Image}
use Rattle.gate_blocks.specs.Gates.{Apart}
use Rattle.chunk_map.specs.Checkpoints.{root_page, root_block, checkpoint_body, page_of, FitsPage, IsPage, IsOlder, IsNewest, IsNext}
use Rattle.chunk_map.specs.Rewrites.{Rewrites, SamePages, SameNewest, Renews}
use Rattle.chunk_map.specs.declared.checkpoint.CheckpointPage.{CheckpointPage}

pub page_cases : (n : ℕ) → (page_of n ≡ 1) ⊎ (page_of n ≡ 2)
page_cases n = grind arith

pub other_apart : (n : ℕ) → Apart (root_page (page_of n)) (root_page (3 - page_of n))
other_apart n = elim (page_cases n) [
  | inl is ↦ inr (inl (omega (arith, is)))
  | inr is ↦ inr (inr (omega (arith, is)))
]

-- one of the two pages is the same
pub one_same : (c : ℕ) (x y : Image) → (c ≡ 1) ⊎ (c ≡ 2) → SamePages x y → root_block c y ≡ root_block c x
one_same c x y (inl is) same = subst (λ (k : ℕ). root_block k y ≡ root_block k x) (sym is) same.0
one_same c x y (inr is) same = subst (λ (k : ℕ). root_block k y ≡ root_block k x) (sym is) same.1

other_cases : (n : ℕ) → (3 - page_of n ≡ 1) ⊎ (3 - page_of n ≡ 2)
other_cases n = elim (page_cases n) [
  | inl is ↦ inr (omega (arith, is))
  | inr is ↦ inl (omega (arith, is))
]

page_same : (c : ℕ) (p : CheckpointPage) (x y : Image) → root_block c y ≡ root_block c x → IsPage c p x → IsPage c p y
page_same c p x y same on = record { block = same ∙ on.block; checkpoint = on.checkpoint; place = on.place }

older_same : (c n : ℕ) (x y : Image) → root_block c y ≡ root_block c x → IsOlder c n x → IsOlder c n y
older_same c n x y same (inl closed) = inl (same ∙ closed)
older_same c n x y same (inr older) = inr (older.0, page_same c older.0 x y same older.1, older.2)

pub newest_same : (p : CheckpointPage) (x y : Image) → SamePages x y → IsNewest p x → IsNewest p y
newest_same p x y same newest = record {
  page = page_same (page_of p.number) p x y (one_same (page_of p.number) x y (page_cases p.number) same) newest.page;
  other = older_same (3 - page_of p.number) p.number x y (one_same (3 - page_of p.number) x y (other_cases p.number) same) newest.other;
}

pub next_same : (n : ℕ) (x y : Image) → SamePages x y → IsNext n x → IsNext n y
next_same n x y same (inl next) = inl (next.0, newest_same next.0 x y same next.1, next.2)
next_same n x y same (inr none) = inr ((same.0 ∙ none.0.0, same.1 ∙ none.0.1), none.1)

-- two pages that are the same are both
both_same : (n : ℕ) (x y : Image) → root_block (page_of n) y ≡ root_block (page_of n) x → root_block (3 - page_of n) y ≡ root_block (3 - page_of n) x → SamePages x y
both_same n x y this other = elim (page_cases n) [
  | inl is ↦ (
    subst (λ (k : ℕ). root_block k y ≡ root_block k x) is this,
    subst (λ (k : ℕ). root_block k y ≡ root_block k x) (let e : 3 - page_of n ≡ 2 = omega (arith, is) in e) other,
  )
  | inr is ↦ (
    subst (λ (k : ℕ). root_block k y ≡ root_block k x) (let e : 3 - page_of n ≡ 1 = omega (arith, is) in e) other,
    subst (λ (k : ℕ). root_block k y ≡ root_block k x) is this,
  )
]

pub step_as : (j k : ℕ) (a b : List ℕ) (x y : Image) → j ≡ k → a ≡ b → Rewrites j a x y → Rewrites k b x y
step_as j k a b x y places bodies step = subst (λ (i : ℕ). Rewrites i b x y) places (subst (λ (l : List ℕ). Rewrites j l x y) bodies step)

-- the page before stands on the other page
turn : (m n : ℕ) → n ≡ m + 1 → page_of m ≡ 3 - page_of n
turn m n is = grind (arith, is)

module _ (p : CheckpointPage) (x y : Image) (fits : FitsPage p) (block : 1 ≤ p.start.block) (index : IsTrue p.quiet → p.start.index ≡ 0)
    (other : root_block (3 - page_of p.number) y ≡ root_block (3 - page_of p.number) x) where
  stands : 1 ≤ p.number → root_block (page_of p.number) y ≡ Some (checkpoint_body p) → IsPage (page_of p.number) p y
  stands number written = record {
    block = written;
    checkpoint = record { number = number; block = block; index = index; fits = fits };
    place = refl;
  }

  -- the new page is the newest
  pub is_newest : IsNext p.number x → root_block (page_of p.number) y ≡ Some (checkpoint_body p) → IsNewest p y
  is_newest (inl next) written =
      let q = next.0 in
      let where_q : page_of q.number ≡ 3 - page_of p.number = turn q.number p.number next.2 in
      let on : IsPage (3 - page_of p.number) q x = subst (λ (k : ℕ). IsPage k q x) where_q next.1.page in
      record {
        page = stands (omega (arith, next.2)) written;
        other = inr (q, page_same (3 - page_of p.number) q x y other on, omega (arith, next.2));
      }
  is_newest (inr none) written = record {
    page = stands (omega (arith, none.1)) written;
    other = inl (other ∙ one_closed (3 - page_of p.number) (other_cases p.number));
  }
    where
      one_closed : (c : ℕ) → (c ≡ 1) ⊎ (c ≡ 2) → root_block c x ≡ None
      one_closed c (inl is) = subst (λ (k : ℕ). root_block k x ≡ None) (sym is) none.0.0
      one_closed c (inr is) = subst (λ (k : ℕ). root_block k x ≡ None) (sym is) none.0.1

  -- while the new page is closed, the newest is the old one
  old_newest : IsNext p.number x → root_block (page_of p.number) y ≡ None → SameNewest x y
  old_newest (inl next) closed =
      let q = next.0 in
      let where_q : page_of q.number ≡ 3 - page_of p.number = turn q.number p.number next.2 in
      let back : page_of p.number ≡ 3 - page_of q.number = omega (arith, where_q) in
      inl (
        q,
        next.1,
        record {
          page = page_same (page_of q.number) q x y (subst (λ (k : ℕ). root_block k y ≡ root_block k x) (sym where_q) other) next.1.page;
          other = inl (subst (λ (k : ℕ). root_block k y ≡ None) back closed);
        },
      )
  old_newest (inr none) closed =
      let this : root_block (page_of p.number) y ≡ root_block (page_of p.number) x = closed ∙ sym (one_closed (page_of p.number) (page_cases p.number)) in
      let same : SamePages x y = both_same p.number x y this other in
      inr (none.0, (same.0 ∙ none.0.0, same.1 ∙ none.0.1))
    where
      one_closed : (c : ℕ) → (c ≡ 1) ⊎ (c ≡ 2) → root_block c x ≡ None
      one_closed c (inl is) = subst (λ (k : ℕ). root_block k x ≡ None) (sym is) none.0.0
      one_closed c (inr is) = subst (λ (k : ℕ). root_block k x ≡ None) (sym is) none.0.1

  same_newest : IsNext p.number x → SamePages x y → SameNewest x y
  same_newest (inl next) same = inl (next.0, next.1, newest_same next.0 x y same next.1)
  same_newest (inr none) same = inr (none.0, (same.0 ∙ none.0.0, same.1 ∙ none.0.1))

  pub renews : IsNext p.number x → Rewrites (page_of p.number) (checkpoint_body p) x y → Renews p x y
  renews next step = record {
    elsewhere = step.elsewhere;
    other = other;
    newest = newest step.block;
  }
    where
      newest : (root_block (page_of p.number) y ≡ root_block (page_of p.number) x) ⊎ (root_block (page_of p.number) y ≡ None) ⊎ (root_block (page_of p.number) y ≡ Some (checkpoint_body p))
          → SameNewest x y ⊎ IsNewest p y
      newest (inl same) = inl (same_newest next (both_same p.number x y same other))
      newest (inr (inl closed)) = inl (old_newest next closed)
      newest (inr (inr written)) = inr (is_newest next written)
