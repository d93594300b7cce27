-- There is one newest checkpoint.
use Rattle.std.proofs.Common.{◌≡◌, inl, inr, ◌<◌, ℕ, ◌-◌, sym, subst, arith}
use Rattle.std.proofs.lemmas.Bool.{cases_eq}
use Rattle.ids_outside.specs.Images.{Image}
use Rattle.chunk_map.specs.Checkpoints.{checkpoint_body, page_of, IsPage, IsOlder, IsNewest}
use Rattle.chunk_map.specs.declared.checkpoint.CheckpointPage.{CheckpointPage}
use Rattle.chunk_map.proofs.Bodies.{same_checkpoint}

pub one_page : (c : ℕ) (p q : CheckpointPage) (x : Image) → IsPage c p x → IsPage c q x → p ≡ q
one_page c p q x first second =
    let bodies : checkpoint_body p ≡ checkpoint_body q = cc (first.block, second.block) in
    same_checkpoint p q first.checkpoint second.checkpoint bodies

-- a page that is older has a lesser number
lesser : (c n : ℕ) (q : CheckpointPage) (x : Image) → IsOlder c n x → IsPage c q x → q.number < n
lesser c n q x (inl closed) on = absurd (cc (closed, on.block))
lesser c n q x (inr older) on = subst (λ (r : CheckpointPage). r.number < n) (one_page c older.0 q x older.1 on) older.2

other_page : (m n : ℕ) → ¬ (page_of m ≡ page_of n) → 3 - page_of n ≡ page_of m
other_page m n other = grind (arith, other)

pub one_newest : (p q : CheckpointPage) (x : Image) → IsNewest p x → IsNewest q x → p ≡ q
one_newest p q x first second = elim (cases_eq (page_of p.number) (page_of q.number)) [
  | inl same ↦ one_page (page_of p.number) p q x first.page (subst (λ (c : ℕ). IsPage c q x) (sym same) second.page)
  | inr other ↦
      let below = lesser (3 - page_of q.number) q.number p x second.other (subst (λ (c : ℕ). IsPage c p x) (sym (other_page p.number q.number other)) first.page) in
      let above = lesser (3 - page_of p.number) p.number q x first.other
      (subst (λ (c : ℕ). IsPage c q x) (sym (other_page q.number p.number (λ e. other (sym e)))) second.page) in
      absurd (omega (arith, below, above))
]
