-- An image whose log alone changes keeps its empty base.
use Rattle.std.proofs.Common.{◌≡◌, inr, ℕ, ◌/◌, ◌<◌, ◌≤◌, sym, ◌∙◌, ap, subst, arith}
use Rattle.ids_outside.specs.Images.{Image, SameBut, pages_of}
use Rattle.gate_blocks.specs.Gates.{block, RegionPlaces, Apart}
use Rattle.gate_blocks.specs.declared.region.Region.{Region}
use Rattle.chunk_map.specs.declared.layout.Layout.{Layout}
use Rattle.chunk_map.specs.declared.checkpoint.CheckpointPage.{CheckpointPage}
use Rattle.chunk_map.specs.Checkpoints.{root_page, IsNewest}
use Rattle.chunk_map.specs.Formatted.{HasLayout}
use Rattle.chunk_map.specs.Rewrites.{SamePages}
use Rattle.fast_recovery.specs.Images.{log_region, phys_region, first_checkpoint, HasEmptyBase}

-- the laws of regions and of the map's pages that are used here
pub record Laws : Type 0 where
  pub apart : (r s : Region) (x y : Image) → Apart r s → SameBut (RegionPlaces r) x y → (k : ℕ) → k < s.count → block s k y ≡ block s k x
  pub pages : (r : Region) (x y : Image) → Apart r (root_page 1) → Apart r (root_page 2) → SameBut (RegionPlaces r) x y → SamePages x y
  pub newest : (p : CheckpointPage) (x y : Image) → SamePages x y → IsNewest p x → IsNewest p y

module _ (laws : Laws) (l : Layout) (x y : Image) (same : SameBut (RegionPlaces (log_region l)) x y) where
  pub same-layout : HasLayout l x → HasLayout l y
  same-layout has = record {
    layout = has.layout;
    block = laws.apart (log_region l) (root_page 0) x y (inr (inr (omega arith))) same 0 (omega arith) ∙ has.block;
    pages = record {
      root = subst (λ n. l.root ≤ n) (sym (long 0)) has.pages.root;
      chunks = λ j from to. subst (λ n. l.data_pages ≤ n) (sym (long j)) (has.pages.chunks j from to);
    };
  }
    where
      long : (j : ℕ) → pages_of y j ≡ pages_of x j
      long j = ap (λ n. n / 2048) (same.lengths j)

  pub same-newest : IsNewest first_checkpoint x → IsNewest first_checkpoint y
  same-newest newest = laws.newest first_checkpoint x y (laws.pages (log_region l) x y (inr (inr (omega arith))) (inr (inr (omega arith))) same) newest

  pub same-base : HasEmptyBase l x → HasEmptyBase l y
  same-base base = record {
    layout = same-layout base.layout;
    newest = same-newest base.newest;
    physical = λ k below. laws.apart (log_region l) (phys_region l) x y (inr (inr (omega arith))) same k below ∙ base.physical k below;
    unowned = λ chunk from to i below. same.bytes chunk i (λ p. omega (arith, p.0, from)) ∙ base.unowned chunk from to i below;
  }
