-- The row that is named where an image is refused for its rows.
use Rattle.std.specs.Prelude.{◌≡◌, ◌⊎◌, ℕ, true, ◌++◌, Option, Some, None}
use Rattle.ids_base.specs.declared.status.Place.TheVariants.{Row}
use Rattle.ids_outside.specs.Images.{Image}
use Rattle.chunk_map.specs.declared.layout.Layout.{Layout}
use Rattle.chunk_map.specs.Formatted.{HasLayout}
use Rattle.ids_model.specs.Recovered.{State, nothing, run}
use Rattle.fast_recovery.specs.BrokenRows.{IsBrokenRow}
use Rattle.fast_recovery.specs.Images.{log_in}
use Rattle.fast_recovery.specs.Order.{open_in, closing}
use Rattle.fast_recovery.specs.Rising.{all_rise}
use Rattle.fast_recovery.specs.declared.fault.OpenFault.{OpenFault}
use Rattle.fast_recovery.specs.declared.fault.OpenFault.TheVariants.{Memory, Damaged}

-- the row id breaks a rule of well formed pages and rows, as the log leaves them with a ROLLBACK of the transaction that is open at its end
pub record HasRowDamaged (x : Image) (row : ℕ) : Type 0 where
  pub layout : Layout
  pub has : HasLayout layout x
  pub last : Option ℕ
  pub in_order : open_in None (log_in layout x) ≡ Some last
  pub rising : all_rise 0 (log_in layout x) ≡ true
  pub broken : IsBrokenRow (run nothing (log_in layout x ++ closing last)).own (run nothing (log_in layout x ++ closing last)).slots row

-- why pages and rows stand for no tables: memory was wanting, or the row that is named is broken
abbrev pub RowsFault : State → OpenFault → Type 0
RowsFault s e = (e ≡ Memory) ⊎ ((row : ℕ) × (e ≡ Damaged (Row row)) × IsBrokenRow s.own s.slots row)
