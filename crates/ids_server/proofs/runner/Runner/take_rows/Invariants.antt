use Rattle.std.proofs.Common.{◌≡◌, ◌≤◌, ℕ, List, ◌++◌, drop}
use Rattle.std.specs.List.{AllByRecursion}
use Rattle.ids_model.specs.declared.effect.Effect.{Effect}
use Rattle.ids_outside.specs.Images.{Image}
use Rattle.ids_model.specs.Tables.{Tables, apply_all}
use Rattle.ids_model.specs.Fits.{Fits}
use Rattle.ids_engine.specs.Survival.{Done}
use Rattle.ids_engine.specs.Stores.{KeepsStore, IsStore}
use Rattle.ids_server.specs.Runners.{Goes}
use Rattle.ids_server.proofs.runner.Runner.take_rows.Given as goal

-- the effects so far were made, and those that are left can be
abbrev pub invariant-loop-effect : goal.invariant-loop-effect
invariant-loop-effect g l = record {
  store : IsStore ⊥ g.D.Disk l.self.store l.disk;
  fits : Fits l.self.store.tables (drop l.effect-index l.gone);
  gone : AllByRecursion Goes (drop l.effect-index l.gone);
  tables : apply_all l.self.store.tables (drop l.effect-index l.gone) ≡ apply_all l.fn.self.store.tables l.gone;
  noted : l.self.store.undo ++ drop l.effect-index l.gone ≡ l.fn.self.store.undo ++ l.gone;
  kept : (since : ℕ) (base : Image) (found : Tables) (earlier : List Done) (so_far : List Effect)
      → KeepsStore g.D.Disk.tells g.D.Disk since base found earlier so_far l.fn.self.store l.fn.disk
      → (made : List Effect) × (made ++ drop l.effect-index l.gone ≡ so_far ++ l.gone)
      × KeepsStore g.D.Disk.tells g.D.Disk since base found earlier made l.self.store l.disk;
  same : (l.self.inside ≡ l.fn.self.inside) × (l.self.journal ≡ l.fn.self.journal) × (l.self.given ≡ l.fn.self.given);
  later : g.D.Disk.now l.fn.disk ≤ g.D.Disk.now l.disk;
  counted : g.D.Disk.fault_count l.fn.disk ≤ g.D.Disk.fault_count l.disk;
}
