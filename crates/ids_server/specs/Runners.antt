-- What a runner stands for.
use Rattle.std.specs.Prelude.{◌≡◌, ◌⊎◌, ℕ, ◌*◌, [], ◌∷◌}
use Rattle.ids_base.specs.RowIds.{slot_count}
use Rattle.ids_base.specs.declared.plan.DataStatement.{DataStatement}
use Rattle.ids_outside.specs.Images.{Image}
use Rattle.ids_outside.specs.declared.disk.Disk.{Ghosts}
use Rattle.ids_model.specs.declared.effect.Effect.{Effect}
use Rattle.ids_model.specs.Tables.{Tables}
use Rattle.ids_model.specs.Meaning.{one}
use Rattle.fast_recovery.specs.Places.{HasNoPlace}
use Rattle.ids_engine.specs.declared.store.Store.{Store}
use Rattle.ids_engine.specs.Placing.{IsOneChange, TakesRow, IsOwnerFor, HasNoNumber, owned_pages}
use Rattle.ids_engine.specs.Journals.{done_of}
use Rattle.ids_engine.specs.Stores.{KeepsStore, IsStore}
use Rattle.ids_server.specs.declared.runner.Runner.{Runner}
use Rattle.ids_server.specs.Running.{Running, effects_of}

-- its tables, its open transaction, the journal, and the replies
abbrev pub running_of : Runner → Running
running_of r = record { tables = r.store.tables; inside = r.inside; journal = r.journal.items; given = r.given.items }

-- its store keeps the transactions of the journal, and the open one
abbrev pub KeepsRun : {D : Type 0} → Type 0 → Ghosts D → ℕ → Image → Tables → Runner → D → Type 0
KeepsRun {D} tells means since base found r disk =
    KeepsStore tells means since base found (done_of r.journal.items) (effects_of r.inside) r.store disk

-- its store is one, whatever the disk tells, and has the effects of the open transaction noted
pub record HasStore {D : Type 0} (means : Ghosts D) (r : Runner) (disk : D) : Type 0 where
  pub sound : IsStore ⊥ means r.store disk
  pub noted : r.store.undo ≡ effects_of r.inside

-- an effect that takes away a row that is there
abbrev pub Goes : Effect → Type 0
Goes effect = IsOneChange effect × TakesRow effect

-- the owner has no slot for one more row and no page can be had, or no number is left for a table; and these are all the slots and pages that the owner has
pub record IsFullFor (s : Store) (effect : Effect) (owner : ℕ × ℕ) (rows pages : ℕ) : Type 0 where
  pub none : HasNoPlace s.rows.state owner (s.layout.chunks * s.layout.data_pages) ⊎ HasNoNumber s.greatest effect
  pub slots : rows ≡ owned_pages s.rows.state.own owner (s.layout.chunks * s.layout.data_pages) * slot_count owner.1
  pub owned : pages ≡ owned_pages s.rows.state.own owner (s.layout.chunks * s.layout.data_pages)

-- there is no room for the one effect of a statement
pub record HasNoRoom (s : Store) (statement : DataStatement) (rows pages : ℕ) : Type 0 where
  pub effect : Effect
  pub alone : (one s.tables statement).effects ≡ effect ∷ []
  pub full : (owner : ℕ × ℕ) → IsOwnerFor s.tables s.numbers effect owner → IsFullFor s effect owner rows pages
