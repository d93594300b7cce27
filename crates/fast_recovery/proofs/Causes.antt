-- Why a disk is not opened, by what was read.
use Rattle.std.proofs.Common.{◌≡◌, inl, inr, ℕ, List, ◌++◌, ap, sym, ◌∙◌, subst}
use Rattle.log_records.specs.Entries as says
use Rattle.ids_base.specs.declared.position.LogPos.{LogPos}
use Rattle.fast_recovery.specs.Order.{closing}
use Rattle.ids_base.specs.declared.status.Place.TheVariants.{Identity, Checkpoint, Entry, DataPage, Block, Record, Row}
use Rattle.ids_outside.specs.Images.{Image}
use Rattle.gate_blocks.specs.declared.region.Region.{Region}
use Rattle.chunk_map.specs.declared.layout.Layout.{Layout}
use Rattle.chunk_map.specs.declared.fault.MapFault.{MapFault}
use Rattle.chunk_map.specs.declared.fault.MapFault.TheVariants as map
use Rattle.chunk_map.specs.Formatted.{HasLayout, IsFormatted, IdentityFault, NewestFault, NamesIdentity}
use Rattle.ids_model.specs.Recovered.{State, nothing, run}
use Rattle.fast_recovery.specs.BrokenRows.{IsBrokenRow}
use Rattle.fast_recovery.specs.Images.{log_region, log_in, page_count}
use Rattle.fast_recovery.specs.Faults.{fault_of}
use Rattle.fast_recovery.specs.LogRead.{IsAfter, IsRefused, IsFirstDamagedRecord, IsDamagedAt, IsLogFull, OpenCause, LogFault, RecordsFault}
use Rattle.fast_recovery.specs.RowDamaged.{RowsFault}
use Rattle.fast_recovery.specs.declared.past.Past.{Past}
use Rattle.fast_recovery.specs.Opening.{ClosingFault, WasFormatted}
use Rattle.fast_recovery.specs.declared.fault.OpenFault.{OpenFault}
use Rattle.fast_recovery.specs.declared.fault.OpenFault.TheVariants.{Disk, Memory, NotFormatted, Damaged, LogFull}

-- the first record of a block that is not taken is the first of the log
pub records-cause : (pages : ℕ) (r : Region) (x : Image) (p : Past) (es : List says.Entry) (e : OpenFault)
    → ((pos : LogPos) → IsRefused pages p es pos → IsFirstDamagedRecord pages r x pos) → RecordsFault pages p es e → LogFault pages r x e
records-cause pages r x p es Disk first h = absurd h
records-cause pages r x p es Memory first h = tt
records-cause pages r x p es NotFormatted first h = absurd h
records-cause pages r x p es (Damaged Identity) first h = absurd h
records-cause pages r x p es (Damaged (Checkpoint c)) first h = absurd h
records-cause pages r x p es (Damaged (Entry k)) first h = absurd h
records-cause pages r x p es (Damaged (DataPage k)) first h = absurd h
records-cause pages r x p es (Damaged (Block b)) first h = absurd h
records-cause pages r x p es (Damaged (Record pos)) first h = first pos h
records-cause pages r x p es (Damaged (Row n)) first h = absurd h
records-cause pages r x p es LogFull first h = absurd h

module _ (x : Image) where
  pub identity-cause : (e : MapFault) → NamesIdentity e → IdentityFault x e → OpenCause x (fault_of e)
  identity-cause map.NotFormatted names h = h
  identity-cause (map.Damaged place) names h = subst (λ p. IsDamagedAt x p) (sym names) h
  identity-cause map.Disk names h = tt

  pub newest-cause : (e : MapFault) → NewestFault x e → OpenCause x (fault_of e)
  newest-cause map.NotFormatted h = λ formatted. formatted.1 h
  newest-cause (map.Damaged place) h = subst (λ p. IsDamagedAt x p) (sym h.1) (inl h.2)
  newest-cause map.Disk h = tt

  -- the log of the layout that the image has
  pub log-cause : (l : Layout) (e : OpenFault) → HasLayout l x → LogFault (page_count l) (log_region l) x e → OpenCause x e
  log-cause l Disk has h = tt
  log-cause l Memory has h = tt
  log-cause l NotFormatted has h = absurd h
  log-cause l (Damaged Identity) has h = absurd h
  log-cause l (Damaged (Checkpoint c)) has h = absurd h
  log-cause l (Damaged (Entry k)) has h = absurd h
  log-cause l (Damaged (DataPage k)) has h = absurd h
  log-cause l (Damaged (Block b)) has h = (l, has, h)
  log-cause l (Damaged (Record pos)) has h = (l, has, h)
  log-cause l (Damaged (Row n)) has h = absurd h
  log-cause l LogFull has h = absurd h

  -- the files have no room
  pub closing-cause : (full : Type 0) (e : OpenFault) → (full → IsLogFull x) → ClosingFault full e → OpenCause x e
  closing-cause full Disk f h = tt
  closing-cause full Memory f h = tt
  closing-cause full NotFormatted f h = absurd h
  closing-cause full (Damaged place) f h = absurd h
  closing-cause full LogFull f h = f h

  -- where the identity is damaged, the image is formatted
  pub identity-formatted : (e : MapFault) → IdentityFault x e → WasFormatted x (fault_of e)
  identity-formatted map.NotFormatted h = tt
  identity-formatted (map.Damaged place) h = h.0
  identity-formatted map.Disk h = tt

  -- and so it is at any fault that comes later
  pub is-formatted : (e : OpenFault) → IsFormatted x → WasFormatted x e
  is-formatted Disk h = tt
  is-formatted Memory h = tt
  is-formatted NotFormatted h = tt
  is-formatted (Damaged place) h = h
  is-formatted LogFull h = h

  -- the row that is named is broken
  pub rows-cause : (l : Layout) (p : Past) (e : OpenFault) → HasLayout l x → IsAfter (page_count l) (log_in l x) p → run nothing (log_in l x ++ closing p.open_tx) ≡ run (run nothing (log_in l x)) (closing p.open_tx)
      → RowsFault (run p.replay (closing p.open_tx)) e → OpenCause x e
  rows-cause l p e has after joins (inl wants) = subst (OpenCause x) (sym wants) tt
  rows-cause l p e has after joins (inr (row, is, broken)) = subst (OpenCause x) (sym is) (record {
    layout = l;
    has = has;
    last = p.open_tx;
    in_order = after.order;
    rising = after.rising;
    broken = subst (λ (s : State). IsBrokenRow s.own s.slots row) (ap (λ (s : State). run s (closing p.open_tx)) after.replay ∙ sym joins) broken;
  })
