-- An image from which tables are recovered is formatted, and nothing of it is damaged.
use Rattle.std.proofs.Common.{◌≡◌, inl, inr, ℕ, max, true, ◌&&◌, List, [], ◌∷◌, ◌++◌, take, codes, Option, Some, None, refl, sym, ◌∙◌, ap, subst, append_assoc}
use Rattle.std.specs.Prelude.{is_some}
use Rattle.std.specs.FinMap.{empty}
use Rattle.std.proofs.lemmas.Bool.{false≢true}
use Rattle.std.proofs.lemmas.List.Concat.{flat_map-append}
use Rattle.ids_base.specs.declared.position.LogPos.{LogPos}
use Rattle.ids_base.specs.declared.status.Place.TheVariants.{Identity, Checkpoint, Entry as EntryAt, DataPage, Block, Record, Row}
use Rattle.ids_outside.specs.Images.{Image}
use Rattle.chunk_map.specs.Layouts.{identity_body}
use Rattle.chunk_map.specs.Checkpoints.{NoCheckpoint, IsDamagedPage, IsFirstDamaged, IsNewest, IsOlder}
use Rattle.chunk_map.specs.Formatted.{HasLayout, IsFormatted}
use Rattle.chunk_map.specs.declared.layout.Layout.{Layout}
use Rattle.chunk_map.specs.declared.checkpoint.CheckpointPage.{CheckpointPage}
use Rattle.log_records.specs.Entries.{Entry}
use Rattle.log_records.specs.Spelling.{tx_of}
use Rattle.log_records.specs.Bodies.{Body}
use Rattle.log_records.proofs.Numbers.{both_true}
use Rattle.log_files.specs.Log.{IsBroken, EndsWhole}
use Rattle.fast_recovery.specs.KeptLog.{entries_in}
use Rattle.ids_model.specs.Tables.{Tables}
use Rattle.ids_model.specs.Slots.{Own, own_all}
use Rattle.ids_model.specs.Recovered.{State, nothing, run, owns}
use Rattle.ids_model.specs.Logged.{IsRecovered}
use Rattle.ids_model.specs.RecoveryLaws.{RunsJoin, RollbacksAreSeen}
use Rattle.fast_recovery.specs.Images.{first_checkpoint, log_region, log_in, page_count, Recovers}
use Rattle.fast_recovery.specs.Order.{open_by, open_in, closing}
use Rattle.fast_recovery.specs.RowDamaged.{HasRowDamaged}
use Rattle.fast_recovery.specs.InPlace.{in_place, all_in_place, is_taken}
use Rattle.fast_recovery.specs.Rising.{rises, all_rise, greatest_in}
use Rattle.fast_recovery.specs.LogRead.{IsFirstDamagedRecord, IsRecordDamaged, IsBlockDamaged, OpenCause}
use Rattle.fast_recovery.specs.Opening.{IsWant, ClosingFault, IsRefusal}
use Rattle.fast_recovery.specs.declared.fault.OpenFault.{OpenFault}
use Rattle.fast_recovery.specs.declared.fault.OpenFault.TheVariants.{Disk, Memory, NotFormatted, Damaged, LogFull}
use Rattle.fast_recovery.proofs.Ordered.{open_in-none}
use Rattle.fast_recovery.proofs.Placed.{and-is, places-split}
use Rattle.fast_recovery.proofs.Rises.{rises-split}
use Rattle.fast_recovery.proofs.Broken.{not_broken}
use Rattle.fast_recovery.proofs.SeenTables.{closed-whole}

-- an image has one layout, and one newest checkpoint
pub record OneOfEach : Type 0 where
  pub layout : (l m : Layout) (x : Image) → HasLayout l x → HasLayout m x → l ≡ m
  pub newest : (p q : CheckpointPage) (x : Image) → IsNewest p x → IsNewest q x → p ≡ q

marked : (l : Layout) → take 4 (identity_body l) ≡ codes "IDSR"
unfolding identity_body
marked l = refl

module _ (x : Image) (newest : IsNewest first_checkpoint x) where
  -- the first checkpoint stands on page 1, so none of the two pages is damaged
  pages_stand : (c : ℕ) → IsFirstDamaged c x → ⊥
  pages_stand c (inl h) = h.1.unread first_checkpoint newest.page
  pages_stand c (inr h) = second newest.other h.2
    where
      second : IsOlder 2 1 x → IsDamagedPage 2 x → ⊥
      second (inl closed) damaged = damaged.not_closed closed
      second (inr older) damaged = damaged.unread older.0 older.1

  is_formatted : (l : Layout) → HasLayout l x → IsFormatted x
  is_formatted l has = ((identity_body l, has.block, marked l), none)
    where
      none : NoCheckpoint x → ⊥
      none closed = cc (closed.0, newest.page.block)

-- a record among records in order and in their places, which rise, is taken
is-taken : RunsJoin → (pages : ℕ) (xs rest : List Entry) (e : Entry) (o last : Option ℕ) → open_in None (xs ++ e ∷ rest) ≡ Some last → all_in_place pages empty (xs ++ e ∷ rest) ≡ true
    → all_rise 0 (xs ++ e ∷ rest) ≡ true → open_in None xs ≡ Some o → is_taken pages (greatest_in xs) o (own_all empty (owns xs)) e ≡ true
is-taken join pages xs rest e o last order places rising before = and-is (is_some (open_by o e) && in_place pages own e) (rises (greatest_in xs) e) (at (open_by o e) refl) up
  where
    own : Own
    own = own_all empty (owns xs)

    here : in_place pages own e ≡ true
    here = (both_true (in_place pages own e) (all_in_place pages (own_all own (owns (e ∷ []))) rest) (places-split join pages empty xs (e ∷ rest) places).1).0

    up : rises (greatest_in xs) e ≡ true
    up = (both_true (rises (greatest_in xs) e) (all_rise (max (greatest_in xs) (tx_of e)) rest) (rises-split 0 xs (e ∷ rest) rising).1).0

    at : (m : Option (Option ℕ)) → open_by o e ≡ m → (is_some m && in_place pages own e) ≡ true
    at None none = let out : open_in None (xs ++ e ∷ rest) ≡ None = open_in-none None o xs e rest before none in cc
    at (Some p) is = here

-- the records of some blocks, of one that has a record among others, and of the rest
log-split : (before rest : List Body) (body : Body) (front behind : List Entry) (e : Entry) → body.entries ≡ front ++ e ∷ behind
    → entries_in (before ++ body ∷ rest) ≡ (entries_in before ++ front) ++ e ∷ (behind ++ entries_in rest)
log-split before rest body front behind e is =
    flat_map-append (λ (b : Body). b.entries) before (body ∷ rest) ∙ ap (λ (es : List Entry). entries_in before ++ (es ++ entries_in rest)) is
    ∙ ap (λ (es : List Entry). entries_in before ++ es) (append_assoc front (e ∷ behind) (entries_in rest))
    ∙ sym (append_assoc (entries_in before) front (e ∷ (behind ++ entries_in rest)))

module _ (join : RunsJoin) (rolls : RollbacksAreSeen) (one : OneOfEach) (x : Image) (T : Tables) where
  -- no record is damaged
  records-stand : (pos : LogPos) → Recovers x T → IsRecordDamaged pos x → ⊥
  records-stand pos r why =
      let l : Layout = why.0 in
      let f : IsFirstDamagedRecord (page_count l) (log_region l) x pos = why.2 in
      let before : List Entry = entries_in f.before ++ f.front in
      let rest : List Entry = f.behind ++ entries_in f.rest in
      let same : r.layout ≡ l = one.layout r.layout l x r.base.layout why.1 in
      let log : log_in l x ≡ before ++ f.entry ∷ rest = ap entries_in f.blocks ∙ log-split f.before f.rest f.body f.front f.behind f.entry f.records in
      let order : open_in None (before ++ f.entry ∷ rest) ≡ Some r.last = ap (open_in None) (sym log) ∙ ap (λ (k : Layout). open_in None (log_in k x)) (sym same) ∙ r.in_order in
      let places : all_in_place (page_count l) empty (before ++ f.entry ∷ rest) ≡ true =
      ap (all_in_place (page_count l) empty) (sym log) ∙ ap (λ (k : Layout). all_in_place (page_count k) empty (log_in k x)) (sym same) ∙ r.in_place in
      let rising : all_rise 0 (before ++ f.entry ∷ rest) ≡ true =
      ap (all_rise 0) (sym log) ∙ ap (λ (k : Layout). all_rise 0 (log_in k x)) (sym same) ∙ r.rising in
      false≢true (sym f.refused ∙ is-taken join (page_count l) before rest f.entry f.last r.last order places rising f.in_order)

  -- no block is broken
  block-stands : (b : ℕ) → Recovers x T → IsBlockDamaged b x → ⊥
  block-stands b r why =
      let l : Layout = why.0 in
      let same : r.layout ≡ l = one.layout r.layout l x r.base.layout why.1 in
      (subst (λ (k : Layout). EndsWhole (log_region k) 1 x) same r.whole) (subst (λ (n : ℕ). IsBroken (log_region l) n x) why.2.behind why.2.broken)

  -- no row is broken
  rows-stand : (row : ℕ) → Recovers x T → HasRowDamaged x row → ⊥
  rows-stand row r d =
      let same : r.layout ≡ d.layout = one.layout r.layout d.layout x r.base.layout d.has in
      let recovered : IsRecovered (log_in d.layout x) T = subst (λ (l : Layout). IsRecovered (log_in l x) T) same r.tables in
      let s : State = run nothing (log_in d.layout x ++ closing d.last) in
      not_broken s.own s.slots row (closed-whole join rolls (log_in d.layout x) d.last T d.in_order recovered) d.broken

  pub accepted : (e : OpenFault) → Recovers x T → OpenCause x e → IsRefusal e → ⊥
  accepted Disk r why refusal = refusal
  accepted Memory r why refusal = refusal
  accepted NotFormatted r why refusal = why (is_formatted x r.base.newest r.layout r.base.layout)
  accepted (Damaged Identity) r why refusal = why.1 r.layout r.base.layout
  accepted (Damaged (Checkpoint c)) r (inl first) refusal = pages_stand x r.base.newest c first
  accepted (Damaged (Checkpoint c)) r (inr other) refusal = other.2 (one.newest other.0 first_checkpoint x other.1 r.base.newest)
  accepted (Damaged (EntryAt k)) r why refusal = why
  accepted (Damaged (DataPage k)) r why refusal = why
  accepted (Damaged (Block b)) r why refusal = block-stands b r why
  accepted (Damaged (Record pos)) r why refusal = records-stand pos r why
  accepted (Damaged (Row n)) r why refusal = rows-stand n r why
  accepted LogFull r why refusal = refusal

-- a want is no refusal, nor is a fault of the ROLLBACK
pub want-accepted : (e : OpenFault) → IsWant e → IsRefusal e → ⊥
want-accepted Disk want refusal = refusal
want-accepted Memory want refusal = refusal
want-accepted NotFormatted want refusal = want
want-accepted (Damaged place) want refusal = want
want-accepted LogFull want refusal = refusal

pub closing-accepted : (full : Type 0) (e : OpenFault) → ClosingFault full e → IsRefusal e → ⊥
closing-accepted full Disk fault refusal = refusal
closing-accepted full Memory fault refusal = refusal
closing-accepted full NotFormatted fault refusal = fault
closing-accepted full (Damaged place) fault refusal = fault
closing-accepted full LogFull fault refusal = refusal
