-- Records: what is read is spelled so, and what is spelled is read, whatever follows.
use Rattle.std.proofs.Common.{◌≡◌, ℕ, ◌^◌, ◌<◌, eqb, List, ◌++◌, Some, refl, sym, ap, subst, ◌∙◌, append_assoc}
use Rattle.std.specs.Int.{w32}
use Rattle.std.proofs.lemmas.Bool.{eqb-true}
use Rattle.std.proofs.lemmas.Option.{same_Some}
use Rattle.log_records.specs.declared.kind.Kind.{Kind}
use Rattle.log_records.specs.declared.kind.Kind.TheVariants as kinds
use Rattle.log_records.specs.Entries.{Entry, Begin, Commit, Rollback, HInsert, HDelete, HUpdate, Ckpoint}
use Rattle.log_records.specs.Spelling.{AreBytes, kind_of, tx_of, place_bytes, row_bytes, fields_bytes, IsEntry}
use Rattle.log_records.specs.Kinds.{kind_code}
use Rattle.log_records.specs.Reading.{◌>>=◌, number_at, place_at, row_at, rows_at, list_at, checkpoint_at, fields_at}
use Rattle.log_records.proofs.Numbers.{both_some, guarded, Takes, Takes-then, wide32, number_takes, number_again}
use Rattle.log_records.proofs.RowFields.{row_takes, row_again, rows_takes, rows_again, place_takes, place_again}
use Rattle.log_records.proofs.NamedFields.{list_takes, list_again}

-- the kind of what a record says
unfoldable pub entry_kind : Entry → Kind
entry_kind (Begin tx session) = kinds.Begin
entry_kind (Commit tx) = kinds.Commit
entry_kind (Rollback tx) = kinds.Rollback
entry_kind (HInsert tx table row after) = kinds.HInsert
entry_kind (HDelete tx table row before) = kinds.HDelete
entry_kind (HUpdate tx table row before after) = kinds.HUpdate
entry_kind (Ckpoint named) = kinds.Ckpoint

-- what the fields that were read say, and of which record
pub record AreFields (bytes : List ℕ) (kind : Kind) (tx : ℕ) (e : Entry) (rest : List ℕ) : Type 0 where
  pub taken : Takes bytes (fields_bytes e) rest
  pub kind_is : kind_of e ≡ kind_code kind
  pub tx_is : tx_of e ≡ tx
  pub entry : IsEntry e

insert_takes : (tx : ℕ) (bytes : List ℕ) (e : Entry) (rest : List ℕ) → tx < 2 ^ 64 → AreBytes bytes → fields_at kinds.HInsert tx bytes ≡ Some (e, rest) → AreFields bytes kinds.HInsert tx e rest
unfolding fields_at
insert_takes tx bytes e rest lt fits read =
    let a = both_some (place_at bytes) (λ place. row_at place.1 >>= λ after. Some (HInsert tx place.0.0 place.0.1 after.0, after.1)) (e, rest) read in
    let b = both_some (row_at a.0.1) (λ after. Some (HInsert tx a.0.0.0 a.0.0.1 after.0, after.1)) (e, rest) a.2 in
    let t0 = place_takes bytes a.0.0 a.0.1 fits a.1 in
    let t1 = row_takes a.0.1 b.0.0 b.0.1 t0.0.fits b.1 in
    let both = Takes-then bytes (place_bytes a.0.0.0 a.0.0.1) a.0.1 (row_bytes b.0.0) b.0.1 t0.0 t1.0 in
    let made : Entry × List ℕ = (HInsert tx a.0.0.0 a.0.0.1 b.0.0, b.0.1) in
    let good : AreFields bytes kinds.HInsert tx made.0 made.1 = record { taken = both; kind_is = refl; tx_is = refl; entry = (record { tx_fits = lt; table_fits = t0.1; row_fits = t0.2 }, t1.1) } in
    subst (λ (x : Entry × List ℕ). AreFields bytes kinds.HInsert tx x.0 x.1) (same_Some made (e, rest) b.2) good

delete_takes : (tx : ℕ) (bytes : List ℕ) (e : Entry) (rest : List ℕ) → tx < 2 ^ 64 → AreBytes bytes → fields_at kinds.HDelete tx bytes ≡ Some (e, rest) → AreFields bytes kinds.HDelete tx e rest
unfolding fields_at
delete_takes tx bytes e rest lt fits read =
    let a = both_some (place_at bytes) (λ place. row_at place.1 >>= λ before. Some (HDelete tx place.0.0 place.0.1 before.0, before.1)) (e, rest) read in
    let b = both_some (row_at a.0.1) (λ before. Some (HDelete tx a.0.0.0 a.0.0.1 before.0, before.1)) (e, rest) a.2 in
    let t0 = place_takes bytes a.0.0 a.0.1 fits a.1 in
    let t1 = row_takes a.0.1 b.0.0 b.0.1 t0.0.fits b.1 in
    let both = Takes-then bytes (place_bytes a.0.0.0 a.0.0.1) a.0.1 (row_bytes b.0.0) b.0.1 t0.0 t1.0 in
    let made : Entry × List ℕ = (HDelete tx a.0.0.0 a.0.0.1 b.0.0, b.0.1) in
    let good : AreFields bytes kinds.HDelete tx made.0 made.1 = record { taken = both; kind_is = refl; tx_is = refl; entry = (record { tx_fits = lt; table_fits = t0.1; row_fits = t0.2 }, t1.1) } in
    subst (λ (x : Entry × List ℕ). AreFields bytes kinds.HDelete tx x.0 x.1) (same_Some made (e, rest) b.2) good

update_takes : (tx : ℕ) (bytes : List ℕ) (e : Entry) (rest : List ℕ) → tx < 2 ^ 64 → AreBytes bytes → fields_at kinds.HUpdate tx bytes ≡ Some (e, rest) → AreFields bytes kinds.HUpdate tx e rest
unfolding fields_at
update_takes tx bytes e rest lt fits read =
    let a = both_some (place_at bytes) (λ place. rows_at place.1 >>= λ rows. Some (HUpdate tx place.0.0 place.0.1 rows.0.0 rows.0.1, rows.1)) (e, rest) read in
    let b = both_some (rows_at a.0.1) (λ rows. Some (HUpdate tx a.0.0.0 a.0.0.1 rows.0.0 rows.0.1, rows.1)) (e, rest) a.2 in
    let t0 = place_takes bytes a.0.0 a.0.1 fits a.1 in
    let t1 = rows_takes a.0.1 b.0.0 b.0.1 t0.0.fits b.1 in
    let both = Takes-then bytes (place_bytes a.0.0.0 a.0.0.1) a.0.1 (row_bytes b.0.0.0 ++ b.0.0.1) b.0.1 t0.0 t1.0 in
    let made : Entry × List ℕ = (HUpdate tx a.0.0.0 a.0.0.1 b.0.0.0 b.0.0.1, b.0.1) in
    let good : AreFields bytes kinds.HUpdate tx made.0 made.1 = record { taken = both; kind_is = refl; tx_is = refl; entry = (record { tx_fits = lt; table_fits = t0.1; row_fits = t0.2 }, t1.1) } in
    subst (λ (x : Entry × List ℕ). AreFields bytes kinds.HUpdate tx x.0 x.1) (same_Some made (e, rest) b.2) good

checkpoint_takes : (tx : ℕ) (bytes : List ℕ) (e : Entry) (rest : List ℕ) → AreBytes bytes → fields_at kinds.Ckpoint tx bytes ≡ Some (e, rest) → AreFields bytes kinds.Ckpoint tx e rest
unfolding fields_at checkpoint_at
checkpoint_takes tx bytes e rest fits read =
    let a = guarded (eqb tx 0) (checkpoint_at bytes) (e, rest) read in
    let b = both_some (list_at bytes) (λ named. Some (Ckpoint named.0, named.1)) (e, rest) a.1 in
    let t = list_takes bytes b.0.0 b.0.1 fits b.1 in
    let made : Entry × List ℕ = (Ckpoint b.0.0, b.0.1) in
    let good : AreFields bytes kinds.Ckpoint tx made.0 made.1 = record { taken = t.0; kind_is = refl; tx_is = sym (eqb-true _ _ a.0); entry = t.1 } in
    subst (λ (x : Entry × List ℕ). AreFields bytes kinds.Ckpoint tx x.0 x.1) (same_Some made (e, rest) b.2) good

begin_takes : (tx : ℕ) (bytes : List ℕ) (e : Entry) (rest : List ℕ) → tx < 2 ^ 64 → AreBytes bytes → fields_at kinds.Begin tx bytes ≡ Some (e, rest) → AreFields bytes kinds.Begin tx e rest
unfolding fields_at
begin_takes tx bytes e rest lt fits read =
    let a = both_some (number_at w32 bytes) (λ session. Some (Begin tx session.0, session.1)) (e, rest) read in
    let t = number_takes w32 (2 ^ 32) wide32 bytes a.0.0 a.0.1 fits a.1 in
    let made : Entry × List ℕ = (Begin tx a.0.0, a.0.1) in
    let good : AreFields bytes kinds.Begin tx made.0 made.1 = record { taken = t.0; kind_is = refl; tx_is = refl; entry = (lt, t.1) } in
    subst (λ (x : Entry × List ℕ). AreFields bytes kinds.Begin tx x.0 x.1) (same_Some made (e, rest) a.2) good

pub fields_take : (kind : Kind) (tx : ℕ) (bytes : List ℕ) (e : Entry) (rest : List ℕ) → tx < 2 ^ 64 → AreBytes bytes → fields_at kind tx bytes ≡ Some (e, rest) → AreFields bytes kind tx e rest
unfolding fields_at
fields_take kinds.Begin tx bytes e rest lt fits read = begin_takes tx bytes e rest lt fits read
fields_take kinds.Commit tx bytes e rest lt fits read =
    let made : Entry × List ℕ = (Commit tx, bytes) in
    let good : AreFields bytes kinds.Commit tx made.0 made.1 = record { taken = record { parts = refl; fits = fits }; kind_is = refl; tx_is = refl; entry = lt } in
    subst (λ (x : Entry × List ℕ). AreFields bytes kinds.Commit tx x.0 x.1) (same_Some made (e, rest) read) good
fields_take kinds.Rollback tx bytes e rest lt fits read =
    let made : Entry × List ℕ = (Rollback tx, bytes) in
    let good : AreFields bytes kinds.Rollback tx made.0 made.1 = record { taken = record { parts = refl; fits = fits }; kind_is = refl; tx_is = refl; entry = lt } in
    subst (λ (x : Entry × List ℕ). AreFields bytes kinds.Rollback tx x.0 x.1) (same_Some made (e, rest) read) good
fields_take kinds.HInsert tx bytes e rest lt fits read = insert_takes tx bytes e rest lt fits read
fields_take kinds.HDelete tx bytes e rest lt fits read = delete_takes tx bytes e rest lt fits read
fields_take kinds.HUpdate tx bytes e rest lt fits read = update_takes tx bytes e rest lt fits read
fields_take kinds.Ckpoint tx bytes e rest lt fits read = checkpoint_takes tx bytes e rest fits read

pub fields_again : (e : Entry) (rest : List ℕ) → IsEntry e → fields_at (entry_kind e) (tx_of e) (fields_bytes e ++ rest) ≡ Some (e, rest)
unfolding fields_at entry_kind checkpoint_at
fields_again (Begin tx session) rest fits = rw (number_again w32 (2 ^ 32) wide32 session rest fits.1) refl
fields_again (Commit tx) rest fits = refl
fields_again (Rollback tx) rest fits = refl
fields_again (HInsert tx table row after) rest fits =
    let regrouped : (place_bytes table row ++ row_bytes after) ++ rest ≡ place_bytes table row ++ (row_bytes after ++ rest) = append_assoc (place_bytes table row) (row_bytes after) rest in
    ap (fields_at kinds.HInsert tx) regrouped ∙ rw (place_again table row (row_bytes after ++ rest) fits.0.table_fits fits.0.row_fits, row_again after rest fits.1) refl
fields_again (HDelete tx table row before) rest fits =
    let regrouped : (place_bytes table row ++ row_bytes before) ++ rest ≡ place_bytes table row ++ (row_bytes before ++ rest) = append_assoc (place_bytes table row) (row_bytes before) rest in
    ap (fields_at kinds.HDelete tx) regrouped ∙ rw (place_again table row (row_bytes before ++ rest) fits.0.table_fits fits.0.row_fits, row_again before rest fits.1) refl
fields_again (HUpdate tx table row before after) rest fits =
    let regrouped : (place_bytes table row ++ (row_bytes before ++ after)) ++ rest ≡ place_bytes table row ++ (row_bytes before ++ after ++ rest) = append_assoc (place_bytes table row) (row_bytes before ++ after) rest in
    ap (fields_at kinds.HUpdate tx) regrouped ∙ rw (place_again table row (row_bytes before ++ after ++ rest) fits.0.table_fits fits.0.row_fits, rows_again before after rest fits.1) refl
fields_again (Ckpoint named) rest fits = rw (list_again named rest fits) refl
