-- A record's size is the number of its bytes.
use Rattle.std.proofs.Common.{◌≡◌, ℕ, ◌+◌, ◌*◌, ◌≤◌, List, [], ◌∷◌, ◌++◌, length, refl, length-append, arith}
use Rattle.std.specs.List.{flat_map}
use Rattle.std.specs.Int.{w16, w64}
use Rattle.std.proofs.lemmas.List.Concat.{flat_map-cons}
use Rattle.std.proofs.lemmas.List.Sums.{sum_by-cons}
use Rattle.log_records.specs.Entries.{Named, Entry, Begin, Commit, Rollback, HInsert, HDelete, HUpdate, Ckpoint}
use Rattle.log_records.specs.Spelling.{number_bytes, kind_of, tx_of, named_bytes, place_bytes, row_bytes, fields_bytes, entry_bytes, entry_size, IsEntry}
use Rattle.log_records.specs.Bodies.{entries_bytes, entries_size}
use Rattle.log_records.proofs.Numbers.{wide16, wide32, wide64}

length-named_bytes : (n : Named) → length (named_bytes n) ≡ 18
length-named_bytes n =
    simp length-append (omega (arith, wide64.long n.tx, wide64.long n.block, wide16.long n.index))

pub length-names : (ns : List Named) → length (flat_map named_bytes ns) ≡ 18 * length ns
length-names [] = refl
length-names (n ∷ ns) = rw (flat_map-cons named_bytes n ns, length-append) (omega (arith, length-named_bytes n, length-names ns))

length-place_bytes : (table row : ℕ) → length (place_bytes table row) ≡ 8
length-place_bytes table row = rw length-append (omega (arith, wide32.long table, wide32.long row))

length-row_bytes : (row : List ℕ) → length (row_bytes row) ≡ 2 + length row
length-row_bytes row = rw length-append (omega (arith, wide16.long (length row)))

pub length-fields_bytes : (e : Entry) → length (fields_bytes e) + 11 ≡ entry_size e
length-fields_bytes (Begin tx session) = omega (arith, wide32.long session)
length-fields_bytes (Commit tx) = refl
length-fields_bytes (Rollback tx) = refl
length-fields_bytes (HInsert tx table row after) = omega (arith, length-append (place_bytes table row) (row_bytes after), length-place_bytes table row, length-row_bytes after)
length-fields_bytes (HDelete tx table row before) = omega (arith, length-append (place_bytes table row) (row_bytes before), length-place_bytes table row, length-row_bytes before)
length-fields_bytes (HUpdate tx table row before after) =
    omega (arith, length-append (place_bytes table row) (row_bytes before ++ after), length-append (row_bytes before) after, length-place_bytes table row, length-row_bytes before)
length-fields_bytes (Ckpoint named) = omega (arith, length-append (number_bytes w16 (length named)) (flat_map named_bytes named), wide16.long (length named), length-names named)

-- what follows a record's length
abbrev pub tail_bytes : Entry → List ℕ
tail_bytes e = kind_of e ∷ (number_bytes w64 (tx_of e) ++ fields_bytes e)

pub length-tail_bytes : (e : Entry) → length (tail_bytes e) + 2 ≡ entry_size e
length-tail_bytes e = omega (arith, length-append (number_bytes w64 (tx_of e)) (fields_bytes e), wide64.long (tx_of e), length-fields_bytes e)

pub length-entry_bytes : (e : Entry) → length (entry_bytes e) ≡ entry_size e
unfolding entry_bytes
length-entry_bytes e = omega (arith, length-append (number_bytes w16 (entry_size e)) (tail_bytes e), wide16.long (entry_size e), length-tail_bytes e)

pub length-entries_bytes : (es : List Entry) → length (entries_bytes es) ≡ entries_size es
length-entries_bytes [] = refl
length-entries_bytes (e ∷ es) =
    rw (flat_map-cons entry_bytes e es, sum_by-cons entry_size e es) (omega (arith, length-append (entry_bytes e) (entries_bytes es), length-entry_bytes e, length-entries_bytes es))

-- a record takes 11 to 1621 bytes
pub entry_size-low : (e : Entry) → 11 ≤ entry_size e
entry_size-low e = omega (arith, length-fields_bytes e)

pub entry_size-high : (e : Entry) → IsEntry e → entry_size e ≤ 1621
entry_size-high (Begin tx session) fits = omega arith
entry_size-high (Commit tx) fits = omega arith
entry_size-high (Rollback tx) fits = omega arith
entry_size-high (HInsert tx table row after) fits = omega (arith, fits.1.long.few)
entry_size-high (HDelete tx table row before) fits = omega (arith, fits.1.long.few)
entry_size-high (HUpdate tx table row before after) fits = omega (arith, fits.1.first.long.few, fits.1.second.long.few)
entry_size-high (Ckpoint named) fits = omega (arith, fits.few)

pub entries_size-low : (es : List Entry) → 11 * length es ≤ entries_size es
entries_size-low [] = omega arith
entries_size-low (e ∷ es) = rw (sum_by-cons entry_size e es) (omega (arith, entry_size-low e, entries_size-low es))
