use Rattle.std.proofs.Common.{◌≡◌, ◌≢◌, ◌<◌, [], length, ap, sym, ◌∙◌, refl, Some, arith}
use Rattle.std.specs.Vec.{with_items}
use Rattle.std.specs.List.{slice_get}
use Rattle.std.proofs.lemmas.List.{with_items_is}
use Rattle.std.proofs.lemmas.Option.{slice_get_read}
use Rattle.table_space.specs.declared.entry.Keyed.{Keyed}
use Rattle.table_space.specs.Numbers.{number_of, entries_in, entries_under}
use Rattle.table_space.specs.Noted.{noted}
use Rattle.table_space.specs.Slots.{IsExchanged}
use Rattle.table_space.proofs.Indexing.{number-within, number-key, indexed-relist, changes-set}
use Rattle.table_space.proofs.Noted.{noted-some, length-noted}
use Rattle.table_space.proofs.Counts.{exchanged-as, counts-noted}
use Rattle.table_space.proofs.directory.Directory.note.Goals as goal

pub invariant_of-self : goal.invariant_of-self
invariant_of-self c =
    let is = c.args.self.now.indexed in
    let old : Keyed = c.index_mut-keyed.result.now in
    let new : Keyed = record { table = old.table; key = old.key; entries = with_items old.entries c.note-was.new.entries } in
    let had : number_of c.args.self.now.numbers c.args.table c.args.key.now ≡ Some c.in-Some.number = sym c.number.ensures ∙ c.in-Some.is in
    let lt : c.in-Some.number < length c.args.self.now.listed.items = number-within is c.args.table c.args.key.now c.in-Some.number had in
    let at : slice_get c.args.self.now.listed.items c.in-Some.number ≡ Some old = slice_get_read c.args.self.now.listed.items (length c.args.self.now.listed.items) c.in-Some.number old refl lt c.index_mut-keyed.ensures.value in
    let p = number-key is c.args.table c.args.key.now c.in-Some.number old had at in
    let now : c.note-was.new.entries ≡ noted c.args.row c.args.filled c.args.tx old.entries.items = c.note-was.ensures.noted ∙ ap (noted c.args.row c.args.filled c.args.tx) c.deref_mut.ensures.value in
    let size : length c.note-was.new.entries ≡ old.entries.len = omega (arith, ap length now, length-noted c.args.row c.args.filled c.args.tx old.entries.items, old.entries.ok.0) in
    let items : new.entries.items ≡ c.note-was.new.entries = with_items_is old.entries c.note-was.new.entries size in
    let some : new.entries.items ≢ [] = λ none. noted-some c.args.row c.args.filled c.args.tx old.entries.items p.some (sym (items ∙ now) ∙ none) in
    let change : IsExchanged old.entries.items new.entries.items c.note-was.result c.changed.result = exchanged-as c.deref_mut.ensures.value (sym items) (sym c.changed.ensures) c.note-was.ensures.was in
    record {
      indexed = rw c.set.ensures (indexed-relist is c.in-Some.number old new c.marks_of-marks.result c.args.table c.args.key.now had at refl refl some (rw c.as_slice.ensures.value at c.marks_of-marks.ensures));
      counted = counts-noted c.args.self.now.slots c.args.self.now.listed.items c.in-Some.number new lt c.args.self.now.counted c.leave.new.self c.take.new.self old c.note-was.result c.changed.result at change c.leave.ensures c.take.ensures;
    }

pub returns : goal.returns
returns c =
    let is = c.args.self.now.indexed in
    let old : Keyed = c.index_mut-keyed.result.now in
    let new : Keyed = record { table = old.table; key = old.key; entries = with_items old.entries c.note-was.new.entries } in
    let had : number_of c.args.self.now.numbers c.args.table c.args.key.now ≡ Some c.in-Some.number = sym c.number.ensures ∙ c.in-Some.is in
    let lt : c.in-Some.number < length c.args.self.now.listed.items = number-within is c.args.table c.args.key.now c.in-Some.number had in
    let at : slice_get c.args.self.now.listed.items c.in-Some.number ≡ Some old = slice_get_read c.args.self.now.listed.items (length c.args.self.now.listed.items) c.in-Some.number old refl lt c.index_mut-keyed.ensures.value in
    let seen : entries_under c.args.self.now.listed.items (number_of c.args.self.now.numbers c.args.table c.args.key.now) ≡ old.entries.items = ap (entries_under c.args.self.now.listed.items) had ∙ ap entries_in at in
    let now : c.note-was.new.entries ≡ noted c.args.row c.args.filled c.args.tx old.entries.items = c.note-was.ensures.noted ∙ ap (noted c.args.row c.args.filled c.args.tx) c.deref_mut.ensures.value in
    let size : length c.note-was.new.entries ≡ old.entries.len = omega (arith, ap length now, length-noted c.args.row c.args.filled c.args.tx old.entries.items, old.entries.ok.0) in
    let items : new.entries.items ≡ c.note-was.new.entries = with_items_is old.entries c.note-was.new.entries size in
    let changes = changes-set is c.in-Some.number new c.args.table c.args.key.now had in
    record { here = changes.here ∙ items ∙ now ∙ ap (noted c.args.row c.args.filled c.args.tx) (sym seen); beside = changes.beside }
