use Rattle.std.proofs.Common.{◌≡◌, ◌≢◌, ◌<◌, ◌++◌, ◌∷◌, [], List, length, ap, sym, ◌∙◌, refl, Some}
use Rattle.std.specs.List.{slice_get}
use Rattle.std.proofs.lemmas.Option.{slice_get_read}
use Rattle.table_space.specs.declared.entry.Keyed.{Keyed}
use Rattle.table_space.specs.declared.entry.Entry.{Entry}
use Rattle.table_space.specs.Numbers.{number_of, entries_in, entries_under}
use Rattle.table_space.specs.Noted.{made}
use Rattle.table_space.proofs.Indexing.{number-within, indexed-relist, indexed-same, changes-set, changes-same, push-some, always_err}
use Rattle.table_space.proofs.Counts.{counts-same, counts-entered}
use Rattle.table_space.proofs.directory.Directory.enter_under.Goals as goal

pub invariant_of-self : goal.invariant_of-self
invariant_of-self c =
    let is = c.args.self.now.indexed in
    let old : Keyed = c.index_mut-keyed.result.now in
    let new : Keyed = record { table = old.table; key = old.key; entries = c.push.new.self } in
    let lt : c.args.number < length c.args.self.now.listed.items = number-within is c.args.table c.args.key.now c.args.number c.requires in
    let at : slice_get c.args.self.now.listed.items c.args.number ≡ Some old = slice_get_read c.args.self.now.listed.items (length c.args.self.now.listed.items) c.args.number old refl lt c.index_mut-keyed.ensures.value in
    record {
      indexed = indexed-same is c.args.number old new c.args.table c.args.key.now c.requires at refl refl c.in_err-push.ensures.items;
      counted = counts-same c.args.self.now.slots c.args.self.now.listed.items c.args.number new lt c.args.self.now.counted old at c.in_err-push.ensures.items;
    }

pub returns-in_err-push-clause-err : goal.returns-in_err-push-clause-err
returns-in_err-push-clause-err c =
    let is = c.args.self.now.indexed in
    let old : Keyed = c.index_mut-keyed.result.now in
    let new : Keyed = record { table = old.table; key = old.key; entries = c.push.new.self } in
    let lt : c.args.number < length c.args.self.now.listed.items = number-within is c.args.table c.args.key.now c.args.number c.requires in
    let at : slice_get c.args.self.now.listed.items c.args.number ≡ Some old = slice_get_read c.args.self.now.listed.items (length c.args.self.now.listed.items) c.args.number old refl lt c.index_mut-keyed.ensures.value in
    always_err c.from_residual.result (changes-same is c.args.number old new c.args.table c.args.key.now c.requires at c.in_err-push.ensures.items)

pub invariant_of-self-2 : goal.invariant_of-self-2
invariant_of-self-2 c =
    let is = c.args.self.now.indexed in
    let old : Keyed = c.index_mut-keyed.result.now in
    let new : Keyed = record { table = old.table; key = old.key; entries = c.push.new.self } in
    let lt : c.args.number < length c.args.self.now.listed.items = number-within is c.args.table c.args.key.now c.args.number c.requires in
    let at : slice_get c.args.self.now.listed.items c.args.number ≡ Some old = slice_get_read c.args.self.now.listed.items (length c.args.self.now.listed.items) c.args.number old refl lt c.index_mut-keyed.ensures.value in
    let some : c.push.new.self.items ≢ [] = λ none. push-some old.entries.items c.made.result (sym c.in_ok-push.ensures.items ∙ none) in
    let more : c.push.new.self.items ≡ old.entries.items ++ made c.args.tx ∷ [] = c.in_ok-push.ensures.items ∙ ap (λ (e : Entry). old.entries.items ++ e ∷ []) c.made.ensures in
    record {
      indexed = rw c.set.ensures (indexed-relist is c.args.number old new c.marks_of-marks.result c.args.table c.args.key.now c.requires at refl refl some (rw c.as_slice.ensures.value at c.marks_of-marks.ensures));
      counted = counts-entered c.args.self.now.slots c.args.self.now.listed.items c.args.number new lt c.args.self.now.counted old.entries.items c.args.tx (ap entries_in at) more;
    }

pub returns-clause-entered : goal.returns-clause-entered
returns-clause-entered c =
    let is = c.args.self.now.indexed in
    let old : Keyed = c.index_mut-keyed.result.now in
    let new : Keyed = record { table = old.table; key = old.key; entries = c.push.new.self } in
    let lt : c.args.number < length c.args.self.now.listed.items = number-within is c.args.table c.args.key.now c.args.number c.requires in
    let at : slice_get c.args.self.now.listed.items c.args.number ≡ Some old = slice_get_read c.args.self.now.listed.items (length c.args.self.now.listed.items) c.args.number old refl lt c.index_mut-keyed.ensures.value in
    let seen : entries_under c.args.self.now.listed.items (number_of c.args.self.now.numbers c.args.table c.args.key.now) ≡ old.entries.items = ap (entries_under c.args.self.now.listed.items) c.requires ∙ ap entries_in at in
    let changes = changes-set is c.args.number new c.args.table c.args.key.now c.requires in
    let more : c.push.new.self.items ≡ old.entries.items ++ made c.args.tx ∷ [] = c.in_ok-push.ensures.items ∙ ap (λ (e : Entry). old.entries.items ++ e ∷ []) c.made.ensures in
    record { here = changes.here ∙ more ∙ ap (λ (es : List Entry). es ++ made c.args.tx ∷ []) (sym seen); beside = changes.beside }
