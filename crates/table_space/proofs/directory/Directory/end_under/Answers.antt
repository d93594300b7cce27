use Rattle.std.proofs.Common.{◌≡◌, ◌<◌, length, ap, ◌∙◌, refl, Some, rules, arith}
use Rattle.std.specs.List.{slice_get, filter}
use Rattle.std.proofs.Math.ListN.{length-set}
use Rattle.std.proofs.lemmas.Option.{slice_get_read}
use Rattle.std.proofs.lemmas.Fn.{filter_same}
use Rattle.table_space.specs.declared.entry.Keyed.{Keyed}
use Rattle.table_space.specs.Entries.{stays}
use Rattle.table_space.proofs.EndingUnder.{IsUnnamed, indexed-ended, seen-ended, seen-beside, unnamed-none}
use Rattle.table_space.proofs.Counts.{counts-ended}
use Rattle.table_space.proofs.directory.Directory.end_under.Goals as goal

pub invariant_of-self-2 : goal.invariant_of-self-2
invariant_of-self-2 c =
    let was = c.args.self.now in
    let old : Keyed = c.index_mut-keyed.result.now in
    let new : Keyed = record { table = old.table; key = old.key; entries = c.retain.new.self } in
    let lt : c.args.number < length was.listed.items = omega (arith, c.if-number-len.false, c.len.ensures) in
    let at : slice_get was.listed.items c.args.number ≡ Some old = slice_get_read was.listed.items (length was.listed.items) c.args.number old refl lt c.index_mut-keyed.ensures.value in
    let items : c.retain.new.self.items ≡ filter (stays c.args.tx) old.entries.items = filter_same _ (stays c.args.tx) _ (λ x r f' k. search rules) _ _ c.retain.ensures.filtered in
    let un : IsUnnamed was.numbers c.unname.new.numbers new c.args.number = record { others = c.unname.ensures.others; kept = c.unname.ensures.kept; gone = c.unname.ensures.gone; same = c.unname.ensures.same } in
    record {
      indexed = rw c.set.ensures (indexed-ended was.numbers c.unname.new.numbers was.listed.items was.marks was.indexed c.args.number old new c.args.tx at lt refl refl items un c.marks_of-marks.result (rw c.as_slice-2.ensures.value at c.marks_of-marks.ensures));
      counted = counts-ended was.slots was.listed.items c.args.number new lt was.counted c.end.new.self old c.args.tx at items (rw c.as_slice.ensures.value at c.end.ensures);
    }

pub returns : goal.returns
returns c =
    let was = c.args.self.now in
    let old : Keyed = c.index_mut-keyed.result.now in
    let new : Keyed = record { table = old.table; key = old.key; entries = c.retain.new.self } in
    let lt : c.args.number < length was.listed.items = omega (arith, c.if-number-len.false, c.len.ensures) in
    let at : slice_get was.listed.items c.args.number ≡ Some old = slice_get_read was.listed.items (length was.listed.items) c.args.number old refl lt c.index_mut-keyed.ensures.value in
    let items : c.retain.new.self.items ≡ filter (stays c.args.tx) old.entries.items = filter_same _ (stays c.args.tx) _ (λ x r f' k. search rules) _ _ c.retain.ensures.filtered in
    let un : IsUnnamed was.numbers c.unname.new.numbers new c.args.number = record { others = c.unname.ensures.others; kept = c.unname.ensures.kept; gone = c.unname.ensures.gone; same = c.unname.ensures.same } in
    record {
      ended = seen-ended was.numbers c.unname.new.numbers was.listed.items was.marks was.indexed c.args.number old new c.args.tx at lt refl refl items un;
      beside = λ t k n ne e. (un.others t k n ne e, seen-beside was.numbers c.unname.new.numbers was.listed.items was.marks was.indexed c.args.number old new c.args.tx at lt refl refl items un t k n ne e);
      unnamed = unnamed-none was.numbers c.unname.new.numbers was.listed.items was.marks was.indexed c.args.number old new c.args.tx at lt refl refl items un;
      room = ap length c.set.ensures ∙ length-set was.marks c.args.number c.marks_of-marks.result;
    }
