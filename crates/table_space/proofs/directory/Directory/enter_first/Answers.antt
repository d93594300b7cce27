use Rattle.std.proofs.Common.{◌≡◌, ◌≢◌, ◌++◌, ◌∷◌, [], List, ap, sym, ◌∙◌}
use Rattle.table_space.specs.declared.entry.Keyed.{Keyed}
use Rattle.table_space.specs.declared.entry.Entry.{Entry}
use Rattle.table_space.specs.Noted.{made}
use Rattle.table_space.proofs.Indexing.{indexed-first, changes-first, push-some}
use Rattle.table_space.proofs.Counts.{counts-entered}
use Rattle.table_space.proofs.directory.Directory.enter_first.Goals as goal

pub invariant_of-self-2 : goal.invariant_of-self-2
invariant_of-self-2 c =
    let new : Keyed = record { table = c.args.table; key = c.args.key.now; entries = c.push.new.self } in
    let some : c.push.new.self.items ≢ [] = λ none. push-some c.new-entries.result.items c.made.result (sym c.in_ok-push.ensures.items ∙ none) in
    let only : c.push.new.self.items ≡ made c.args.tx ∷ [] = c.in_ok-push.ensures.items ∙ ap (λ (es : List Entry). es ++ c.made.result ∷ []) c.new-entries.ensures.items ∙ ap (λ (e : Entry). e ∷ []) c.made.ensures in
    record {
      indexed = rw c.set.ensures (indexed-first c.args.self.now.indexed c.insert.new.self c.args.number new c.marks_of-marks.result c.requires.there c.requires.free c.requires.unnamed c.in_ok-insert.ensures.updates.0 c.in_ok-insert.ensures.updates.1 some (rw c.as_slice.ensures.value at c.marks_of-marks.ensures));
      counted = counts-entered c.args.self.now.slots c.args.self.now.listed.items c.args.number new c.requires.there c.args.self.now.counted [] c.args.tx c.requires.free only;
    }

pub returns-clause-entered : goal.returns-clause-entered
returns-clause-entered c =
    let new : Keyed = record { table = c.args.table; key = c.args.key.now; entries = c.push.new.self } in
    let changes = changes-first c.args.self.now.indexed c.insert.new.self c.args.number new c.requires.there c.requires.free c.in_ok-insert.ensures.updates.0 c.in_ok-insert.ensures.updates.1 in
    let only : c.push.new.self.items ≡ made c.args.tx ∷ [] = c.in_ok-push.ensures.items ∙ ap (λ (es : List Entry). es ++ c.made.result ∷ []) c.new-entries.ensures.items ∙ ap (λ (e : Entry). e ∷ []) c.made.ensures in
    record { here = changes.here ∙ only; beside = changes.beside }
