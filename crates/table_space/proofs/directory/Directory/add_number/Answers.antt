use Rattle.std.proofs.Common.{◌≡◌, ◌<◌, List, length, ap, ◌∙◌, arith}
use Rattle.table_space.specs.declared.entry.Keyed.{Keyed}
use Rattle.table_space.specs.Numbers.{Numbers, number_of, entries_in, entries_under}
use Rattle.table_space.proofs.Indexing.{indexed-push, same-push, slot-last}
use Rattle.table_space.proofs.Counts.{counts-push}
use Rattle.table_space.proofs.directory.Directory.add_number.Goals as goal

pub invariant_of-self-2 : goal.invariant_of-self-2
invariant_of-self-2 c =
    let new : Keyed = record { table = c.args.table; key = c.args.key.now; entries = c.new.result } in
    let last : c.len-number.result ≡ length c.make_room.new.self.listed.items = omega (arith, c.len-number.ensures, ap (λ v. length v.items) c.in_ok-make_room.ensures.listed, c.args.self.now.listed.ok.0) in
    let room : length c.make_room.new.self.listed.items < length c.make_room.new.self.marks = omega (arith, last, c.in_ok-make_room.ensures.room) in
    record {
      indexed = rw (c.set.ensures, c.in_ok-push.ensures.items, last) (indexed-push c.make_room.new.self.indexed new c.marks_of-marks.result room c.new.ensures.items (rw c.new.ensures.items c.marks_of-marks.ensures));
      counted = rw c.in_ok-push.ensures.items (counts-push c.make_room.new.self.slots c.make_room.new.self.listed.items new c.new.ensures.items c.make_room.new.self.counted);
    }

pub returns-clause-free : goal.returns-clause-free
returns-clause-free c =
    let new : Keyed = record { table = c.args.table; key = c.args.key.now; entries = c.new.result } in
    let last : c.len-number.result ≡ length c.make_room.new.self.listed.items = omega (arith, c.len-number.ensures, ap (λ v. length v.items) c.in_ok-make_room.ensures.listed, c.args.self.now.listed.ok.0) in
    rw (c.in_ok-push.ensures.items, last) (ap entries_in (slot-last c.make_room.new.self.listed.items new) ∙ c.new.ensures.items)

pub returns-clause-same : goal.returns-clause-same
returns-clause-same c =
    let new : Keyed = record { table = c.args.table; key = c.args.key.now; entries = c.new.result } in
    λ t k.
    rw c.in_ok-push.ensures.items
    (same-push c.make_room.new.self.indexed new t k
    ∙ ap (λ (ls : List Keyed). entries_under ls (number_of c.make_room.new.self.numbers t k)) (ap (λ v. v.items) c.in_ok-make_room.ensures.listed)
    ∙ ap (λ (m : Numbers). entries_under c.args.self.now.listed.items (number_of m t k)) c.in_ok-make_room.ensures.numbers)
