use Rattle.std.proofs.Common.{◌≡◌, ◌-◌, ◌+◌, ◌++◌, arith, ap, ◌∙◌, length, take, drop, List, [], ℕ}
use borrow.Rule.Slice.PartMut.{post_of, mid_of}
use Rattle.std.proofs.lemmas.List.{append-nil, drop_all, length-drop, length-take}
use Rattle.std.specs.Int.{w16, w64}
use Rattle.log_records.specs.Spelling.{number_bytes}
use Rattle.log_records.specs.Bodies.{entries_size}
use Rattle.log_records.proofs.BodyReading.{written}
use Rattle.log_records.proofs.Sizes.{length-entries_bytes}
use Rattle.log_records.proofs.body_bytes.body_to_bytes.Goals as goal

pub put_bytes-at-requires : goal.put_bytes-at-requires
put_bytes-at-requires c =
    omega (arith, length-entries_bytes c.args.body.now.entries, ap length c.record_bytes.ensures.bytes, c.used.ensures.room, c.used.ensures.used)

pub returns-clause-bytes : goal.returns-clause-bytes
returns-clause-bytes c =
    let b = c.args.body.now in
    let size : length c.record_bytes.result.now ≡ entries_size b.entries = ap length c.record_bytes.ensures.bytes ∙ length-entries_bytes b.entries in
    let at : c.put_bytes-at.result ≡ 12 + entries_size b.entries = omega (arith, size, c.put_bytes-at.ensures.end, c.put_u16-at-2.ensures.end, c.put_u16-at.ensures.end, c.put_u64-at.ensures.end) in
    let whole : length c.put_bytes-at.new.into ≡ 2047 = omega (arith, c.put_bytes-at.auto.into, c.put_u16-at-2.auto.into, c.put_u16-at.auto.into, c.put_u64-at.auto.into, c.told-into) in
    let left = drop c.put_bytes-at.result c.put_bytes-at.new.into in
    let left_is : length left ≡ 2047 - c.put_bytes-at.result = omega (arith, whole, length-drop c.put_bytes-at.result c.put_bytes-at.new.into) in
    let nothing : post_of c.put_bytes-at.result (2047 - c.put_bytes-at.result) c.put_bytes-at.new.into ≡ [] = drop_all (2047 - c.put_bytes-at.result) left (omega (arith, left_is)) in
    let long : length (mid_of c.put_bytes-at.result (2047 - c.put_bytes-at.result) c.put_bytes-at.new.into) ≡ 2035 - entries_size b.entries = omega (arith, at, left_is, length-take (2047 - c.put_bytes-at.result) left) in
    rw nothing (ap (λ (t : List ℕ). take c.put_bytes-at.result c.put_bytes-at.new.into ++ t) (append-nil c.fill.new.self)
    ∙ written b c.put_u64-at.new.into c.put_u16-at.new.into c.put_u16-at-2.new.into c.put_bytes-at.new.into c.put_u64-at.result c.put_u16-at.result c.put_u16-at-2.result c.put_bytes-at.result
    (length (mid_of c.put_bytes-at.result (2047 - c.put_bytes-at.result) c.put_bytes-at.new.into)) c.fill.new.self
    (c.put_u64-at.ensures.front ∙ ap (number_bytes w64) c.number.ensures)
    (c.put_u16-at.ensures.front ∙ ap (λ (n : ℕ). take c.put_u64-at.result c.put_u64-at.new.into ++ number_bytes w16 n) c.used.ensures.used)
    (c.put_u16-at-2.ensures.front ∙ ap (λ (n : ℕ). take c.put_u16-at.result c.put_u16-at.new.into ++ number_bytes w16 n) c.count.ensures)
    (c.put_bytes-at.ensures.front ∙ ap (λ (t : List ℕ). take c.put_u16-at-2.result c.put_u16-at-2.new.into ++ t) c.record_bytes.ensures.bytes)
    long (c.fill.ensures.after (λ y e. e)))
