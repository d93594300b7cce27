use Rattle.std.proofs.Common.{◌≡◌, eqb, List, ℕ, drop, take, refl, sym, ap, ◌∙◌, arith}
use Rattle.std.specs.Prelude.{is_some}
use Rattle.std.specs.List.{list_all}
use Rattle.log_records.specs.Bodies.{whole_at}
use Rattle.log_records.proofs.BodyReading.{too_long, too_few, other_length, not_zero, looked_at, none_is, accepts}
use Rattle.log_records.proofs.block_body.BlockBody.from_records.Goals as goal
use Rattle.log_records.proofs.block_body.BlockBody.from_records.Goals.{then-used-gt2004-via-then-used-gt2004, then-used-gt2004-via-else-used-gt2004+then-count-lt1, then-used-gt2004-via-else-used-gt2004+else-count-lt1+then-bytes-ne2035}
use Rattle.log_records.proofs.block_body.BlockBody.from_records.Goals.{then-not-are_zero-via-then-not-are_zero, then-not-are_zero-via-else-not-are_zero+then-not-are_records}

pub returns-then-used-gt2004 : goal.returns-then-used-gt2004
returns-then-used-gt2004 c =
    elim c.then-used-gt2004.branch [
      | then-used-gt2004-via-then-used-gt2004 w ↦ rw (too_long c.args.used c.args.count c.args.bytes.now w.if-used-gt2004.true) refl
      | then-used-gt2004-via-else-used-gt2004+then-count-lt1 w ↦ rw (too_few c.args.used c.args.count c.args.bytes.now w.if-used-gt2004.false w.if-count-lt1.true) refl
      | then-used-gt2004-via-else-used-gt2004+else-count-lt1+then-bytes-ne2035 w ↦ rw (other_length c.args.used c.args.count c.args.bytes.now w.if-used-gt2004.false w.if-count-lt1.false w.if-bytes-ne2035.true) refl
    ]

pub returns-then-not-are_zero : goal.returns-then-not-are_zero
returns-then-not-are_zero c =
    let back : list_all (λ b. eqb b 0) (drop c.args.used c.args.bytes.now) ≡ c.are_zero.result = ap (list_all (λ b. eqb b 0)) (sym c.split_at.ensures.back) ∙ sym c.are_zero.ensures in
    elim c.then-not-are_zero.branch [
      | then-not-are_zero-via-then-not-are_zero w ↦
          rw (not_zero c.args.used c.args.count c.args.bytes.now c.if-used-gt2004.false c.if-count-lt1.false c.if-bytes-ne2035.false (back ∙ w.if-not-are_zero.true)) refl
      | then-not-are_zero-via-else-not-are_zero+then-not-are_records w ↦
          let front : is_some (whole_at c.args.count (take c.args.used c.args.bytes.now)) ≡ w.are_records.result = ap (λ (t : List ℕ). is_some (whole_at c.args.count t)) (sym c.split_at.ensures.front) ∙ sym w.are_records.ensures in
          rw (looked_at c.args.used c.args.count c.args.bytes.now c.if-used-gt2004.false c.if-count-lt1.false c.if-bytes-ne2035.false (back ∙ w.if-not-are_zero.false), none_is (whole_at c.args.count (take c.args.used c.args.bytes.now)) (front ∙ w.if-not-are_records.true)) refl
    ]

pub invariant_of-result : goal.invariant_of-result
invariant_of-result c =
    let front : is_some (whole_at c.args.count (take c.args.used c.args.bytes.now)) ≡ c.are_records.result = ap (λ (t : List ℕ). is_some (whole_at c.args.count t)) (sym c.split_at.ensures.front) ∙ sym c.are_records.ensures in
    let same : take c.args.used c.padded.result ≡ take c.args.used c.args.bytes.now = ap (λ (n : ℕ). take n c.padded.result) (sym c.split_at.ensures.front_len) ∙ c.padded.ensures.front ∙ c.split_at.ensures.front in
    (accepts c.args.used c.args.count c.args.bytes.now c.padded.result (λ i. omega (arith, c.type_inv.bytes i)) c.if-used-gt2004.false (front ∙ c.if-not-are_records.false) c.padded.ensures.long same).keeps

pub returns : goal.returns
returns c =
    let back : list_all (λ b. eqb b 0) (drop c.args.used c.args.bytes.now) ≡ c.are_zero.result = ap (list_all (λ b. eqb b 0)) (sym c.split_at.ensures.back) ∙ sym c.are_zero.ensures in
    let front : is_some (whole_at c.args.count (take c.args.used c.args.bytes.now)) ≡ c.are_records.result = ap (λ (t : List ℕ). is_some (whole_at c.args.count t)) (sym c.split_at.ensures.front) ∙ sym c.are_records.ensures in
    let same : take c.args.used c.padded.result ≡ take c.args.used c.args.bytes.now = ap (λ (n : ℕ). take n c.padded.result) (sym c.split_at.ensures.front_len) ∙ c.padded.ensures.front ∙ c.split_at.ensures.front in
    let a = accepts c.args.used c.args.count c.args.bytes.now c.padded.result (λ i. omega (arith, c.type_inv.bytes i)) c.if-used-gt2004.false (front ∙ c.if-not-are_records.false) c.padded.ensures.long same in
    rw (looked_at c.args.used c.args.count c.args.bytes.now c.if-used-gt2004.false c.if-count-lt1.false c.if-bytes-ne2035.false (back ∙ c.if-not-are_zero.false), a.read) refl
