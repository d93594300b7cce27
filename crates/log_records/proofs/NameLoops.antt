-- Reading named transactions one after another, as a loop does.
use Rattle.std.proofs.Common.{◌≡◌, ℕ, suc, ◌-◌, ◌+◌, ◌*◌, ◌≤◌, ◌<◌, true, leb, List, [], ◌∷◌, length, take, Option, Some, None, refl, sym, ap, ◌∙◌, length-append, arith}
use Rattle.std.specs.List.{flat_map}
use Rattle.std.proofs.lemmas.List.{take_at}
use Rattle.std.specs.Prelude.{option_map}
use Rattle.std.specs.Option.{option_map_or}
use Rattle.std.specs.Int.{w16}
use Rattle.std.proofs.lemmas.Bool.{le-leb}
use Rattle.std.proofs.lemmas.Option.{same_Some}
use Rattle.log_records.specs.Entries.{Named, Ckpoint}
use Rattle.log_records.specs.Reading.{◌>>=◌, number_at, next_at, names_at, list_at, checkpoint_at}
use Rattle.log_records.specs.Spelling.{AreBytes, named_bytes}
use Rattle.log_records.specs.Lying.{names_of, AreLying}
use Rattle.log_records.proofs.NamedFields.{names_take}
use Rattle.log_records.proofs.Sizes.{length-names}

-- the bytes behind what is read
abbrev pub behind : {A : Type 0} → Option (A × List ℕ) → Option (List ℕ)
behind read = option_map (λ x. x.1) read

behind-cons : (n : Named) (read : Option (List Named × List ℕ)) → behind (read >>= λ x. Some (n ∷ x.0, x.1)) ≡ behind read
behind-cons n (Some x) = refl
behind-cons n None = refl

pub names_go_on : (count i : ℕ) (last : Option ℕ) (bytes : List ℕ) (n : Named) (after : List ℕ) (total : Option (List ℕ)) → i < count → next_at last bytes ≡ Some (n, after)
    → behind (names_at (count - i) last bytes) ≡ total → behind (names_at (count - (i + 1)) (Some n.tx) after) ≡ total
unfolding names_at
names_go_on count i last bytes n after total lt h so_far =
    let k : count - i ≡ suc (count - (i + 1)) = omega arith in
    let one : behind (names_at (count - i) last bytes) ≡ behind (names_at (count - (i + 1)) (Some n.tx) after) = rw (k, h) (behind-cons n (names_at (count - (i + 1)) (Some n.tx) after)) in
    sym one ∙ so_far

pub names_stop : (count i : ℕ) (last : Option ℕ) (bytes : List ℕ) (total : Option (List ℕ)) → i < count → next_at last bytes ≡ None
    → behind (names_at (count - i) last bytes) ≡ total → total ≡ None
unfolding names_at
names_stop count i last bytes total lt h so_far =
    let k : count - i ≡ suc (count - (i + 1)) = omega arith in
    let one : behind (names_at (count - i) last bytes) ≡ None = rw (k, h) refl in
    sym so_far ∙ one

pub names_done : (count i : ℕ) (last : Option ℕ) (bytes : List ℕ) (total : Option (List ℕ)) → count ≤ i → behind (names_at (count - i) last bytes) ≡ total → total ≡ Some bytes
unfolding names_at
names_done count i last bytes total le so_far =
    let k : count - i ≡ 0 = omega arith in
    let one : behind (names_at (count - i) last bytes) ≡ Some bytes = rw k refl in
    sym so_far ∙ one

read_is : (read : Option (List Named × List ℕ)) (rest : List ℕ) → behind read ≡ Some rest → read ≡ Some (option_map_or (λ found. found.0) read [], rest)
read_is (Some x) rest e = ap (λ (t : List ℕ). Some (x.0, t)) (same_Some x.1 rest e)
read_is None rest e = absurd cc

-- what is read where the bytes behind it are known
pub names_are : (count : ℕ) (bytes rest : List ℕ) → behind (names_at count None bytes) ≡ Some rest → names_at count None bytes ≡ Some (names_of count bytes, rest)
unfolding names_of
names_are count bytes rest e = read_is (names_at count None bytes) rest e

pub checkpoint_is : (bytes : List ℕ) (count : ℕ) (names rest : List ℕ) → number_at w16 bytes ≡ Some (count, names) → count ≤ 64 → behind (names_at count None names) ≡ Some rest
    → checkpoint_at bytes ≡ Some (Ckpoint (names_of count names), rest)
unfolding checkpoint_at list_at
checkpoint_is bytes count names rest counted few e =
    let small : leb count 64 ≡ true = le-leb _ _ few in
    rw (counted, small, names_are count names rest e) refl

-- names that were passed over lie there
pub are_lying : (count : ℕ) (bytes rest : List ℕ) → AreBytes bytes → count ≤ 64 → behind (names_at count None bytes) ≡ Some rest → AreLying count bytes
are_lying count bytes rest fits few e =
    let ns = names_of count bytes in
    let read = names_are count bytes rest e in
    let t = names_take count None bytes ns rest fits read in
    let long : length (flat_map named_bytes ns) ≡ 18 * count = omega (arith, length-names ns, t.1) in
    record {
      read = rw read refl;
      counted = t.1;
      named = record { few = omega (arith, t.1, few); rising = t.2; each = t.3 };
      within = omega (arith, ap length t.0.parts, length-append (flat_map named_bytes ns) rest, long);
      spelled = ap (take (18 * count)) t.0.parts ∙ take_at (flat_map named_bytes ns) rest (18 * count) long;
    }
