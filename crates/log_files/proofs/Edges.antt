-- Where the files of a ring begin.
use Rattle.std.proofs.Common.{◌≡◌, ℕ, zero, suc, ◌+◌, ◌-◌, ◌*◌, ◌/◌, ◌%◌, ◌<◌, ◌≤◌, ◌⊎◌, inl, inr, max, ap, subst, sym, ◌∙◌, arith}
use Rattle.std.proofs.Math.Nat.{div-add-mod}
use Rattle.std.proofs.lemmas.Nat.{mod-mul-add}
use Rattle.log_files.specs.Files.{Files, IsRing, file_start, file_end}
use Rattle.log_files.proofs.Rings.{mod_below}

order : (a b : ℕ) → (a < b) ⊎ (b ≤ a)
order a b = grind arith

module _ (f : Files) (ring : IsRing f) where
  -- a file has blocks
  pub some_blocks : 0 < f.file_blocks
  some_blocks = some f.file_blocks ring.whole.1
    where
      some : (k : ℕ) → f.region.count ≡ ring.whole.0 * k → 0 < k
      some zero is = absurd (omega (arith, ring.some, is))
      some (suc k) is = omega arith

  -- block 1 and each whole number of files behind it begin a file
  at_edge : (q b : ℕ) → b ≡ q * f.file_blocks + 1 → file_start f b ≡ b
  at_edge q b is =
      let e : b - 1 ≡ q * f.file_blocks + 0 = omega (arith, is) in
      let none : (b - 1) % f.file_blocks ≡ 0 = ap (λ (m : ℕ). m % f.file_blocks) e ∙ mod-mul-add q f.file_blocks 0 some_blocks in
      omega (arith, none)

  start_is : (b : ℕ) → 1 ≤ b → file_start f b ≡ ((b - 1) / f.file_blocks) * f.file_blocks + 1
  start_is b some = omega (arith, div-add-mod (b - 1) f.file_blocks, some)

  -- a block stands in its file
  pub start_within : (b : ℕ) → 1 ≤ b → (1 ≤ file_start f b) × (file_start f b ≤ b) × (b < file_end f b)
  start_within b some =
      let below = mod_below f.file_blocks (b - 1) some_blocks in
      (omega (arith, start_is b some), omega arith, omega (arith, below, some, start_is b some))

  -- the first block of a file begins it
  pub end_edge : (b : ℕ) → 1 ≤ b → file_start f (file_end f b) ≡ file_end f b
  end_edge b some = at_edge (suc ((b - 1) / f.file_blocks)) (file_end f b) (omega (arith, start_is b some))

  -- and so does the one that stands at its place a turn later
  pub turn_edge : (b : ℕ) → 1 ≤ b → file_start f (file_start f b + f.region.count) ≡ file_start f b + f.region.count
  turn_edge b some = at_edge (((b - 1) / f.file_blocks) + ring.whole.0) (file_start f b + f.region.count) (omega (arith, start_is b some, ring.whole.1))

  -- the files whose limit is that of all free blocks, or the end of its file, are a ring
  pub ring_all : (l : ℕ) → l ≡ max (file_start f f.first + f.region.count) f.next → IsRing (record f { limit = l })
  ring_all l is = record {
    some = ring.some;
    whole = ring.whole;
    counted = ring.counted;
    order = ring.order;
    free = omega (arith, is);
    once = omega (arith, is, start_within f.first ring.counted, ring.free, ring.once);
    edge = elim (order (file_start f f.first + f.region.count) f.next) [
      | inl less ↦ inl (omega (arith, is, less))
      | inr more ↦ let turn : l ≡ file_start f f.first + f.region.count = omega (arith, is, more) in inr (subst (λ (n : ℕ). file_start f n ≡ n) (sym turn) (turn_edge f.first ring.counted))
    ];
    fits = ring.fits;
  }

  pub ring_next : (l : ℕ) → l ≡ file_end f f.limit → file_end f f.limit ≤ f.first + f.region.count → IsRing (record f { limit = l })
  ring_next l is room =
      let counted : 1 ≤ f.limit = omega (arith, ring.counted, ring.order, ring.free) in
      record {
        some = ring.some;
        whole = ring.whole;
        counted = ring.counted;
        order = ring.order;
        free = omega (arith, is, (start_within f.limit counted).2, ring.free);
        once = omega (arith, is, room);
        edge = inr (subst (λ (n : ℕ). file_start f n ≡ n) (sym is) (end_edge f.limit counted));
        fits = ring.fits;
      }
