-- A body says one layout, or one checkpoint.
use Rattle.std.proofs.Common.{◌≡◌, ◌<◌, ◌^◌, ℕ, List, take, drop, get_or, Bool, true, false, refl, sym, ◌∙◌, ap, arith, Some, None, if◌then◌else◌}
use Rattle.std.specs.Int.{w16, w32, w64, to_be_bytes, from_be_bytes}
use Rattle.std.proofs.lemmas.Nat.{from_be_bytes-to_be_bytes_2, from_be_bytes-to_be_bytes_4, from_be_bytes-to_be_bytes_8}
use lib.Dec.{eqb}
use Rattle.chunk_map.specs.Layouts.{IsLayout, identity_body}
use Rattle.chunk_map.specs.Checkpoints.{IsCheckpoint, checkpoint_body}
use Rattle.chunk_map.specs.declared.layout.Layout.{Layout}
use Rattle.chunk_map.specs.declared.checkpoint.CheckpointPage.{CheckpointPage}

pub zero_where : (b : Bool) → eqb (if b then 0 else 1) 0 ≡ b
zero_where true = refl
zero_where false = refl

-- the block that an open page is
pub block_where : (b : Bool) (o : List ℕ) → b ≡ true → (if b then Some o else None) ≡ Some o
block_where b o is = ap (λ (v : Bool). if v then Some o else None) is

-- numbers with the same bytes
same_two : (m n : ℕ) → m < 2 ^ 16 → n < 2 ^ 16 → to_be_bytes w16 m ≡ to_be_bytes w16 n → m ≡ n
same_two m n m_fits n_fits same = sym (from_be_bytes-to_be_bytes_2 m m_fits) ∙ ap (λ (l : List ℕ). from_be_bytes w16 l) same ∙ from_be_bytes-to_be_bytes_2 n n_fits

same_four : (m n : ℕ) → m < 2 ^ 32 → n < 2 ^ 32 → to_be_bytes w32 m ≡ to_be_bytes w32 n → m ≡ n
same_four m n m_fits n_fits same = sym (from_be_bytes-to_be_bytes_4 m m_fits) ∙ ap (λ (l : List ℕ). from_be_bytes w32 l) same ∙ from_be_bytes-to_be_bytes_4 n n_fits

same_eight : (m n : ℕ) → m < 2 ^ 64 → n < 2 ^ 64 → to_be_bytes w64 m ≡ to_be_bytes w64 n → m ≡ n
same_eight m n m_fits n_fits same = sym (from_be_bytes-to_be_bytes_8 m m_fits) ∙ ap (λ (l : List ℕ). from_be_bytes w64 l) same ∙ from_be_bytes-to_be_bytes_8 n n_fits

pub same_checkpoint : (p q : CheckpointPage) → IsCheckpoint p → IsCheckpoint q → checkpoint_body p ≡ checkpoint_body q → p ≡ q
unfolding checkpoint_body
same_checkpoint p q first second same =
    let number : p.number ≡ q.number = same_eight p.number q.number first.fits.number second.fits.number (ap (λ (l : List ℕ). take 8 l) same) in
    let quiet : p.quiet ≡ q.quiet = sym (zero_where p.quiet) ∙ ap (λ (l : List ℕ). eqb (get_or l 8 0) 0) same ∙ zero_where q.quiet in
    let block : p.start.block ≡ q.start.block = same_eight p.start.block q.start.block first.fits.block second.fits.block (ap (λ (l : List ℕ). take 8 (drop 9 l)) same) in
    let index : p.start.index ≡ q.start.index = same_two p.start.index q.start.index first.fits.index second.fits.index (ap (λ (l : List ℕ). take 2 (drop 17 l)) same) in
    (λ i. record { number = number i; quiet = quiet i; start = record { block = block i; index = index i } })

pub same_layout : (l m : Layout) → IsLayout l → IsLayout m → identity_body l ≡ identity_body m → l ≡ m
unfolding identity_body
same_layout l m first second same =
    let phys : l.phys ≡ m.phys = same_four l.phys m.phys (omega (arith, first.phys.1)) (omega (arith, second.phys.1)) (ap (λ (b : List ℕ). take 4 (drop 6 b)) same) in
    let logs : l.logs ≡ m.logs = same_four l.logs m.logs (omega (arith, first.logs.1)) (omega (arith, second.logs.1)) (ap (λ (b : List ℕ). take 4 (drop 10 b)) same) in
    let log_size : l.log_size ≡ m.log_size = same_four l.log_size m.log_size (omega (arith, first.log_size.1)) (omega (arith, second.log_size.1)) (ap (λ (b : List ℕ). take 4 (drop 14 b)) same) in
    let chunks : l.chunks ≡ m.chunks = same_four l.chunks m.chunks (omega (arith, first.chunks.1)) (omega (arith, second.chunks.1)) (ap (λ (b : List ℕ). take 4 (drop 18 b)) same) in
    let pages : l.data_pages ≡ m.data_pages = same_four l.data_pages m.data_pages (omega (arith, first.data_pages.1)) (omega (arith, second.data_pages.1)) (ap (λ (b : List ℕ). take 4 (drop 22 b)) same) in
    let root : l.root ≡ m.root = same_four l.root m.root (omega (arith, first.root)) (omega (arith, second.root)) (ap (λ (b : List ℕ). take 4 (drop 26 b)) same) in
    (λ i. record { phys = phys i; logs = logs i; log_size = log_size i; chunks = chunks i; data_pages = pages i; root = root i })
