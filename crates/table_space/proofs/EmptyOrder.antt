-- The order of entries without rows is total, and tells apart what differs.
use Rattle.std.proofs.Common.{◌≡◌, ℕ, Option, Some, None, Bool, true, false, refl, ap, sym, ◌∙◌}
use Rattle.std.specs.Option.{option_cmp}
use Rattle.std.specs.declared.cmp.Ordering.{Ordering}
use Rattle.std.specs.declared.cmp.Ordering.TheVariants.{Less, Equal, Greater}
use Rattle.std.specs.Ordering.{nat_cmp, is_lt, ordering_reverse, ordering_then}
use Rattle.std.specs.Cmp.{IsTotalOrder}
use Rattle.std.specs.Cmp.Lexicographic.{nat_list_cmp_total}
use Rattle.std.proofs.lemmas.Cmp.{nat_cmp_total, on_total, then_total, ranked, by_ranked}
use Rattle.std.proofs.lemmas.Bool.{false≢true}
use Rattle.std.proofs.lemmas.Map.Lookups.{exact_bytes}
use Rattle.ids_base.specs.declared.lock.Key.{Key}
use Rattle.table_space.specs.declared.emptied.EmptyEntry.{EmptyEntry}
use Rattle.table_space.specs.Emptied.{empty_cmp}
use Rattle.table_space.specs.Numbers.{key_cmp, name_cmp}
use Rattle.table_space.specs.Ordered.{less}

pub keys_total : IsTotalOrder key_cmp
keys_total = then_total (on_total (λ (k : Key). k.size) nat_cmp_total) (on_total (λ (k : Key). k.bytes) nat_list_cmp_total)

pub names_total : IsTotalOrder name_cmp
names_total = then_total (on_total (λ (q : ℕ × Key). q.0) nat_cmp_total) (on_total (λ (q : ℕ × Key). q.1) keys_total)

-- none stands first
options-turned : (a b : Option ℕ) → option_cmp nat_cmp a b ≡ ordering_reverse (option_cmp nat_cmp b a)
options-turned None None = refl
options-turned None (Some b) = refl
options-turned (Some a) None = refl
options-turned (Some a) (Some b) = nat_cmp_total.antisymm a b

options-chained : (a b c : Option ℕ) → option_cmp nat_cmp a b ≡ Less → option_cmp nat_cmp b c ≡ Less → option_cmp nat_cmp a c ≡ Less
options-chained None b (Some c) p q = refl
options-chained None None None p q = p
options-chained None (Some b) None p q = cc
options-chained (Some a) None c p q = cc
options-chained (Some a) (Some b) None p q = cc
options-chained (Some a) (Some b) (Some c) p q = nat_cmp_total.trans a b c p q

options-tied : (a b c : Option ℕ) → option_cmp nat_cmp a b ≡ Equal → option_cmp nat_cmp a c ≡ option_cmp nat_cmp b c
options-tied None None c e = refl
options-tied None (Some b) c e = cc
options-tied (Some a) None c e = cc
options-tied (Some a) (Some b) None e = refl
options-tied (Some a) (Some b) (Some c) e = nat_cmp_total.congr a b c e

options_total : IsTotalOrder (option_cmp nat_cmp)
options_total = record { antisymm = options-turned; trans = options-chained; congr = options-tied }

pub empty_total : IsTotalOrder empty_cmp
empty_total =
    then_total
    (on_total (λ (e : EmptyEntry). e.tx) nat_cmp_total)
    (then_total
    (on_total (λ (e : EmptyEntry). e.vacant_in) options_total)
    (then_total (on_total (λ (e : EmptyEntry). e.row) nat_cmp_total) (then_total (on_total (λ (e : EmptyEntry). e.table) nat_cmp_total) (on_total (λ (e : EmptyEntry). e.key) keys_total))))

-- two orders one after the other that find no difference
then-equal : (a b : Ordering) → ordering_then a b ≡ Equal → (a ≡ Equal) × (b ≡ Equal)
then-equal Less b e = cc
then-equal Equal b e = (refl, e)
then-equal Greater b e = cc

nats-same : (a b : ℕ) → nat_cmp a b ≡ Equal → a ≡ b
nats-same a b e = by_ranked _ _ _ (nat_cmp a b) (ranked a b (nat_cmp a b) refl) (λ l _. cc) (λ _ h. h) (λ l _. cc)

pub keys-same : (a b : Key) → key_cmp a b ≡ Equal → a ≡ b
keys-same a b e =
    let p = then-equal _ _ e in
    let s = nats-same a.size b.size p.0 in
    let t = exact_bytes a.bytes b.bytes p.1 in
    ap (λ n. record { size = n; bytes = a.bytes }) s ∙ ap (λ l. record { size = b.size; bytes = l }) t

options-same : (a b : Option ℕ) → option_cmp nat_cmp a b ≡ Equal → a ≡ b
options-same None None e = refl
options-same None (Some b) e = cc
options-same (Some a) None e = cc
options-same (Some a) (Some b) e = ap Some (nats-same a b e)

pub empty-same : (a b : EmptyEntry) → empty_cmp a b ≡ Equal → a ≡ b
empty-same a b e =
    let p = then-equal _ _ e in
    let o = then-equal _ _ p.1 in
    let q = then-equal _ _ o.1 in
    let r = then-equal _ _ q.1 in
    let tx = nats-same a.tx b.tx p.0 in
    let vacant_in = options-same a.vacant_in b.vacant_in o.0 in
    let row = nats-same a.row b.row q.0 in
    let table = nats-same a.table b.table r.0 in
    let key = keys-same a.key b.key r.1 in
    λ i. record { tx = tx i; vacant_in = vacant_in i; row = row i; table = table i; key = key i }

-- an order and its reverse that are both not less
not-less : (o p : Ordering) → p ≡ ordering_reverse o → is_lt o ≡ false → is_lt p ≡ false → o ≡ Equal
not-less Less p e a b = cc
not-less Equal p e a b = refl
not-less Greater p e a b = absurd (false≢true (sym b ∙ ap is_lt e))

-- entries of which neither is less are one
pub neither-less : (a b : EmptyEntry) → less empty_cmp a b ≡ false → less empty_cmp b a ≡ false → a ≡ b
neither-less a b p q = empty-same a b (not-less (empty_cmp a b) (empty_cmp b a) (empty_total.antisymm b a) p q)

-- no entry is less than itself
pub not-less-itself : (a : EmptyEntry) → less empty_cmp a a ≡ true → ⊥
not-less-itself a e = itself (empty_cmp a a) (empty_total.antisymm a a) e
  where
    itself : (o : Ordering) → o ≡ ordering_reverse o → is_lt o ≡ true → ⊥
    itself Less p q = absurd (false≢true (ap is_lt (sym p) ∙ refl))
    itself Equal p q = absurd (false≢true q)
    itself Greater p q = absurd (false≢true q)
