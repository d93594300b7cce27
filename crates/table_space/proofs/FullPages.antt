-- The pages whose slots are known to be taken, where entries and owners change.
use Rattle.std.proofs.Common.{◌≡◌, ◌≢◌, ℕ, zero, suc, replicate, ◌+◌, ◌-◌, ◌<◌, ◌≤◌, min, refl, ap, sym, ◌∙◌, List, length, set, Option, Some, None, arith, inl, inr, slice_index_or, get_or-set_same, get_or-set_other}
use Rattle.std.specs.Prelude.{MatchOption}
use Rattle.std.proofs.Math.ListN.{length-set}
use Rattle.std.proofs.lemmas.Bool.{cases_eq}
use Rattle.ids_base.specs.RowIds.{row_number}
use Rattle.table_space.specs.declared.reserves.Reserves.{Reserves}
use Rattle.table_space.specs.declared.rooms.Rooms.{Rooms}
use Rattle.table_space.specs.Seen.{Entries}
use Rattle.table_space.specs.Fronts.{AreTaken}
use Rattle.table_space.specs.Reserves.{AreReserves, HasNoPlaceMark, IsNextFor}
use Rattle.table_space.specs.Rooms.{known_taken, AreKnown, IsNextRoom, AreRooms, AreNoMore, AreFull, IsNextPage}
use Rattle.table_space.proofs.Fronts.{Stays, taken-blocked}

-- the entries change, and each slot that was taken is so
pub rooms-stay : {was now : Entries} (os : List (Option ℕ)) (rooms : Rooms) → ((row : ℕ) → Stays was now row) → AreRooms was os rooms → AreRooms now os rooms
rooms-stay os rooms stay is = λ p t some last own slot low high small. (stay (row_number p slot)).taken (is p t some last own slot low high small)

-- no more is known
pub rooms-less : {entries : Entries} (os : List (Option ℕ)) (was now : Rooms) → AreNoMore os was now → AreRooms entries os was → AreRooms entries os now
rooms-less os was now less is = λ p t some last own slot low high small. is p t some last own slot low (omega (arith, high, less p t some last own)) small

-- a slot of a page is noted, and the page is the table's
pub rooms-noted : {was now : Entries} (os : List (Option ℕ)) (rooms rooms' : Rooms) (page slot table last : ℕ) → 1 ≤ page → page ≤ length os → slot < 256
    → ((other : ℕ) → other ≢ row_number page slot → Stays was now other) → AreRooms was os rooms → AreTaken now page last
    → known_taken rooms' table page ≤ last → ((p t : ℕ) → 1 ≤ p → p ≢ page → known_taken rooms' t p ≤ known_taken rooms t p)
    → AreRooms now (set os (page - 1) (Some table)) rooms'
rooms-noted {now = now} os rooms rooms' page slot table last low high small stay is filled here others = λ p t some within own. elim (cases_eq p page) [
  | inl same ↦
      let lt : page - 1 < length os = omega arith in
      let e : Some table ≡ Some t = sym (get_or-set_same os (page - 1) (Some table) None lt) ∙ ap (λ n. slice_index_or (set os (page - 1) (Some table)) (n - 1) None) (sym same) ∙ own in
      let it : table ≡ t = cc in
      let le : known_taken rooms' t p ≤ last = rw (same, ← it) here in
      λ s one top fits. rw same (filled s one (omega (arith, top, le)) fits)
  | inr other ↦
      let apart : p - 1 ≢ page - 1 = omega arith in
      let inside : p ≤ length os = omega (arith, within, length-set os (page - 1) (Some table)) in
      let old = is p t some inside (sym (get_or-set_other os (page - 1) (p - 1) (Some table) None apart) ∙ own) in
      λ s one top fits. let ne : row_number p s ≢ row_number page slot = omega arith in (stay (row_number p s) ne).taken (old s one (omega (arith, top, others p t some other)) fits)
]

-- a table's pages of which so much is known, and that have no mark of a transaction on its pages, have no vacant slot for the transaction
pub pages-full : {entries : Entries} (os : List (Option ℕ)) (rooms : Rooms) (reserves : Reserves) (table slots tx from to : ℕ) → slots < 256 → AreRooms entries os rooms → AreReserves entries os reserves
    → AreKnown rooms table slots from to → HasNoPlaceMark reserves table tx from to → AreFull entries os table slots tx from to
pages-full os rooms reserves table slots tx from to small is told known none = λ p low high first last own slot some lt.
    taken-blocked (row_number p slot) tx (is p table first last own slot some (omega (arith, lt, known p low high)) (omega (arith, lt, small)))
    (λ r. elim (told p first last slot tx some (omega (arith, lt, small)) r) [
      | inl filled ↦ filled
      | inr marked ↦ absurd (omega (arith, none p low high, marked.by_place table own))
    ])

-- the next page that may have one, from what is found of open pages and of those with reserved slots
module _ {entries : Entries} (os : List (Option ℕ)) (rooms : Rooms) (reserves : Reserves) (table slots tx from : ℕ) (small : slots < 256) (is : AreRooms entries os rooms) (told : AreReserves entries os reserves)
    (room_pages : rooms.pages ≡ length os) (reserve_pages : reserves.pages ≡ length os) where
  next-page : (page : ℕ) → from ≤ page → page ≤ length os → AreKnown rooms table slots from page → HasNoPlaceMark reserves table tx from page → IsNextPage entries os table slots tx from page
  next-page page low high known none = record { low = low; high = high; before = pages-full os rooms reserves table slots tx from page small is told known none }

  pub next-both : (opened reserved page : ℕ) → IsNextRoom rooms table slots from opened → IsNextFor reserves table tx from reserved → page ≡ min opened reserved → IsNextPage entries os table slots tx from page
  next-both opened reserved page room for least = next-page page (omega (arith, room.low, for.low, least)) (omega (arith, room.high, room_pages, least))
      (λ p low lt. room.before p low (omega (arith, lt, least))) (λ p low lt. for.before p low (omega (arith, lt, least)))

  pub next-open : (opened : ℕ) → IsNextRoom rooms table slots from opened → HasNoPlaceMark reserves table tx from (reserves.pages + 1) → IsNextPage entries os table slots tx from opened
  next-open opened room none = next-page opened room.low (omega (arith, room.high, room_pages)) room.before (λ p low lt. none p low (omega (arith, lt, room.high, room_pages, reserve_pages)))

  pub next-reserved : AreKnown rooms table slots from (rooms.pages + 1) → (o : Option ℕ) → MatchOption o (HasNoPlaceMark reserves table tx from (reserves.pages + 1)) (IsNextFor reserves table tx from)
      → MatchOption o (AreFull entries os table slots tx from (length os + 1)) (IsNextPage entries os table slots tx from)
  next-reserved known None none = pages-full os rooms reserves table slots tx from (length os + 1) small is told (λ p low lt. known p low (omega (arith, lt, room_pages))) (λ p low lt. none p low (omega (arith, lt, reserve_pages)))
  next-reserved known (Some page) for = next-page page for.low (omega (arith, for.high, reserve_pages)) (λ p low lt. known p low (omega (arith, lt, for.high, room_pages, reserve_pages))) for.before

abbrev ownerless : Option ℕ
ownerless = None

-- at the start no page has an owner
pub rooms-new : {entries : Entries} (n : ℕ) (os : List (Option ℕ)) (rooms : Rooms) → os ≡ replicate n None → AreRooms entries os rooms
rooms-new n os rooms is = λ p t some last own. let clash : None ≡ Some t = sym (ap (λ (xs : List (Option ℕ)). slice_index_or xs (p - 1) None) is ∙ none-all n (p - 1)) ∙ own in absurd (cc)
  where
    none-all : (n p : ℕ) → slice_index_or (replicate n ownerless) p None ≡ None
    none-all zero p = refl
    none-all (suc n) zero = refl
    none-all (suc n) (suc p) = none-all n p
