-- The slots that are reserved for transactions, where entries and owners change, and before a transaction ends.
use Rattle.std.proofs.Common.{Bool, not, ◌==◌, ◌≡◌, ◌≢◌, refl, ℕ, ◌-◌, ◌<◌, ◌≤◌, false, true, ap, sym, ◌∙◌, List, [], length, set, Option, Some, None, arith, inl, inr, slice_index_or, get_or-set_same, get_or-set_other}
use Rattle.std.proofs.Math.ListN.{length-set}
use Rattle.std.specs.Int.{bit_at}
use Rattle.std.specs.List.{list_any}
use Rattle.std.proofs.lemmas.Bool.{cases_eq, cases_lt, eqb-true, eqb-false}
use Rattle.std.proofs.lemmas.Nat.Bits.{bit_at-zero, bit_at-lt}
use Rattle.ids_base.specs.RowIds.{row_number}
use Rattle.ids_base.specs.declared.lock.Key.{Key}
use Rattle.table_space.specs.declared.front.Front.{Front}
use Rattle.table_space.specs.declared.reserves.Reserved.{Reserved}
use Rattle.table_space.specs.declared.reserves.Reserves.{Reserves}
use Rattle.table_space.specs.declared.rooms.Rooms.{Rooms}
use Rattle.table_space.specs.Fronts.{IsFilled, IsFront, AreTaken, AreUnused, AreFronts, AreBlockedTo}
use Rattle.table_space.specs.Opened.{IsOpened, IsFrontFor, AreFrontsFor, AreRoomsFor}
use Rattle.table_space.specs.PageMarks.{tx_mark}
use Rattle.table_space.specs.Reserves.{IsReserved, AreTold, AreKept, AreReserves, HasNoMark, reserved_at}
use Rattle.table_space.specs.Rooms.{AreRooms, AreNoMore, known_taken}
use Rattle.table_space.specs.Seen.{Entries, Ends}
use Rattle.table_space.specs.Slots.{reserves_for}
use Rattle.table_space.proofs.FullPages.{rooms-less}
use Rattle.table_space.proofs.Fronts.{Stays, same-stays, fronts-noted, taken-blocked, unused-kept, ended-filled, ended-taken, ended-none, ended-reserved}

-- What is told of a page stays, where its slots stay filled and no more are reserved.
told-stays : {was now : Entries} (marks : Reserved) (owner : Option ℕ) (page : ℕ) → ((slot : ℕ) → slot < 256 → IsFilled was (row_number page slot) → IsFilled now (row_number page slot))
    → ((slot tx : ℕ) → slot < 256 → IsReserved now (row_number page slot) tx → IsReserved was (row_number page slot) tx) → AreTold was marks owner page → AreTold now marks owner page
told-stays marks owner page filled reserved told = λ slot tx some small r. elim (told slot tx some small (reserved slot tx small r)) [
  | inl f ↦ inl (filled slot small f)
  | inr m ↦ inr m
]

pub reserves-stay : {was now : Entries} (os : List (Option ℕ)) (reserves : Reserves) → ((row : ℕ) → IsFilled was row → IsFilled now row) → ((row tx : ℕ) → IsReserved now row tx → IsReserved was row tx)
    → AreReserves was os reserves → AreReserves now os reserves
reserves-stay os reserves filled reserved told = λ p first last.
    told-stays (reserved_at reserves p) (slice_index_or os (p - 1) None) p (λ slot small. filled (row_number p slot)) (λ slot tx small. reserved (row_number p slot) tx) (told p first last)

-- A page is marked anew, and gets an owner, once one of its slots was noted.
pub reserves-renewed : {was now : Entries} (os os' : List (Option ℕ)) (reserves reserves' : Reserves) (page slot : ℕ) → slot < 256 → ((other : ℕ) → other ≢ row_number page slot → Stays was now other)
    → length os' ≡ length os → ((p : ℕ) → 1 ≤ p → p ≢ page → slice_index_or os' (p - 1) None ≡ slice_index_or os (p - 1) None)
    → AreTold now (reserved_at reserves' page) (slice_index_or os' (page - 1) None) page → ((p : ℕ) → 1 ≤ p → p ≢ page → reserved_at reserves' p ≡ reserved_at reserves p)
    → AreReserves was os reserves → AreReserves now os' reserves'
reserves-renewed os os' reserves reserves' page slot small stay size owners here others told = λ p first last. elim (cases_eq p page) [
  | inl same ↦ rw same here
  | inr other ↦
      let apart : (s : ℕ) → s < 256 → row_number p s ≢ row_number page slot = λ s fits. omega arith in
      rw (owners p first other, others p first other)
      (told-stays (reserved_at reserves p) (slice_index_or os (p - 1) None) p (λ s fits. (stay (row_number p s) (apart s fits)).filled) (λ s tx fits. (stay (row_number p s) (apart s fits)).reserved tx) (told p first (omega (arith, last, size))))
]

pub reserves-set : {was now : Entries} (os : List (Option ℕ)) (reserves reserves' : Reserves) (page slot table : ℕ) → 1 ≤ page → slot < 256 → ((other : ℕ) → other ≢ row_number page slot → Stays was now other)
    → AreTold now (reserved_at reserves' page) (slice_index_or (set os (page - 1) (Some table)) (page - 1) None) page → ((p : ℕ) → 1 ≤ p → p ≢ page → reserved_at reserves' p ≡ reserved_at reserves p)
    → AreReserves was os reserves → AreReserves now (set os (page - 1) (Some table)) reserves'
reserves-set os reserves reserves' page slot table low small stay here others told =
    reserves-renewed os (set os (page - 1) (Some table)) reserves reserves' page slot small stay (length-set os (page - 1) (Some table))
    (λ p first other. let apart : p - 1 ≢ page - 1 = omega arith in get_or-set_other os (page - 1) (p - 1) (Some table) None apart) here others told

-- A page is said to have no mark.
pub none-marked : (marks : ℕ) → not (marks == 0) ≡ false → marks ≡ 0
none-marked marks told = at (marks == 0) refl told
  where
    at : (b : Bool) → (marks == 0) ≡ b → not b ≡ false → marks ≡ 0
    at true is h = eqb-true marks 0 is
    at false is h = absurd (cc)

-- and not to have that of a transaction
pub mark-none : (marks mark : ℕ) → (bit_at marks mark == 1) ≡ false → bit_at marks mark ≡ 0
mark-none marks mark told = omega (arith, eqb-false (bit_at marks mark) 1 told, bit_at-lt marks mark)

-- A page without marks has none but filled slots that are reserved; so it is for any owner.
told-unmarked : {entries : Entries} (marks : Reserved) (owner owner' : Option ℕ) (page : ℕ) → marks.by_tx ≡ 0 → AreTold entries marks owner page → AreTold entries marks owner' page
told-unmarked marks owner owner' page none told = λ slot tx some small r. elim (told slot tx some small r) [
  | inl f ↦ inl f
  | inr m ↦ absurd (omega (arith, bit_at-zero (tx_mark tx), ap (λ n. bit_at n (tx_mark tx)) none, m.by_tx))
]

-- So such a page may get an owner.
pub reserves-owned : {entries : Entries} (os : List (Option ℕ)) (reserves : Reserves) (page table : ℕ) → 1 ≤ page → page ≤ length os → (reserved_at reserves page).by_tx ≡ 0
    → AreReserves entries os reserves → AreReserves entries (set os (page - 1) (Some table)) reserves
reserves-owned os reserves page table low high none told = λ p first last.
    let inside : p ≤ length os = omega (arith, last, length-set os (page - 1) (Some table)) in
    elim (cases_eq p page) [
      | inl same ↦ rw same (told-unmarked (reserved_at reserves page) (slice_index_or os (page - 1) None) _ page none (told page low high))
      | inr other ↦ let apart : p - 1 ≢ page - 1 = omega arith in rw (get_or-set_other os (page - 1) (p - 1) (Some table) None apart) (told p first inside)
    ]

-- A page without the mark of a transaction has none but filled slots that are reserved for it.
pub unmarked-kept : {entries : Entries} (marks : Reserved) (owner : Option ℕ) (page last tx : ℕ) → bit_at marks.by_tx (tx_mark tx) ≡ 0 → AreTold entries marks owner page → AreKept entries page last tx
unmarked-kept marks owner page last tx none told = λ slot some le small r. elim (told slot tx some small r) [
  | inl f ↦ f
  | inr m ↦ absurd (omega (arith, none, m.by_tx))
]

-- The slots above those that were used are not reserved.
pub used-kept : {entries : Entries} (page used last tx : ℕ) → AreUnused entries page used → AreKept entries page used tx → AreKept entries page last tx
used-kept page used last tx unused kept = λ slot some le small r. elim (cases_lt used slot) [
  | inl above ↦ absurd (unused-kept (row_number page slot) tx (unused slot above small) r)
  | inr within ↦ kept slot some within small r
]

-- Slots that are taken and kept are blocked.
pub kept-blocked : {entries : Entries} (page last tx : ℕ) → AreTaken entries page last → AreKept entries page last tx → AreBlockedTo entries page last tx
kept-blocked page last tx taken kept = λ slot some le small. taken-blocked (row_number page slot) tx (taken slot some le small) (kept slot some le small)

-- A page of which all slots are kept is opened as it is.
pub kept-opened : {entries : Entries} (os : List (Option ℕ)) (fs : List Front) (rooms : Rooms) (tx page : ℕ) → 1 ≤ page → AreFronts entries fs → AreRooms entries os rooms → ((last : ℕ) → AreKept entries page last tx) → IsOpened entries os fs rooms tx page
kept-opened os fs rooms tx page first fronts is kept = record {
  front = λ d last. let f = fronts page d first last in record { taken = kept-blocked page _ tx f.taken (kept _); used = f.used };
  room = λ last t own. kept-blocked page _ tx (is page t first last own) (kept _);
}

-- The front of a page of which no more is known than what is kept.
pub front-opened : {entries : Entries} (page kept tx : ℕ) (f new : Front) → IsFront entries page f → AreKept entries page kept tx → new.taken ≤ f.taken → new.taken ≤ kept → new.used ≡ f.used → IsFront entries page new × IsFrontFor entries page new tx
front-opened {entries = entries} page kept tx f new is held less within same = (record { taken = taken; used = used }, record { taken = kept-blocked page new.taken tx taken (λ slot some le small. held slot some (omega (arith, le, within)) small); used = used })
  where
    taken : AreTaken entries page new.taken
    taken = λ slot some le small. is.taken slot some (omega (arith, le, less)) small

    used : AreUnused entries page new.used
    used = λ slot above small. is.used slot (omega (arith, above, same)) small

-- All pages up to one are opened, where those before another are, and the ones between have no mark.
pub opened-passed : {entries : Entries} (os : List (Option ℕ)) (fs : List Front) (rooms : Rooms) (reserves : Reserves) (tx from to : ℕ) → AreFronts entries fs → AreRooms entries os rooms → AreReserves entries os reserves → HasNoMark reserves tx from to
    → ((p : ℕ) → 1 ≤ p → p < from → IsOpened entries os fs rooms tx p) → (p : ℕ) → 1 ≤ p → p < to → p ≤ length os → IsOpened entries os fs rooms tx p
opened-passed os fs rooms reserves tx from to fronts is told none opened p first lt last = elim (cases_lt p from) [
  | inl before ↦ opened p first before
  | inr between ↦ kept-opened os fs rooms tx p first fronts is (λ l. unmarked-kept (reserved_at reserves p) _ p l tx (none p between lt) (told p first last))
]

-- A page is opened that was, where no more is known of it.
pub opened-less : {entries : Entries} (os : List (Option ℕ)) (fs fs' : List Front) (rooms rooms' : Rooms) (tx p : ℕ) → length fs' ≡ length fs → ((d : Front) → slice_index_or fs' (p - 1) d ≡ slice_index_or fs (p - 1) d)
    → ((t : ℕ) → known_taken rooms' t p ≤ known_taken rooms t p) → IsOpened entries os fs rooms tx p → IsOpened entries os fs' rooms' tx p
opened-less os fs fs' rooms rooms' tx p size same less is = record {
  front = λ d last. rw (same d) (is.front d (omega (arith, last, size)));
  room = λ last t own slot some le small. is.room last t own slot some (omega (arith, le, less t)) small;
}

-- A page is opened: no more is known of its slots than what is kept, and none of the pages' slots as its table's.
module _ {entries : Entries} (os : List (Option ℕ)) (fs : List Front) (rooms rooms' : Rooms) (page kept tx : ℕ) (d new : Front)
    (first : 1 ≤ page) (last : page ≤ length fs) (size : length fs ≡ length os) (fronts : AreFronts entries fs) (is : AreRooms entries os rooms) (held : AreKept entries page kept tx)
    (less : new.taken ≤ (slice_index_or fs (page - 1) d).taken) (within : new.taken ≤ kept) (same : new.used ≡ (slice_index_or fs (page - 1) d).used)
    (here : (t : ℕ) → slice_index_or os (page - 1) None ≡ Some t → known_taken rooms' t page ≤ 0)
    (others : (p t : ℕ) → 1 ≤ p → p ≢ page → known_taken rooms' t p ≤ known_taken rooms t p) where
  its : IsFront entries page new × IsFrontFor entries page new tx
  its = front-opened page kept tx (slice_index_or fs (page - 1) d) new (fronts page d first last) held less within same

  pub opened-fronts : AreFronts entries (set fs (page - 1) new)
  opened-fronts = fronts-noted fs page 0 new first last (omega arith) (λ other ne. same-stays (λ t k. refl) other) fronts its.0

  pub opened-rooms : AreRooms entries os rooms'
  opened-rooms = rooms-less os rooms rooms' no-more is
    where
      no-more : AreNoMore os rooms rooms'
      no-more = λ p t low high own. elim (cases_eq p page) [
        | inl it ↦ rw it (let none : known_taken rooms' t page ≤ 0 = here t (ap (λ n. slice_index_or os (n - 1) None) (sym it) ∙ own) in omega (arith, none))
        | inr other ↦ others p t low other
      ]

  pub opened-page : IsOpened entries os (set fs (page - 1) new) rooms' tx page
  opened-page = record {
    front = λ e high. rw (get_or-set_same fs (page - 1) new e (omega (arith, first, last))) its.1;
    room = λ high t own slot some le small. absurd (omega (arith, some, le, here t own));
  }

  pub opened-others : (p : ℕ) → 1 ≤ p → p ≢ page → IsOpened entries os fs rooms tx p → IsOpened entries os (set fs (page - 1) new) rooms' tx p
  opened-others p low other opened =
      let apart : p - 1 ≢ page - 1 = omega (arith, first, low, other) in
      opened-less os fs (set fs (page - 1) new) rooms rooms' tx p (length-set fs (page - 1) new) (λ e. get_or-set_other fs (page - 1) (p - 1) new e apart) (λ t. others p t low other) opened

-- At the end of a transaction what was known before is so.
module _ {was now : Entries} (tx : ℕ) (ends : Ends was now tx) where
  pub fronts-ended : (fs : List Front) → AreFrontsFor was fs tx → AreFronts now fs
  fronts-ended fs known = λ page d first last. let f = known page d first last in record {
    taken = λ slot some le small. ended-taken tx ends (row_number page slot) (f.taken slot some le small);
    used = λ slot above small. ended-none was now tx ends (row_number page slot) (f.used slot above small);
  }

  pub rooms-ended : (os : List (Option ℕ)) (rooms : Rooms) → AreRoomsFor was os rooms tx → AreRooms now os rooms
  rooms-ended os rooms known = λ p t first last own slot some le small. ended-taken tx ends (row_number p slot) (known p first last t own slot some le small)

  pub reserves-ended : (os : List (Option ℕ)) (reserves : Reserves) → AreReserves was os reserves → AreReserves now os reserves
  reserves-ended os reserves = reserves-stay os reserves (λ row. ended-filled tx ends row) (λ row tx'. ended-reserved tx ends row tx')

-- At the start no slot is reserved.
pub reserves-new : {entries : Entries} (os : List (Option ℕ)) (reserves : Reserves) → ((t : ℕ) (k : Key) → entries t k ≡ []) → AreReserves entries os reserves
reserves-new os reserves none = λ p first last slot tx some small r. absurd (let clash : false ≡ true = sym (ap (list_any (reserves_for tx (row_number p slot))) (none r.table r.key)) ∙ r.by in cc)
