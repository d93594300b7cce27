-- What the calls of a disk in memory do to its state.
use Rattle.std.proofs.Common.{◌≡◌, ◌≢◌, ◌⊎◌, inl, inr, ⊎_elim, ℕ, ◌+◌, ◌-◌, ◌*◌, ◌/◌, ◌<◌, ◌≤◌, max, List, [], length, get_or, set, take, refl, sym, ◌∙◌, ap, subst, arith}
use Rattle.std.proofs.lemmas.Bool.{cases_eq}
use Rattle.std.proofs.lemmas.List.{get_or_past, get_or-set_same, get_or-set_other, length-set, get_or-take, length-take-le}
use Rattle.ids_outside.specs.Images.{Image, chunk_of, pages_of, byte, IsImage, Range, Torn, Grown}
use Rattle.ids_outside.specs.Stops.{Follows}
use Rattle.ids_outside.specs.MemoryDisk.{overlaid, extended, State, CanLeave, settled, torn_at, after}
use Rattle.ids_outside.specs.declared.record.Call.{Call}
use Rattle.ids_outside.specs.declared.record.Call.TheVariants.{Wrote, Tore, Grew, Synced}
use Rattle.ids_outside.proofs.Images.{no_change}
use Rattle.ids_outside.proofs.Overlays.{order, chunks-overlaid, length-overlaid, byte-outside, byte-inside}
use Rattle.ids_outside.proofs.Extensions.{longer-extended, other-extended, byte-extended, image-extended, length-extended, extended_past, more_pages, grown_same}

-- an image of the same lengths is one of whole pages too
pub same_lengths : (x y : Image) → IsImage x → length y ≡ length x → ((j : ℕ) → length (chunk_of y j) ≡ length (chunk_of x j)) → IsImage y
same_lengths x y is chunks lengths = record {
  chunks = chunks ∙ is.chunks;
  pages = λ j. subst (λ (n : ℕ). n ≡ 2048 * (n / 2048)) (sym (lengths j)) (is.pages j);
}

-- nothing is pending
pub settled-left : (x : Image) → IsImage x → CanLeave (settled x) x
settled-left x is = record { image = is; no_shorter = λ j. omega arith; no_longer = λ j. omega arith; bytes = λ j i lt out. refl }

-- after a sync nothing else can be left
pub settled_only : (x c : Image) → IsImage x → CanLeave (settled x) c → c ≡ x
settled_only x c is left = no_change (λ j i. ⊥) x c (λ j i h. h) (record {
  chunks = left.image.chunks ∙ sym is.chunks;
  lengths = λ j. both_ways (length (chunk_of c j)) (length (chunk_of x j)) (left.no_longer j) (left.no_shorter j);
  bytes = λ j i out. elim (order i (length (chunk_of x j))) [
    | inl lt ↦ left.bytes j i lt (λ h. h)
    | inr past ↦ get_or_past (chunk_of c j) i 0 (omega (arith, past, left.no_longer j)) ∙ sym (get_or_past (chunk_of x j) i 0 past)
  ];
})
  where
    both_ways : (a b : ℕ) → a ≤ b → b ≤ a → a ≡ b
    both_ways a b le ge = omega (arith, le, ge)

-- a write is pending: what could be left before it can be left, with any bytes in its range
pub overlaid-left : (s : State) (shown c : Image) (chunk at n : ℕ) (new : ℕ → ℕ) → ((j : ℕ) → length (chunk_of shown j) ≡ length (chunk_of s.shown j))
    → CanLeave s c → CanLeave (torn_at chunk at n shown s) (overlaid c chunk at n new)
overlaid-left s shown c chunk at n new lengths left = record {
  image = same_lengths c (overlaid c chunk at n new) left.image (chunks-overlaid c chunk at n new) (length-overlaid c chunk at n new);
  no_shorter = λ j. omega (arith, left.no_shorter j, length-overlaid c chunk at n new j);
  no_longer = λ j. omega (arith, left.no_longer j, length-overlaid c chunk at n new j, lengths j);
  bytes = λ j i lt out. byte-outside c chunk at n new j i (λ h. out (inl h)) ∙ left.bytes j i lt (λ h. out (inr h));
}

pub skipped-left : (s : State) (shown c : Image) (chunk at n : ℕ) → ((j : ℕ) → length (chunk_of shown j) ≡ length (chunk_of s.shown j))
    → CanLeave s c → CanLeave (torn_at chunk at n shown s) c
skipped-left s shown c chunk at n lengths left = record {
  image = left.image;
  no_shorter = left.no_shorter;
  no_longer = λ j. omega (arith, left.no_longer j, lengths j);
  bytes = λ j i lt out. left.bytes j i lt (λ h. out (inr h));
}

-- a grow is pending: what could be left before it can be left, with or without the new pages
pub ungrown-left : (s : State) (c : Image) (chunk pages : ℕ) → CanLeave s c → CanLeave (after (Grew chunk pages) s) c
ungrown-left s c chunk pages left = record {
  image = left.image;
  no_shorter = left.no_shorter;
  no_longer = λ j. omega (arith, left.no_longer j, longer-extended s.shown chunk pages 0 j);
  bytes = left.bytes;
}

pub grown-left : (s : State) (c : Image) (chunk pages filler : ℕ) → length s.shown ≡ 9 → CanLeave s c → CanLeave (after (Grew chunk pages) s) (extended c chunk pages filler)
grown-left s c chunk pages filler full left = record {
  image = image-extended c chunk pages filler left.image;
  no_shorter = λ j. omega (arith, left.no_shorter j, longer-extended c chunk pages filler j);
  no_longer = λ j. elim (cases_eq j chunk) [
    | inr other ↦ omega (
      arith,
      left.no_longer j,
      ap (λ (l : List ℕ). length l) (other-extended c chunk pages filler j other),
      ap (λ (l : List ℕ). length l) (other-extended s.shown chunk pages 0 j other),
    )
    | inl is ↦ subst (λ (q : ℕ). length (chunk_of (extended c chunk pages filler) q) ≤ length (chunk_of (extended s.shown chunk pages 0) q)) (sym is) (elim (order chunk 9) [
      | inl there ↦ omega (
        arith,
        left.no_longer chunk,
        length-extended c chunk pages filler (omega (arith, there, left.image.chunks)),
        length-extended s.shown chunk pages 0 (omega (arith, there, full)),
      )
      | inr past ↦ omega (
        arith,
        left.no_longer chunk,
        ap (λ (y : Image). length (chunk_of y chunk)) (extended_past c chunk pages filler (omega (arith, past, left.image.chunks))),
        ap (λ (y : Image). length (chunk_of y chunk)) (extended_past s.shown chunk pages 0 (omega (arith, past, full))),
      )
    ])
  ];
  bytes = λ j i lt out. byte-extended c chunk pages filler j i (omega (arith, lt, left.no_shorter j)) ∙ left.bytes j i lt out;
}

-- one pending range more
pub torn-follows : (s : State) (shown : Image) (chunk at n : ℕ) → ((j : ℕ) → length (chunk_of shown j) ≡ length (chunk_of s.shown j))
    → Follows (Torn chunk at n) (CanLeave s) (CanLeave (torn_at chunk at n shown s))
torn-follows s shown chunk at n lengths c left =
    let old : ℕ → ℕ = λ i. byte s.synced chunk i in
    let d = overlaid c chunk at n old in (
      d,
      record {
        image = same_lengths c d left.image (chunks-overlaid c chunk at n old) (length-overlaid c chunk at n old);
        no_shorter = λ j. omega (arith, left.no_shorter j, length-overlaid c chunk at n old j);
        no_longer = λ j. omega (arith, left.no_longer j, length-overlaid c chunk at n old j, lengths j);
        bytes = λ j i lt out. elim (range_cases chunk at n j i) [
          | inl inside ↦ within j i inside lt
          | inr outside ↦ byte-outside c chunk at n old j i outside ∙ left.bytes j i lt (λ h. ⊎_elim outside out h)
        ];
      },
      record {
        chunks = sym (chunks-overlaid c chunk at n old);
        lengths = λ j. sym (length-overlaid c chunk at n old j);
        bytes = λ j i out. sym (byte-outside c chunk at n old j i out);
      },
    )
  where
    range_cases : (chunk at n j i : ℕ) → Range chunk at n j i ⊎ ¬ Range chunk at n j i
    range_cases chunk at n j i = elim (cases_eq j chunk) [
      | inr other ↦ inr (λ h. other h.0)
      | inl is ↦ elim (order i at) [
        | inl before ↦ inr (λ h. omega (arith, h.1, before))
        | inr from ↦ elim (order i (at + n)) [
          | inl lt ↦ inl (is, from, lt)
          | inr behind ↦ inr (λ h. omega (arith, h.2, behind))
        ]
      ]
    ]

    within : (j i : ℕ) → Range chunk at n j i → i < length (chunk_of s.synced j) → byte (overlaid c chunk at n (λ q. byte s.synced chunk q)) j i ≡ byte s.synced j i
    within j i inside lt =
        let there : i < length (chunk_of c chunk) = omega (arith, subst (λ (q : ℕ). i < length (chunk_of s.synced q)) inside.0 lt, left.no_shorter chunk) in
        subst (λ (q : ℕ). byte (overlaid c chunk at n (λ p. byte s.synced chunk p)) q i ≡ byte s.synced q i) (sym inside.0)
        (byte-inside c chunk at n (λ p. byte s.synced chunk p) i there inside.1 inside.2)

-- a chunk that is cut
cut : Image → ℕ → ℕ → Image
cut x chunk n = set x chunk (take n (chunk_of x chunk))

cut_other : (x : Image) (chunk n j : ℕ) → j ≢ chunk → chunk_of (cut x chunk n) j ≡ chunk_of x j
unfolding cut
cut_other x chunk n j other = get_or-set_other x chunk j (take n (chunk_of x chunk)) [] other

cut_this : (x : Image) (chunk n : ℕ) → chunk < length x → chunk_of (cut x chunk n) chunk ≡ take n (chunk_of x chunk)
unfolding cut
cut_this x chunk n there = get_or-set_same x chunk (take n (chunk_of x chunk)) [] there

cut-chunks : (x : Image) (chunk n : ℕ) → length (cut x chunk n) ≡ length x
unfolding cut
cut-chunks x chunk n = length-set x chunk (take n (chunk_of x chunk))

-- a chunk that is cut to n bytes, and the others
cut_cases : (c : Image) (chunk n : ℕ) → chunk < length c → n ≤ length (chunk_of c chunk) → (j : ℕ)
    → ((j ≡ chunk) × (chunk_of (cut c chunk n) j ≡ take n (chunk_of c j)) × (length (chunk_of (cut c chunk n) j) ≡ n)) ⊎ ((j ≢ chunk) × (chunk_of (cut c chunk n) j ≡ chunk_of c j))
cut_cases c chunk n there long j = elim (cases_eq j chunk) [
  | inr other ↦ inr (other, cut_other c chunk n j other)
  | inl is ↦
      let here = cut_this c chunk n there in
      inl (
        is,
        subst (λ (q : ℕ). chunk_of (cut c chunk n) q ≡ take n (chunk_of c q)) (sym is) here,
        subst (λ (q : ℕ). length (chunk_of (cut c chunk n) q) ≡ n) (sym is)
            (ap (λ (l : List ℕ). length l) here ∙ length-take-le n (chunk_of c chunk) long),
      )
]

-- one grow more
pub grown-follows : (s : State) (chunk pages : ℕ) → CanLeave s s.shown → chunk < 9 → Follows (Grown chunk pages) (CanLeave s) (CanLeave (after (Grew chunk pages) s))
grown-follows s chunk pages sound there c left = elim (order n (length (chunk_of c chunk))) [ inl lt ↦ shorter lt | inr le ↦ same le ]
  where
    n : ℕ
    n = length (chunk_of s.shown chunk)

    at_most : length (chunk_of c chunk) ≤ max n (2048 * pages)
    at_most = omega (arith, left.no_longer chunk, length-extended s.shown chunk pages 0 (omega (arith, there, sound.image.chunks)))

    elsewhere : (j : ℕ) → j ≢ chunk → length (chunk_of c j) ≤ length (chunk_of s.shown j)
    elsewhere j other = omega (arith, left.no_longer j, ap (λ (l : List ℕ). length l) (other-extended s.shown chunk pages 0 j other))

    same : length (chunk_of c chunk) ≤ n → (d : Image) × CanLeave s d × Grown chunk pages d c
    same le = (
      c,
      record {
        image = left.image;
        no_shorter = left.no_shorter;
        no_longer = λ j. elim (cases_eq j chunk) [
          | inr other ↦ elsewhere j other
          | inl is ↦ subst (λ (q : ℕ). length (chunk_of c q) ≤ length (chunk_of s.shown q)) (sym is) le
        ];
        bytes = left.bytes;
      },
      grown_same chunk pages c,
    )

    shorter : n < length (chunk_of c chunk) → (d : Image) × CanLeave s d × Grown chunk pages d c
    shorter lt = (
      d,
      record {
        image = record {
          chunks = cut-chunks c chunk n ∙ left.image.chunks;
          pages = λ j. elim (each j) [
            | inl h ↦ subst (λ (l : ℕ). l ≡ 2048 * (l / 2048)) (sym h.2) (sound.image.pages chunk)
            | inr h ↦ subst (λ (l : List ℕ). length l ≡ 2048 * (length l / 2048)) (sym h.1) (left.image.pages j)
          ];
        };
        no_shorter = λ j. elim (each j) [
          | inl h ↦ omega (arith, h.2, sound.no_shorter j, ap (λ (q : ℕ). length (chunk_of s.shown q)) h.0)
          | inr h ↦ omega (arith, left.no_shorter j, ap (λ (l : List ℕ). length l) h.1)
        ];
        no_longer = λ j. elim (each j) [
          | inl h ↦ omega (arith, h.2, ap (λ (q : ℕ). length (chunk_of s.shown q)) h.0)
          | inr h ↦ omega (arith, elsewhere j h.0, ap (λ (l : List ℕ). length l) h.1)
        ];
        bytes = λ j i below out. elim (each j) [
          | inl h ↦
              let within : i < n = omega (arith, below, sound.no_shorter j, ap (λ (q : ℕ). length (chunk_of s.shown q)) h.0) in
              ap (λ (l : List ℕ). get_or l i 0) h.1 ∙ get_or-take n (chunk_of c j) i 0 within ∙ left.bytes j i below out
          | inr h ↦ ap (λ (l : List ℕ). get_or l i 0) h.1 ∙ left.bytes j i below out
        ];
      },
      record {
        chunks = sym (cut-chunks c chunk n);
        others = λ j other. sym (cut_other c chunk n j other);
        longer = (
          pages_of c chunk - n / 2048,
          subst (λ (l : ℕ). length (chunk_of c chunk) ≡ l + 2048 * (pages_of c chunk - n / 2048)) (sym long)
              (more_pages n (length (chunk_of c chunk)) (n / 2048) (pages_of c chunk) (sound.image.pages chunk) (left.image.pages chunk) (omega (arith, lt))),
        );
        no_longer = omega (arith, at_most, long);
        bytes = λ i below.
            let within : i < n = omega (arith, below, long) in
            sym (ap (λ (l : List ℕ). get_or l i 0) here ∙ get_or-take n (chunk_of c chunk) i 0 within);
      },
    )
      where
        d : Image
        d = cut c chunk n

        inside : chunk < length c
        inside = omega (arith, there, left.image.chunks)

        each : (j : ℕ) → ((j ≡ chunk) × (chunk_of d j ≡ take n (chunk_of c j)) × (length (chunk_of d j) ≡ n)) ⊎ ((j ≢ chunk) × (chunk_of d j ≡ chunk_of c j))
        each j = cut_cases c chunk n inside (omega (arith, lt)) j

        here : chunk_of d chunk ≡ take n (chunk_of c chunk)
        here = cut_this c chunk n inside

        long : length (chunk_of d chunk) ≡ n
        long = ap (λ (l : List ℕ). length l) here ∙ length-take-le n (chunk_of c chunk) (omega (arith, lt))

-- a state whose images are of whole pages, and what is seen can be left
pub record IsSound (s : State) : Type 0 where
  pub synced : IsImage s.synced
  pub shown : CanLeave s s.shown

pub settled_sound : (x : Image) → IsImage x → IsSound (settled x)
settled_sound x is = record { synced = is; shown = settled-left x is }

pub after-sound : (call : Call) (s : State) → IsSound s → IsSound (after call s)
after-sound (Wrote chunk at bytes) s sound =
    let new : ℕ → ℕ = λ i. get_or bytes.items (i - at) 0 in
    record {
      synced = sound.synced;
      shown = overlaid-left s (overlaid s.shown chunk at (length bytes.items) new) s.shown chunk at (length bytes.items) new
          (length-overlaid s.shown chunk at (length bytes.items) new) sound.shown;
    }
after-sound (Tore chunk at n) s sound = record { synced = sound.synced; shown = skipped-left s s.shown s.shown chunk at n (λ j. refl) sound.shown }
after-sound (Grew chunk pages) s sound = record { synced = sound.synced; shown = grown-left s s.shown chunk pages 0 sound.shown.image.chunks sound.shown }
after-sound Synced s sound = settled_sound s.shown sound.shown.image
