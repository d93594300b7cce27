-- How an image that a stop could have left is made from the record.
use Rattle.std.proofs.Common.{◌≡◌, inl, inr, true, false, Bool, ℕ, ◌+◌, ◌<◌, ◌≤◌, List, [], ◌∷◌, ◌++◌, length, get_or, take, refl, sym, ◌∙◌, ap, subst, arith, le-leb, nat_le}
use Rattle.std.proofs.lemmas.Bool.{lt-leb}
use Rattle.std.proofs.lemmas.List.{take_more}
use Rattle.std.specs.Bool.{if◌then◌else◌}
use Rattle.ids_outside.specs.Images.{Image, IsImage}
use Rattle.ids_outside.specs.MemoryDisk.{State, CanLeave, put, settled, after, state}
use Rattle.ids_outside.specs.Remade.{is_synced, Remade, done}
use Rattle.ids_outside.specs.declared.record.Call.{Call}
use Rattle.ids_outside.specs.declared.record.Call.TheVariants.{Wrote, Tore, Grew, Synced}
use Rattle.ids_outside.specs.declared.record.Entry.{Entry}
use Rattle.ids_outside.proofs.Overlays.{length-overlaid, order}
use Rattle.ids_outside.proofs.States.{skipped-left, overlaid-left, ungrown-left, grown-left, settled-left}
use Rattle.ids_outside.proofs.Moments.{replay-append, state-sound}

-- what is seen behind a call is what the call makes of what was seen
pub after-shown : (call : Call) (s : State) → (after call s).shown ≡ done call s.shown
after-shown (Wrote chunk at bytes) s = refl
after-shown (Tore chunk at n) s = refl
after-shown (Grew chunk pages) s = refl
after-shown Synced s = refl

-- what a stop leaves of a call can be left behind it
pub remade-left : (call : Call) (s : State) (x y : Image) → is_synced call ≡ false → length s.shown ≡ 9 → Remade call x y → CanLeave s x → CanLeave (after call s) y
remade-left (Wrote chunk at bytes) s x y pending full (inl same) left =
    subst (λ (i : Image). CanLeave (after (Wrote chunk at bytes) s) i) (sym same)
    (skipped-left s (put s.shown chunk at bytes.items) x chunk at (length bytes.items) (length-overlaid s.shown chunk at (length bytes.items) _) left)
remade-left (Wrote chunk at bytes) s x y pending full (inr (new, is)) left =
    subst (λ (i : Image). CanLeave (after (Wrote chunk at bytes) s) i) (sym is)
    (overlaid-left s (put s.shown chunk at bytes.items) x chunk at (length bytes.items) new (length-overlaid s.shown chunk at (length bytes.items) _) left)
remade-left (Tore chunk at n) s x y pending full (inl same) left =
    subst (λ (i : Image). CanLeave (after (Tore chunk at n) s) i) (sym same) (skipped-left s s.shown x chunk at n (λ j. refl) left)
remade-left (Tore chunk at n) s x y pending full (inr (new, is)) left =
    subst (λ (i : Image). CanLeave (after (Tore chunk at n) s) i) (sym is) (overlaid-left s s.shown x chunk at n new (λ j. refl) left)
remade-left (Grew chunk pages) s x y pending full (inl same) left =
    subst (λ (i : Image). CanLeave (after (Grew chunk pages) s) i) (sym same) (ungrown-left s x chunk pages left)
remade-left (Grew chunk pages) s x y pending full (inr (filler, is)) left =
    subst (λ (i : Image). CanLeave (after (Grew chunk pages) s) i) (sym is) (grown-left s x chunk pages filler full left)
remade-left Synced s x y pending full same left = cc

-- the image that is made from the first entries: up to the last sync it is what was seen
pub record Reached (first : Image) (entries : List Entry) (m synced i : ℕ) (image : Image) : Type 0 where
  pub left : CanLeave (state first (take i entries) m) image
  pub seen : i ≤ synced → image ≡ (state first (take i entries) m).shown

pub reached_first : (first image : Image) (entries : List Entry) (m synced : ℕ) → IsImage first → image ≡ first → Reached first entries m synced 0 image
reached_first first image entries m synced whole is = record {
  left = subst (λ (x : Image). CanLeave (settled first) x) (sym is) (settled-left first whole);
  seen = λ le. is;
}

module _ (first : Image) (entries : List Entry) (m synced i : ℕ) (e : Entry) (lt : i < length entries) (is : e ≡ get_or entries i e) where
  more : take (i + 1) entries ≡ take i entries ++ e ∷ []
  more = take_more entries i e lt ∙ ap (λ (d : Entry). take i entries ++ d ∷ []) (sym is)

  behind : (b : Bool) → nat_le e.moment m ≡ b
      → state first (take (i + 1) entries) m ≡ (if b then after e.call (state first (take i entries) m) else state first (take i entries) m)
  behind b test =
      ap (λ (l : List Entry). state first l m) more ∙ replay-append m (settled first) (take i entries) e
      ∙ ap (λ (t : Bool). if t then after e.call (state first (take i entries) m) else state first (take i entries) m) test

  -- an entry that was made later
  pub reached_later : (image : Image) → m < e.moment → Reached first entries m synced i image → Reached first entries m synced (i + 1) image
  reached_later image later so_far =
      let same = behind false (lt-leb e.moment m later) in
      record {
        left = subst (λ (s : State). CanLeave s image) (sym same) so_far.left;
        seen = λ le. so_far.seen (omega (arith, le)) ∙ ap (λ (s : State). s.shown) (sym same);
      }

  -- an entry of which a stop leaves something
  pub reached_more : (image new : Image) → IsImage first → e.moment ≤ m → Remade e.call image new → (i < synced → new ≡ done e.call image)
      → (synced ≤ i → is_synced e.call ≡ false) → Reached first entries m synced i image → Reached first entries m synced (i + 1) new
  reached_more image new whole early made whole_made pending so_far = elim (order i synced) [ inl below ↦ up_to below | inr past ↦ from past ]
    where
      s : State
      s = state first (take i entries) m

      same : state first (take (i + 1) entries) m ≡ after e.call s
      same = behind true (le-leb e.moment m early)

      up_to : i < synced → Reached first entries m synced (i + 1) new
      up_to below =
          let seen : new ≡ (state first (take (i + 1) entries) m).shown =
          whole_made below ∙ ap (λ (x : Image). done e.call x) (so_far.seen (omega (arith, below))) ∙ sym (after-shown e.call s) ∙ ap (λ (t : State). t.shown) (sym same) in
          record {
            left = subst (λ (x : Image). CanLeave (state first (take (i + 1) entries) m) x) (sym seen) (state-sound first (take (i + 1) entries) m whole).shown;
            seen = λ le. seen;
          }

      from : synced ≤ i → Reached first entries m synced (i + 1) new
      from past = record {
        left = subst (λ (t : State). CanLeave t new) (sym same)
            (remade-left e.call s image new (pending past) ((state-sound first (take i entries) m whole).shown.image.chunks) made so_far.left);
        seen = λ le. absurd (omega (arith, le, past));
      }
