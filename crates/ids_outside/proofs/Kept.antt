-- What a disk in memory keeps of itself over a call.
use Rattle.std.proofs.Common.{◌≡◌, ◌⊎◌, inl, inr, true, false, not, Bool, IsTrue, ℕ, ◌<◌, ◌≤◌, ◌^◌, List, refl, sym, ◌∙◌, ap, subst, arith}
use Rattle.ids_outside.specs.Counts.{last_count, next_count}
use Rattle.ids_outside.specs.Images.{Image, IsImage, pages_of}
use Rattle.ids_outside.specs.Stops.{Elapses}
use Rattle.ids_outside.specs.MemoryDisk.{State, CanLeave, after, all_by, state, CouldLeave}
use Rattle.ids_outside.specs.Recorded.{Notes}
use Rattle.ids_outside.specs.declared.record.Call.{Call}
use Rattle.ids_outside.specs.declared.record.Entry.{Entry}
use Rattle.ids_outside.proofs.Moments.{replay_later, all_by_later, all_by_append, noted, nothing_noted, one_noted, state-sound}

pub either : {K L : Type 0} (b : Bool) → (IsTrue b → K) → (IsTrue (not b) → L) → K ⊎ L
either true k l = inl (k refl)
either false k l = inr (l refl)

-- its invariant: what a read gives, what it had at first, its record and the moment
pub record Good (image first : Image) (entries : List Entry) (moment : ℕ) : Type 0 where
  pub in_time : all_by moment entries ≡ true
  pub small : (j : ℕ) → pages_of image j < 2 ^ 32
  pub shown : image ≡ (state first entries moment).shown
  pub left : CanLeave (state first entries moment) image
  pub whole : IsImage first

module _ (image image_new first first_new : Image) (entries : List Entry) (now later : ℕ) where
  -- nothing is noted
  pub same_state : Good image first entries now → now ≤ later → first_new ≡ first → state first_new entries later ≡ state first entries now
  same_state good le same_first = ap (λ (x : Image). state x entries later) same_first ∙ replay_later later now _ entries good.in_time le

  pub good_same : Good image first entries now → now ≤ later → image_new ≡ image → first_new ≡ first → Good image_new first_new entries later
  good_same good le same_image same_first =
      let at_rest = same_state good le same_first in
      record {
        in_time = all_by_later later now entries good.in_time le;
        small = subst (λ (x : Image). (j : ℕ) → pages_of x j < 2 ^ 32) (sym same_image) good.small;
        shown = same_image ∙ good.shown ∙ ap (λ (s : State). s.shown) (sym at_rest);
        left = subst (λ (s : State). CanLeave s image_new) (sym at_rest) (subst (λ (x : Image). CanLeave (state first entries now) x) (sym same_image) good.left);
        whole = subst (λ (x : Image). IsImage x) (sym same_first) good.whole;
      }

  pub same_time : Good image first entries now → first_new ≡ first → now ≤ last_count → later ≡ next_count now
      → Elapses now later (CouldLeave first entries now) (CouldLeave first_new entries later) (CanLeave (state first_new entries later))
  same_time good same_first fits is =
      subst (λ (x : Image). Elapses now later (CouldLeave first entries now) (CouldLeave x entries later) (CanLeave (state x entries later))) (sym same_first)
      (nothing_noted first entries now later good.in_time fits is)

  -- a call is noted
  module _ (entries_new : List Entry) (call : Call) where
    pub noted_state : Good image first entries now → now ≤ later → first_new ≡ first → Notes later call entries entries_new
        → state first_new entries_new later ≡ after call (state first entries now)
    noted_state good le same_first is =
        ap (λ (x : Image). state x entries_new later) same_first ∙ ap (λ (l : List Entry). state first l later) is
        ∙ noted first entries now later call good.in_time le

    pub good_noted : Good image first entries now → now ≤ later → first_new ≡ first → Notes later call entries entries_new
        → image_new ≡ (after call (state first entries now)).shown → ((j : ℕ) → pages_of image_new j < 2 ^ 32) → Good image_new first_new entries_new later
    good_noted good le same_first is seen small =
        let new = noted_state good le same_first is in
        let whole : IsImage first_new = subst (λ (x : Image). IsImage x) (sym same_first) good.whole in
        let seen_new : image_new ≡ (state first_new entries_new later).shown = seen ∙ ap (λ (s : State). s.shown) (sym new) in
        record {
          in_time = subst (λ (l : List Entry). all_by later l ≡ true) (sym is) (all_by_append later entries _ (all_by_later later now entries good.in_time le) (omega arith));
          small = small;
          shown = seen_new;
          left = subst (λ (x : Image). CanLeave (state first_new entries_new later) x) (sym seen_new) (state-sound first_new entries_new later whole).shown;
          whole = whole;
        }

    pub noted_time : first_new ≡ first → Notes later call entries entries_new → now ≤ last_count → later ≡ next_count now
        → Elapses now later (CouldLeave first entries now) (CouldLeave first_new entries_new later) (CanLeave (state first_new entries_new later))
    noted_time same_first is fits next =
        subst (λ (x : Image). Elapses now later (CouldLeave first entries now) (CouldLeave x entries_new later) (CanLeave (state x entries_new later))) (sym same_first)
        (subst (λ (l : List Entry). Elapses now later (CouldLeave first entries now) (CouldLeave first l later) (CanLeave (state first l later))) (sym is)
        (one_noted first entries now later call fits next))
