-- The mark of one page is set or cleared.
use Rattle.std.proofs.Common.{◌≡◌, ℕ, zero, suc, ◌+◌, ◌-◌, ◌<◌, ◌≤◌, List, length, get_or, Bool, false, ◌&&◌, cond, eqb, refl, ap, sym, ◌∙◌, arith, inl, inr}
use Rattle.std.specs.List.{sum_by}
use Rattle.std.proofs.Math.ListN.{set, length-set}
use Rattle.std.proofs.lemmas.List.{get_or-set_other}
use Rattle.std.proofs.lemmas.List.Sums.{sum_by-set}
use Rattle.std.proofs.lemmas.Grind.{get_or-set_at}
use Rattle.std.proofs.lemmas.Bool.{cases_eq, eq-eqb, ne_eqb}
use Rattle.ids_base.specs.declared.class.Class.{Class}
use Rattle.ids_base.specs.declared.class.Class.TheVariants.{Cpu, Lio, Pio, Aio}
use Rattle.vp_classes.specs.declared.request.IoRequest.{IoRequest}
use Rattle.vp_classes.specs.declared.request.IoRequest.TheVariants.{LogFlush, ClearFile, PhysFlush, Page, Clean, Checkpoint}
use Rattle.vp_classes.specs.Asked.{is_same}
use Rattle.vp_classes.specs.Marks.{one_if, mark, is_taker, marked, Sets}
use Rattle.vp_classes.specs.declared.marks.Marks.{Marks}

page_mark : (xs : List Bool) (k j : ℕ) (to : Bool) → k < length xs → get_or (set xs k to) j false ≡ cond (eqb (suc j) (suc k)) to (get_or xs j false)
page_mark xs k j to h = elim (cases_eq j k) [
  | inl here ↦ get_or-set_at xs k j to false here h ∙ sym (ap (λ (b : Bool). cond b to (get_or xs j false)) (eq-eqb (suc j) (suc k) (ap suc here)))
  | inr off ↦ get_or-set_other xs k j to false off ∙ sym (ap (λ (b : Bool). cond b to (get_or xs j false)) (ne_eqb (suc j) (suc k) (λ e. off (omega (arith, e)))))
]

pub sets_page : (old new : Marks) (k : ℕ) (to : Bool) → k < length old.pages.items → new.pages.items ≡ set old.pages.items k to → new.frames.items ≡ old.frames.items → new.log_flush ≡ old.log_flush → new.clear_file ≡ old.clear_file → new.phys_flush ≡ old.phys_flush → new.checkpoint ≡ old.checkpoint → Sets old new (Page (suc k)) to
sets_page old new k to h pages frames e1 e2 e3 e4 = record {
  marks = marks;
  pages = ap length pages ∙ length-set old.pages.items k to;
  frames = ap length frames;
  counted = counted;
}
  where
    marks : (s : IoRequest) → mark new s ≡ cond (is_same s (Page (suc k))) to (mark old s)
    marks LogFlush = e1
    marks ClearFile = e2
    marks PhysFlush = e3
    marks (Page zero) = sym (ap (λ (b : Bool). cond b to false) (ne_eqb 0 (suc k) (λ e. absurd (omega (arith, e)))))
    marks (Page (suc j)) = ap (λ (xs : List Bool). get_or xs j false) pages ∙ page_mark old.pages.items k j to h
    marks (Clean f) = ap (λ (xs : List Bool). get_or xs f false) frames
    marks Checkpoint = e4

    counted : (class : Class) → marked new class + one_if (is_taker class (Page (suc k)) && mark old (Page (suc k))) ≡ marked old class + one_if (is_taker class (Page (suc k)) && to)
    counted Cpu = refl
    counted Lio = ap (λ (b : Bool). one_if b + one_if new.clear_file + 0) e1 ∙ ap (λ (b : Bool). one_if old.log_flush + one_if b + 0) e2
    counted Pio = ap (λ (b : Bool). one_if b + 0) e3
    counted Aio =
        let sum = sum_by-set one_if old.pages.items k to false h in
        let f = ap (sum_by one_if) frames in
        let p = ap (sum_by one_if) pages in
        let c = ap one_if e4 in
        omega (arith, sum, f, p, c)

pub sets_page_at : (old new : Marks) (p : ℕ) (to : Bool) → (1 ≤ p) × (p ≤ length old.pages.items) → new.pages.items ≡ set old.pages.items (p - 1) to → new.frames.items ≡ old.frames.items → new.log_flush ≡ old.log_flush → new.clear_file ≡ old.clear_file → new.phys_flush ≡ old.phys_flush → new.checkpoint ≡ old.checkpoint → Sets old new (Page p) to
sets_page_at old new zero to h e f e1 e2 e3 e4 = absurd (omega (arith, h.0))
sets_page_at old new (suc k) to h e f e1 e2 e3 e4 =
    let here : suc k - 1 ≡ k = omega arith in
    sets_page old new k to (omega (arith, h.1)) (e ∙ ap (λ (n : ℕ). set old.pages.items n to) here) f e1 e2 e3 e4
