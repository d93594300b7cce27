-- The ROLLBACK of the open transaction leaves the tables that are recovered.
use Rattle.std.proofs.Common.{◌≡◌, ℕ, true, List, [], ◌∷◌, ◌++◌, Option, Some, None, refl, sym, ◌∙◌, ap, subst, append_assoc}
use Rattle.std.proofs.lemmas.List.{append-nil}
use Rattle.std.specs.FinMap.{empty}
use Rattle.ids_outside.specs.Images.{Image, SameBut}
use Rattle.gate_blocks.specs.Gates.{RegionPlaces}
use Rattle.chunk_map.specs.declared.layout.Layout.{Layout}
use Rattle.chunk_map.specs.Formatted.{HasLayout}
use Rattle.log_records.specs.Entries.{Entry, Rollback}
use Rattle.gate_blocks.specs.declared.region.Region.{Region}
use Rattle.log_files.specs.Log.{EndsWhole}
use Rattle.log_files.specs.Files.{Files}
use Rattle.fast_recovery.specs.KeptLog.{HasLog, tail_entries}
use Rattle.ids_model.specs.Tables.{Tables}
use Rattle.ids_model.specs.Slots.{Slots, assign, own_all}
use Rattle.ids_model.specs.Recovered.{State, nothing, run, seen, owns, all_taken_back, AreOf}
use Rattle.ids_model.specs.Stands.{IsWhole}
use Rattle.ids_model.specs.Logged.{StandsWhole, IsRecovered}
use Rattle.ids_model.specs.RecoveryLaws.{RunsJoin, RollbacksAreSeen}
use Rattle.fast_recovery.specs.Images.{HasEmptyBase, log_region, log_in, page_count}
use Rattle.fast_recovery.specs.Order.{open_in, closing}
use Rattle.fast_recovery.specs.InPlace.{all_in_place}
use Rattle.fast_recovery.specs.Rising.{all_rise, greatest_in}
use Rattle.fast_recovery.specs.LogRead.{AreAlone}
use Rattle.fast_recovery.specs.Opening.{KeepsTables}
use Rattle.fast_recovery.proofs.Ordered.{alone-run}
use Rattle.fast_recovery.proofs.OrderFronts.{open_in-front, open_in-closed}
use Rattle.fast_recovery.proofs.Placed.{places-append, places-closing}
use Rattle.fast_recovery.proofs.Rises.{rises-append, rises-closing}
use Rattle.fast_recovery.proofs.EmptyBase.{Laws, same-base}

module _ (join : RunsJoin) (rolls : RollbacksAreSeen) where
  -- after it nothing stands
  pub closed-standing : (s : State) (o : Option ℕ) → AreAlone o s.standing → (run s (closing o)).standing ≡ []
  closed-standing s None alone = alone
  closed-standing s (Some tx) alone = ap (λ (t : State). t.standing) (rolls s tx alone)

  -- a front of it is nothing, or all
  pub front-recovers : (log front rest : List Entry) (o : Option ℕ) (T : Tables) → open_in None log ≡ Some o → closing o ≡ front ++ rest → IsRecovered log T → IsRecovered (log ++ front) T
  front-recovers log [] rest o T order parts stands = subst (λ l. IsRecovered l T) (sym (append-nil log)) stands
  front-recovers log (e ∷ front) rest None T order parts stands = cc
  front-recovers log (e ∷ []) rest (Some tx) T order parts stands =
      let s = run nothing log in
      let alone : AreOf tx s.standing = alone-run None (Some tx) log [] refl order in
      let first : Rollback tx ≡ e = cc in
      let now : run nothing (log ++ e ∷ []) ≡ record s { slots = seen s; standing = [] } =
      ap (λ f. run nothing (log ++ f ∷ [])) (sym first) ∙ join nothing log (Rollback tx ∷ []) ∙ rolls s tx alone in
      subst (λ (t : State). StandsWhole t.own (seen t) T) (sym now) stands
  front-recovers log (e ∷ f ∷ front) rest (Some tx) T order parts stands = cc

  -- after it the rows stand as they were seen
  pub closed-whole : (log : List Entry) (o : Option ℕ) (T : Tables) → open_in None log ≡ Some o → IsRecovered log T
      → IsWhole (run nothing (log ++ closing o)).own (run nothing (log ++ closing o)).slots
  closed-whole log o T order recovered =
      let s : State = run nothing log in
      let now : State = run nothing (log ++ closing o) in
      let closed : IsRecovered (log ++ closing o) T = front-recovers log (closing o) [] o T order (sym (append-nil (closing o))) recovered in
      let quiet : now.standing ≡ [] = ap (λ (t : State). t.standing) (join nothing log (closing o)) ∙ closed-standing s o (alone-run None o log [] refl order) in
      subst (λ (slots : Slots). IsWhole now.own slots) (ap (λ cs. assign now.slots (all_taken_back cs)) quiet) closed.whole

  -- an image whose log has a front of it behind has the same tables
  pub keeps-tables : Laws → ((l m : Layout) (x : Image) → HasLayout l x → HasLayout m x → l ≡ m)
      → (l : Layout) (f : Files) (o : Option ℕ) (front rest : List Entry) (x y : Image) → f.region ≡ log_region l → f.first ≡ 1 → HasLayout l x → open_in None (log_in l x) ≡ Some o
      → closing o ≡ front ++ rest → HasLog f x (log_in l x) front y → KeepsTables x y
  keeps-tables laws one l f o front rest x y region first has order parts log T was =
      let same : was.layout ≡ l = one was.layout l x was.base.layout has in
      let base = subst (λ m. HasEmptyBase m x) same was.base in
      let tables : IsRecovered (log_in l x) T = subst (λ m. IsRecovered (log_in m x) T) same was.tables in
      let placed : all_in_place (page_count l) empty (log_in l x) ≡ true = subst (λ m. all_in_place (page_count m) empty (log_in m x) ≡ true) same was.in_place in
      let rising : all_rise 0 (log_in l x) ≡ true = subst (λ m. all_rise 0 (log_in m x) ≡ true) same was.rising in
      let tail : log_in l y ≡ log_in l x ++ front = (λ i. tail_entries (sym region i) (sym first i) y) ∙ log.tail in
      let closed : open_in None ((log_in l x ++ front) ++ rest) ≡ Some None =
      ap (open_in None) (append_assoc (log_in l x) front rest ∙ ap (λ es. log_in l x ++ es) (sym parts)) ∙ open_in-closed o (log_in l x) order in
      let still = open_in-front None None (log_in l x ++ front) rest closed in
      record {
        layout = l;
        base = same-base laws l x y (subst (λ r. SameBut (RegionPlaces r) x y) region log.elsewhere) base;
        last = still.0;
        in_order = ap (open_in None) tail ∙ still.1;
        in_place = ap (all_in_place (page_count l) empty) tail
            ∙ places-append join (page_count l) empty (log_in l x) front placed (places-closing join (page_count l) (own_all empty (owns (log_in l x))) o front rest parts);
        rising = ap (all_rise 0) tail ∙ rises-append 0 (log_in l x) front rising (rises-closing (greatest_in (log_in l x)) o front rest parts);
        whole = subst (λ (at : Region × ℕ). EndsWhole at.0 at.1 y) (λ i. (region i, first i)) log.whole;
        tables = subst (λ t. IsRecovered t T) (sym tail) (front-recovers (log_in l x) front rest o T order parts tables);
      }
