use Rattle.std.proofs.Common.{◌≡◌, ◌∙◌, ◌<◌, ◌^◌, ◌++◌, List, ℕ, codes, refl, ap, arith, subst, sym}
use Rattle.std.specs.Int.{w16, w32, to_be_bytes}
use lib.Pointwise.{bytes_decides}
use mathlib.Core.Bool.{true≢false}
use Rattle.chunk_map.specs.Layouts.{IsLayout, identity_body, zeros}
use Rattle.chunk_map.specs.declared.layout.Layout.{Layout}
use Rattle.chunk_map.proofs.identity.layout_of.Goals as goal
use Rattle.chunk_map.proofs.identity.layout_of.Goals.{else-is_in_range-via-then-is_in_range+else-eq, else-is_in_range-via-else-is_in_range}

pub returns-else-is_in_range-clause-none : goal.returns-else-is_in_range-clause-none
unfolding identity_body
returns-else-is_in_range-clause-none c = λ none l ranges is.
    let pages : List ℕ = to_be_bytes w32 l.data_pages ++ (to_be_bytes w32 l.root ++ zeros 2017) in
    let chunks : List ℕ = to_be_bytes w32 l.chunks ++ pages in
    let log_size : List ℕ = to_be_bytes w32 l.log_size ++ chunks in
    let logs : List ℕ = to_be_bytes w32 l.logs ++ log_size in
    let format : List ℕ = codes "IDSR" ++ to_be_bytes w16 1 in
    let front_logs : List ℕ = format ++ to_be_bytes w32 l.phys in
    let front_log_size : List ℕ = front_logs ++ to_be_bytes w32 l.logs in
    let front_chunks : List ℕ = front_log_size ++ to_be_bytes w32 l.log_size in
    let front_pages : List ℕ = front_chunks ++ to_be_bytes w32 l.chunks in
    let front_root : List ℕ = front_pages ++ to_be_bytes w32 l.data_pages in
    let phys_fits : l.phys < 2 ^ 32 = omega (arith, ranges.phys.1) in
    let logs_fits : l.logs < 2 ^ 32 = omega (arith, ranges.logs.1) in
    let log_size_fits : l.log_size < 2 ^ 32 = omega (arith, ranges.log_size.1) in
    let chunks_fits : l.chunks < 2 ^ 32 = omega (arith, ranges.chunks.1) in
    let pages_fits : l.data_pages < 2 ^ 32 = omega (arith, ranges.data_pages.1) in
    let root_fits : l.root < 2 ^ 32 = omega (arith, ranges.root) in
    let one = c.u32_at.ensures format logs l.phys phys_fits refl is in
    let two = c.u32_at-2.ensures front_logs log_size l.logs logs_fits refl is in
    let three = c.u32_at-3.ensures front_log_size chunks l.log_size log_size_fits refl is in
    let four = c.u32_at-4.ensures front_chunks pages l.chunks chunks_fits refl is in
    let five = c.u32_at-5.ensures front_pages (to_be_bytes w32 l.root ++ zeros 2017) l.data_pages pages_fits refl is in
    let six = c.u32_at-6.ensures front_root (zeros 2017) l.root root_fits refl is in
    let found : Layout = record {
      phys = c.u32_at.result;
      logs = c.u32_at-2.result;
      log_size = c.u32_at-3.result;
      chunks = c.u32_at-4.result;
      data_pages = c.u32_at-5.result;
      root = c.u32_at-6.result;
    } in
    let same : l ≡ found = (λ i. record {
      phys = sym one i;
      logs = sym two i;
      log_size = sym three i;
      chunks = sym four i;
      data_pages = sym five i;
      root = sym six i;
    }) in
    let in_range : IsLayout found = subst (λ (m : Layout). IsLayout m) same ranges in
    elim c.else-is_in_range.branch [
      | else-is_in_range-via-then-is_in_range+else-eq w ↦
          let bytes : w.identity_bytes.result ≡ c.args.body.now = w.identity_bytes.ensures ∙ sym (ap (λ (m : Layout). identity_body m) same) ∙ sym is in
          true≢false (sym ((bytes_decides _ _).1 bytes) ∙ sym w.eq.ensures ∙ w.if-eq.false)
      | else-is_in_range-via-else-is_in_range w ↦ true≢false (sym (c.is_in_range.ensures.1 in_range) ∙ w.if-is_in_range.false)
    ]
