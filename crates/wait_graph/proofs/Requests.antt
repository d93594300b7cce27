-- A request that was asked about, and the cycles that it closes.
use Rattle.std.proofs.Common.{◌≡◌, ◌∙◌, sym, ap, subst, ℕ, List}
use Rattle.ids_base.specs.declared.lock.LockEntry.{LockEntry}
use Rattle.ids_base.specs.declared.lock.LockMode.{LockMode}
use Rattle.ids_base.specs.declared.lock.LockName.{LockName}
use Rattle.lock_table.specs.Table.{Table, line, holders, queue, WaitsNowhere}
use Rattle.lock_table.specs.Requests.{wanted, queued, is_overtaken, put_first}
use Rattle.lock_table.specs.Sound.{IsSound}
use Rattle.wait_graph.specs.Cycles.{IsCycle}
use Rattle.wait_graph.specs.declared.asked.Asked.{Asked}
use Rattle.wait_graph.specs.Queued.{IsAsked, WaitsSomewhere, ClosesCycle, queue_with}
use Rattle.wait_graph.specs.Search.{Waits}
use Rattle.wait_graph.specs.Targets.{next}
use Rattle.wait_graph.proofs.Edges.{edge-from, edge-to, as-asked, from-asked, cycle-mapped}

module _ (t : Table) (asked : Asked) (thread : ℕ) (name : LockName) (mode : LockMode) (starts : asked.start ≡ thread) (named : asked.name ≡ name) (filled : asked.queue.items ≡ (queued (line t name) (wanted (line t name) thread name mode)).queue) where
  abbrev queue_of : ℕ → LockName → List LockEntry
  queue_of s n = (queued (line t n) (wanted (line t n) s n mode)).queue

  pub is-asked : IsSound t → WaitsNowhere t thread → IsAsked t asked
  is-asked sound nowhere = record {
    sound = sound;
    waits_nowhere = subst (λ n. WaitsNowhere t n) (sym starts) nowhere;
    mode = mode;
    queued = filled ∙ ap (λ s. queue_of s name) (sym starts) ∙ ap (queue_of asked.start) (sym named);
  }

  pub cycle-from : (threads : List ℕ) → IsCycle (Waits (next t asked)) asked.start threads → ClosesCycle t thread name mode threads
  cycle-from threads c =
      let w = wanted (line t name) thread name mode in
      subst (λ s. IsCycle (WaitsSomewhere t (queue_with t w)) s threads) starts
      (cycle-mapped (Waits (next t asked)) (WaitsSomewhere t (queue_with t w)) (λ a b e. as-asked t asked w named filled a b (edge-from t asked a b e)) asked.start threads c)

  pub cycle-to : IsSound t → WaitsNowhere t thread → (threads : List ℕ) → ClosesCycle t thread name mode threads → IsCycle (Waits (next t asked)) asked.start threads
  cycle-to sound nowhere threads c =
      let w = wanted (line t name) thread name mode in
      let over = is_overtaken (holders t name) thread in
      subst (λ s. IsCycle (Waits (next t asked)) s threads) (sym starts)
      (cycle-mapped (WaitsSomewhere t (queue_with t w)) (Waits (next t asked))
      (λ a b x. edge-to t asked over w sound (subst (λ n. WaitsNowhere t n) (sym starts) nowhere) (filled ∙ ap (λ n. put_first over w (queue t n)) (sym named)) (sym starts) a b (from-asked t asked w named filled a b x))
      thread threads c)
