use Rattle.std.proofs.Common.{◌≡◌, ◌+◌, ◌-◌, ◌∙◌, sym, ap, ℕ, List, length, take, drop, ◌++◌, append_assoc, arith, length-drop}
use Rattle.std.proofs.Math.Seq.{take-add, take-length}
use Rattle.std.proofs.lemmas.List.{take-append-drop}
use Rattle.ids_server.proofs.printer.write_all.Goals as goal

pub returns-in_default-clause-part : goal.returns-in_default-clause-part
returns-in_default-clause-part g c = λ _ t. record {
  front = take c.loop-done.done c.args.bytes.now;
  of = record { rest = drop c.loop-done.done c.args.bytes.now; is = sym (take-append-drop c.loop-done.done c.args.bytes.now) };
  is = c.in_default.ensures.refused t ∙ c.loop-done.invariant.took t;
}

-- what is left of the bytes behind the first n
rest : (bytes : List ℕ) (n : ℕ) → take (length bytes - n) (drop n bytes) ≡ drop n bytes
rest bytes n = ap (λ k. take k (drop n bytes)) (sym (length-drop n bytes)) ∙ take-length (drop n bytes)

joined : (first taken after bytes : List ℕ) (n m : ℕ) → taken ≡ first ++ take n bytes → after ≡ taken ++ take m (drop n bytes) → after ≡ first ++ take (n + m) bytes
joined first taken after bytes n m h more =
    more ∙ ap (λ t. t ++ take m (drop n bytes)) h ∙ append_assoc first (take n bytes) (take m (drop n bytes)) ∙ ap (λ t. first ++ t) (sym (take-add n m bytes))

pub loop-done-preserved : goal.loop-done-preserved
loop-done-preserved g c = record {
  within = omega (arith, c.in-Ok.ensures.count, length-drop {A = ℕ});
  took = λ t. joined _ _ _ _ _ _ (c.loop-done.invariant.took t) (c.in-Ok.ensures.takes t ∙ ap (λ r. g.K.Sink.taken c.loop-done.sink ++ take c.in-Ok.count r) (rest c.args.bytes.now c.loop-done.done));
  later = omega (arith, c.write.ensures.cause.later, c.loop-done.invariant.later);
}
