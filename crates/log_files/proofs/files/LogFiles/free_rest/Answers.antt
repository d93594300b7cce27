use Rattle.std.proofs.Common.{◌≡◌, ◌+◌, ℕ, max, ap, sym, subst, ◌∙◌, arith}
use Rattle.log_files.specs.Files.{Files, file_start}
use Rattle.log_files.proofs.Edges.{ring_all}
use Rattle.log_files.proofs.files.LogFiles.free_rest.Goals as goal

pub invariant_of-self : goal.invariant_of-self
invariant_of-self c =
    let f : Files = record { region = c.self.inside.region; file_blocks = c.self.inside.file_blocks; first = c.self.inside.first; next = c.self.inside.next; limit = c.self.inside.limit } in
    let is : f ≡ c.args.self.now = c.self.view_is in
    let start : c.file_start.result ≡ file_start f f.first = subst (λ (q : Files). c.file_start.result ≡ file_start q f.first) (sym is) c.file_start.ensures.start in
    let turn : c.file_start.result + c.from.result ≡ file_start f f.first + f.region.count = omega (arith, start, c.from.ensures) in
    ring_all f c.self.invariant c.max-self-inside.result (c.max-self-inside.ensures ∙ ap (λ (n : ℕ). max n f.next) turn)
