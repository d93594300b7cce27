use Rattle.std.proofs.Common.{◌≡◌, ◌+◌, ◌≤◌, sym, subst, arith}
use Rattle.log_files.specs.Files.{Files, file_end}
use Rattle.log_files.proofs.Edges.{ring_next}
use Rattle.log_files.proofs.files.LogFiles.free_next.Goals as goal

pub invariant_of-self : goal.invariant_of-self
invariant_of-self c =
    let f : Files = record { region = c.self.inside.region; file_blocks = c.self.inside.file_blocks; first = c.self.inside.first; next = c.self.inside.next; limit = c.self.inside.limit } in
    let is : f ≡ c.args.self.now = c.self.view_is in
    let end : f.limit + c.next_len.result ≡ file_end f f.limit = subst (λ (q : Files). q.limit + c.next_len.result ≡ file_end q q.limit) (sym is) c.next_len.ensures in
    let room : file_end f f.limit ≤ f.first + f.region.count = subst (λ (q : Files). file_end q q.limit ≤ q.first + q.region.count) (sym is) c.requires in
    ring_next f c.self.invariant (c.self.inside.limit + c.from.result) (omega (arith, end, c.from.ensures)) room
