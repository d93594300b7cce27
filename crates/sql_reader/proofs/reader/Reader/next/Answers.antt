use Rattle.std.proofs.Common.{refl}
use Rattle.sql_reader.proofs.Ways.{went_next, rest_here, text_here}
use Rattle.sql_reader.proofs.reader.Reader.next.Goals as goal

pub returns-clause-went : goal.returns-clause-went
returns-clause-went c = went_next c.args.self.now _ c.next_token-found.result.gap c.next_token-found.result.len c.next_token-found.result.kind c.next_token-found.result.to _ c.next_token-found.ensures refl c.edge_after-self.ensures
    (rest_here c.args.self.now.rest.now c.next_token-found.result.gap c.next_token-found.result.len) (text_here c.args.self.now.rest.now c.next_token-found.result.gap c.next_token-found.result.len)
