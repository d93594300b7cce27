use Rattle.std.proofs.Common.{◌≡◌}
use Rattle.chunk_map.specs.Layouts.{identity_body}
use Rattle.chunk_map.proofs.Bodies.{same_layout}
use Rattle.chunk_map.proofs.OneNewest.{one_page, one_newest}
use Rattle.chunk_map.proofs.laws.one_of_each.Goals as goal

pub returns-clause-layout : goal.returns-clause-layout
returns-clause-layout c = λ l m x first second.
    let bodies : identity_body l ≡ identity_body m = cc (first.block, second.block) in
    same_layout l m first.layout second.layout bodies

pub returns-clause-page : goal.returns-clause-page
returns-clause-page c = λ k p q x first second. one_page k p q x first second

pub returns-clause-newest : goal.returns-clause-newest
returns-clause-newest c = λ p q x first second. one_newest p q x first second
