use Rattle.std.proofs.Common.{◌≡◌, ◌≤◌, ap, sym, ◌∙◌, Some, arith}
use Rattle.ids_base.specs.Shapes.{row_length}
use Rattle.ids_model.specs.Tables.{shape_of, shape_at}
use Rattle.fast_recovery.proofs.GoodShapes.{short_rows}
use Rattle.fast_recovery.proofs.catalogue.Catalogue.has_length.Goals as goal

pub row_length-requires : goal.row_length-requires
row_length-requires c =
    let shape = c.in-Some.table.now.shape in
    let there : shape_at c.args.self.now.tables c.args.name.now ≡ Some shape = ap shape_of (sym c.in-Some.ensures) in
    let short : row_length shape ≤ 800 = short_rows shape (c.requires c.args.name.now shape there) in
    let same : row_length c.as_slice.result.now ≡ row_length shape = ap row_length (c.as_slice.ensures ∙ c.shape.ensures) in
    omega arith
