use Rattle.lower_flat_arrays.specs.Columns.{column_by}
use Rattle.lower_flat_arrays.specs.ColumnLaws.{exact_answer}
use Rattle.lower_flat_arrays.proofs.equality.is_same_column.Goals as goal

pub returns-clause-test : goal.returns-clause-test
returns-clause-test g c =
    let a = c.args.lhs.now in
    let b = c.args.rhs.now in
    exact_answer c.are_one_column.result
    (column_by (g.A.ToColumn.tree a) (g.A.ToColumn.count a) (g.A.ToColumn.slot a))
    (column_by (g.A.ToColumn.tree b) (g.A.ToColumn.count b) (g.A.ToColumn.slot b))
    c.are_one_column.ensures
