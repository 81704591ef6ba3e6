use Rattle.std.proofs.Common.{◌≡◌, ap, ◌∙◌}
use Rattle.std.specs.Ordering.{is_gt}
use Rattle.rep_schema.specs.Tables.{Cells, row_beside}
use Rattle.subquery_snapshots.proofs.search.is_above.Goals as goal

pub returns : goal.returns
returns g c = λ row there.
    let same : c.in-Some.row.now ≡ row = cc (c.in-Some.ensures, there) in
    let stands = rw (c.values.ensures.value, c.values-2.ensures.value) at c.compare_row.ensures in
    c.is_gt.ensures ∙ ap is_gt stands ∙ ap (λ (r : Cells). is_gt (row_beside c.args.columns.now c.args.key.now r)) same
