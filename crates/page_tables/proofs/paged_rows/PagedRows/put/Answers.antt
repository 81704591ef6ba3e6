use Rattle.page_tables.proofs.PutRows.{each_named}
use Rattle.rep_schema.specs.Tables.{IsHeldElsewhere}
use Rattle.page_tables.specs.Stored.{rows_kept}
use Rattle.page_tables.proofs.paged_rows.PagedRows.put.Goals as goal

pub put-requires-clause-unique : goal.put-requires-clause-unique
put-requires-clause-unique c =
    let kept = c.self.inside.kept in
    each_named (λ places. ¬ IsHeldElsewhere c.args.columns.now places c.args.row (rows_kept kept.slots kept.order)) kept.indexes.items (rw (← c.self.view_is) at c.requires.unique)
