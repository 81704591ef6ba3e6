use Rattle.std.proofs.Common.{◌+◌, [], ◌∷◌, ◌++◌, drop, sym, ap, ◌∙◌}
use Rattle.std.proofs.lemmas.List.{append_assoc}
use Rattle.rep_lists.proofs.Places.{drop_from_place}
use Rattle.rep_schema.specs.Tables.{columns_of, rows_of}
use Rattle.refreshes.specs.Planned.{absent_rows}
use Rattle.refreshes.proofs.PlannedKeys.{absent_rows-first}
use Rattle.refreshes.proofs.plan.add_all_absent.Goals as goal

pub loop-row-preserved : goal.loop-row-preserved
loop-row-preserved g c =
    let columns = columns_of (g.R.RowStore.schema c.args.store.now) c.args.table in
    let rows = rows_of (g.R.RowStore.tables c.args.store.now) c.args.table in
    let row = c.row-item.result in
    let rest = drop (c.loop-row.row-index + 1) c.args.rows.now in
    let come = c.loop-row.plan.come.items in
    let here = drop_from_place c.args.rows.now c.loop-row.row-index row c.loop-row-test.true c.row-item.is in
    record {
      gone = c.in_ok-add_absent.ensures.gone ∙ c.loop-row.invariant.gone;
      come = rw c.in_ok-add_absent.ensures.come
          (append_assoc come (absent_rows columns rows (row ∷ [])) (absent_rows columns rows rest) ∙ ap (λ more. come ++ more) (sym (absent_rows-first columns rows row rest)) ∙ (rw here at c.loop-row.invariant.come));
    }
