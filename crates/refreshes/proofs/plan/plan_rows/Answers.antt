use Rattle.std.proofs.Common.{◌++◌, map, sym, ap, ◌∙◌}
use Rattle.rep_schema.specs.Tables.{columns_of, key_of, rows_of}
use Rattle.refreshes.specs.Planned.{gone_keys, coming_rows, absent_rows}
use Rattle.refreshes.proofs.PlannedKeys.{gone_keys-all, coming_rows-all}
use Rattle.refreshes.proofs.plan.plan_rows.Goals as goal

pub returns-clause-gone : goal.returns-clause-gone
returns-clause-gone g c =
    let columns = columns_of (g.R.RowStore.schema c.args.store.now) c.args.table in
    let rows = rows_of (g.R.RowStore.tables c.args.store.now) c.args.table in
    let wanted = c.args.rows.now in
    c.in_ok-add_all_absent.ensures.gone ∙ c.in_ok-add_all_present.ensures.gone
    ∙ ap (λ first. first ++ gone_keys columns rows wanted (map (key_of columns) rows)) c.new-plan.ensures.gone
    ∙ sym (gone_keys-all columns rows wanted c.requires.wanted.rising)

pub returns-clause-come : goal.returns-clause-come
returns-clause-come g c =
    let columns = columns_of (g.R.RowStore.schema c.args.store.now) c.args.table in
    let rows = rows_of (g.R.RowStore.tables c.args.store.now) c.args.table in
    let wanted = c.args.rows.now in
    c.in_ok-add_all_absent.ensures.come
    ∙ ap (λ first. first ++ absent_rows columns rows wanted) (c.in_ok-add_all_present.ensures.come ∙ ap (λ first. first ++ coming_rows columns rows wanted (map (key_of columns) rows)) c.new-plan.ensures.come)
    ∙ sym (coming_rows-all columns rows wanted c.requires.wanted.rising)
