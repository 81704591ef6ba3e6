use Rattle.std.proofs.Common.{◌+◌, ◌<◌, ◌≤◌, length, drop, map, sym, ◌∙◌, arith}
use Rattle.std.proofs.lemmas.List.{append_assoc, append-nil, drop_all}
use Rattle.rep_lists.proofs.Places.{found_at, drop_from_found}
use Rattle.rep_schema.specs.Tables.{columns_of, key_of, find_row, rows_of}
use Rattle.refreshes.specs.Planned.{gone_here, coming_here, gone_keys, coming_rows}
use Rattle.refreshes.proofs.PlannedKeys.{gone_keys-place, coming_rows-place}
use Rattle.refreshes.proofs.plan.add_all_present.Goals as goal

pub loop-place-preserved : goal.loop-place-preserved
loop-place-preserved g c =
    let columns = columns_of (g.R.RowStore.schema c.args.store.now) c.args.table in
    let rows = rows_of (g.R.RowStore.tables c.args.store.now) c.args.table in
    let wanted = c.args.rows.now in
    let place = c.loop-place.place in
    let below : place < length rows = omega (arith, c.loop-place-test.true, c.count-place-end.ensures) in
    let row = found_at rows place below in
    let key = key_of columns row.0 in
    let here = drop_from_found rows place row.0 row.1 in
    let rest = map (key_of columns) (drop (place + 1) rows) in
    record {
      gone = rw (rw (gone_keys-place columns rows wanted place row.0 row.1) at c.in_ok-add_present.ensures.gone)
          (append_assoc c.loop-place.plan.gone.items (gone_here key (find_row columns key rows) (find_row columns key wanted)) (gone_keys columns rows wanted rest) ∙ (rw here at c.loop-place.invariant.gone));
      come = rw (rw (coming_rows-place columns rows wanted place row.0 row.1) at c.in_ok-add_present.ensures.come)
          (append_assoc c.loop-place.plan.come.items (coming_here (find_row columns key rows) (find_row columns key wanted)) (coming_rows columns rows wanted rest) ∙ (rw here at c.loop-place.invariant.come));
    }

-- none is left
pub returns-clause-gone : goal.returns-clause-gone
returns-clause-gone g c =
    let rows = rows_of (g.R.RowStore.tables c.args.store.now) c.args.table in
    let past : length rows ≤ c.loop-place.place = omega (arith, c.loop-place-test.false, c.count-place-end.ensures) in
    sym (append-nil c.loop-place.plan.gone.items) ∙ (rw (drop_all c.loop-place.place rows past) at c.loop-place.invariant.gone)

pub returns-clause-come : goal.returns-clause-come
returns-clause-come g c =
    let rows = rows_of (g.R.RowStore.tables c.args.store.now) c.args.table in
    let past : length rows ≤ c.loop-place.place = omega (arith, c.loop-place-test.false, c.count-place-end.ensures) in
    sym (append-nil c.loop-place.plan.come.items) ∙ (rw (drop_all c.loop-place.place rows past) at c.loop-place.invariant.come)
