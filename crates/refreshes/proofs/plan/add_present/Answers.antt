use Rattle.std.proofs.Common.{◌≡◌, Some, sym}
use Rattle.std.specs.Prelude.{slice_get}
use Rattle.rep_schema.specs.Tables.{columns_of, rows_of}
use Rattle.refreshes.proofs.PlannedKeys.{gone_keys-own, coming_rows-own}
use Rattle.refreshes.proofs.plan.add_present.Goals as goal

pub returns-clause-gone : goal.returns-clause-gone
returns-clause-gone g c =
    let columns = columns_of (g.R.RowStore.schema c.args.store.now) c.args.table in
    let rows = rows_of (g.R.RowStore.tables c.args.store.now) c.args.table in
    let there : slice_get rows c.args.place ≡ Some c.in-Some.present.now = sym c.in-Some.ensures in
    let own = rw c.schema.ensures.value at c.key_in-key.ensures in
    let here = rw c.schema-2.ensures.value at c.columns_of.ensures in
    let found = rw (here, c.values.ensures.value) at c.find_like-wanted.ensures in
    rw (gone_keys-own columns rows c.args.rows.now (c.schema.ensures.sound.each c.args.table c.requires.table).rising c.args.place c.in-Some.present.now there) (rw (own, found) at c.add.ensures.gone)

pub returns-clause-come : goal.returns-clause-come
returns-clause-come g c =
    let columns = columns_of (g.R.RowStore.schema c.args.store.now) c.args.table in
    let rows = rows_of (g.R.RowStore.tables c.args.store.now) c.args.table in
    let there : slice_get rows c.args.place ≡ Some c.in-Some.present.now = sym c.in-Some.ensures in
    let here = rw c.schema-2.ensures.value at c.columns_of.ensures in
    let found = rw (here, c.values.ensures.value) at c.find_like-wanted.ensures in
    rw (coming_rows-own columns rows c.args.rows.now (c.schema.ensures.sound.each c.args.table c.requires.table).rising c.args.place c.in-Some.present.now there) (rw found at c.add.ensures.come)
