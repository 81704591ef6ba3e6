use Rattle.std.proofs.Common.{◌≡◌, ◌∙◌, false, arith, refl, sym, subst}
use Rattle.std.specs.Int.{w64}
use Rattle.std.proofs.Math.Facts.{to_z-of_z}
use Rattle.rep_lists.proofs.Places.{found_at}
use Rattle.rep_schema.specs.Tables.{Cells, columns_of, rows_of, RowFits}
use Rattle.snapshot_query.specs.Queries.{matches}
use Rattle.proc_calls.proofs.AtPlace.{all_at}
use Rattle.proc_calls.proofs.Trails.{keeps_still}
use Rattle.proc_calls.proofs.Raising.{column_within, RowFits-raised, raise_passed_over, raise_there, range_of}
use Rattle.proc_calls.proofs.changing.raise_at.Goals as goal

pub unreachable-requires : goal.unreachable-requires
unreachable-requires g c =
    let rows = rows_of (g.R.RowStore.tables c.args.store.now) c.args.table in
    let here = found_at rows c.args.place c.requires.place in
    absurd (cc (here.1, c.in_default.ensures))

pub returns-then-not-matches-clause-tables : goal.returns-then-not-matches-clause-tables
returns-then-not-matches-clause-tables g c = λ row there.
    let tables = g.R.RowStore.tables c.args.store.now in
    let same : c.in-Some.row.now ≡ row = cc (there, c.in-Some.ensures) in
    raise_passed_over c.args.tests.now c.args.column c.args.amount tables c.args.table c.args.place row there (subst (λ (r : Cells). matches c.args.tests.now r ≡ false) same (sym c.matches.ensures ∙ c.if-not-matches.true))

pub returns-then-not-matches-clause-trail : goal.returns-then-not-matches-clause-trail
returns-then-not-matches-clause-trail g c = keeps_still _ _ _ refl refl (λ t. omega arith)

pub raised_row-requires-clause-range : goal.raised_row-requires-clause-range
raised_row-requires-clause-range g c =
    rw (to_z-of_z {w = w64} c.ranges.amount)
    (range_of c.args.tests.now c.args.column c.args.amount c.in-Some.row.now (c.requires.range c.in-Some.row.now (sym c.in-Some.ensures)) (sym c.matches.ensures ∙ c.if-not-matches.false))

pub raised_row-requires-clause-within : goal.raised_row-requires-clause-within
raised_row-requires-clause-within g c =
    let schema = g.R.RowStore.schema c.args.store.now in
    let rows = rows_of (g.R.RowStore.tables c.args.store.now) c.args.table in
    let fits = all_at (RowFits (columns_of schema c.args.table)) rows c.args.place c.in-Some.row.now (c.holds_tables.ensures.each c.args.table c.requires.table).fit (sym c.in-Some.ensures) in
    column_within (columns_of schema c.args.table) c.args.column c.requires.takes c.args.amount c.in-Some.row.now fits

pub put-requires-clause-fits : goal.put-requires-clause-fits
put-requires-clause-fits g c = λ κs lives.
    let schema = g.R.RowStore.schema c.args.store.now in
    let rows = rows_of (g.R.RowStore.tables c.args.store.now) c.args.table in
    let row = c.in-Some.row.now in
    let fits = all_at (RowFits (columns_of schema c.args.table)) rows c.args.place row (c.holds_tables.ensures.each c.args.table c.requires.table).fit (sym c.in-Some.ensures) in
    let range = range_of c.args.tests.now c.args.column c.args.amount row (c.requires.range row (sym c.in-Some.ensures)) (sym c.matches.ensures ∙ c.if-not-matches.false) in
    rw (c.in_ok-risen.ensures, to_z-of_z {w = w64} c.ranges.amount) (RowFits-raised (columns_of schema c.args.table) c.args.column c.requires.takes c.args.amount row range fits)

pub returns-in_err-risen-clause-trail : goal.returns-in_err-risen-clause-trail
returns-in_err-risen-clause-trail g c = keeps_still _ _ _ refl refl (λ t. omega arith)

pub returns-clause-tables : goal.returns-clause-tables
returns-clause-tables g c = λ row there.
    let schema = g.R.RowStore.schema c.args.store.now in
    let tables = g.R.RowStore.tables c.args.store.now in
    let same : c.in-Some.row.now ≡ row = cc (there, c.in-Some.ensures) in
    let is = rw (to_z-of_z {w = w64} c.ranges.amount, same) at c.in_ok-risen.ensures in
    let passes = rw same at (sym c.matches.ensures ∙ c.if-not-matches.false) in
    raise_there c.args.tests.now c.args.column c.args.amount tables c.args.table c.args.place row there (columns_of schema c.args.table) _ c.requires.takes (c.holds_tables.ensures.each c.args.table c.requires.table).rising passes c.in_ok-risen.risen is c.in_ok-put.ensures.tables
