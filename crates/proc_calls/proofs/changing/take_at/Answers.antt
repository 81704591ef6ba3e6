use Rattle.std.proofs.Common.{◌≡◌, ◌∙◌, arith, refl, sym}
use Rattle.rep_lists.proofs.Places.{found_at}
use Rattle.rep_schema.specs.Putting.{StoreState}
use Rattle.rep_schema.specs.Tables.{columns_of, rows_of}
use Rattle.proc_calls.proofs.Trails.{keeps_still, keeps_take}
use Rattle.proc_calls.proofs.Dropping.{take_passed_over, take_there}
use Rattle.proc_calls.proofs.changing.take_at.Goals as goal

pub unreachable-requires : goal.unreachable-requires
unreachable-requires g c =
    let rows = rows_of (g.R.RowStore.tables c.args.store.now) c.args.table in
    let here = found_at rows c.args.place c.requires.place in
    absurd (cc (here.1, c.in_default.ensures))

pub returns-then-not-matches-clause-tables : goal.returns-then-not-matches-clause-tables
returns-then-not-matches-clause-tables g c = λ row there.
    let same : c.in-Some.row.now ≡ row = cc (there, c.in-Some.ensures) in
    let other = rw same at (sym c.matches.ensures ∙ c.if-not-matches.true) in
    take_passed_over c.args.tests.now (g.R.RowStore.tables c.args.store.now) c.args.table c.args.place row other

pub returns-then-not-matches-clause-trail : goal.returns-then-not-matches-clause-trail
returns-then-not-matches-clause-trail g c = keeps_still _ _ _ refl refl (λ t. omega arith)

pub returns-in_err-reserve-clause-trail : goal.returns-in_err-reserve-clause-trail
returns-in_err-reserve-clause-trail g c = rw c.reserve.ensures.items (keeps_still _ _ _ c.reserve.ensures.schema c.reserve.ensures.tables c.reserve.ensures.kept)

pub returns-clause-tables : goal.returns-clause-tables
returns-clause-tables g c = λ row there.
    let schema = g.R.RowStore.schema c.args.store.now in
    let tables = g.R.RowStore.tables c.args.store.now in
    let same : c.in-Some.row.now ≡ row = cc (there, c.in-Some.ensures) in
    let passes = rw same at (sym c.matches.ensures ∙ c.if-not-matches.false) in
    let key = rw (c.schema.ensures.value, same) at c.key_in-key.ensures in
    let taken = rw (c.reserve.ensures.schema, c.reserve.ensures.tables) at c.take-before.ensures.tables in
    take_there c.args.tests.now tables c.args.table c.args.place row (columns_of schema c.args.table) c.key_in-key.result _ there (c.holds_tables.ensures.each c.args.table c.requires.table).rising passes key taken

pub returns-clause-trail : goal.returns-clause-trail
returns-clause-trail g c =
    let S = g.R.RowStore in
    let old : StoreState = record { schema = S.schema c.args.store.now; tables = S.tables c.args.store.now; spare = S.spare c.args.store.now } in
    let mid : StoreState = record { schema = S.schema c.reserve.new.store; tables = S.tables c.reserve.new.store; spare = S.spare c.reserve.new.store } in
    let new : StoreState = record { schema = S.schema c.take-before.new.self; tables = S.tables c.take-before.new.self; spare = S.spare c.take-before.new.self } in
    rw (c.push.ensures, c.reserve.ensures.items)
    (keeps_take old mid new c.args.trail.now.items c.args.table c.requires.table c.requires.keyed c.reserve.ensures.schema c.reserve.ensures.tables c.reserve.ensures.kept c.in_ok-reserve.ensures.beside c.take-before.ensures.schema
    c.key_in-key.result _ c.take-before.result c.take-before.ensures.taken refl c.take-before.ensures.tables c.take-before.ensures.room c.take-before.ensures.others)
