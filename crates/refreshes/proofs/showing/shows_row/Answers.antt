use Rattle.std.proofs.Common.{sym, ◌∙◌}
use Rattle.rep_schema.specs.Tables.{columns_of, key_of, find_row, rows_of}
use Rattle.rep_schema.proofs.Making.{is_unchanged-Decides}
use Rattle.refreshes.specs.Showing.{shown}
use Rattle.refreshes.proofs.showing.shows_row.Goals as goal

-- under one of the keys nothing is asked
pub returns-then-is_among : goal.returns-then-is_among
returns-then-is_among g c =
    let own = rw c.schema.ensures.value at c.key_in-key.ensures in
    let has = rw own at c.is_among.ensures in
    (λ yes none. absurd (cc (yes, has, none)), λ shows. c.if-is_among.true)

pub returns-else-is_among : goal.returns-else-is_among
returns-else-is_among g c =
    let columns = columns_of (g.R.RowStore.schema c.args.store.now) c.args.table in
    let key = key_of columns c.args.row.now in
    let own = rw c.schema.ensures.value at c.key_in-key.ensures in
    let has = rw own at c.is_among.ensures in
    let here = rw own at c.get.ensures in
    let there = rw (c.requires.schema, own) at c.get-else-is_among.ensures in
    let same = rw (here, c.shown.ensures, there) at c.are_same.ensures in
    let test = is_unchanged-Decides (find_row columns key (rows_of (g.R.RowStore.tables c.args.store.now) c.args.table)) (shown c.args.query.now (find_row columns key (rows_of (g.S.RowStore.tables c.args.master.now) c.args.table))) in
    (λ yes none. test.0 (sym same ∙ yes), λ shows. same ∙ test.1 (shows (sym has ∙ c.if-is_among.false)))
