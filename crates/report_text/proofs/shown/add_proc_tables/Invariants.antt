-- Printing tables that procedures write one by one.
use Rattle.std.proofs.Common.{◌≡◌, ◌++◌, drop}
use Rattle.report_text.specs.Sheet.{StandBefore}
use Rattle.report_text.specs.Texts.{all_tables, proc_tables_text}
use Rattle.report_text.proofs.shown.add_proc_tables.Given as goal

-- the tables so far and those to come are all tables, and what stood there is kept
abbrev pub invariant-loop-table : goal.invariant-loop-table
invariant-loop-table g l =
    let schema = g.R.RowStore.schema l.store in
    let tables = g.R.RowStore.tables l.store in
    record {
      text : l.lines.bytes ++ all_tables (drop l.table schema.tables) (drop l.table tables) ≡ l.fn.lines.bytes ++ proc_tables_text l.fn.site.0 schema tables;
      front : StandBefore l.fn.lines.bytes l.lines.bytes;
    }
