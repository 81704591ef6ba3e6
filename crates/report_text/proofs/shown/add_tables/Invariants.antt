-- Printing tables one by one.
use Rattle.std.proofs.Common.{◌≡◌, ◌++◌, drop}
use Rattle.report_text.specs.Sheet.{StandBefore}
use Rattle.report_text.specs.Texts.{each_table, tables_text}
use Rattle.report_text.proofs.shown.add_tables.Given as goal

-- the tables so far and those to come are all tables, and what stood there is kept
abbrev pub invariant-loop-table : goal.invariant-loop-table
invariant-loop-table g l =
    let schema = g.R.RowStore.schema l.store in
    let tables = g.R.RowStore.tables l.store in
    record {
      text : l.lines.bytes ++ each_table l.held l.table (drop l.table schema.tables) (drop l.table tables) ≡ l.fn.lines.bytes ++ tables_text l.fn.site.0 l.held schema tables;
      front : StandBefore l.fn.lines.bytes l.lines.bytes;
    }
