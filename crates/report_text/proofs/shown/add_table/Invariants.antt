-- Printing a table row by row.
use Rattle.std.proofs.Common.{◌≡◌, ◌++◌, drop}
use Rattle.std.specs.List.{flat_map}
use Rattle.rep_schema.specs.Tables.{rows_of}
use Rattle.report_text.specs.Sheet.{StandBefore}
use Rattle.report_text.specs.Texts.{row_text, table_text}
use Rattle.report_text.proofs.shown.add_table.Given as goal

-- the rows so far and those to come are the whole table, and what stood there is kept
abbrev pub invariant-loop-place : goal.invariant-loop-place
invariant-loop-place g l = record {
  text :
      l.lines.bytes ++ flat_map row_text (drop l.place (rows_of (g.R.RowStore.tables l.store) l.table))
      ≡ l.fn.lines.bytes ++ table_text l.fn.name.0 (rows_of (g.R.RowStore.tables l.store) l.table);
  front : StandBefore l.fn.lines.bytes l.lines.bytes;
}
