-- Tables and counters in which the same is found everywhere are the same.
use Rattle.std.proofs.Common.{◌≡◌, ℕ, ◌<◌, List, [], length, sym, ap, ◌∙◌, subst}
use Rattle.std.proofs.lemmas.List.{ext_get_or, length-map}
use Rattle.rep_lists.proofs.FoundByKey.{same_from_finds}
use Rattle.rep_values.specs.Order.{key_cmp}
use Rattle.rep_values.specs.OrderLaws.{key_cmp_total}
use Rattle.rep_schema.specs.declared.schema.Schema.{Schema}
use Rattle.rep_schema.specs.Tables.{Cells, Rows, columns_of, key_of, find_row, rows_of, AreTables}
use Rattle.unique_resolve.specs.Numbers.{Numbers, AreCounters}
use Rattle.txn_effects.specs.Contents.{Content, IsContent}
use Rattle.rep_laws.specs.Commuting.{row_at, counters_at}

module _ (schema : Schema) where
  -- two lists of tables in which the same row is found in each table under each key
  pub same_tables : (tables others : List Rows) → AreTables schema tables → AreTables schema others
      → ((table : ℕ) (key : Cells) → find_row (columns_of schema table) key (rows_of tables table) ≡ find_row (columns_of schema table) key (rows_of others table))
      → tables ≡ others
  same_tables tables others are other_are found = ext_get_or [] tables others (are.number ∙ sym other_are.number) (λ table within.
      let below : table < length schema.tables = subst (λ n. table < n) are.number within in
      same_from_finds (key_of (columns_of schema table)) key_cmp key_cmp_total (rows_of tables table) (rows_of others table)
      (are.each table below).rising (other_are.each table below).rising (found table))

  -- counters of one schema are of as many tables
  length-AreCounters : (numbers : Numbers) → AreCounters schema numbers → length numbers ≡ length schema.tables
  length-AreCounters numbers counters = sym (length-map numbers length) ∙ ap length counters ∙ length-map schema.tables (λ table. length table.constraints)

  -- two contents with the same row, or none, at each key of each table, and the same counters of each table
  pub same_content : (one other : Content) → IsContent schema one → IsContent schema other
      → ((table : ℕ) (key : Cells) → row_at schema one table key ≡ row_at schema other table key)
      → ((table : ℕ) → counters_at one table ≡ counters_at other table)
      → one ≡ other
  same_content one other is other_is rows counters =
      let tables : one.tables ≡ other.tables = same_tables one.tables other.tables is.tables other_is.tables rows in
      let numbers : one.numbers ≡ other.numbers =
      ext_get_or [] one.numbers other.numbers (length-AreCounters one.numbers is.counters ∙ sym (length-AreCounters other.numbers other_is.counters)) (λ table within. counters table) in
      ap (λ (rows : List Rows). record { tables = rows; numbers = one.numbers }) tables ∙ ap (λ (all : Numbers). record { tables = other.tables; numbers = all }) numbers
