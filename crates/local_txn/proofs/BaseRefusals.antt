-- Why a base row is refused, step by step, and what holds of one that isn't.
use Rattle.std.proofs.Common.{◌≡◌, ℕ, ◌<◌, Bool, true, false, List, length, refl, ◌∙◌}
use Rattle.std.specs.Prelude.{Some, None, ◌&&◌, is_some, nat_le}
use Rattle.std.proofs.lemmas.Bool.{and_parts, leb-true}
use Rattle.rep_values.specs.Number.{IsRowLen}
use Rattle.rep_values.specs.declared.literal.Literal.{Literal}
use Rattle.rep_values.specs.declared.refusal.Refusal.TheVariants as refusal
use Rattle.rep_values.specs.RefusalSteps.{first_refusal}
use Rattle.rep_schema.specs.declared.schema.Schema.{Schema}
use Rattle.rep_schema.specs.declared.schema.Column.{Column}
use Rattle.rep_schema.specs.Shape.{HasShape}
use Rattle.rep_schema.specs.Tables.{Cells, Rows, columns_of, key_of, key_count, IsKeyed, AreTables}
use Rattle.rep_schema.specs.Fitting.{is_keyed}
use Rattle.txn_effects.specs.Literals.{literals_fit}
use Rattle.txn_effects.specs.Filled.{written_columns}
use Rattle.txn_effects.specs.Statements.{row_at, row_steps}
use Rattle.local_txn.specs.BaseRows.{base_row, base_steps}
use Rattle.local_txn.specs.BaseSteps.{IsBaseRow}
use Rattle.txn_effects.specs.NewRows.{CanRun, FitsButForRange}
use Rattle.txn_effects.proofs.KindRows.{are_of-row_written}
use Rattle.txn_effects.proofs.NewRows.{accepted_row, RowFits-accepted, IsUniqueRow-accepted}
use Rattle.txn_effects.proofs.StatementRows.{FitsButForRange-are_of}
use Rattle.local_txn.proofs.StatementSteps.{length-literals_fit, IsRowLen-able}

module _ (schema : Schema) (tables : List Rows) (table : ℕ) (values : List Literal) where
  abbrev columns : List Column
  columns = columns_of schema table

  abbrev row : Cells
  row = base_row schema table values

  -- the table has a key, and the literals fit its columns
  abbrev takes : Bool
  takes = is_keyed columns && literals_fit schema (written_columns columns) values

  -- they don't
  pub base_RowShape : takes ≡ false → first_refusal (base_steps schema tables table values) ≡ Some refusal.RowShape
  base_RowShape fails = rw fails refl

  module _ (passes : takes ≡ true) where
    fits : literals_fit schema (written_columns columns) values ≡ true
    fits = (and_parts (is_keyed columns) (literals_fit schema (written_columns columns) values) passes).1

    pub IsKeyed-base : IsKeyed columns
    IsKeyed-base =
        let tests = and_parts (nat_le 1 (key_count columns)) (nat_le (key_count columns) 4) (and_parts (is_keyed columns) (literals_fit schema (written_columns columns) values) passes).0 in
        (leb-true 1 (key_count columns) tests.0, leb-true (key_count columns) 4 tests.1)

    pub CanRun-base : HasShape schema → AreTables schema tables → table < length schema.tables → CanRun schema tables table
    CanRun-base shape are below = record { shape = shape; keyed = IsKeyed-base; are = are; of_table = below }

    -- a literal for each column that is written, and a row of at most 32 values
    pub length-base : length (written_columns columns) ≡ length values
    length-base = length-literals_fit schema (written_columns columns) values fits

    pub IsRowLen-base : HasShape schema → AreTables schema tables → table < length schema.tables → IsRowLen (length columns)
    IsRowLen-base shape are below = IsRowLen-able schema tables table (CanRun-base shape are below)

    pub IsKindly-base : FitsButForRange schema table row
    IsKindly-base = FitsButForRange-are_of schema table row (are_of-row_written schema columns values fits)

    -- the key is there
    pub base_KeyTaken : is_some (row_at schema tables table (key_of columns row)) ≡ true → first_refusal (base_steps schema tables table values) ≡ Some refusal.KeyTaken
    base_KeyTaken taken = rw (passes, taken) refl

    -- the key is free, and the rest of the steps decide
    module _ (free : is_some (row_at schema tables table (key_of columns row)) ≡ false) where
      pub base_steps-row : first_refusal (base_steps schema tables table values) ≡ first_refusal (row_steps schema tables table row)
      base_steps-row = rw (passes, free) refl

      pub IsBaseRow-accepted : AreTables schema tables → table < length schema.tables → first_refusal (row_steps schema tables table row) ≡ None → IsBaseRow schema tables table values row
      IsBaseRow-accepted are below none =
          let accepted = accepted_row schema tables table row none in
          record {
            accepted = base_steps-row ∙ none;
            written = refl;
            keyed = IsKeyed-base;
            fits = RowFits-accepted schema tables table row IsKindly-base accepted;
            unique = IsUniqueRow-accepted schema tables table row (are.each table below) IsKindly-base accepted;
          }
