-- A new row that no step refuses fits, is unique, and meets the checks.
use Rattle.std.proofs.Common.{◌≡◌, ℕ, true, false, List, [], ◌∷◌, ◌++◌, refl, sym, ap, ◌∙◌}
use Rattle.std.specs.Prelude.{Option, Some, None, not}
use Rattle.std.specs.Option.{option_map}
use Rattle.rep_values.specs.declared.refusal.Refusal.{Refusal}
use Rattle.rep_values.specs.declared.refusal.Refusal.TheVariants as refusal
use Rattle.rep_values.specs.RefusalSteps.{refused, or_then, first_refusal}
use Rattle.rep_values.proofs.RefusalSteps.{or_then-None, refused_not-None}
use Rattle.rep_schema.specs.declared.schema.Schema.{Schema}
use Rattle.rep_schema.specs.declared.check.Check.{Check}
use Rattle.rep_schema.specs.Tables.{Cells, Rows, columns_of, rows_of, RowFits, IsTable, IsUniqueRow}
use Rattle.rep_schema.specs.Kinds.{row_in_range}
use Rattle.rep_schema.specs.Checks.{failed_check}
use Rattle.txn_effects.specs.Statements.{unique_steps, check_step, row_steps}
use Rattle.txn_effects.specs.NewRows.{FitsButForRange}
use Rattle.txn_effects.proofs.FreeRows.{IsUniqueRow-free}

first_refusal-append : (xs ys : List (Option Refusal)) → first_refusal (xs ++ ys) ≡ or_then (first_refusal xs) (first_refusal ys)
first_refusal-append [] ys = refl
first_refusal-append (x ∷ xs) ys = go x (first_refusal-append xs ys)
  where
    go : (o : Option Refusal) → first_refusal (xs ++ ys) ≡ or_then (first_refusal xs) (first_refusal ys) → or_then o (first_refusal (xs ++ ys)) ≡ or_then (or_then o (first_refusal xs)) (first_refusal ys)
    go None rest = rest
    go (Some why) rest = refl

or_then-last : (o : Option Refusal) → or_then o None ≡ o
or_then-last None = refl
or_then-last (Some why) = refl

module _ (schema : Schema) (tables : List Rows) (table : ℕ) (row : Cells) where
  -- the steps of a new row: its ranges, the constraints, the checks
  pub row_steps-parts : first_refusal (row_steps schema tables table row)
      ≡ or_then (refused (not (row_in_range row)) refusal.ValueRange) (or_then (first_refusal (unique_steps schema tables table row)) (check_step schema table row))
  row_steps-parts = ap (or_then (refused (not (row_in_range row)) refusal.ValueRange))
      (first_refusal-append (unique_steps schema tables table row) (check_step schema table row ∷ []) ∙ ap (or_then (first_refusal (unique_steps schema tables table row))) (or_then-last (check_step schema table row)))

  -- a row that is out of range is refused for that
  pub row_steps-out : row_in_range row ≡ false → first_refusal (row_steps schema tables table row) ≡ Some refusal.ValueRange
  row_steps-out out = row_steps-parts ∙ rw out refl

  -- a row that is in range, free and checked
  pub record IsAccepted : Type 0 where
    pub range : row_in_range row ≡ true
    pub free : first_refusal (unique_steps schema tables table row) ≡ None
    pub checked : failed_check schema table row ≡ None

  pub accepted_row : first_refusal (row_steps schema tables table row) ≡ None → IsAccepted
  accepted_row none =
      let parts = or_then-None (refused (not (row_in_range row)) refusal.ValueRange) (or_then (first_refusal (unique_steps schema tables table row)) (check_step schema table row)) (sym row_steps-parts ∙ none) in
      let later = or_then-None (first_refusal (unique_steps schema tables table row)) (check_step schema table row) parts.1 in
      record {
        range = refused_not-None (row_in_range row) refusal.ValueRange parts.0;
        free = later.0;
        checked = unfailed (failed_check schema table row) later.1;
      }
    where
      unfailed : (o : Option Check) → option_map (λ check. refusal.CheckFailed check.name) o ≡ None → o ≡ None
      unfailed None e = refl
      unfailed (Some check) e = cc

  -- it fits
  pub RowFits-accepted : FitsButForRange schema table row → IsAccepted → RowFits (columns_of schema table) row
  RowFits-accepted kindly accepted = kindly.fits accepted.range

  -- and is unique
  pub IsUniqueRow-accepted : IsTable schema table (rows_of tables table) → FitsButForRange schema table row → IsAccepted → IsUniqueRow schema table row (rows_of tables table)
  IsUniqueRow-accepted is_table kindly accepted = IsUniqueRow-free schema tables table row is_table (RowFits-accepted kindly accepted) accepted.free
