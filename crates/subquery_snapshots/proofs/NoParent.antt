-- Values that are no key are the key of no row.
use Rattle.std.proofs.Common.{◌≡◌, List, length, Option, Some, None, refl, sym, ap, ◌∙◌, subst}
use Rattle.std.specs.List.{AllByRecursion}
use Rattle.rep_values.specs.Number.{IsKeyLen}
use Rattle.rep_schema.specs.declared.schema.Column.{Column}
use Rattle.rep_schema.specs.Tables.{Cells, Rows, find_row, RowFits, IsKeyed}
use Rattle.rep_schema.proofs.FoundRows.{found_row, key_of-found}
use Rattle.rep_schema.proofs.RowFit.{length-key_of}

pub find_row-no_key : (columns : List Column) (values : Cells) (rows : Rows) → IsKeyed columns → AllByRecursion (RowFits columns) rows → ¬ IsKeyLen (length values) → find_row columns values rows ≡ None
find_row-no_key columns values rows keyed all unkeyed = go (find_row columns values rows) refl
  where
    go : (found : Option Cells) → find_row columns values rows ≡ found → found ≡ None
    go None there = refl
    go (Some row) there =
        let fits = found_row columns values row rows there (RowFits columns) all in
        let long = sym (length-key_of columns row fits) ∙ ap length (key_of-found columns values row rows there) in
        absurd (unkeyed (subst IsKeyLen long keyed))
