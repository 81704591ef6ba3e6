-- The test whether a row with another key has a row's values, and what it means.
use Rattle.std.proofs.Common.{◌≡◌, ◌≢◌, ℕ, Bool, List, length, get_or, sym, ◌∙◌}
use Rattle.std.specs.Prelude.{Decides, ◌&&◌, not}
use Rattle.std.specs.List.{AllByRecursion}
use Rattle.std.proofs.lemmas.Bool.Decides.{Decides-and, Decides-not, Decides-like}
use Rattle.std.proofs.lemmas.List.Elements.{All-from_recursion}
use Rattle.std.proofs.lemmas.List.Folds.{Any-from_list_any, list_any-from_Any}
use Rattle.rep_schema.specs.declared.schema.Column.{Column}
use Rattle.rep_schema.specs.Tables.{Cells, Rows, key_of, picked, RowFits, IsHeldElsewhere}
use Rattle.rep_schema.specs.Groups.{values_at, are_same}
use Rattle.rep_schema.proofs.RowFit.{length-fits}
use Rattle.rep_schema.proofs.ValuesAt.{picked-values_at, are_same-Decides}
use Rattle.unique_resolve.specs.Settling.{is_held}

module _ (columns : List Column) (places : List ℕ) (row : Cells) (fits : RowFits columns row) where
  -- another row has another key and the row's values
  abbrev clashes : Cells → Bool
  clashes other = not (are_same (key_of columns other) (key_of columns row)) && are_same (values_at places other) (values_at places row)

  abbrev Clashes : Cells → Type 0
  Clashes other = (key_of columns other ≢ key_of columns row) × (picked places other ≡ picked places row)

  clash_test : (other : Cells) → RowFits columns other → Decides (clashes other) (Clashes other)
  clash_test other fit =
      let long : length other ≡ length row = sym (length-fits columns other fit) ∙ length-fits columns row fits in
      let same = picked-values_at places other row long in
      Decides-and (not (are_same (key_of columns other) (key_of columns row))) (are_same (values_at places other) (values_at places row))
      (Decides-not (are_same (key_of columns other) (key_of columns row)) (are_same-Decides (key_of columns other) (key_of columns row)))
      (Decides-like (are_same (values_at places other) (values_at places row)) same.1 same.0 (are_same-Decides (values_at places other) (values_at places row)))

  -- among rows that fit, the test passes exactly where some row with another key has the row's values
  pub held_test : (rows : Rows) → AllByRecursion (RowFits columns) rows → Decides (is_held columns places rows row) (IsHeldElsewhere columns places row rows)
  held_test rows fit = (
    λ e.
        let found = Any-from_list_any clashes rows e in
        let other_fits : RowFits columns (get_or rows found.0 found.1) = All-from_recursion (RowFits columns) rows fit found.0 found.1 found.2 in
        (found.0, found.1, found.2, found.3, (clash_test found.1 (rw found.3 at other_fits)).0 found.4),
    λ held.
        let other_fits : RowFits columns (get_or rows held.0 held.1) = All-from_recursion (RowFits columns) rows fit held.0 held.1 held.2 in
        list_any-from_Any clashes rows (held.0, held.1, held.2, held.3, (clash_test held.1 (rw held.3 at other_fits)).1 held.4),
  )
