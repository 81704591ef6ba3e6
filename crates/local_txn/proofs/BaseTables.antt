-- Rows of a table filled in one after another, and tables one after another.
use Rattle.std.proofs.Common.{◌≡◌, ℕ, zero, suc, ◌+◌, ◌<◌, ◌≤◌, Bool, true, false, List, [], ◌∷◌, ◌++◌, length, set, map, take, drop, refl, sym, ap, arith, append_assoc, append-nil, take-append-drop}
use Rattle.std.specs.Prelude.{cond}
use Rattle.std.specs.List.{AllByRecursion, list_any}
use Rattle.std.proofs.lemmas.List.{take_more_set, drop-set-lt, drop_all, take_all}
use Rattle.std.proofs.lemmas.Option.{slice_get-get_or}
use Rattle.rep_lists.proofs.Places.{found_at, drop_from_found}
use Rattle.rep_schema.specs.declared.schema.Schema.{Schema}
use Rattle.rep_schema.specs.declared.schema.Column.{Column}
use Rattle.rep_schema.specs.Tables.{Rows, columns_of, rows_of, RowFits}
use Rattle.rep_schema.specs.Kinds.{is_filled}
use Rattle.txn_effects.specs.Filled.{Filling, filled_row, everywhere}
use Rattle.local_txn.specs.BaseRows.{filled_tables, filled_on}
use Rattle.local_txn.specs.BaseSteps.{fill_count}
use Rattle.txn_effects.proofs.KindRows.{length-are_of, are_of-RowFits}
use Rattle.local_txn.proofs.FilledRows.{filled_from-none}

-- a list is as long where its first values are changed
pub length-changed_to : {X : Type 0} (f : X → X) (xs : List X) (i : ℕ) → length (map f (take i xs) ++ drop i xs) ≡ length xs
length-changed_to f xs zero = refl
length-changed_to f [] (suc i) = refl
length-changed_to f (x ∷ xs) (suc i) = ap suc (length-changed_to f xs i)

module _ (filling : Filling) (columns : List Column) where
  -- where no column is filled, filling in changes no row
  filled_rows-none : (rows : Rows) → list_any is_filled columns ≡ false → AllByRecursion (RowFits columns) rows → map (filled_row filling columns) rows ≡ rows
  filled_rows-none [] none fit = refl
  filled_rows-none (row ∷ rows) none fit =
      let long : length columns ≡ length row = length-are_of columns row (are_of-RowFits columns row fit.0).0 in
      rw (filled_from-none filling everywhere 0 columns row none long) (ap (λ rest. row ∷ rest) (filled_rows-none rows none fit.1))

  -- so many rows are all that are filled in
  pub filled_rows-all : (rows : Rows) (i : ℕ) → AllByRecursion (RowFits columns) rows → i ≡ fill_count columns rows → map (filled_row filling columns) (take i rows) ++ drop i rows ≡ map (filled_row filling columns) rows
  filled_rows-all rows i fit is = go (list_any is_filled columns) refl is
    where
      go : (b : Bool) → list_any is_filled columns ≡ b → i ≡ cond b (length rows) 0 → map (filled_row filling columns) (take i rows) ++ drop i rows ≡ map (filled_row filling columns) rows
      go true some all = let past : length rows ≤ i = omega (arith, all) in rw (take_all i rows past, drop_all i rows past) (append-nil (map (filled_row filling columns) rows))
      go false none zero_is = rw zero_is (sym (filled_rows-none rows none fit))

-- no more rows are filled in than there are
pub fill_count-within : (columns : List Column) (rows : Rows) → fill_count columns rows ≤ length rows
fill_count-within columns rows = go (list_any is_filled columns)
  where
    go : (b : Bool) → cond b (length rows) 0 ≤ length rows
    go true = omega arith
    go false = omega arith

module _ (filling : Filling) (schema : Schema) (tables : List Rows) (n : ℕ) where
  -- the next table is filled in
  pub filled_on-more : length tables ≡ length schema.tables → n < length schema.tables
      → filled_on filling schema n tables ≡ filled_on filling schema (n + 1) (set tables n (map (filled_row filling (columns_of schema n)) (rows_of tables n)))
  filled_on-more number below =
      let entry = found_at schema.tables n below in
      let within : n < length tables = omega (arith, number, below) in
      let next : n < n + 1 = omega arith in
      let rows = rows_of tables n in
      let made = map (filled_row filling (columns_of schema n)) rows in
      rw (take_more_set tables n made within, drop-set-lt (n + 1) tables n made next, drop_from_found schema.tables n entry.0 entry.1, drop_from_found tables n rows (slice_get-get_or tables n [] within), entry.1)
      (sym (append_assoc (take n tables) (map (filled_row filling entry.0.columns) rows ∷ []) (filled_tables filling (drop (n + 1) schema.tables) (drop (n + 1) tables))))

  -- none is left
  pub filled_on-end : length schema.tables ≤ n → filled_on filling schema n tables ≡ tables
  filled_on-end past = rw (drop_all n schema.tables past) (take-append-drop n tables)
