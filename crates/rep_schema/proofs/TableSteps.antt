-- Tables stay tables when a row is put or taken.
use Rattle.std.proofs.Common.{◌≡◌, ◌≢◌, ℕ, ◌<◌, List, [], ◌∷◌, length, get_or, set, replicate, refl, sym, ◌∙◌, subst, inl, inr, arith}
use Rattle.std.specs.Prelude.{Any}
use Rattle.std.specs.List.{AllByRecursion}
use Rattle.std.proofs.lemmas.Bool.{cases_eq}
use Rattle.std.proofs.lemmas.List.{length-set, get_or-set_other, get_or-set_same, length-replicate, get_or-replicate, get_or_default}
use Rattle.std.proofs.lemmas.List.Elements.{All-from_recursion, recursion_from_All}
use Rattle.rep_lists.proofs.Rising.{rising_put, rising_take, all_put, all_take}
use Rattle.rep_values.specs.Order.{key_cmp}
use Rattle.rep_values.specs.OrderLaws.{key_cmp_total}
use Rattle.rep_schema.specs.declared.schema.Schema.{Schema}
use Rattle.rep_schema.specs.Tables.{Cells, Rows, columns_of, constraints_of, constraint_columns_of, key_of, row_beside, picked, put_row, take_row, rows_of, RowFits, IsUniqueRow, IsTable, AreTables}

-- what isn't found among values is none of them
none_from_any : {X : Type 0} (P : X → Type 0) (xs : List X) → ¬ Any P xs → AllByRecursion (λ x. ¬ P x) xs
none_from_any P xs none = recursion_from_All (λ x. ¬ P x) xs (λ k d below p. none (k, get_or xs k d, below, get_or_default xs k (get_or xs k d) d below, p))

-- and what none of them is isn't found
pub any_from_none : {X : Type 0} (P : X → Type 0) (xs : List X) → AllByRecursion (λ x. ¬ P x) xs → ¬ Any P xs
any_from_none P xs none any = All-from_recursion (λ x. ¬ P x) xs none any.0 any.1 any.2 (rw any.3 any.4)

module _ (schema : Schema) (table : ℕ) where
  -- the other row has the row's values in a constraint, and another key
  abbrev Clashes : ℕ → Cells → Cells → Type 0
  Clashes c row other = (key_of (columns_of schema table) other ≢ key_of (columns_of schema table) row) × (picked (constraint_columns_of schema table c) other ≡ picked (constraint_columns_of schema table c) row)

  -- a row is unique where it clashes with none
  unique_from_none : (row : Cells) (rows : Rows) → ((c : ℕ) → c < length (constraints_of schema table) → AllByRecursion (λ other. ¬ Clashes c row other) rows) → IsUniqueRow schema table row rows
  unique_from_none row rows none = record { unheld = λ c below. any_from_none (Clashes c row) rows (none c below) }

  none_from_unique : (row : Cells) (rows : Rows) → IsUniqueRow schema table row rows → (c : ℕ) → c < length (constraints_of schema table) → AllByRecursion (λ other. ¬ Clashes c row other) rows
  none_from_unique row rows unique c below = none_from_any (Clashes c row) rows (unique.unheld c below)

  -- what is unique among rows stays so where one is taken
  pub IsUniqueRow-take : (key row : Cells) (rows : Rows) → IsUniqueRow schema table row rows → IsUniqueRow schema table row (take_row (columns_of schema table) key rows)
  IsUniqueRow-take key row rows unique = unique_from_none row _ (λ c below. all_take (row_beside (columns_of schema table) key) (λ other. ¬ Clashes c row other) rows (none_from_unique row rows unique c below))

  -- a row is unique among rows with itself
  IsUniqueRow-put_own : (row : Cells) (rows : Rows) → IsUniqueRow schema table row rows → IsUniqueRow schema table row (put_row (columns_of schema table) row rows)
  IsUniqueRow-put_own row rows unique = unique_from_none row _ (λ c below.
      all_put (row_beside (columns_of schema table) (key_of (columns_of schema table) row)) (λ other. ¬ Clashes c row other) row rows (λ clash. clash.0 refl) (none_from_unique row rows unique c below))

  -- what is unique among rows stays so where a row with its key is put
  pub IsUniqueRow-put_same : (old row : Cells) (rows : Rows) → key_of (columns_of schema table) row ≡ key_of (columns_of schema table) old → IsUniqueRow schema table old rows
      → IsUniqueRow schema table old (put_row (columns_of schema table) row rows)
  IsUniqueRow-put_same old row rows same unique = unique_from_none old _ (λ c below.
      all_put (row_beside (columns_of schema table) (key_of (columns_of schema table) row)) (λ other. ¬ Clashes c old other) row rows (λ clash. clash.0 same) (none_from_unique old rows unique c below))

  -- rows that are unique stay so where a unique one is put among them
  apart_put : (row : Cells) (rows ys : Rows) → ((c : ℕ) → c < length (constraints_of schema table) → AllByRecursion (λ y. ¬ Clashes c row y) ys) → AllByRecursion (λ y. IsUniqueRow schema table y rows) ys
      → AllByRecursion (λ y. IsUniqueRow schema table y (put_row (columns_of schema table) row rows)) ys
  apart_put row rows [] none apart = tt
  apart_put row rows (y ∷ ys) none apart = (
    unique_from_none y _ (λ c below.
        all_put (row_beside (columns_of schema table) (key_of (columns_of schema table) row)) (λ other. ¬ Clashes c y other) row rows
        (λ clash. (none c below).0 (λ e. clash.0 (sym e), sym clash.1))
        (none_from_unique y rows apart.0 c below)),
    apart_put row rows ys (λ c below. (none c below).1) apart.1,
  )

  apart_take : (key : Cells) (rows ys : Rows) → AllByRecursion (λ y. IsUniqueRow schema table y rows) ys → AllByRecursion (λ y. IsUniqueRow schema table y (take_row (columns_of schema table) key rows)) ys
  apart_take key rows [] apart = tt
  apart_take key rows (y ∷ ys) apart = (IsUniqueRow-take key y rows apart.0, apart_take key rows ys apart.1)

  -- a table with one more row, or one other row, is a table
  pub IsTable-put : (row : Cells) (rows : Rows) → RowFits (columns_of schema table) row → IsUniqueRow schema table row rows → IsTable schema table rows → IsTable schema table (put_row (columns_of schema table) row rows)
  IsTable-put row rows fits unique is = record {
    rising = rising_put (key_of (columns_of schema table)) key_cmp key_cmp_total row rows is.rising;
    fit = all_put (row_beside (columns_of schema table) (key_of (columns_of schema table) row)) (RowFits (columns_of schema table)) row rows fits is.fit;
    apart = all_put (row_beside (columns_of schema table) (key_of (columns_of schema table) row)) (λ y. IsUniqueRow schema table y (put_row (columns_of schema table) row rows)) row rows
        (IsUniqueRow-put_own row rows unique)
        (apart_put row rows rows (none_from_unique row rows unique) is.apart);
  }

  -- a table without a row is a table
  pub IsTable-take : (key : Cells) (rows : Rows) → IsTable schema table rows → IsTable schema table (take_row (columns_of schema table) key rows)
  IsTable-take key rows is = record {
    rising = rising_take (key_of (columns_of schema table)) key_cmp key_cmp_total (row_beside (columns_of schema table) key) rows is.rising;
    fit = all_take (row_beside (columns_of schema table) key) (RowFits (columns_of schema table)) rows is.fit;
    apart = all_take (row_beside (columns_of schema table) key) (λ y. IsUniqueRow schema table y (take_row (columns_of schema table) key rows)) rows (apart_take key rows rows is.apart);
  }

-- the tables of a schema with another table in the place of one
pub AreTables-set : (schema : Schema) (tables : List Rows) (table : ℕ) (rows : Rows) → AreTables schema tables → IsTable schema table rows → AreTables schema (set tables table rows)
AreTables-set schema tables table rows are is = record {
  number = length-set tables table rows ∙ are.number;
  each = λ k below.
      elim (cases_eq k table) [
        | inl same ↦
            let in_range : table < length tables = omega (arith, are.number) in
            subst (λ j. IsTable schema j (rows_of (set tables table rows) j)) (sym same) (subst (IsTable schema table) (sym (get_or-set_same tables table rows [] in_range)) is)
        | inr other ↦ subst (IsTable schema k) (sym (get_or-set_other tables table k rows [] other)) (are.each k below)
      ];
}

-- a table for each of a schema's, all empty
pub AreTables-empty : (schema : Schema) → AreTables schema (replicate (length schema.tables) [])
AreTables-empty schema = record {
  number = length-replicate (length schema.tables) [];
  each = λ k below. subst (IsTable schema k) (sym (get_or-replicate (length schema.tables) k [] [] below)) (record { rising = tt; fit = tt; apart = tt });
}
