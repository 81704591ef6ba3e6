-- A row that violates nothing is settled as itself.
use Rattle.std.proofs.Common.{◌≡◌, ℕ, suc, ◌<◌, Bool, true, false, List, [], ◌∷◌, length, refl, sym, ◌∙◌}
use Rattle.std.specs.Prelude.{Some, ◌&&◌, is_some, slice_get, slice_index_or}
use Rattle.std.specs.List.{AllByRecursion}
use Rattle.std.proofs.lemmas.List.{set-get_or}
use Rattle.std.proofs.lemmas.Option.{slice_get_within}
use Rattle.rep_values.specs.declared.name.SiteName.{SiteName}
use Rattle.rep_schema.specs.declared.schema.Schema.{Schema}
use Rattle.rep_schema.specs.declared.schema.Column.{Column}
use Rattle.rep_schema.specs.declared.schema.Constraint.{Constraint}
use Rattle.rep_schema.specs.Tables.{Cells, Rows, columns_of, constraints_of, constraint_columns_of, key_of, rows_of, picked, RowFits, IsUniqueRow, AreTables}
use Rattle.rep_schema.specs.Changes.{row_like}
use Rattle.unique_resolve.specs.declared.settled.Settled.TheVariants.{Fits}
use Rattle.unique_resolve.specs.Numbers.{Numbers}
use Rattle.unique_resolve.specs.Settling.{is_held, settled_each, settlement_of}
use Rattle.rep_schema.proofs.FoundRows.{found_row, key_of-found}
use Rattle.unique_resolve.proofs.HeldValues.{held_test}

-- a row that holds nothing that another has fits as it is, and no counter moves
settled_each-free : (columns : List Column) (rows : Rows) (origin : SiteName) (constraints : List Constraint) (numbers : List ℕ) (row : Cells)
    → AllByRecursion (λ constraint. is_held columns constraint.columns rows row ≡ false) constraints
    → settled_each columns rows origin constraints numbers row ≡ record { settled = Fits row; numbers = numbers }
settled_each-free columns rows origin [] numbers row free = refl
settled_each-free columns rows origin (c ∷ cs) [] row free = refl
settled_each-free columns rows origin (c ∷ cs) (n ∷ ns) row free = rw (free.0, settled_each-free columns rows origin cs ns row free.1) refl

each_by_place : {X : Type 0} (P : X → Type 0) (xs : List X) → ((i : ℕ) (x : X) → slice_get xs i ≡ Some x → P x) → AllByRecursion P xs
each_by_place P [] each = tt
each_by_place P (x ∷ xs) each = (each 0 x refl, each_by_place P xs (λ i y there. each (suc i) y there))

-- what never passes fails
pub not_true : (b : Bool) → (b ≡ true → ⊥) → b ≡ false
not_true true never = absurd (never refl)
not_true false never = refl

module _ (schema : Schema) (tables : List Rows) (origin : SiteName) (numbers : Numbers) where
  module _ (table : ℕ) (row : Cells) (below : table < length schema.tables) (are : AreTables schema tables) (fits : RowFits (columns_of schema table) row) (unique : IsUniqueRow schema table row (rows_of tables table)) where
    free_at : (i : ℕ) (c : Constraint) → slice_get (constraints_of schema table) i ≡ Some c → is_held (columns_of schema table) c.columns (rows_of tables table) row ≡ false
    free_at i c there =
        let within : i < length (constraints_of schema table) = slice_get_within (constraints_of schema table) i c there in
        let none = not_true (is_held (columns_of schema table) (constraint_columns_of schema table i) (rows_of tables table) row)
        (λ held. unique.unheld i within ((held_test (columns_of schema table) (constraint_columns_of schema table i) row fits (rows_of tables table) (are.each table below).fit).0 held)) in
        rw there at none

    free : AllByRecursion (λ constraint. is_held (columns_of schema table) constraint.columns (rows_of tables table) row ≡ false) (constraints_of schema table)
    free = each_by_place (λ (constraint : Constraint). is_held (columns_of schema table) constraint.columns (rows_of tables table) row ≡ false) (constraints_of schema table) free_at

    -- a row that violates nothing is settled as itself
    pub settlement_of-free : (inserting : Bool) → (inserting && is_some (row_like (columns_of schema table) row (rows_of tables table))) ≡ false
        → settlement_of schema tables numbers origin table inserting row ≡ record { settled = Fits row; numbers = numbers }
    settlement_of-free inserting new =
        rw (new, settled_each-free (columns_of schema table) (rows_of tables table) origin (constraints_of schema table) (slice_index_or numbers table []) row free, set-get_or numbers table []) refl

-- a row that has what the row with its key has in a constraint doesn't violate it, since that row is unique
pub is_held-kept : (schema : Schema) (tables : List Rows) (table place : ℕ) (before row : Cells) → AreTables schema tables → table < length schema.tables
    → RowFits (columns_of schema table) row → place < length (constraints_of schema table) → row_like (columns_of schema table) row (rows_of tables table) ≡ Some before
    → picked (constraint_columns_of schema table place) before ≡ picked (constraint_columns_of schema table place) row
    → is_held (columns_of schema table) (constraint_columns_of schema table place) (rows_of tables table) row ≡ false
is_held-kept schema tables table place before row are below fits within there kept =
    let columns = columns_of schema table in
    let places = constraint_columns_of schema table place in
    let own : key_of columns before ≡ key_of columns row = key_of-found columns (key_of columns row) before (rows_of tables table) there in
    let unique : IsUniqueRow schema table before (rows_of tables table) =
    found_row columns (key_of columns row) before (rows_of tables table) there (λ x. IsUniqueRow schema table x (rows_of tables table)) (are.each table below).apart in
    not_true (is_held columns places (rows_of tables table) row) (λ held.
    let here = (held_test columns places row fits (rows_of tables table) (are.each table below).fit).0 held in
    unique.unheld place within (here.0, here.1, here.2, here.3, ((λ e. here.4.0 (e ∙ own)), here.4.1 ∙ sym kept)))
