-- A declaration keeps the tables of a schema, where the table that it shapes has no rows.
use Rattle.std.proofs.Common.{◌≡◌, ◌≢◌, ℕ, ◌+◌, ◌<◌, List, [], ◌∷◌, ◌++◌, length, set, Some, None, refl, sym, ap, ◌∙◌, subst, inl, inr, arith}
use Rattle.std.specs.Prelude.{◌⊎◌, Option, IfSome, slice_get}
use Rattle.std.specs.List.{AllByRecursion, position}
use Rattle.std.proofs.lemmas.Bool.{cases_eq, cases_lt}
use Rattle.std.proofs.lemmas.List.{length-set, length_push, get_or-set_other, get_or_append_left, get_or_push}
use Rattle.std.proofs.lemmas.Option.{slice_get-get_or}
use Rattle.rep_lists.specs.Rising.{IsRising}
use Rattle.rep_values.specs.declared.name.TableName.{TableName}
use Rattle.rep_schema.specs.declared.schema.Schema.{Schema}
use Rattle.rep_schema.specs.declared.schema.TableEntry.{TableEntry}
use Rattle.rep_schema.specs.declared.schema.Column.{Column}
use Rattle.rep_schema.specs.Entries.{plain_table}
use Rattle.rep_schema.specs.Named.{is_table, table_place}
use Rattle.rep_schema.specs.Tables.{Cells, Rows, columns_in, constraints_in, places_in, row_cmp, rows_of, RowFits, IsHeldElsewhere, IsUniqueRow, IsTable, AreTables}
use Rattle.rep_declare.specs.declared.declaration.Declare.{Declare}
use Rattle.rep_declare.specs.declared.declaration.Declare.TheVariants as declare
use Rattle.rep_declare.specs.Additions.{with_changed, with_table_changed, declared}
use Rattle.rep_declare.specs.Shaping.{rows_with, ShapesNoRows}
use Rattle.rep_declare.proofs.Changed.{changed_found, none_found}
use Rattle.rep_declare.proofs.ListNames.{length-with_changed}

-- what stands at another place than the one that is set
slice_get-set_other : {X : Type 0} (xs : List X) (i k : ℕ) (x : X) → k ≢ i → k < length xs → slice_get (set xs i x) k ≡ slice_get xs k
slice_get-set_other xs i k x other below =
    slice_get-get_or (set xs i x) k x (omega (arith, below, length-set xs i x)) ∙ ap Some (get_or-set_other xs i k x x other) ∙ sym (slice_get-get_or xs k x below)

-- what stands in front of one more
slice_get_push : {X : Type 0} (xs : List X) (k : ℕ) (x : X) → k < length xs → slice_get (xs ++ x ∷ []) k ≡ slice_get xs k
slice_get_push xs k x below =
    slice_get-get_or (xs ++ x ∷ []) k x (omega (arith, below, length_push xs x)) ∙ ap Some (get_or_append_left xs (x ∷ []) x k below) ∙ sym (slice_get-get_or xs k x below)

-- no other row has this one's values in a constraint of the table of this entry
abbrev IsUnheld : Cells → Rows → Option TableEntry → Type 0
IsUnheld row rows entry = (c : ℕ) → c < length (constraints_in entry) → ¬ IsHeldElsewhere (columns_in entry) (places_in (slice_get (constraints_in entry) c)) row rows

module _ (schema other : Schema) (table : ℕ) (same : slice_get other.tables table ≡ slice_get schema.tables table) where
  apart-same : (rows ys : Rows) → AllByRecursion (λ y. IsUniqueRow schema table y rows) ys → AllByRecursion (λ y. IsUniqueRow other table y rows) ys
  apart-same rows [] apart = tt
  apart-same rows (y ∷ ys) apart = (record { unheld = subst (IsUnheld y rows) (sym same) apart.0.unheld }, apart-same rows ys apart.1)

  -- a table is one in each schema that has its entry
  IsTable-same : (rows : Rows) → IsTable schema table rows → IsTable other table rows
  IsTable-same rows is = record {
    rising = subst (λ (e : Option TableEntry). IsRising (row_cmp (columns_in e)) rows) (sym same) is.rising;
    fit = subst (λ (e : Option TableEntry). AllByRecursion (RowFits (columns_in e)) rows) (sym same) is.fit;
    apart = apart-same rows rows is.apart;
  }

-- no rows are a table
IsTable-none : (schema : Schema) (table : ℕ) (rows : Rows) → rows ≡ [] → IsTable schema table rows
IsTable-none schema table rows none = subst (IsTable schema table) (sym none) (record { rising = tt; fit = tt; apart = tt })

module _ (schema : Schema) (tables : List Rows) (are : AreTables schema tables) where
  -- the table has no rows, or its entry and its rows are as before
  abbrev IsKept : Schema → List Rows → ℕ → Type 0
  IsKept other more k = (rows_of more k ≡ []) ⊎ ((k < length schema.tables) × (slice_get other.tables k ≡ slice_get schema.tables k) × (rows_of more k ≡ rows_of tables k))

  AreTables-kept : (other : Schema) (more : List Rows) → length more ≡ length other.tables → ((k : ℕ) → k < length other.tables → IsKept other more k) → AreTables other more
  AreTables-kept other more number kept = record {
    number = number;
    each = λ k below.
        elim (kept k below) [
          | inl none ↦ IsTable-none other k (rows_of more k) none
          | inr same ↦ subst (IsTable other k) (sym same.2) (IsTable-same schema other k same.1 (rows_of tables k) (are.each k same.0))
        ];
  }

  -- the entries of the tables stay
  AreTables-same : (other : Schema) → other.tables ≡ schema.tables → AreTables other tables
  AreTables-same other same = AreTables-kept other tables (are.number ∙ ap length (sym same))
      (λ k below. let inside : k < length schema.tables = omega (arith, below, ap length same) in inr (inside, ap (λ (ts : List TableEntry). slice_get ts k) same, refl))

  -- the entry of a table without rows is changed
  AreTables-changed : (name : TableName) (change : TableEntry → TableEntry) → IfSome (table_place schema name) (λ place. rows_of tables place ≡ [])
      → AreTables (with_table_changed name change schema) tables
  AreTables-changed name change none = at (table_place schema name) refl none
    where
      counted : length (with_changed (is_table name) change schema.tables) ≡ length schema.tables
      counted = length-with_changed (is_table name) change schema.tables

      at : (found : Option ℕ) → position (is_table name) schema.tables ≡ found → IfSome found (λ place. rows_of tables place ≡ []) → AreTables (with_table_changed name change schema) tables
      at None found none = AreTables-same (with_table_changed name change schema) (none_found (is_table name) change schema.tables found)
      at (Some place) found none = AreTables-kept (with_table_changed name change schema) tables (are.number ∙ sym counted)
          (λ k below.
          let inside : k < length schema.tables = omega (arith, below, counted) in
          elim (cases_eq k place) [
            | inl same ↦ inl (ap (rows_of tables) same ∙ none)
            | inr apart ↦ inr (
              inside,
              ap (λ (ts : List TableEntry). slice_get ts k) (changed_found (is_table name) change schema.tables place (plain_table name []) found)
                  ∙ slice_get-set_other schema.tables place k _ apart inside,
              refl,
            )
          ])

  -- one more table, which has no rows
  AreTables-Table : (name : TableName) (columns : List Column) → AreTables (declared (declare.Table name columns) schema) (tables ++ [] ∷ [])
  AreTables-Table name columns =
      let counted : length (schema.tables ++ plain_table name columns ∷ []) ≡ length schema.tables + 1 = length_push schema.tables (plain_table name columns) in
      AreTables-kept (declared (declare.Table name columns) schema) (tables ++ [] ∷ []) (omega (arith, are.number, length_push tables [], counted))
      (λ k below.
      elim (cases_lt k (length schema.tables)) [
        | inl inside ↦ inr (
          inside,
          slice_get_push schema.tables k (plain_table name columns) inside,
          get_or_append_left tables ([] ∷ []) [] k (omega (arith, are.number, inside)),
        )
        | inr behind ↦ inl (get_or_push tables [] [] k (omega (arith, are.number, below, behind, counted)))
      ])

-- the tables with a declaration are tables of the schema with it
pub AreTables-declared : (declaration : Declare) (schema : Schema) (tables : List Rows) → AreTables schema tables → ShapesNoRows schema tables declaration
    → AreTables (declared declaration schema) (rows_with declaration tables)
AreTables-declared (declare.Site name) schema tables are none = AreTables-same schema tables are _ refl
AreTables-declared (declare.LateSite name) schema tables are none = AreTables-same schema tables are _ refl
AreTables-declared (declare.SnapSite name master) schema tables are none = AreTables-same schema tables are _ refl
AreTables-declared (declare.Table name columns) schema tables are none = AreTables-Table schema tables are name columns
AreTables-declared (declare.Group table group columns) schema tables are none = AreTables-changed schema tables are table _ none
AreTables-declared (declare.Method table group method) schema tables are none =
    AreTables-same _ tables (AreTables-changed schema tables are table _ none) (declared (declare.Method table group method) schema) refl
AreTables-declared (declare.Priority group value level) schema tables are none = AreTables-same schema tables are _ refl
AreTables-declared (declare.SiteLevel site level) schema tables are none = AreTables-same schema tables are _ refl
AreTables-declared (declare.Unique table constraint columns) schema tables are none = AreTables-changed schema tables are table _ none
AreTables-declared (declare.UniqueMethod table constraint method) schema tables are none = AreTables-changed schema tables are table _ none
AreTables-declared (declare.Check table check column rel value) schema tables are none = AreTables-changed schema tables are table _ none
AreTables-declared (declare.Convergent table) schema tables are none = AreTables-changed schema tables are table _ none
