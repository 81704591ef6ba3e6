-- A row whose values no other row has: it fits as it is, and counters stay.
use Rattle.std.proofs.Common.{◌≡◌, ◌≢◌, ℕ, List, [], ◌∷◌, get_or, Bool, true, false, cond, refl, sym, ap, subst}
use Rattle.std.specs.Prelude.{◌&&◌, is_some, slice_get}
use Rattle.std.specs.List.{AllByRecursion}
use Rattle.std.proofs.lemmas.Bool.{false_from_ne_true}
use Rattle.std.proofs.lemmas.List.{set-get_or, get_or-set_other}
use Rattle.std.proofs.lemmas.List.Elements.{recursion_from_All}
use Rattle.std.proofs.lemmas.Option.{slice_get-get_or}
use Rattle.rep_values.specs.declared.name.SiteName.{SiteName}
use Rattle.rep_schema.specs.declared.schema.Schema.{Schema}
use Rattle.rep_schema.specs.declared.schema.Column.{Column}
use Rattle.rep_schema.specs.declared.schema.Constraint.{Constraint}
use Rattle.rep_schema.specs.Tables.{Cells, Rows, columns_of, constraints_of, places_in, constraint_columns_of, key_of, find_row, rows_of, picked, RowFits, IsHeldElsewhere, IsUniqueRow}
use Rattle.rep_schema.specs.Groups.{values_at}
use Rattle.unique_resolve.specs.declared.settled.Settled.TheVariants.{Fits}
use Rattle.unique_resolve.specs.Numbers.{Numbers}
use Rattle.unique_resolve.specs.Settling.{is_held, with_number, settled_each, key_methods_in, key_taken, with_numbers, settlement_of}
use Rattle.unique_resolve.proofs.HeldValues.{held_test}
use Rattle.dependency_index.specs.Tokens.{has_constraints, constrained_columns}
use Rattle.rep_laws.proofs.ConstrainedValues.{constrained_values_same, constraints_of-none}

-- no row with another key has the row's values in a constraint
abbrev pub IsFree : List Column → Rows → Cells → Constraint → Type 0
IsFree columns rows row constraint = is_held columns constraint.columns rows row ≡ false

settled_each-free : (columns : List Column) (rows : Rows) (origin : SiteName) (constraints : List Constraint) (numbers : List ℕ) (row : Cells) → AllByRecursion (IsFree columns rows row) constraints
    → settled_each columns rows origin constraints numbers row ≡ record { settled = Fits row; numbers = numbers }
settled_each-free columns rows origin [] numbers row free = refl
settled_each-free columns rows origin (c ∷ cs) [] row free = refl
settled_each-free columns rows origin (c ∷ cs) (n ∷ ns) row free = rw free.0 (ap (with_number n) (settled_each-free columns rows origin cs ns row free.1))

module _ (schema : Schema) (tables : List Rows) (numbers : Numbers) (origin : SiteName) (table : ℕ) (inserting : Bool) (row : Cells) where
  -- a row that is free for each constraint, and its key for a new one, fits as it is, and counters stay
  pub settlement_of-free : AllByRecursion (IsFree (columns_of schema table) (rows_of tables table) row) (constraints_of schema table)
      → settlement_of schema tables numbers origin table inserting row
      ≡ record { settled = cond (inserting && is_some (find_row (columns_of schema table) (key_of (columns_of schema table) row) (rows_of tables table))) (key_taken (key_methods_in (slice_get schema.tables table))) (Fits row); numbers = numbers }
  settlement_of-free free = go (inserting && is_some (find_row (columns_of schema table) (key_of (columns_of schema table) row) (rows_of tables table)))
    where
      go : (b : Bool) → cond b (record { settled = key_taken (key_methods_in (slice_get schema.tables table)); numbers = numbers })
          (with_numbers table numbers (settled_each (columns_of schema table) (rows_of tables table) origin (constraints_of schema table) (get_or numbers table []) row))
          ≡ record { settled = cond b (key_taken (key_methods_in (slice_get schema.tables table))) (Fits row); numbers = numbers }
      go true = refl
      go false = rw (settled_each-free (columns_of schema table) (rows_of tables table) origin (constraints_of schema table) (get_or numbers table []) row free, set-get_or numbers table []) refl

  -- the counters of other tables stay
  pub counters-other : (other : ℕ) → other ≢ table → get_or (settlement_of schema tables numbers origin table inserting row).numbers other [] ≡ get_or numbers other []
  counters-other other apart = go (inserting && is_some (find_row (columns_of schema table) (key_of (columns_of schema table) row) (rows_of tables table)))
    where
      go : (b : Bool) → get_or (cond b (record { settled = key_taken (key_methods_in (slice_get schema.tables table)); numbers = numbers })
          (with_numbers table numbers (settled_each (columns_of schema table) (rows_of tables table) origin (constraints_of schema table) (get_or numbers table []) row))).numbers other []
          ≡ get_or numbers other []
      go true = refl
      go false = get_or-set_other numbers table other _ [] apart

-- in a table without constraints each row is free
pub free-none : (schema : Schema) (table : ℕ) (rows : Rows) (row : Cells) → has_constraints schema table ≡ false → AllByRecursion (IsFree (columns_of schema table) rows row) (constraints_of schema table)
free-none schema table rows row none = subst (λ cs. AllByRecursion (IsFree (columns_of schema table) rows row) cs) (sym (constraints_of-none schema table none)) tt

module _ (schema : Schema) (table : ℕ) (rows : Rows) (row : Cells) where
  -- a unique row is free
  free-unique : AllByRecursion (RowFits (columns_of schema table)) rows → RowFits (columns_of schema table) row → IsUniqueRow schema table row rows
      → AllByRecursion (IsFree (columns_of schema table) rows row) (constraints_of schema table)
  free-unique fit fits unique = recursion_from_All (IsFree (columns_of schema table) rows row) (constraints_of schema table)
      (λ k d below. false_from_ne_true (is_held (columns_of schema table) (get_or (constraints_of schema table) k d).columns rows row)
      (λ held.
      let there : constraint_columns_of schema table k ≡ (get_or (constraints_of schema table) k d).columns = ap places_in (slice_get-get_or (constraints_of schema table) k d below) in
      unique.unheld k below
      (subst (λ places. IsHeldElsewhere (columns_of schema table) places row rows) (sym there)
      ((held_test (columns_of schema table) (get_or (constraints_of schema table) k d).columns row fits rows fit).0 held))))

  -- and so is a row with its key and its values in constrained columns
  pub free-like : (after : Cells) → AllByRecursion (RowFits (columns_of schema table)) rows → RowFits (columns_of schema table) row → IsUniqueRow schema table row rows
      → key_of (columns_of schema table) after ≡ key_of (columns_of schema table) row → picked (constrained_columns schema table) after ≡ picked (constrained_columns schema table) row
      → AllByRecursion (IsFree (columns_of schema table) rows after) (constraints_of schema table)
  free-like after fit fits unique key values = both (constraints_of schema table) (constrained_values_same schema table) (free-unique fit fits unique)
    where
      both : (constraints : List Constraint)
          → AllByRecursion (λ (c : Constraint). (a b : Cells) → picked (constrained_columns schema table) a ≡ picked (constrained_columns schema table) b → values_at c.columns a ≡ values_at c.columns b) constraints
          → AllByRecursion (IsFree (columns_of schema table) rows row) constraints → AllByRecursion (IsFree (columns_of schema table) rows after) constraints
      both [] same free = tt
      both (c ∷ cs) same free = (rw (key, same.0 after row values) free.0, both cs same.1 free.1)
