-- The rows that masters begin with have stamp 0 and the first master's name in their filled columns.
use Rattle.std.proofs.Common.{◌≡◌, ℕ, zero, suc, ◌+◌, ◌<◌, true, List, [], ◌∷◌, length, map, Some, None, refl, sym, ap, ◌∙◌, subst}
use Rattle.std.specs.Prelude.{Option, slice_get, pos}
use Rattle.std.specs.Option.{option_map}
use Rattle.std.specs.List.{AllByRecursion}
use Rattle.std.proofs.lemmas.Option.{slice_get_within}
use Rattle.rep_values.specs.declared.value.Value.TheVariants.{Num, Words}
use Rattle.rep_schema.specs.declared.schema.Schema.{Schema}
use Rattle.rep_schema.specs.declared.schema.TableEntry.{TableEntry}
use Rattle.rep_schema.specs.declared.schema.SiteEntry.{SiteEntry}
use Rattle.rep_schema.specs.declared.schema.Column.{Column}
use Rattle.rep_schema.specs.Tables.{Cells, Rows, columns_in, columns_of, find_row, rows_of, RowFits, AreTables}
use Rattle.rep_schema.specs.Kinds.{is_some_and, is_stamp, has_kind, is_filled}
use Rattle.rep_schema.specs.Sites.{first_master}
use Rattle.rep_schema.proofs.FoundRows.{found_row}
use Rattle.schema_rules.specs.declared.forms.Form.TheVariants as form
use Rattle.rep_laws.specs.Commuting.{IsSound}
use Rattle.txn_effects.specs.Filled.{Filling, filling_value, value_filled, filled_from, filled_row, everywhere}
use Rattle.local_txn.specs.BaseRows.{filled_tables}
use Rattle.txn_effects.specs.Convergent.{convergent_in, is_convergent}
use Rattle.local_txn.specs.Laws.{IsFilledAt}
use Rattle.rep_laws.specs.GroupForms.{form_at}
use Rattle.rep_laws.proofs.FormShapes.{IsOfKind-form_at}
use Rattle.rep_laws.proofs.SiteColumns.{own_is_filled}
use Rattle.world_state.specs.Making.{filled_by, rows_made}

-- a row has stamp 0 and the first master's name wherever a site fills in a stamp and its name
abbrev pub IsFirstFilled : Schema → SiteEntry → ℕ → Cells → Type 0
IsFirstFilled schema first table row = (group stamp site : ℕ) → form_at schema table group ≡ Some (form.Latest stamp site)
    → (slice_get row stamp ≡ Some (Num (pos 0))) × (slice_get row site ≡ Some (Words first.name.0))

-- ---- a row, and rows

module _ (f : Filling) where
  -- a row that is filled in has what is filled in at each place
  filled_at : (n : ℕ) (columns : List Column) (row : Cells) → RowFits columns (filled_from f everywhere n columns row) → (place : ℕ) → IsFilledAt f columns (filled_from f everywhere n columns row) place
  filled_at n [] row fits place column there is = absurd (cc there)
  filled_at n (c ∷ cs) [] fits place column there is = absurd fits
  filled_at n (c ∷ cs) (v ∷ vs) fits zero column there is =
      let same : c ≡ column = cc there in
      subst (λ (u : Column). is_filled u ≡ true → Some (value_filled f true c v) ≡ Some (filling_value f u)) same (λ filled. rw filled refl) is
  filled_at n (c ∷ cs) (v ∷ vs) fits (suc place) column there is = filled_at (n + 1) cs vs fits.1 place column there is

  abbrev IsFilledIn : List Column → Cells → Type 0
  IsFilledIn columns row = (place : ℕ) → IsFilledAt f columns row place

  each_filled : (columns : List Column) (rows : Rows) → AllByRecursion (RowFits columns) (map (filled_row f columns) rows) → AllByRecursion (IsFilledIn columns) (map (filled_row f columns) rows)
  each_filled columns [] fit = tt
  each_filled columns (row ∷ rows) fit = (filled_at 0 columns row fit.0, each_filled columns rows fit.1)

  no_columns : (rows : Rows) → AllByRecursion (IsFilledIn []) rows
  no_columns [] = tt
  no_columns (row ∷ rows) = ((λ place column there is. absurd (cc there)), no_columns rows)

  -- so have all rows of a table
  all_filled : (entries : List TableEntry) (tables : List Rows) (k : ℕ) → AllByRecursion (RowFits (columns_in (slice_get entries k))) (rows_of (filled_tables f entries tables) k)
      → AllByRecursion (IsFilledIn (columns_in (slice_get entries k))) (rows_of (filled_tables f entries tables) k)
  all_filled [] tables k fit = no_columns (rows_of tables k)
  all_filled (entry ∷ entries) [] k fit = tt
  all_filled (entry ∷ entries) (rows ∷ tables) zero fit = each_filled entry.columns rows fit
  all_filled (entry ∷ entries) (rows ∷ tables) (suc k) fit = all_filled entries tables k fit

-- ---- the columns of a group whose latest values stay

stamp_filled : (columns : List Column) (place : ℕ) → has_kind is_stamp columns place ≡ true → (c : Column) × (slice_get columns place ≡ Some c) × (is_stamp c.kind ≡ true) × (is_filled c ≡ true)
stamp_filled columns place has = go (slice_get columns place) refl has
  where
    go : (o : Option Column) → slice_get columns place ≡ o → is_some_and is_stamp (option_map (λ (c : Column). c.kind) o) ≡ true
        → (c : Column) × (slice_get columns place ≡ Some c) × (is_stamp c.kind ≡ true) × (is_filled c ≡ true)
    go None at has = absurd (cc has)
    go (Some c) at has = (c, at, has, rw has refl)

there_where : (schema : Schema) (table : ℕ) → is_convergent schema table ≡ true → table < length schema.tables
there_where schema table convergent = go (slice_get schema.tables table) refl convergent
  where
    go : (o : Option TableEntry) → slice_get schema.tables table ≡ o → convergent_in o ≡ true → table < length schema.tables
    go None at has = absurd (cc has)
    go (Some entry) at has = slice_get_within schema.tables table entry at

module _ (schema : Schema) (base : List Rows) (sound : IsSound schema) (are : AreTables schema (rows_made schema base)) (first : SiteEntry) (is : first_master schema ≡ Some first) where
  abbrev filling : Filling
  filling = record { stamp = 0; site = first.name }

  -- a row that is found among them
  found_filled : (table : ℕ) (key row : Cells) → is_convergent schema table ≡ true → find_row (columns_of schema table) key (rows_of (rows_made schema base) table) ≡ Some row → IsFilledIn filling (columns_of schema table) row
  found_filled table key row convergent found =
      let same : rows_made schema base ≡ filled_tables filling schema.tables base = ap (λ (o : Option SiteEntry). filled_by o schema base) is in
      found_row (columns_of schema table) key row (rows_of (rows_made schema base) table) found (IsFilledIn filling (columns_of schema table))
      (subst (λ (tables : List Rows). AllByRecursion (RowFits (columns_of schema table)) (rows_of tables table) → AllByRecursion (IsFilledIn filling (columns_of schema table)) (rows_of tables table)) (sym same)
      (all_filled filling schema.tables base table) (are.each table (there_where schema table convergent)).fit)

  pub first_filled : (table : ℕ) (key row : Cells) → is_convergent schema table ≡ true → find_row (columns_of schema table) key (rows_of (rows_made schema base) table) ≡ Some row → IsFirstFilled schema first table row
  first_filled table key row convergent found group stamp own has =
      let filled = found_filled table key row convergent found in
      let at = stamp_filled (columns_of schema table) stamp (IsOfKind-form_at schema sound table group (form.Latest stamp own) has) in
      let by = own_is_filled schema sound table group stamp own has in
      (filled stamp at.0 at.1 at.3 ∙ rw at.2 refl, filled own by.0 by.1 by.3 ∙ rw by.2 refl)
