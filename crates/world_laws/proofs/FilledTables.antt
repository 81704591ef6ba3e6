-- Tables of a schema that breaks no rule stay tables where their filled columns are filled in.
use Rattle.std.proofs.Common.{◌≡◌, ◌≢◌, ℕ, zero, suc, ◌+◌, Bool, true, false, List, [], ◌∷◌, length, get_or, map, refl, sym, ap, ◌∙◌, arith, subst, pos}
use Rattle.std.specs.Prelude.{Option, Some, None, ◌&&◌, ◌||◌, cond, not, nat_le, slice_get, Any}
use Rattle.std.specs.List.{AllByRecursion, list_all}
use Rattle.std.specs.declared.cmp.Ordering.TheVariants.{Less}
use Rattle.std.proofs.lemmas.Bool.{and_parts, and_from, and_right, not-true}
use Rattle.std.proofs.lemmas.List.{get_or_default}
use Rattle.std.proofs.lemmas.List.Elements.{recursion_from_All}
use Rattle.rep_lists.specs.Rising.{IsRising}
use Rattle.rep_values.specs.declared.name.SiteName.{SiteName}
use Rattle.rep_values.specs.declared.value.Value.{Value}
use Rattle.rep_values.specs.declared.value.Value.TheVariants.{Num, Words}
use Rattle.rep_values.specs.Order.{key_cmp}
use Rattle.rep_schema.specs.declared.schema.Schema.{Schema}
use Rattle.rep_schema.specs.declared.schema.TableEntry.{TableEntry}
use Rattle.rep_schema.specs.declared.schema.SiteEntry.{SiteEntry}
use Rattle.rep_schema.specs.declared.schema.Column.{Column}
use Rattle.rep_schema.specs.declared.schema.Constraint.{Constraint}
use Rattle.rep_schema.specs.declared.schema.Kind.{Kind}
use Rattle.rep_schema.specs.declared.schema.Kind.TheVariants as kind
use Rattle.rep_schema.specs.Tables.{Cells, Rows, columns_in, columns_of, constraints_in, places_in, constraint_columns_of, key_of, key_count, row_cmp, picked, rows_of, RowFits, IsUniqueRow, IsTable, AreTables}
use Rattle.rep_schema.specs.Fitting.{fits_kind, row_fits}
use Rattle.rep_schema.specs.Kinds.{is_stamp, is_site_kind, is_filled, is_plain, is_key_at, has_kind}
use Rattle.rep_schema.specs.Sites.{first_master}
use Rattle.rep_schema.proofs.FittingTests.{row_test}
use Rattle.rep_schema.proofs.TableSteps.{any_from_none}
use Rattle.schema_rules.specs.KeyRules.{is_well_keyed}
use Rattle.schema_rules.specs.ConstraintRules.{has_plain_columns}
use Rattle.schema_rules.specs.Soundness.{KeepsAllRules}
use Rattle.schema_rules.specs.Rules.{broken_rule}
use Rattle.schema_rules.proofs.SoundRules.{KeepsAllRules-unbroken}
use Rattle.rep_laws.proofs.SoundSchemas.{passes}
use Rattle.txn_effects.specs.Filled.{Filling, value_filled, filled_from, filled_row, everywhere}
use Rattle.local_txn.specs.BaseRows.{filled_tables, IsNotFilled, FillsFreely}
use Rattle.event_laws.proofs.Moves.{all_map}
use Rattle.world_state.specs.Making.{filled_by, rows_made}

-- ---- filling moves no row

unfilled_where_plain : (k : Kind) (key : Bool) → is_plain k ≡ true → (is_stamp k || (is_site_kind k && not key)) ≡ false
unfilled_where_plain kind.Number key plain = refl
unfilled_where_plain kind.Words key plain = refl
unfilled_where_plain kind.Date key plain = refl
unfilled_where_plain kind.Stamp key plain = absurd (cc plain)
unfilled_where_plain kind.Site key plain = absurd (cc plain)

unfilled_where_key : (k : Kind) (key : Bool) → not (key && is_stamp k) ≡ true → key ≡ true → (is_stamp k || (is_site_kind k && not key)) ≡ false
unfilled_where_key k key allowed is_key =
    let unstamped : not (is_stamp k) ≡ true = rw is_key at allowed in
    rw (is_key, not-true (is_stamp k) unstamped, and_right (is_site_kind k) false refl) refl

module _ (schema : Schema) (sound : KeepsAllRules schema) where
  keys_unfilled : (table place : ℕ) (column : Column) → slice_get (columns_of schema table) place ≡ Some column → column.key ≡ true → is_filled column ≡ false
  keys_unfilled table place column there is_key = go (slice_get schema.tables table) refl there
    where
      go : (entry : Option TableEntry) → slice_get schema.tables table ≡ entry → slice_get (columns_in entry) place ≡ Some column → is_filled column ≡ false
      go None gone at = absurd (cc at)
      go (Some entry) is at =
          let tests = and_parts (nat_le 1 (key_count entry.columns)) (list_all (λ c. not (c.key && is_stamp c.kind)) entry.columns) (passes is_well_keyed schema.tables table entry sound.keyed is) in
          unfilled_where_key column.kind column.key (passes (λ c. not (c.key && is_stamp c.kind)) entry.columns place column tests.1 at) is_key

  plain_places : (columns : List Column) (places : List ℕ) → list_all (λ place. not (is_key_at columns place) && has_kind is_plain columns place) places ≡ true → AllByRecursion (IsNotFilled columns) places
  plain_places columns [] all = tt
  plain_places columns (place ∷ places) all =
      let parts = and_parts (not (is_key_at columns place) && has_kind is_plain columns place) (list_all (λ p. not (is_key_at columns p) && has_kind is_plain columns p) places) all in
      let plain = (and_parts (not (is_key_at columns place)) (has_kind is_plain columns place) parts.0).1 in
      (λ column there. unfilled_where_plain column.kind column.key (rw there at plain), plain_places columns places parts.1)

  constraints_unfilled : (table constraint : ℕ) → AllByRecursion (IsNotFilled (columns_of schema table)) (constraint_columns_of schema table constraint)
  constraints_unfilled table constraint = go (slice_get schema.tables table) refl
    where
      within : (entry : TableEntry) → list_all (has_plain_columns entry.columns) entry.constraints ≡ true → (found : Option Constraint) → slice_get entry.constraints constraint ≡ found
          → AllByRecursion (IsNotFilled entry.columns) (places_in found)
      within entry all None gone = tt
      within entry all (Some found) is = plain_places entry.columns found.columns (passes (has_plain_columns entry.columns) entry.constraints constraint found all is)

      go : (entry : Option TableEntry) → slice_get schema.tables table ≡ entry → AllByRecursion (IsNotFilled (columns_in entry)) (places_in (slice_get (constraints_in entry) constraint))
      go None gone = tt
      go (Some entry) is =
          within entry (passes (λ t. list_all (has_plain_columns t.columns) t.constraints) schema.tables table entry sound.plainly_constrained is) (slice_get entry.constraints constraint) refl

  fills_freely : FillsFreely schema
  fills_freely = record { keys = keys_unfilled; constraints = constraints_unfilled }

-- ---- a row that is filled in

module _ (site : SiteName) where
  abbrev filling : Filling
  filling = record { stamp = 0; site = site }

  fits_filled : (k : Kind) (key : Bool) (v : Value) → fits_kind k v ≡ true → fits_kind k (cond (is_stamp k || (is_site_kind k && not key)) (cond (is_stamp k) (Num (pos 0)) (Words site.0)) v) ≡ true
  fits_filled kind.Number key v fits = fits
  fits_filled kind.Words key v fits = fits
  fits_filled kind.Date key v fits = fits
  fits_filled kind.Stamp key v fits = refl
  fits_filled kind.Site true v fits = fits
  fits_filled kind.Site false v fits = refl

  row_fits-filled : (n : ℕ) (columns : List Column) (row : Cells) → row_fits columns row ≡ true → row_fits columns (filled_from filling everywhere n columns row) ≡ true
  row_fits-filled n [] row fits = fits
  row_fits-filled n (c ∷ cs) [] fits = fits
  row_fits-filled n (c ∷ cs) (v ∷ vs) fits =
      let parts = and_parts (fits_kind c.kind v) (row_fits cs vs) fits in
      and_from (fits_kind c.kind (value_filled filling true c v)) (row_fits cs (filled_from filling everywhere (n + 1) cs vs)) (fits_filled c.kind c.key v parts.0) (row_fits-filled (n + 1) cs vs parts.1)

  -- it keeps its key
  key_of-filled : (n : ℕ) (columns : List Column) (row : Cells) → ((place : ℕ) (column : Column) → slice_get columns place ≡ Some column → column.key ≡ true → is_filled column ≡ false)
      → key_of columns (filled_from filling everywhere n columns row) ≡ key_of columns row
  key_of-filled n [] row off = refl
  key_of-filled n (c ∷ cs) [] off = refl
  key_of-filled n (c ∷ cs) (v ∷ vs) off = go c.key refl (key_of-filled (n + 1) cs vs (λ place column there. off (suc place) column there))
    where
      go : (b : Bool) → c.key ≡ b → key_of cs (filled_from filling everywhere (n + 1) cs vs) ≡ key_of cs vs
          → cond b (value_filled filling true c v ∷ key_of cs (filled_from filling everywhere (n + 1) cs vs)) (key_of cs (filled_from filling everywhere (n + 1) cs vs)) ≡ cond b (v ∷ key_of cs vs) (key_of cs vs)
      go true is rest = let unfilled : is_filled c ≡ false = off 0 c refl is in rw (unfilled, rest) refl
      go false is rest = rest

  -- and its values where no column is filled
  slice_get-filled : (n : ℕ) (columns : List Column) (row : Cells) (place : ℕ) → IsNotFilled columns place → slice_get (filled_from filling everywhere n columns row) place ≡ slice_get row place
  slice_get-filled n [] row place off = refl
  slice_get-filled n (c ∷ cs) [] place off = refl
  slice_get-filled n (c ∷ cs) (v ∷ vs) zero off = let unfilled : is_filled c ≡ false = off c refl in rw unfilled refl
  slice_get-filled n (c ∷ cs) (v ∷ vs) (suc place) off = slice_get-filled (n + 1) cs vs place off

  picked-filled : (columns : List Column) (row : Cells) (places : List ℕ) → AllByRecursion (IsNotFilled columns) places → picked places (filled_row filling columns row) ≡ picked places row
  picked-filled columns row [] off = refl
  picked-filled columns row (place ∷ places) off = rw (slice_get-filled 0 columns row place off.0) (ap (λ rest. slice_get row place ∷ rest) (picked-filled columns row places off.1))

-- ---- a table that is filled in

none_from_any : {X : Type 0} (P : X → Type 0) (xs : List X) → ¬ Any P xs → AllByRecursion (λ x. ¬ P x) xs
none_from_any P xs none = recursion_from_All (λ x. ¬ P x) xs (λ k d below p. none (k, get_or xs k d, below, get_or_default xs k (get_or xs k d) d below, p))

module _ (schema : Schema) (table : ℕ) (site : SiteName) (free : FillsFreely schema) where
  abbrev columns : List Column
  columns = columns_of schema table

  abbrev filled : Cells → Cells
  filled row = filled_row (filling site) columns row

  same_key : (row : Cells) → key_of columns (filled row) ≡ key_of columns row
  same_key row = key_of-filled site 0 columns row (free.keys table)

  same_values : (c : ℕ) (row : Cells) → picked (constraint_columns_of schema table c) (filled row) ≡ picked (constraint_columns_of schema table c) row
  same_values c row = picked-filled site columns row (constraint_columns_of schema table c) (free.constraints table c)

  rising_filled : (rows : Rows) → IsRising (row_cmp columns) rows → IsRising (row_cmp columns) (map filled rows)
  rising_filled [] rising = tt
  rising_filled (r ∷ rs) rising = (
    all_map (λ y. row_cmp columns r y ≡ Less) (λ y. row_cmp columns (filled r) y ≡ Less) filled rs (λ y less. ap (λ k. key_cmp k (key_of columns (filled y))) (same_key r) ∙ ap (key_cmp (key_of columns r)) (same_key y) ∙ less) rising.0,
    rising_filled rs rising.1,
  )

  -- another row has the row's values in a constraint, and another key
  abbrev Clashes : ℕ → Cells → Cells → Type 0
  Clashes c row other = (key_of columns other ≢ key_of columns row) × (picked (constraint_columns_of schema table c) other ≡ picked (constraint_columns_of schema table c) row)

  clash_before : (c : ℕ) (row other : Cells) → Clashes c (filled row) (filled other) → Clashes c row other
  clash_before c row other clash = (λ same. clash.0 (same_key other ∙ same ∙ sym (same_key row)), sym (same_values c other) ∙ clash.1 ∙ same_values c row)

  unique_filled : (rows : Rows) (row : Cells) → IsUniqueRow schema table row rows → IsUniqueRow schema table (filled row) (map filled rows)
  unique_filled rows row unique = record {
    unheld = λ c below. any_from_none (Clashes c (filled row)) (map filled rows)
        (all_map (λ other. ¬ Clashes c row other) (λ other. ¬ Clashes c (filled row) other) filled rows (λ other none clash. none (clash_before c row other clash))
        (none_from_any (Clashes c row) rows (unique.unheld c below)));
  }

  IsTable-filled : (rows : Rows) → IsTable schema table rows → IsTable schema table (map filled rows)
  IsTable-filled rows is = record {
    rising = rising_filled rows is.rising;
    fit = all_map (RowFits columns) (RowFits columns) filled rows (λ row fits. (row_test columns (filled row)).0 (row_fits-filled site 0 columns row ((row_test columns row).1 fits))) is.fit;
    apart = all_map (λ row. IsUniqueRow schema table row rows) (λ row. IsUniqueRow schema table row (map filled rows)) filled rows (unique_filled rows) is.apart;
  }

-- ---- all tables

length-filled_tables : (f : Filling) (entries : List TableEntry) (tables : List Rows) → length tables ≡ length entries → length (filled_tables f entries tables) ≡ length entries
length-filled_tables f [] tables same = same
length-filled_tables f (entry ∷ entries) [] same = same
length-filled_tables f (entry ∷ entries) (rows ∷ tables) same = let rest = length-filled_tables f entries tables (omega (arith, same)) in omega (arith, rest)

rows_of-filled_tables : (f : Filling) (entries : List TableEntry) (tables : List Rows) (k : ℕ) → length tables ≡ length entries
    → rows_of (filled_tables f entries tables) k ≡ map (filled_row f (columns_in (slice_get entries k))) (rows_of tables k)
rows_of-filled_tables f [] [] k same = refl
rows_of-filled_tables f [] (rows ∷ tables) k same = absurd (omega (arith, same))
rows_of-filled_tables f (entry ∷ entries) [] k same = absurd (omega (arith, same))
rows_of-filled_tables f (entry ∷ entries) (rows ∷ tables) zero same = refl
rows_of-filled_tables f (entry ∷ entries) (rows ∷ tables) (suc k) same = rows_of-filled_tables f entries tables k (omega (arith, same))

AreTables-filled : (schema : Schema) (tables : List Rows) (site : SiteName) → FillsFreely schema → AreTables schema tables → AreTables schema (filled_tables (filling site) schema.tables tables)
AreTables-filled schema tables site free are = record {
  number = length-filled_tables (filling site) schema.tables tables are.number;
  each = λ k below. subst (IsTable schema k) (sym (rows_of-filled_tables (filling site) schema.tables tables k are.number)) (IsTable-filled schema k site free (rows_of tables k) (are.each k below));
}

-- the rows that masters begin with are tables where the declared ones are
pub AreTables-rows_made : (schema : Schema) (base : List Rows) → broken_rule schema ≡ None → AreTables schema base → AreTables schema (rows_made schema base)
AreTables-rows_made schema base unbroken are = go (first_master schema)
  where
    go : (master : Option SiteEntry) → AreTables schema (filled_by master schema base)
    go None = are
    go (Some master) = AreTables-filled schema base master.name (fills_freely schema ((KeepsAllRules-unbroken schema).1 unbroken)) are
