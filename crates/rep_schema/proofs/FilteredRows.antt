-- The rows of a table that a test picks are a table, and what is found there is what the test shows.
use Rattle.std.proofs.Common.{◌≡◌, ◌≢◌, ℕ, Bool, true, false, cond, List, [], ◌∷◌, ◌++◌, get_or, Some, None, refl, sym, ap, ◌∙◌}
use Rattle.std.specs.Prelude.{filter, Any}
use Rattle.std.specs.List.{AllByRecursion}
use Rattle.std.specs.Ordering.{ordering_reverse}
use Rattle.std.specs.declared.cmp.Ordering.{Ordering}
use Rattle.std.specs.declared.cmp.Ordering.TheVariants.{Less, Equal, Greater}
use Rattle.std.proofs.lemmas.List.{get_or_default}
use Rattle.std.proofs.lemmas.List.Elements.{recursion_from_All}
use Rattle.rep_lists.specs.Rising.{IsRising, found_here}
use Rattle.rep_values.specs.OrderLaws.{key_cmp_total}
use Rattle.rep_schema.specs.declared.schema.Schema.{Schema}
use Rattle.rep_schema.specs.declared.schema.Column.{Column}
use Rattle.rep_schema.specs.Tables.{Cells, Rows, columns_of, constraint_columns_of, key_of, row_beside, row_cmp, find_row, picked, RowFits, IsUniqueRow, IsTable}
use Rattle.rep_schema.specs.Shown.{shown_by}
use Rattle.rep_schema.proofs.TableSteps.{any_from_none}

-- what isn't found among values is none of them
pub none_from_any : {X : Type 0} (P : X → Type 0) (xs : List X) → ¬ Any P xs → AllByRecursion (λ x. ¬ P x) xs
none_from_any P xs none = recursion_from_All (λ x. ¬ P x) xs (λ k d below p. none (k, get_or xs k d, below, get_or_default xs k (get_or xs k d) d below, p))

-- what holds of each holds of those that are picked
pub all_filter : {X : Type 0} (P : X → Type 0) (test : X → Bool) (xs : List X) → AllByRecursion P xs → AllByRecursion P (filter test xs)
all_filter P test [] all = tt
all_filter P test (x ∷ xs) all = go (test x) (all_filter P test xs all.1)
  where
    go : (b : Bool) → AllByRecursion P (filter test xs) → AllByRecursion P (cond b (x ∷ filter test xs) (filter test xs))
    go true later = (all.0, later)
    go false later = later

-- the first of the values, and the others
pub filter-first : {X : Type 0} (test : X → Bool) (x : X) (xs : List X) → filter test (x ∷ xs) ≡ filter test (x ∷ []) ++ filter test xs
filter-first test x xs = go (test x)
  where
    go : (b : Bool) → cond b (x ∷ filter test xs) (filter test xs) ≡ cond b (x ∷ []) [] ++ filter test xs
    go true = refl
    go false = refl

module _ (columns : List Column) where
  -- what is above a row is above each key that the row isn't below
  above_key : (key x z : Cells) → row_beside columns key x ≢ Less → row_cmp columns x z ≡ Less → row_beside columns key z ≡ Greater
  above_key key x z past below = go (row_beside columns key x) refl
    where
      k : Cells → Cells
      k = key_of columns

      go : (o : Ordering) → row_beside columns key x ≡ o → row_beside columns key z ≡ Greater
      go Less place = absurd (past place)
      go Equal place = key_cmp_total.antisymm (k z) key ∙ ap ordering_reverse (sym (key_cmp_total.congr (k x) key (k z) place) ∙ below)
      go Greater place = key_cmp_total.antisymm (k z) key ∙ ap ordering_reverse (key_cmp_total.trans key (k x) (k z) (key_cmp_total.antisymm key (k x) ∙ ap ordering_reverse place) below)

  -- so its key isn't found behind it
  find_behind : (key x : Cells) (xs : Rows) → row_beside columns key x ≢ Less → AllByRecursion (λ z. row_cmp columns x z ≡ Less) xs → find_row columns key xs ≡ None
  find_behind key x [] past all = refl
  find_behind key x (z ∷ zs) past all = rw (above_key key x z past all.0)

  module _ (test : Cells → Bool) where
    pub rising_filter : (rows : Rows) → IsRising (row_cmp columns) rows → IsRising (row_cmp columns) (filter test rows)
    rising_filter [] rising = tt
    rising_filter (r ∷ rs) rising = go (test r) (rising_filter rs rising.1)
      where
        go : (b : Bool) → IsRising (row_cmp columns) (filter test rs) → IsRising (row_cmp columns) (cond b (r ∷ filter test rs) (filter test rs))
        go true later = (all_filter (λ y. row_cmp columns r y ≡ Less) test rs rising.0, later)
        go false later = later

    -- the row of a key among those that a test picks is what the test shows of the row
    pub find_row-filter : (key : Cells) (rows : Rows) → IsRising (row_cmp columns) rows → find_row columns key (filter test rows) ≡ shown_by test (find_row columns key rows)
    find_row-filter key [] rising = refl
    find_row-filter key (r ∷ rs) rising = go (test r) refl (row_beside columns key r) refl (find_row-filter key rs rising.1)
      where
        behind : row_beside columns key r ≢ Less → find_row columns key (filter test rs) ≡ None
        behind past = find_behind key r (filter test rs) past (all_filter (λ y. row_cmp columns r y ≡ Less) test rs rising.0)

        go : (b : Bool) → test r ≡ b → (o : Ordering) → row_beside columns key r ≡ o → find_row columns key (filter test rs) ≡ shown_by test (find_row columns key rs)
            → find_row columns key (cond b (r ∷ filter test rs) (filter test rs)) ≡ shown_by test (found_here o r (find_row columns key rs))
        go true eb Less eo later = rw eo later
        go true eb Equal eo later = rw (eo, eb) refl
        go true eb Greater eo later = rw eo refl
        go false eb Less eo later = later
        go false eb Equal eo later = rw eb (behind (λ less. absurd (cc (eo, less))))
        go false eb Greater eo later = behind (λ less. absurd (cc (eo, less)))

module _ (schema : Schema) (table : ℕ) (test : Cells → Bool) where
  abbrev columns : List Column
  columns = columns_of schema table

  -- another row has the row's values in a constraint, and another key
  abbrev Clashes : ℕ → Cells → Cells → Type 0
  Clashes c row other = (key_of columns other ≢ key_of columns row) × (picked (constraint_columns_of schema table c) other ≡ picked (constraint_columns_of schema table c) row)

  unique_filter : (row : Cells) (rows : Rows) → IsUniqueRow schema table row rows → IsUniqueRow schema table row (filter test rows)
  unique_filter row rows unique = record {
    unheld = λ c below. any_from_none (Clashes c row) (filter test rows) (all_filter (λ other. ¬ Clashes c row other) test rows (none_from_any (Clashes c row) rows (unique.unheld c below)));
  }

  -- the rows that a test picks from a table are a table
  pub IsTable-filter : (rows : Rows) → IsTable schema table rows → IsTable schema table (filter test rows)
  IsTable-filter rows is = record {
    rising = rising_filter columns test rows is.rising;
    fit = all_filter (RowFits columns) test rows is.fit;
    apart = all_filter (λ row. IsUniqueRow schema table row (filter test rows)) test rows (each rows is.apart);
  }
    where
      each : (ys : Rows) → AllByRecursion (λ row. IsUniqueRow schema table row rows) ys → AllByRecursion (λ row. IsUniqueRow schema table row (filter test rows)) ys
      each [] all = tt
      each (y ∷ ys) all = (unique_filter y rows all.0, each ys all.1)
