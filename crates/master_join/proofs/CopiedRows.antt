-- Rows of a table that are put into an empty one in their order.
use Rattle.std.proofs.Common.{◌≡◌, ◌≢◌, ℕ, zero, suc, ◌+◌, ◌<◌, List, [], ◌∷◌, length, set, take, Some, ap, ◌∙◌, subst, add-one}
use Rattle.std.specs.Prelude.{slice_get}
use Rattle.std.specs.List.{AllByRecursion}
use Rattle.std.specs.declared.cmp.Ordering.{Ordering}
use Rattle.std.specs.declared.cmp.Ordering.TheVariants.{Less}
use Rattle.std.proofs.lemmas.List.{get_or-set_same, set-set}
use Rattle.rep_lists.specs.Rising.{IsRising, put_at}
use Rattle.rep_schema.specs.declared.schema.Schema.{Schema}
use Rattle.rep_schema.specs.Tables.{Cells, Rows, columns_of, constraint_columns_of, key_of, row_cmp, put_row, rows_of, picked, IsUniqueRow, IsTable}
use Rattle.rep_schema.proofs.TableSteps.{any_from_none}
use Rattle.rep_schema.proofs.FilteredRows.{none_from_any}

-- what holds of all values holds of the one at a place
of_found : {X : Type 0} (P : X → Type 0) (xs : List X) (i : ℕ) (x : X) → AllByRecursion P xs → slice_get xs i ≡ Some x → P x
of_found P [] i x all there = absurd (cc there)
of_found P (y ∷ ys) zero x all there = let same : y ≡ x = cc there in subst P same all.0
of_found P (y ∷ ys) (suc i) x all there = of_found P ys i x all.1 there

-- and of those up to a place
of_taken : {X : Type 0} (P : X → Type 0) (n : ℕ) (xs : List X) → AllByRecursion P xs → AllByRecursion P (take n xs)
of_taken P zero xs all = tt
of_taken P (suc n) [] all = tt
of_taken P (suc n) (x ∷ xs) all = (all.0, of_taken P n xs all.1)

-- the next value of a rising list is put behind those in front of it
put_next : {X : Type 0} (cmp : X → X → Ordering) (xs : List X) (i : ℕ) (x : X) → IsRising cmp xs → slice_get xs i ≡ Some x → put_at (λ y. cmp y x) x (take i xs) ≡ take (suc i) xs
put_next cmp [] i x rising there = absurd (cc there)
put_next cmp (y ∷ ys) zero x rising there = let same : x ≡ y = cc there in ap (λ z. z ∷ []) same
put_next cmp (y ∷ ys) (suc i) x rising there =
    rw (of_found (λ z. cmp y z ≡ Less) ys i x rising.0 there) (ap (λ zs. y ∷ zs) (put_next cmp ys i x rising.1 there))

module _ (schema : Schema) (table : ℕ) (rows : Rows) (are : IsTable schema table rows) (i : ℕ) (row : Cells) (there : slice_get rows i ≡ Some row) where
  abbrev Clashes : ℕ → Cells → Type 0
  Clashes c other = (key_of (columns_of schema table) other ≢ key_of (columns_of schema table) row) × (picked (constraint_columns_of schema table c) other ≡ picked (constraint_columns_of schema table c) row)

  -- the row at a place is unique among those in front of it
  pub unique_there : IsUniqueRow schema table row (take i rows)
  unique_there =
      let unique : IsUniqueRow schema table row rows = of_found (λ (r : Cells). IsUniqueRow schema table r rows) rows i row are.apart there in
      record { unheld = λ c below. any_from_none (Clashes c) (take i rows) (of_taken (λ other. ¬ Clashes c other) i rows (none_from_any (Clashes c) rows (unique.unheld c below))) }

  -- it is put behind them
  put_there : put_row (columns_of schema table) row (take i rows) ≡ take (i + 1) rows
  put_there = rw add-one (put_next (row_cmp (columns_of schema table)) rows i row are.rising there)

  -- where the table has the rows in front of it
  pub rows_now : (first tables : List Rows) → table < length first → tables ≡ set first table (take i rows) → rows_of tables table ≡ take i rows
  rows_now first tables within is = ap (λ (ts : List Rows). rows_of ts table) is ∙ get_or-set_same first table (take i rows) [] within

  -- it has this one too, once it is put
  pub tables_next : (first tables new : List Rows) → table < length first → tables ≡ set first table (take i rows)
      → new ≡ set tables table (put_row (columns_of schema table) row (rows_of tables table)) → new ≡ set first table (take (i + 1) rows)
  tables_next first tables new within is put =
      put ∙ ap (λ (rs : Rows). set tables table (put_row (columns_of schema table) row rs)) (rows_now first tables within is)
      ∙ ap (set tables table) put_there ∙ ap (λ (ts : List Rows). set ts table (take (i + 1) rows)) is ∙ set-set first table (take i rows) (take (i + 1) rows)
