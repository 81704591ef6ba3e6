-- Rows with their filled columns filled in with stamp 0: they fit, keep their keys, and stay unique where filled columns stand in no constraint.
use Rattle.std.proofs.Common.{◌≡◌, ℕ, zero, suc, ◌+◌, Bool, true, false, List, [], ◌∷◌, length, set, refl, sym, ap, ◌∙◌, subst, pos}
use Rattle.std.specs.Prelude.{Some, ◌≢◌, ◌&&◌, cond, slice_get, Any}
use Rattle.std.specs.List.{AllByRecursion}
use Rattle.std.proofs.lemmas.Bool.{and_parts, and_from, and_right}
use Rattle.std.specs.declared.cmp.Ordering.{Ordering}
use Rattle.std.specs.declared.cmp.Ordering.TheVariants.{Less, Equal, Greater}
use Rattle.std.specs.Ordering.{ordering_reverse}
use Rattle.rep_lists.specs.Rising.{IsRising, find_at, put_at, take_at}
use Rattle.rep_values.specs.declared.name.SiteName.{SiteName}
use Rattle.rep_values.specs.declared.value.Value.TheVariants.{Num, Words}
use Rattle.rep_values.specs.OrderLaws.{key_cmp_total}
use Rattle.rep_schema.specs.declared.schema.Schema.{Schema}
use Rattle.rep_schema.specs.declared.schema.Column.{Column}
use Rattle.rep_schema.specs.Tables.{Cells, Rows, columns_of, constraint_columns_of, key_of, row_beside, row_cmp, find_row, put_row, take_row, picked, RowFits, IsUniqueRow, IsTable}
use Rattle.rep_schema.specs.Kinds.{is_filled, is_stamp, value_in_range, row_in_range}
use Rattle.rep_schema.proofs.SameValues.{row_beside-own}
use Rattle.rep_schema.proofs.TableSteps.{IsUniqueRow-take}
use Rattle.txn_effects.specs.Filled.{Filling, filled_from, filled_row, everywhere}
use Rattle.local_txn.specs.BaseRows.{IsNotFilled, FillsFreely}
use Rattle.txn_effects.proofs.KindRows.{length-are_of, RowFits-are_of, are_of-RowFits, are_of-filled_from, key_of-filled_from}

-- of the value at a place holds what holds of each
pub each_there : {X : Type 0} (P : X → Type 0) (xs : List X) (i : ℕ) (x : X) → AllByRecursion P xs → slice_get xs i ≡ Some x → P x
each_there P [] i x all there = cc
each_there P (y ∷ ys) zero x all there = let same : y ≡ x = cc in subst P same all.0
each_there P (y ∷ ys) (suc i) x all there = each_there P ys i x all.1 there

-- a value of a rising list, and where others stand beside it
module _ {X : Type 0} (R : X → X → Ordering) (at : X → Ordering) (x : X) (here : at x ≡ Equal) (before : (y : X) → R y x ≡ Less → at y ≡ Less) (behind : (y : X) → R x y ≡ Less → at y ≡ Greater) where
  -- it is found
  pub find_at-there : (xs : List X) (i : ℕ) → IsRising R xs → slice_get xs i ≡ Some x → find_at at xs ≡ Some x
  find_at-there [] i rising there = cc
  find_at-there (y ∷ ys) zero rising there = let same : y ≡ x = cc in rw (same, here) refl
  find_at-there (y ∷ ys) (suc i) rising there = rw (before y (each_there (λ z. R y z ≡ Less) ys i x rising.0 there)) (find_at-there ys i rising.1 there)

  first_of : (z : X) (xs : List X) → AllByRecursion (λ y. R x y ≡ Less) xs → put_at at z xs ≡ z ∷ xs
  first_of z [] all = refl
  first_of z (y ∷ ys) all = rw (behind y all.0) refl

  -- one that is put there after it was taken stands at its place
  pub put_at-taken : (z : X) (xs : List X) (i : ℕ) → IsRising R xs → slice_get xs i ≡ Some x → put_at at z (take_at at xs) ≡ set xs i z
  put_at-taken z [] i rising there = cc
  put_at-taken z (y ∷ ys) zero rising there =
      let same : y ≡ x = cc in
      rw (same, here) (first_of z ys (subst (λ w. AllByRecursion (λ v. R w v ≡ Less) ys) same rising.0))
  put_at-taken z (y ∷ ys) (suc i) rising there =
      let less : at y ≡ Less = before y (each_there (λ v. R y v ≡ Less) ys i x rising.0 there) in
      rw (less, less) (ap (λ t. y ∷ t) (put_at-taken z ys i rising.1 there))

module _ (site : SiteName) where
  -- what is filled in before any site is made
  abbrev pub base_filling : Filling
  base_filling = record { stamp = 0; site = site }

  in_range-filled_from : (chosen : ℕ → Bool) (n : ℕ) (columns : List Column) (row : Cells) → row_in_range row ≡ true → row_in_range (filled_from base_filling chosen n columns row) ≡ true
  in_range-filled_from chosen n [] row range = range
  in_range-filled_from chosen n (c ∷ cs) [] range = refl
  in_range-filled_from chosen n (c ∷ cs) (v ∷ vs) range =
      let parts = and_parts (value_in_range v) (row_in_range vs) range in
      let rest = in_range-filled_from chosen (n + 1) cs vs parts.1 in
      go (chosen n && is_filled c) (is_stamp c.kind) parts.0 rest
    where
      go : (gets stamped : Bool) → value_in_range v ≡ true → row_in_range (filled_from base_filling chosen (n + 1) cs vs) ≡ true
          → (value_in_range (cond gets (cond stamped (Num (pos 0)) (Words site.0)) v) && row_in_range (filled_from base_filling chosen (n + 1) cs vs)) ≡ true
      go true true here rest = rest
      go true false here rest = rest
      go false stamped here rest = and_from (value_in_range v) (row_in_range (filled_from base_filling chosen (n + 1) cs vs)) here rest

  -- a row that fits still fits
  pub RowFits-filled : (columns : List Column) (row : Cells) → RowFits columns row → RowFits columns (filled_row base_filling columns row)
  RowFits-filled columns row fits =
      let are = are_of-RowFits columns row fits in
      RowFits-are_of columns (filled_row base_filling columns row) (are_of-filled_from base_filling everywhere 0 columns row are.0) (in_range-filled_from everywhere 0 columns row are.1)

-- a column that isn't filled keeps its value
slice_get-filled_from : (filling : Filling) (chosen : ℕ → Bool) (n : ℕ) (columns : List Column) (row : Cells) (place : ℕ) → IsNotFilled columns place
    → slice_get (filled_from filling chosen n columns row) place ≡ slice_get row place
slice_get-filled_from filling chosen n [] row place off = refl
slice_get-filled_from filling chosen n (c ∷ cs) [] place off = refl
slice_get-filled_from filling chosen n (c ∷ cs) (v ∷ vs) zero off = rw (off c refl, and_right (chosen n) false refl) refl
slice_get-filled_from filling chosen n (c ∷ cs) (v ∷ vs) (suc place) off = slice_get-filled_from filling chosen (n + 1) cs vs place off

picked-filled : (filling : Filling) (columns : List Column) (row : Cells) (places : List ℕ) → AllByRecursion (IsNotFilled columns) places
    → picked places (filled_row filling columns row) ≡ picked places row
picked-filled filling columns row [] off = refl
picked-filled filling columns row (place ∷ places) off =
    rw (slice_get-filled_from filling everywhere 0 columns row place off.0) (ap (λ rest. slice_get row place ∷ rest) (picked-filled filling columns row places off.1))

-- a row with another one's key, and its values in the constraints, is unique where that one is
pub IsUniqueRow-like : (schema : Schema) (table : ℕ) (old row : Cells) (rows : Rows) → key_of (columns_of schema table) row ≡ key_of (columns_of schema table) old
    → ((constraint : ℕ) → picked (constraint_columns_of schema table constraint) row ≡ picked (constraint_columns_of schema table constraint) old)
    → IsUniqueRow schema table old rows → IsUniqueRow schema table row rows
IsUniqueRow-like schema table old row rows same_key same_values unique = record {
  unheld = λ constraint below held.
      let columns = columns_of schema table in
      let places = constraint_columns_of schema table constraint in
      let by_key : Any (λ other. (key_of columns other ≢ key_of columns old) × (picked places other ≡ picked places row)) rows =
      subst (λ key. Any (λ other. (key_of columns other ≢ key) × (picked places other ≡ picked places row)) rows) same_key held in
      unique.unheld constraint below (subst (λ values. Any (λ other. (key_of columns other ≢ key_of columns old) × (picked places other ≡ values)) rows) (same_values constraint) by_key);
}

-- a row of a table, at a place
module _ (schema : Schema) (table : ℕ) (rows : Rows) (is : IsTable schema table rows) (place : ℕ) (row : Cells) (there : slice_get rows place ≡ Some row) where
  abbrev columns : List Column
  columns = columns_of schema table

  abbrev key : Cells
  key = key_of columns row

  own_place : row_beside columns key row ≡ Equal
  own_place = row_beside-own columns key row refl

  greater : (other : Cells) → row_cmp columns row other ≡ Less → row_beside columns key other ≡ Greater
  greater other less = key_cmp_total.antisymm (key_of columns other) key ∙ ap ordering_reverse less

  -- it is found under its key
  pub find_row-there : find_row columns key rows ≡ Some row
  find_row-there = find_at-there (row_cmp columns) (row_beside columns key) row own_place (λ other less. less) greater rows place is.rising there

  -- it fits
  pub RowFits-there : RowFits columns row
  RowFits-there = each_there (RowFits columns) rows place row is.fit there

  pub length-there : length columns ≡ length row
  length-there = length-are_of columns row (are_of-RowFits columns row RowFits-there).0

  module _ (free : FillsFreely schema) (site : SiteName) where
    abbrev filled : Cells
    filled = filled_row (base_filling site) columns row

    -- filled in, it keeps its key
    pub key_of-filled : key_of columns filled ≡ key
    key_of-filled = key_of-filled_from (base_filling site) everywhere 0 columns row (λ k c at is_key. and_right (everywhere (0 + k)) (is_filled c) (free.keys table k c at is_key))

    pub RowFits-filled_there : RowFits columns filled
    RowFits-filled_there = RowFits-filled site columns row RowFits-there

    -- it is unique among the others
    pub IsUniqueRow-filled : IsUniqueRow schema table filled (take_row columns key rows)
    IsUniqueRow-filled = IsUniqueRow-like schema table row filled (take_row columns key rows) key_of-filled
        (λ constraint. picked-filled (base_filling site) columns row (constraint_columns_of schema table constraint) (free.constraints table constraint))
        (IsUniqueRow-take schema table key row rows (each_there (λ other. IsUniqueRow schema table other rows) rows place row is.apart there))

    -- and put back it stands at its place
    pub put_row-filled : put_row columns filled (take_row columns key rows) ≡ set rows place filled
    put_row-filled = subst (λ own. put_at (row_beside columns own) filled (take_row columns key rows) ≡ set rows place filled) (sym key_of-filled)
        (put_at-taken (row_cmp columns) (row_beside columns key) row own_place (λ other less. less) greater filled rows place is.rising there)
