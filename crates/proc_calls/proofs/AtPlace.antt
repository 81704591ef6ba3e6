-- The row at a place of a table: it is found by its key, and a put and a take under its key change that place alone.
use Rattle.std.proofs.Common.{◌≡◌, ℕ, zero, suc, true, List, [], ◌∷◌, set, Some, refl, sym, ap, ◌∙◌, subst}
use Rattle.std.specs.Prelude.{Bool, slice_get}
use Rattle.std.specs.List.{AllByRecursion, list_all, remove}
use Rattle.std.specs.declared.cmp.Ordering.TheVariants.{Less}
use Rattle.std.proofs.lemmas.Bool.{and_parts}
use Rattle.rep_lists.specs.Rising.{IsRising}
use Rattle.rep_values.specs.Order.{key_cmp}
use Rattle.rep_schema.specs.declared.schema.Column.{Column}
use Rattle.rep_schema.specs.Tables.{Cells, Rows, key_of, row_beside, row_cmp, put_row, take_row}
use Rattle.rep_schema.proofs.SameValues.{row_beside-own}

-- what holds of all values holds of the one at a place
pub all_at : {X : Type 0} (P : X → Type 0) (xs : List X) (i : ℕ) (x : X) → AllByRecursion P xs → slice_get xs i ≡ Some x → P x
all_at P [] i x all there = absurd (cc there)
all_at P (y ∷ ys) zero x all there = let same : y ≡ x = cc there in subst P same all.0
all_at P (y ∷ ys) (suc i) x all there = all_at P ys i x all.1 there

-- the same of a test
pub passes_at : {X : Type 0} (test : X → Bool) (xs : List X) (i : ℕ) (x : X) → list_all test xs ≡ true → slice_get xs i ≡ Some x → test x ≡ true
passes_at test [] i x all there = absurd (cc there)
passes_at test (y ∷ ys) zero x all there = let same : y ≡ x = cc there in rw (← same) ((and_parts (test y) (list_all test ys) all).0)
passes_at test (y ∷ ys) (suc i) x all there = passes_at test ys i x (and_parts (test y) (list_all test ys) all).1 there

module _ (columns : List Column) where
  -- a row with the key of the row at a place takes its place
  pub put_row-place : (rows : Rows) (i : ℕ) (row other : Cells) → IsRising (row_cmp columns) rows → slice_get rows i ≡ Some row → key_of columns other ≡ key_of columns row
      → put_row columns other rows ≡ set rows i other
  put_row-place [] i row other rising there own = absurd (cc there)
  put_row-place (x ∷ xs) zero row other rising there own =
      let same : x ≡ row = cc there in
      let key : key_of columns x ≡ key_of columns other = ap (key_of columns) same ∙ sym own in
      rw (row_beside-own columns (key_of columns other) x key) refl
  put_row-place (x ∷ xs) (suc i) row other rising there own =
      let below : row_cmp columns x row ≡ Less = all_at (λ y. row_cmp columns x y ≡ Less) xs i row rising.0 there in
      let before : row_beside columns (key_of columns other) x ≡ Less = ap (key_cmp (key_of columns x)) own ∙ below in
      rw before (ap (λ ys. x ∷ ys) (put_row-place xs i row other rising.1 there own))

  -- the row at a place is taken by its key
  pub take_row-place : (rows : Rows) (i : ℕ) (row : Cells) → IsRising (row_cmp columns) rows → slice_get rows i ≡ Some row → take_row columns (key_of columns row) rows ≡ remove rows i
  take_row-place [] i row rising there = absurd (cc there)
  take_row-place (x ∷ xs) zero row rising there =
      let same : x ≡ row = cc there in
      rw (row_beside-own columns (key_of columns row) x (ap (key_of columns) same)) refl
  take_row-place (x ∷ xs) (suc i) row rising there =
      let below : row_cmp columns x row ≡ Less = all_at (λ y. row_cmp columns x y ≡ Less) xs i row rising.0 there in
      rw below (ap (λ ys. x ∷ ys) (take_row-place xs i row rising.1 there))
