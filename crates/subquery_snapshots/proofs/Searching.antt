-- From which place on rows stand above a key.
use Rattle.std.proofs.Common.{◌≡◌, ℕ, zero, suc, ◌+◌, List, [], ◌∷◌, ◌++◌, true, false, take, drop, Some, refl, sym, ap, ◌∙◌, subst, true≢false, add-one, take-append-drop}
use Rattle.std.specs.Prelude.{slice_get}
use Rattle.std.specs.List.{AllByRecursion}
use Rattle.std.specs.declared.cmp.Ordering.TheVariants.{Less}
use Rattle.std.proofs.lemmas.Bool.{false_from_ne_true}
use Rattle.std.proofs.lemmas.List.Elements.{filter-append}
use Rattle.rep_lists.specs.Rising.{IsRising}
use Rattle.rep_lists.proofs.Each.{each_then}
use Rattle.rep_schema.specs.declared.schema.Column.{Column}
use Rattle.rep_schema.specs.Tables.{Cells, Rows, row_cmp}
use Rattle.subquery_snapshots.specs.Children.{is_above, rows_above}
use Rattle.subquery_snapshots.proofs.Walking.{filter_all, above_then}

-- what holds of all values holds of the one at a place
at_place : {X : Type 0} (P : X → Type 0) (xs : List X) (i : ℕ) (x : X) → AllByRecursion P xs → slice_get xs i ≡ Some x → P x
at_place P [] i x all there = absurd (cc there)
at_place P (y ∷ ys) zero x all there = let same : y ≡ x = cc there in subst P same all.0
at_place P (y ∷ ys) (suc i) x all there = at_place P ys i x all.1 there

module _ (columns : List Column) (key : Cells) where
  -- from a row above the key on, all stand above it
  pub all_from : (rows : Rows) (i : ℕ) (row : Cells) → IsRising (row_cmp columns) rows → slice_get rows i ≡ Some row → is_above columns (Some key) row ≡ true → rows_above columns (Some key) (drop i rows) ≡ drop i rows
  all_from [] i row rising there is = absurd (cc there)
  all_from (x ∷ xs) zero row rising there is =
      let same : x ≡ row = cc there in
      let here : is_above columns (Some key) x ≡ true = subst (λ (z : Cells). is_above columns (Some key) z ≡ true) (sym same) is in
      filter_all (is_above columns (Some key)) (x ∷ xs)
      (here, each_then (λ y. row_cmp columns x y ≡ Less) (λ y. is_above columns (Some key) y ≡ true) (λ y less. above_then columns (Some key) x y less here) xs rising.0)
  all_from (x ∷ xs) (suc i) row rising there is = all_from xs i row rising.1 there is

  -- up to a row that isn't above the key, none is
  none_through : (rows : Rows) (i : ℕ) (row : Cells) → IsRising (row_cmp columns) rows → slice_get rows i ≡ Some row → is_above columns (Some key) row ≡ false → rows_above columns (Some key) (take (suc i) rows) ≡ []
  none_through [] i row rising there isnt = absurd (cc there)
  none_through (x ∷ xs) zero row rising there isnt =
      let same : x ≡ row = cc there in
      let here : is_above columns (Some key) x ≡ false = subst (λ (z : Cells). is_above columns (Some key) z ≡ false) (sym same) isnt in
      rw here refl
  none_through (x ∷ xs) (suc i) row rising there isnt =
      let below : row_cmp columns x row ≡ Less = at_place (λ y. row_cmp columns x y ≡ Less) xs i row rising.0 there in
      let here : is_above columns (Some key) x ≡ false = false_from_ne_true (is_above columns (Some key) x) (λ is. true≢false (sym (above_then columns (Some key) x row below is) ∙ isnt)) in
      rw here (none_through xs i row rising.1 there isnt)

  pub none_upto : (rows : Rows) (i : ℕ) (row : Cells) → IsRising (row_cmp columns) rows → slice_get rows i ≡ Some row → is_above columns (Some key) row ≡ false → rows_above columns (Some key) (take (i + 1) rows) ≡ []
  none_upto rows i row rising there isnt = rw (add-one i) (none_through rows i row rising there isnt)

  -- where none stands above it up to a place, and all do from there on, those from there on are the rows above it
  pub parted_there : (rows : Rows) (i : ℕ) → rows_above columns (Some key) (take i rows) ≡ [] → rows_above columns (Some key) (drop i rows) ≡ drop i rows → drop i rows ≡ rows_above columns (Some key) rows
  parted_there rows i none all =
      sym all
      ∙ ap (λ (first : Rows). first ++ rows_above columns (Some key) (drop i rows)) (sym none)
      ∙ sym (filter-append (is_above columns (Some key)) (take i rows) (drop i rows))
      ∙ ap (λ (all_rows : Rows). rows_above columns (Some key) all_rows) (take-append-drop i rows)
