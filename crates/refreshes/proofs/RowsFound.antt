-- Rows of a table found by their own keys.
use Rattle.std.proofs.Common.{◌≡◌, ℕ, zero, suc, false, List, [], ◌∷◌, map, Some, None, refl, subst}
use Rattle.std.specs.Prelude.{slice_get}
use Rattle.std.specs.List.{AllByRecursion}
use Rattle.std.specs.declared.cmp.Ordering.{Ordering}
use Rattle.std.specs.declared.cmp.Ordering.TheVariants.{Less, Equal, Greater}
use Rattle.rep_lists.specs.Rising.{IsRising, found_here}
use Rattle.rep_values.specs.OrderLaws.{exact_keys}
use Rattle.rep_schema.specs.declared.schema.Column.{Column}
use Rattle.rep_schema.specs.Tables.{Cells, Rows, key_of, row_beside, row_cmp, find_row}
use Rattle.rep_schema.specs.Groups.{are_same}
use Rattle.rep_schema.proofs.SameValues.{row_beside-own}
use Rattle.rep_schema.proofs.FoundRows.{found_row}
use Rattle.refreshes.specs.Showing.{has_key}
use Rattle.refreshes.proofs.KeysAmong.{are_same-own, neither}

-- what holds of all values holds of the one at a place
pub all_at : {X : Type 0} (P : X → Type 0) (xs : List X) (i : ℕ) (x : X) → AllByRecursion P xs → slice_get xs i ≡ Some x → P x
all_at P [] i x all there = absurd (cc there)
all_at P (y ∷ ys) zero x all there = let same : y ≡ x = cc there in subst P same all.0
all_at P (y ∷ ys) (suc i) x all there = all_at P ys i x all.1 there

module _ (columns : List Column) where
  -- a row is found under its key
  pub found_at_place : (rows : Rows) (i : ℕ) (row : Cells) → IsRising (row_cmp columns) rows → slice_get rows i ≡ Some row → find_row columns (key_of columns row) rows ≡ Some row
  found_at_place [] i row rising there = absurd (cc there)
  found_at_place (x ∷ xs) zero row rising there = let same : x ≡ row = cc there in rw (same, row_beside-own columns (key_of columns row) row refl) refl
  found_at_place (x ∷ xs) (suc i) row rising there =
      rw (all_at (λ y. row_cmp columns x y ≡ Less) xs i row rising.0 there) (found_at_place xs i row rising.1 there)

  -- what holds of each row that is found under its key holds of all
  pub all_from_finds : (P : Cells → Type 0) (rows : Rows) → IsRising (row_cmp columns) rows → ((row : Cells) → find_row columns (key_of columns row) rows ≡ Some row → P row) → AllByRecursion P rows
  all_from_finds P [] rising holds = tt
  all_from_finds P (x ∷ xs) rising holds = (
    holds x (rw (row_beside-own columns (key_of columns x) x refl) refl),
    all_from_finds P xs rising.1 (λ row found. holds row (rw (found_row columns (key_of columns row) row xs found (λ y. row_cmp columns x y ≡ Less) rising.0) found)),
  )

  -- under a key that no row has, nothing is found
  pub none_has : (key : Cells) (rows : Rows) → has_key key (map (key_of columns) rows) ≡ false → find_row columns key rows ≡ None
  none_has key [] none = refl
  none_has key (x ∷ xs) none = go (row_beside columns key x) refl (none_has key xs both.1)
    where
      both : (are_same key (key_of columns x) ≡ false) × (has_key key (map (key_of columns) xs) ≡ false)
      both = neither (are_same key (key_of columns x)) (has_key key (map (key_of columns) xs)) none

      go : (o : Ordering) → row_beside columns key x ≡ o → find_row columns key xs ≡ None → found_here o x (find_row columns key xs) ≡ None
      go Less place later = later
      go Equal place later =
          let own : key_of columns x ≡ key = exact_keys (key_of columns x) key place in
          absurd (cc (rw own at both.0, are_same-own key))
      go Greater place later = refl
