-- What is found by key among a table's rows, after a put and after a take, and that it determines the rows.
use Rattle.std.proofs.Common.{◌≡◌, ◌≢◌, List, [], ◌∷◌, Some, None, refl, ap, subst, ℕ, ◌+◌, ◌++◌, take, ◌∙◌}
use Rattle.std.specs.List.{AllByRecursion}
use Rattle.std.specs.declared.cmp.Ordering.{Ordering}
use Rattle.std.specs.declared.cmp.Ordering.TheVariants.{Less, Equal, Greater}
use Rattle.rep_lists.specs.Rising.{IsRising, find_at, found_here, take_at, taken_here}
use Rattle.rep_lists.proofs.FoundByKey.{find_put_own, find_put_other, find_take, find_take_other, same_from_finds}
use Rattle.rep_values.specs.Order.{key_cmp}
use Rattle.rep_values.specs.OrderLaws.{key_cmp_total, exact_keys}
use Rattle.rep_schema.specs.declared.schema.Column.{Column}
use Rattle.rep_schema.specs.Tables.{Cells, Rows, key_of, row_beside, row_cmp, find_row, put_row, take_row}
use Rattle.std.specs.Prelude.{slice_get}
use Rattle.std.proofs.lemmas.List.{take_more}
use Rattle.std.proofs.lemmas.Option.{slice_get_within, get_or_from_slice_get}

module _ (columns : List Column) where
  -- a row that was put is found under its key
  pub find_row-put_own : (row : Cells) (rows : Rows) → find_row columns (key_of columns row) (put_row columns row rows) ≡ Some row
  find_row-put_own row rows = find_put_own (key_of columns) key_cmp key_cmp_total row rows

  -- under another key the same row is found as before the put
  pub find_row-put_other : (row key : Cells) (rows : Rows) → key_of columns row ≢ key → find_row columns key (put_row columns row rows) ≡ find_row columns key rows
  find_row-put_other row key rows other = find_put_other (key_of columns) key_cmp key_cmp_total row key rows (λ tied. other (exact_keys (key_of columns row) key tied))

  -- after a take no row is found under its key
  pub find_row-take_own : (key : Cells) (rows : Rows) → IsRising (row_cmp columns) rows → find_row columns key (take_row columns key rows) ≡ None
  find_row-take_own key rows rising = find_take (key_of columns) key_cmp key_cmp_total key rows rising

  -- under another key the same row is found as before the take
  pub find_row-take_other : (taken key : Cells) (rows : Rows) → IsRising (row_cmp columns) rows → taken ≢ key → find_row columns key (take_row columns taken rows) ≡ find_row columns key rows
  find_row-take_other taken key rows rising other = find_take_other (key_of columns) key_cmp key_cmp_total taken key rows rising (λ tied. other (exact_keys taken key tied))

  -- rows in rising order in which every key finds the same row are the same
  pub rows_from_finds : (rows others : Rows) → IsRising (row_cmp columns) rows → IsRising (row_cmp columns) others
      → ((key : Cells) → find_row columns key rows ≡ find_row columns key others) → rows ≡ others
  rows_from_finds rows others rising rising_others finds = same_from_finds (key_of columns) key_cmp key_cmp_total rows others rising rising_others finds

-- what is found stands at the place, and is one of the values
found_at : {X : Type 0} (P : X → Type 0) (at : X → Ordering) (xs : List X) (x : X) → AllByRecursion P xs → find_at at xs ≡ Some x → P x × (at x ≡ Equal)
found_at P at [] x all found = cc
found_at P at (y ∷ ys) x all found = go (at y) refl found (found_at P at ys x all.1)
  where
    go : (o : Ordering) → at y ≡ o → found_here o y (find_at at ys) ≡ Some x → (find_at at ys ≡ Some x → P x × (at x ≡ Equal)) → P x × (at x ≡ Equal)
    go Less place here later = later here
    go Equal place here later = let same : y ≡ x = cc in (subst P same all.0, subst (λ z. at z ≡ Equal) same place)
    go Greater place here later = cc

module _ (columns : List Column) (key row : Cells) (rows : Rows) (found : find_row columns key rows ≡ Some row) where
  -- a row that is found is one of the rows
  pub found_row : (P : Cells → Type 0) → AllByRecursion P rows → P row
  found_row P all = (found_at P (row_beside columns key) rows row all found).0

  -- and has the key
  pub key_of-found : key_of columns row ≡ key
  key_of-found = exact_keys (key_of columns row) key (found_at (λ x. Unit {0}) (row_beside columns key) rows row (all_units rows) found).1
    where
      all_units : (xs : Rows) → AllByRecursion (λ x. Unit {0}) xs
      all_units [] = tt
      all_units (x ∷ xs) = (tt, all_units xs)

-- where nothing is found, nothing is taken
take_absent : {X : Type 0} (at : X → Ordering) (xs : List X) → find_at at xs ≡ None → take_at at xs ≡ xs
take_absent at [] absent = refl
take_absent at (x ∷ xs) absent = go (at x) absent (take_absent at xs)
  where
    go : (o : Ordering) → found_here o x (find_at at xs) ≡ None → (find_at at xs ≡ None → take_at at xs ≡ xs) → taken_here o x xs (take_at at xs) ≡ x ∷ xs
    go Less none later = ap (λ ys. x ∷ ys) (later none)
    go Equal none later = cc
    go Greater none later = refl

pub take_row-absent : (columns : List Column) (key : Cells) (rows : Rows) → find_row columns key rows ≡ None → take_row columns key rows ≡ rows
take_row-absent columns key rows absent = take_absent (row_beside columns key) rows absent

-- one more is the value that stands at the place
pub take_found : {X : Type 0} (xs : List X) (i : ℕ) (x : X) → slice_get xs i ≡ Some x → take (i + 1) xs ≡ take i xs ++ x ∷ []
take_found xs i x found = take_more xs i x (slice_get_within xs i x found) ∙ ap (λ y. take i xs ++ y ∷ []) (get_or_from_slice_get xs i x x found)
