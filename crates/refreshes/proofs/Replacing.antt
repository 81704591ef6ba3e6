-- Rows that go and rows that come make the wanted rows.
use Rattle.std.proofs.Common.{◌≡◌, ◌≢◌, ℕ, ◌⊎◌, Bool, true, false, List, [], ◌∷◌, map, Some, None, refl, sym, ◌∙◌, subst, inl, inr}
use Rattle.std.specs.Prelude.{◌||◌}
use Rattle.std.specs.List.{AllByRecursion}
use Rattle.rep_lists.specs.Rising.{IsRising}
use Rattle.rep_lists.proofs.Rising.{rising_put, rising_take}
use Rattle.rep_values.specs.Order.{key_cmp}
use Rattle.rep_values.specs.OrderLaws.{key_cmp_total}
use Rattle.rep_schema.specs.declared.schema.Schema.{Schema}
use Rattle.rep_schema.specs.declared.schema.Column.{Column}
use Rattle.rep_schema.specs.Tables.{Cells, Rows, columns_of, key_of, row_beside, row_cmp, find_row, put_row, take_row, RowFits, IsUniqueRow, IsTable}
use Rattle.rep_schema.specs.Groups.{are_same}
use Rattle.rep_schema.specs.Changes.{row_like}
use Rattle.rep_schema.proofs.ValuesAt.{are_same-Decides}
use Rattle.rep_schema.proofs.FoundRows.{find_row-put_own, find_row-put_other, find_row-take_own, find_row-take_other, rows_from_finds, found_row, key_of-found}
use Rattle.refreshes.specs.Showing.{has_key}
use Rattle.refreshes.specs.Planned.{gone_keys, coming_rows, rows_left, rows_with, CanCome}
use Rattle.refreshes.proofs.KeysAmong.{other_key, all_has}
use Rattle.refreshes.proofs.PlannedKeys.{all_gone, all_coming, stays, waits}
use Rattle.refreshes.proofs.FewerRows.{IsUniqueRow-fewer}

module _ (columns : List Column) where
  rising_taken : (key : Cells) (rows : Rows) → IsRising (row_cmp columns) rows → IsRising (row_cmp columns) (take_row columns key rows)
  rising_taken key rows rising = rising_take (key_of columns) key_cmp key_cmp_total (row_beside columns key) rows rising

  rising_with_one : (row : Cells) (rows : Rows) → IsRising (row_cmp columns) rows → IsRising (row_cmp columns) (put_row columns row rows)
  rising_with_one row rows rising = rising_put (key_of columns) key_cmp key_cmp_total row rows rising

  pub rising_rows_left : (keys : List Cells) (rows : Rows) → IsRising (row_cmp columns) rows → IsRising (row_cmp columns) (rows_left columns keys rows)
  rising_rows_left [] rows rising = rising
  rising_rows_left (key ∷ keys) rows rising = rising_rows_left keys (take_row columns key rows) (rising_taken key rows rising)

  rising_rows_with : (coming rows : Rows) → IsRising (row_cmp columns) rows → IsRising (row_cmp columns) (rows_with columns coming rows)
  rising_rows_with [] rows rising = rising
  rising_rows_with (row ∷ coming) rows rising = rising_rows_with coming (put_row columns row rows) (rising_with_one row rows rising)

  -- under a key that doesn't go, the row stays
  left_other : (key : Cells) (keys : List Cells) (rows : Rows) → IsRising (row_cmp columns) rows → has_key key keys ≡ false → find_row columns key (rows_left columns keys rows) ≡ find_row columns key rows
  left_other key [] rows rising none = refl
  left_other key (k ∷ ks) rows rising none = go (are_same key k) refl none (left_other key ks (take_row columns k rows) (rising_taken k rows rising))
    where
      go : (b : Bool) → are_same key k ≡ b → (b || has_key key ks) ≡ false
          → (has_key key ks ≡ false → find_row columns key (rows_left columns ks (take_row columns k rows)) ≡ find_row columns key (take_row columns k rows))
          → find_row columns key (rows_left columns ks (take_row columns k rows)) ≡ find_row columns key rows
      go true same none later = absurd (cc none)
      go false other none later = later none ∙ find_row-take_other columns k key rows rising (other_key key k other)

  left_none : (key : Cells) (keys : List Cells) (rows : Rows) → IsRising (row_cmp columns) rows → find_row columns key rows ≡ None → find_row columns key (rows_left columns keys rows) ≡ None
  left_none key [] rows rising none = none
  left_none key (k ∷ ks) rows rising none = left_none key ks (take_row columns k rows) (rising_taken k rows rising) (go (are_same key k) refl)
    where
      go : (b : Bool) → are_same key k ≡ b → find_row columns key (take_row columns k rows) ≡ None
      go true same = rw ((are_same-Decides key k).0 same) (find_row-take_own columns k rows rising)
      go false other = find_row-take_other columns k key rows rising (other_key key k other) ∙ none

  -- under a key that goes, none is left
  left_own : (key : Cells) (keys : List Cells) (rows : Rows) → IsRising (row_cmp columns) rows → has_key key keys ≡ true → find_row columns key (rows_left columns keys rows) ≡ None
  left_own key [] rows rising has = absurd (cc has)
  left_own key (k ∷ ks) rows rising has = go (are_same key k) refl has (left_own key ks (take_row columns k rows) (rising_taken k rows rising))
    where
      go : (b : Bool) → are_same key k ≡ b → (b || has_key key ks) ≡ true → (has_key key ks ≡ true → find_row columns key (rows_left columns ks (take_row columns k rows)) ≡ None)
          → find_row columns key (rows_left columns ks (take_row columns k rows)) ≡ None
      go true same has later = left_none key ks (take_row columns k rows) (rising_taken k rows rising) (rw ((are_same-Decides key k).0 same) (find_row-take_own columns k rows rising))
      go false other has later = later has

  -- under a key whose row doesn't come, the row stays
  with_other : (key : Cells) (coming rows : Rows) → has_key key (map (key_of columns) coming) ≡ false → find_row columns key (rows_with columns coming rows) ≡ find_row columns key rows
  with_other key [] rows none = refl
  with_other key (row ∷ coming) rows none = go (are_same key (key_of columns row)) refl none (with_other key coming (put_row columns row rows))
    where
      go : (b : Bool) → are_same key (key_of columns row) ≡ b → (b || has_key key (map (key_of columns) coming)) ≡ false
          → (has_key key (map (key_of columns) coming) ≡ false → find_row columns key (rows_with columns coming (put_row columns row rows)) ≡ find_row columns key (put_row columns row rows))
          → find_row columns key (rows_with columns coming (put_row columns row rows)) ≡ find_row columns key rows
      go true same none later = absurd (cc none)
      go false other none later = later none ∙ find_row-put_other columns row key rows (other_key key (key_of columns row) other)

  module _ (wanted : Rows) where
    abbrev AreWanted : Rows → Type 0
    AreWanted coming = AllByRecursion (λ row. row_like columns row wanted ≡ Some row) coming

    -- a wanted row gives its key the wanted row
    with_one : (key row : Cells) (rows : Rows) → row_like columns row wanted ≡ Some row → are_same key (key_of columns row) ≡ true → find_row columns key (put_row columns row rows) ≡ find_row columns key wanted
    with_one key row rows is same = rw ((are_same-Decides key (key_of columns row)).0 same, is) (find_row-put_own columns row rows)

    with_stays : (key : Cells) (coming rows : Rows) → AreWanted coming → find_row columns key rows ≡ find_row columns key wanted → find_row columns key (rows_with columns coming rows) ≡ find_row columns key wanted
    with_stays key [] rows all is = is
    with_stays key (row ∷ coming) rows all is = with_stays key coming (put_row columns row rows) all.1 (go (are_same key (key_of columns row)) refl)
      where
        go : (b : Bool) → are_same key (key_of columns row) ≡ b → find_row columns key (put_row columns row rows) ≡ find_row columns key wanted
        go true same = with_one key row rows all.0 same
        go false other = find_row-put_other columns row key rows (other_key key (key_of columns row) other) ∙ is

    with_own : (key : Cells) (coming rows : Rows) → AreWanted coming → has_key key (map (key_of columns) coming) ≡ true → find_row columns key (rows_with columns coming rows) ≡ find_row columns key wanted
    with_own key [] rows all has = absurd (cc has)
    with_own key (row ∷ coming) rows all has = go (are_same key (key_of columns row)) refl has (with_own key coming (put_row columns row rows) all.1)
      where
        go : (b : Bool) → are_same key (key_of columns row) ≡ b → (b || has_key key (map (key_of columns) coming)) ≡ true
            → (has_key key (map (key_of columns) coming) ≡ true → find_row columns key (rows_with columns coming (put_row columns row rows)) ≡ find_row columns key wanted)
            → find_row columns key (rows_with columns coming (put_row columns row rows)) ≡ find_row columns key wanted
        go true same has later = with_stays key coming (put_row columns row rows) all.1 (with_one key row rows all.0 same)
        go false other has later = later has

module _ (schema : Schema) (table : ℕ) (rows wanted : Rows) (is_rows : IsTable schema table rows) (is_wanted : IsTable schema table wanted) (keys : List Cells)
    (others : (key : Cells) → has_key key keys ≡ false → find_row (columns_of schema table) key rows ≡ find_row (columns_of schema table) key wanted) where
  abbrev columns : List Column
  columns = columns_of schema table

  abbrev gone : List Cells
  gone = gone_keys columns rows wanted keys

  abbrev coming : Rows
  coming = coming_rows columns rows wanted keys

  abbrev left : Rows
  left = rows_left columns gone rows

  -- a key that goes hasn't the wanted row
  pub differs : (key : Cells) → has_key key gone ≡ true → find_row columns key rows ≢ find_row columns key wanted
  differs key has = all_has (λ k. find_row columns k rows ≢ find_row columns k wanted) key gone (all_gone columns rows wanted (λ k. find_row columns k rows ≢ find_row columns k wanted) (λ k other. other) keys) has

  stays_all : (key : Cells) → has_key key gone ≡ false → (find_row columns key rows ≡ None) ⊎ (find_row columns key rows ≡ find_row columns key wanted)
  stays_all key none = go (has_key key keys) refl
    where
      go : (b : Bool) → has_key key keys ≡ b → (find_row columns key rows ≡ None) ⊎ (find_row columns key rows ≡ find_row columns key wanted)
      go true has = stays columns rows wanted key keys has none
      go false out = inr (others key out)

  waits_all : (key : Cells) → has_key key (map (key_of columns) coming) ≡ false → (find_row columns key wanted ≡ None) ⊎ (find_row columns key rows ≡ find_row columns key wanted)
  waits_all key none = go (has_key key keys) refl
    where
      go : (b : Bool) → has_key key keys ≡ b → (find_row columns key wanted ≡ None) ⊎ (find_row columns key rows ≡ find_row columns key wanted)
      go true has = waits columns rows wanted key keys has none
      go false out = inr (others key out)

  -- what comes is wanted
  pub are_wanted : AreWanted columns wanted coming
  are_wanted = all_coming columns rows wanted (λ row. row_like columns row wanted ≡ Some row)
      (λ key row found other. subst (λ k. find_row columns k wanted ≡ Some row) (sym (key_of-found columns key row wanted found)) found) keys

  find_left : (key : Cells) → (find_row columns key left ≡ None) ⊎ (find_row columns key left ≡ find_row columns key wanted)
  find_left key = go (has_key key gone) refl
    where
      go : (b : Bool) → has_key key gone ≡ b → (find_row columns key left ≡ None) ⊎ (find_row columns key left ≡ find_row columns key wanted)
      go true has = inl (left_own columns key gone rows is_rows.rising has)
      go false none =
          let same = left_other columns key gone rows is_rows.rising none in
          elim (stays_all key none) [
            | inl absent ↦ inl (same ∙ absent)
            | inr there ↦ inr (same ∙ there)
          ]

  find_with : (key : Cells) → find_row columns key (rows_with columns coming left) ≡ find_row columns key wanted
  find_with key = go (has_key key (map (key_of columns) coming)) refl
    where
      by_gone : find_row columns key wanted ≡ None → (b : Bool) → has_key key gone ≡ b → find_row columns key left ≡ find_row columns key wanted
      by_gone none true has = left_own columns key gone rows is_rows.rising has ∙ sym none
      by_gone none false out = left_other columns key gone rows is_rows.rising out ∙ elim (stays_all key out) [
        | inl absent ↦ absent ∙ sym none
        | inr there ↦ there
      ]

      by_same : find_row columns key rows ≡ find_row columns key wanted → (b : Bool) → has_key key gone ≡ b → find_row columns key left ≡ find_row columns key wanted
      by_same same true has = absurd (differs key has same)
      by_same same false out = left_other columns key gone rows is_rows.rising out ∙ same

      go : (b : Bool) → has_key key (map (key_of columns) coming) ≡ b → find_row columns key (rows_with columns coming left) ≡ find_row columns key wanted
      go true has = with_own columns wanted key coming left are_wanted has
      go false none = with_other columns key coming left none ∙ elim (waits_all key none) [
        | inl absent ↦ by_gone absent (has_key key gone) refl
        | inr there ↦ by_same there (has_key key gone) refl
      ]

  -- the rows that are left with those that come are the wanted ones
  pub rows_replaced : rows_with columns coming left ≡ wanted
  rows_replaced = rows_from_finds columns (rows_with columns coming left) wanted
      (rising_rows_with columns coming left (rising_rows_left columns gone rows is_rows.rising)) is_wanted.rising find_with

  abbrev AreFew : Rows → Type 0
  AreFew some = (other : Cells) → find_row columns (key_of columns other) some ≡ Some other → find_row columns (key_of columns other) wanted ≡ Some other

  can_come : (more some : Rows) → AreWanted columns wanted more → IsRising (row_cmp columns) some → AreFew some → CanCome schema table more some
  can_come [] some all rising few = tt
  can_come (row ∷ more) some all rising few = (
    found_row columns (key_of columns row) row wanted all.0 (RowFits columns) is_wanted.fit,
    IsUniqueRow-fewer schema table row some wanted rising few (found_row columns (key_of columns row) row wanted all.0 (λ x. IsUniqueRow schema table x wanted) is_wanted.apart),
    can_come more (put_row columns row some) all.1 (rising_with_one columns row some rising) (λ other found. go other found (are_same (key_of columns other) (key_of columns row)) refl),
  )
    where
      go : (other : Cells) → find_row columns (key_of columns other) (put_row columns row some) ≡ Some other → (b : Bool) → are_same (key_of columns other) (key_of columns row) ≡ b
          → find_row columns (key_of columns other) wanted ≡ Some other
      go other found true same = sym (with_one columns wanted (key_of columns other) row some all.0 same) ∙ found
      go other found false differ = few other (sym (find_row-put_other columns row (key_of columns other) some (other_key (key_of columns other) (key_of columns row) differ)) ∙ found)

  -- each of those that come fits, and is unique where it comes
  pub CanCome-coming : CanCome schema table coming left
  CanCome-coming = can_come coming left are_wanted (rising_rows_left columns gone rows is_rows.rising)
      (λ other found. elim (find_left (key_of columns other)) [
        | inl none ↦ absurd (cc (none, found))
        | inr there ↦ sym there ∙ found
      ])
