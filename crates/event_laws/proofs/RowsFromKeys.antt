-- The rows that pending keys make.
use Rattle.std.proofs.Common.{◌≡◌, ◌≢◌, List, [], ◌∷◌, Bool, true, false, cond, Some, None, refl, sym, ◌∙◌, subst}
use Rattle.std.specs.Prelude.{Option, filter}
use Rattle.rep_lists.specs.Rising.{IsRising}
use Rattle.rep_lists.proofs.Rising.{rising_put, rising_take}
use Rattle.rep_values.specs.Order.{key_cmp}
use Rattle.rep_values.specs.OrderLaws.{key_cmp_total}
use Rattle.rep_schema.specs.declared.schema.Column.{Column}
use Rattle.rep_schema.specs.Tables.{Cells, Rows, key_of, row_beside, row_cmp, find_row, put_row}
use Rattle.rep_schema.specs.Shown.{shown_by}
use Rattle.rep_schema.specs.Groups.{are_same}
use Rattle.rep_schema.proofs.FoundRows.{find_row-put_own, find_row-put_other, find_row-take_own, find_row-take_other, rows_from_finds, key_of-found}
use Rattle.rep_schema.proofs.FilteredRows.{rising_filter, find_row-filter}
use Rattle.refreshes.specs.Showing.{has_key, ShowsOthers}
use Rattle.event_laws.specs.Pending.{with_row, rows_from_keys}
use Rattle.event_laws.proofs.Keys.{both_fail, same_key, same_own}

module _ (columns : List Column) (test : Cells → Bool) (master : Rows) (rises : IsRising (row_cmp columns) master) where
  rising-with_row : (key : Cells) (found : Option Cells) (rows : Rows) → IsRising (row_cmp columns) rows → IsRising (row_cmp columns) (with_row columns key found rows)
  rising-with_row key None rows rising = rising_take (key_of columns) key_cmp key_cmp_total (row_beside columns key) rows rising
  rising-with_row key (Some row) rows rising = rising_put (key_of columns) key_cmp key_cmp_total row rows rising

  -- what is shown under a key has it
  key_of-shown_by : (key row : Cells) → shown_by test (find_row columns key master) ≡ Some row → key_of columns row ≡ key
  key_of-shown_by key row is = go (find_row columns key master) refl is
    where
      by : (found : Cells) → find_row columns key master ≡ Some found → (b : Bool) → cond b (Some found) None ≡ Some row → key_of columns row ≡ key
      by found there true is = let same : found ≡ row = cc is in rw (← same) (key_of-found columns key found master there)
      by found there false is = absurd (cc is)

      go : (o : Option Cells) → find_row columns key master ≡ o → shown_by test o ≡ Some row → key_of columns row ≡ key
      go None there is = absurd (cc is)
      go (Some found) there is = by found there (test found) is

  -- under the key there is what is shown
  find_own : (key : Cells) (rows : Rows) → IsRising (row_cmp columns) rows → (found : Option Cells) → shown_by test (find_row columns key master) ≡ found → find_row columns key (with_row columns key found rows) ≡ found
  find_own key rows rising None is = find_row-take_own columns key rows rising
  find_own key rows rising (Some row) is = subst (λ k. find_row columns k (put_row columns row rows) ≡ Some row) (key_of-shown_by key row is) (find_row-put_own columns row rows)

  -- and under another one what was there
  find_other : (key k : Cells) (rows : Rows) → IsRising (row_cmp columns) rows → k ≢ key → (found : Option Cells) → shown_by test (find_row columns k master) ≡ found
      → find_row columns key (with_row columns k found rows) ≡ find_row columns key rows
  find_other key k rows rising differ None is = find_row-take_other columns k key rows rising differ
  find_other key k rows rising differ (Some row) is = find_row-put_other columns row key rows (λ same. differ (sym (key_of-shown_by k row is) ∙ same))

  -- rows that show the master's under all other keys are made what the test picks by these keys
  pub rows_from_keys-filter : (keys : List Cells) (rows : Rows) → IsRising (row_cmp columns) rows → ShowsOthers columns test keys master rows → rows_from_keys columns test master keys rows ≡ filter test master
  rows_from_keys-filter [] rows rising others =
      rows_from_finds columns rows (filter test master) rising (rising_filter columns test master rises) (λ key. others.shows key refl ∙ sym (find_row-filter columns test key master rises))
  rows_from_keys-filter (k ∷ ks) rows rising others =
      rows_from_keys-filter ks (with_row columns k (shown_by test (find_row columns k master)) rows) (rising-with_row k (shown_by test (find_row columns k master)) rows rising)
      (record { shows = λ key none. go key none (are_same key k) refl })
    where
      go : (key : Cells) → has_key key ks ≡ false → (b : Bool) → are_same key k ≡ b
          → find_row columns key (with_row columns k (shown_by test (find_row columns k master)) rows) ≡ shown_by test (find_row columns key master)
      go key none true is = subst (λ (c : Cells). find_row columns c (with_row columns k (shown_by test (find_row columns k master)) rows) ≡ shown_by test (find_row columns c master)) (sym (same_key key k is))
          (find_own k rows rising (shown_by test (find_row columns k master)) refl)
      go key none false is = find_other key k rows rising (λ same. absurd (cc (is, same_own key, same))) (shown_by test (find_row columns k master)) refl
          ∙ others.shows key (both_fail (are_same key k) (has_key key ks) is none)
