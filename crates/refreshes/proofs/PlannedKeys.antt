-- Which keys go and which rows come, by what is found under each key.
use Rattle.std.proofs.Common.{◌≡◌, ◌≢◌, ℕ, ◌⊎◌, Bool, true, false, cond, List, [], ◌∷◌, ◌++◌, map, Some, None, refl, sym, ap, ◌∙◌, inl, inr}
use Rattle.std.specs.Prelude.{Option, is_none, ◌||◌, slice_get, option_to_list}
use Rattle.std.specs.List.{AllByRecursion}
use Rattle.std.proofs.lemmas.List.{append_assoc, append-nil, map-append}
use Rattle.std.specs.declared.cmp.Ordering.{Ordering}
use Rattle.std.specs.declared.cmp.Ordering.TheVariants.{Less, Equal, Greater}
use Rattle.rep_lists.specs.Rising.{IsRising, found_here}
use Rattle.rep_values.specs.OrderLaws.{exact_keys}
use Rattle.rep_schema.specs.declared.schema.Column.{Column}
use Rattle.rep_schema.specs.Tables.{Cells, Rows, key_of, row_beside, row_cmp, find_row}
use Rattle.rep_schema.specs.Groups.{are_same}
use Rattle.rep_schema.specs.Changes.{row_like}
use Rattle.rep_schema.specs.Putting.{is_unchanged}
use Rattle.rep_schema.proofs.Making.{is_unchanged-Decides}
use Rattle.rep_schema.proofs.ValuesAt.{are_same-Decides}
use Rattle.rep_schema.proofs.FoundRows.{key_of-found}
use Rattle.refreshes.specs.Showing.{has_key}
use Rattle.refreshes.specs.Planned.{gone_here, coming_here, gone_keys, coming_rows, absent_rows, all_keys}
use Rattle.refreshes.proofs.KeysAmong.{neither, has_key-neither, are_same-own}
use Rattle.refreshes.proofs.RowsFound.{none_has, found_at_place, all_from_finds}

module _ (columns : List Column) (rows wanted : Rows) where
  -- the keys of two lists, one behind the other
  pub gone_keys-append : (xs ys : List Cells) → gone_keys columns rows wanted (xs ++ ys) ≡ gone_keys columns rows wanted xs ++ gone_keys columns rows wanted ys
  gone_keys-append [] ys = refl
  gone_keys-append (x ∷ xs) ys = rw (gone_keys-append xs ys) (sym (append_assoc (gone_here x (find_row columns x rows) (find_row columns x wanted)) (gone_keys columns rows wanted xs) (gone_keys columns rows wanted ys)))

  pub coming_rows-append : (xs ys : List Cells) → coming_rows columns rows wanted (xs ++ ys) ≡ coming_rows columns rows wanted xs ++ coming_rows columns rows wanted ys
  coming_rows-append [] ys = refl
  coming_rows-append (x ∷ xs) ys = rw (coming_rows-append xs ys) (sym (append_assoc (coming_here (find_row columns x rows) (find_row columns x wanted)) (coming_rows columns rows wanted xs) (coming_rows columns rows wanted ys)))

  -- a key that goes hasn't the wanted row
  module _ (Q : Cells → Type 0) (holds : (key : Cells) → find_row columns key rows ≢ find_row columns key wanted → Q key) where
    gone_one : (key : Cells) (present found : Option Cells) → find_row columns key rows ≡ present → find_row columns key wanted ≡ found → (keys : List Cells) → AllByRecursion Q keys
        → AllByRecursion Q (gone_here key present found ++ keys)
    gone_one key None found is was keys all = all
    gone_one key (Some row) found is was keys all = go (is_unchanged (Some row) found) refl
      where
        go : (b : Bool) → is_unchanged (Some row) found ≡ b → AllByRecursion Q (cond b [] (key ∷ []) ++ keys)
        go true same = all
        go false other = (holds key (λ equal. absurd (cc (other, (is_unchanged-Decides (Some row) found).1 (sym is ∙ equal ∙ was)))), all)

    pub all_gone : (keys : List Cells) → AllByRecursion Q (gone_keys columns rows wanted keys)
    all_gone [] = tt
    all_gone (key ∷ keys) = gone_one key (find_row columns key rows) (find_row columns key wanted) refl refl (gone_keys columns rows wanted keys) (all_gone keys)

  -- a row that comes is wanted, and isn't there
  module _ (Q : Cells → Type 0) (holds : (key row : Cells) → find_row columns key wanted ≡ Some row → find_row columns key rows ≢ find_row columns key wanted → Q row) where
    coming_one : (key : Cells) (present found : Option Cells) → find_row columns key rows ≡ present → find_row columns key wanted ≡ found → (more : Rows) → AllByRecursion Q more
        → AllByRecursion Q (coming_here present found ++ more)
    coming_one key present None is was more all = all
    coming_one key present (Some row) is was more all = go (is_unchanged present (Some row)) refl
      where
        go : (b : Bool) → is_unchanged present (Some row) ≡ b → AllByRecursion Q (cond b [] (row ∷ []) ++ more)
        go true same = all
        go false other = (holds key row was (λ equal. absurd (cc (other, (is_unchanged-Decides present (Some row)).1 (sym is ∙ equal ∙ was)))), all)

    pub all_coming : (keys : List Cells) → AllByRecursion Q (coming_rows columns rows wanted keys)
    all_coming [] = tt
    all_coming (key ∷ keys) = coming_one key (find_row columns key rows) (find_row columns key wanted) refl refl (coming_rows columns rows wanted keys) (all_coming keys)

  -- of the keys that were asked for, one that doesn't go has no row, or the wanted one
  stays_here : (key : Cells) (present found : Option Cells) → has_key key (gone_here key present found) ≡ false → (present ≡ None) ⊎ (present ≡ found)
  stays_here key None found none = inl refl
  stays_here key (Some row) found none = go (is_unchanged (Some row) found) refl none
    where
      go : (b : Bool) → is_unchanged (Some row) found ≡ b → has_key key (cond b [] (key ∷ [])) ≡ false → (Some row ≡ None) ⊎ (Some row ≡ found)
      go true same none = inr ((is_unchanged-Decides (Some row) found).0 same)
      go false other none = absurd (cc ((neither (are_same key key) false none).0, are_same-own key))

  pub stays : (key : Cells) (keys : List Cells) → has_key key keys ≡ true → has_key key (gone_keys columns rows wanted keys) ≡ false
      → (find_row columns key rows ≡ None) ⊎ (find_row columns key rows ≡ find_row columns key wanted)
  stays key [] has none = absurd (cc has)
  stays key (k ∷ ks) has none = go (are_same key k) refl has (stays key ks)
    where
      both : (has_key key (gone_here k (find_row columns k rows) (find_row columns k wanted)) ≡ false) × (has_key key (gone_keys columns rows wanted ks) ≡ false)
      both = has_key-neither key (gone_here k (find_row columns k rows) (find_row columns k wanted)) (gone_keys columns rows wanted ks) none

      go : (b : Bool) → are_same key k ≡ b → (b || has_key key ks) ≡ true
          → (has_key key ks ≡ true → has_key key (gone_keys columns rows wanted ks) ≡ false → (find_row columns key rows ≡ None) ⊎ (find_row columns key rows ≡ find_row columns key wanted))
          → (find_row columns key rows ≡ None) ⊎ (find_row columns key rows ≡ find_row columns key wanted)
      go true same has later =
          let own : k ≡ key = sym ((are_same-Decides key k).0 same) in
          stays_here key (find_row columns key rows) (find_row columns key wanted) (rw own at both.0)
      go false other has later = later has both.1

  -- and one whose row doesn't come isn't wanted, or has the wanted row
  waits_here : (key : Cells) (present found : Option Cells) → find_row columns key wanted ≡ found → has_key key (map (key_of columns) (coming_here present found)) ≡ false → (found ≡ None) ⊎ (present ≡ found)
  waits_here key present None is none = inl refl
  waits_here key present (Some row) is none = go (is_unchanged present (Some row)) refl none
    where
      go : (b : Bool) → is_unchanged present (Some row) ≡ b → has_key key (map (key_of columns) (cond b [] (row ∷ []))) ≡ false → (Some row ≡ None) ⊎ (present ≡ Some row)
      go true same none = inr ((is_unchanged-Decides present (Some row)).0 same)
      go false other none =
          let own : key_of columns row ≡ key = key_of-found columns key row wanted is in
          absurd (cc (rw own at ((neither (are_same key (key_of columns row)) false none).0), are_same-own key))

  keys_of-append : (xs ys : Rows) → map (key_of columns) (xs ++ ys) ≡ map (key_of columns) xs ++ map (key_of columns) ys
  keys_of-append xs ys = map-append (key_of columns) xs ys

  pub waits : (key : Cells) (keys : List Cells) → has_key key keys ≡ true → has_key key (map (key_of columns) (coming_rows columns rows wanted keys)) ≡ false
      → (find_row columns key wanted ≡ None) ⊎ (find_row columns key rows ≡ find_row columns key wanted)
  waits key [] has none = absurd (cc has)
  waits key (k ∷ ks) has none = go (are_same key k) refl has (waits key ks)
    where
      both : (has_key key (map (key_of columns) (coming_here (find_row columns k rows) (find_row columns k wanted))) ≡ false) × (has_key key (map (key_of columns) (coming_rows columns rows wanted ks)) ≡ false)
      both = has_key-neither key (map (key_of columns) (coming_here (find_row columns k rows) (find_row columns k wanted))) (map (key_of columns) (coming_rows columns rows wanted ks))
          (rw (keys_of-append (coming_here (find_row columns k rows) (find_row columns k wanted)) (coming_rows columns rows wanted ks)) at none)

      go : (b : Bool) → are_same key k ≡ b → (b || has_key key ks) ≡ true
          → (has_key key ks ≡ true → has_key key (map (key_of columns) (coming_rows columns rows wanted ks)) ≡ false → (find_row columns key wanted ≡ None) ⊎ (find_row columns key rows ≡ find_row columns key wanted))
          → (find_row columns key wanted ≡ None) ⊎ (find_row columns key rows ≡ find_row columns key wanted)
      go true same has later =
          let own : k ≡ key = sym ((are_same-Decides key k).0 same) in
          waits_here key (find_row columns key rows) (find_row columns key wanted) refl (rw own at both.0)
      go false other has later = later has both.1

  -- the key of the row at a place
  pub gone_keys-place : (place : ℕ) (row : Cells) → slice_get rows place ≡ Some row
      → gone_keys columns rows wanted (map (key_of columns) (option_to_list (slice_get rows place))) ≡ gone_here (key_of columns row) (find_row columns (key_of columns row) rows) (find_row columns (key_of columns row) wanted)
  gone_keys-place place row there = rw there (append-nil (gone_here (key_of columns row) (find_row columns (key_of columns row) rows) (find_row columns (key_of columns row) wanted)))

  pub coming_rows-place : (place : ℕ) (row : Cells) → slice_get rows place ≡ Some row
      → coming_rows columns rows wanted (map (key_of columns) (option_to_list (slice_get rows place))) ≡ coming_here (find_row columns (key_of columns row) rows) (find_row columns (key_of columns row) wanted)
  coming_rows-place place row there = rw there (append-nil (coming_here (find_row columns (key_of columns row) rows) (find_row columns (key_of columns row) wanted)))

  module _ (rising : IsRising (row_cmp columns) rows) (place : ℕ) (row : Cells) (there : slice_get rows place ≡ Some row) where
    pub gone_keys-own : gone_keys columns rows wanted (map (key_of columns) (option_to_list (slice_get rows place))) ≡ gone_here (key_of columns row) (Some row) (find_row columns (key_of columns row) wanted)
    gone_keys-own = gone_keys-place place row there ∙ ap (λ present. gone_here (key_of columns row) present (find_row columns (key_of columns row) wanted)) (found_at_place columns rows place row rising there)

    pub coming_rows-own : coming_rows columns rows wanted (map (key_of columns) (option_to_list (slice_get rows place))) ≡ coming_here (Some row) (find_row columns (key_of columns row) wanted)
    coming_rows-own = coming_rows-place place row there ∙ ap (λ present. coming_here present (find_row columns (key_of columns row) wanted)) (found_at_place columns rows place row rising there)

-- ---- all keys of two tables

module _ (columns : List Column) (rows : Rows) where
  rest_absent : (key x : Cells) (more : Rows) (b : Bool) → has_key key (map (key_of columns) (cond b (x ∷ more) more)) ≡ false → has_key key (map (key_of columns) more) ≡ false
  rest_absent key x more true none = (neither (are_same key (key_of columns x)) (has_key key (map (key_of columns) more)) none).1
  rest_absent key x more false none = none

  -- a wanted row whose key isn't there is among the absent ones
  not_absent : (key : Cells) (wanted : Rows) → find_row columns key rows ≡ None → has_key key (map (key_of columns) (absent_rows columns rows wanted)) ≡ false → find_row columns key wanted ≡ None
  not_absent key [] gone none = refl
  not_absent key (x ∷ xs) gone none = go (row_beside columns key x) refl (not_absent key xs gone (rest_absent key x (absent_rows columns rows xs) (is_none (row_like columns x rows)) none))
    where
      go : (o : Ordering) → row_beside columns key x ≡ o → find_row columns key xs ≡ None → found_here o x (find_row columns key xs) ≡ None
      go Less place later = later
      go Equal place later =
          let own : key_of columns x ≡ key = exact_keys (key_of columns x) key place in
          let here = rw (own, gone) at none in
          absurd (cc ((neither (are_same key (key_of columns x)) (has_key key (map (key_of columns) (absent_rows columns rows xs))) here).0, are_same-own key, own))
      go Greater place later = refl

  -- under a key that neither has, both have no row
  pub none_else : (wanted : Rows) (key : Cells) → has_key key (all_keys columns rows wanted) ≡ false → find_row columns key rows ≡ find_row columns key wanted
  none_else wanted key none =
      let both = has_key-neither key (map (key_of columns) rows) (map (key_of columns) (absent_rows columns rows wanted)) none in
      let gone = none_has columns key rows both.0 in
      gone ∙ sym (not_absent key wanted gone both.1)

  -- the first of the wanted rows, and the others
  pub absent_rows-first : (row : Cells) (wanted : Rows) → absent_rows columns rows (row ∷ wanted) ≡ absent_rows columns rows (row ∷ []) ++ absent_rows columns rows wanted
  absent_rows-first row wanted = go (is_none (row_like columns row rows))
    where
      go : (b : Bool) → cond b (row ∷ absent_rows columns rows wanted) (absent_rows columns rows wanted) ≡ cond b (row ∷ []) [] ++ absent_rows columns rows wanted
      go true = refl
      go false = refl

  -- where a row isn't there it goes for none, and comes
  absent_one : (wanted : Rows) (row : Cells) → row_like columns row wanted ≡ Some row → (more : Rows)
      → (gone_keys columns rows wanted (map (key_of columns) more) ≡ []) × (coming_rows columns rows wanted (map (key_of columns) more) ≡ more)
      → (present : Option Cells) → row_like columns row rows ≡ present
      → (gone_keys columns rows wanted (map (key_of columns) (cond (is_none present) (row ∷ more) more)) ≡ [])
      × (coming_rows columns rows wanted (map (key_of columns) (cond (is_none present) (row ∷ more) more)) ≡ cond (is_none present) (row ∷ more) more)
  absent_one wanted row there more later None is = (rw (is, later.0) refl, rw (is, there, later.1) refl)
  absent_one wanted row there more later (Some other) is = later

  -- the absent rows are wanted, and none of them is there
  pub absent_come : (wanted some : Rows) → AllByRecursion (λ row. row_like columns row wanted ≡ Some row) some
      → (gone_keys columns rows wanted (map (key_of columns) (absent_rows columns rows some)) ≡ []) × (coming_rows columns rows wanted (map (key_of columns) (absent_rows columns rows some)) ≡ absent_rows columns rows some)
  absent_come wanted [] all = (refl, refl)
  absent_come wanted (row ∷ some) all = absent_one wanted row all.0 (absent_rows columns rows some) (absent_come wanted some all.1) (row_like columns row rows) refl

  -- so of all keys those of the rows go, and the absent rows come behind the others
  module _ (wanted : Rows) (rising : IsRising (row_cmp columns) wanted) where
    absent : (gone_keys columns rows wanted (map (key_of columns) (absent_rows columns rows wanted)) ≡ []) × (coming_rows columns rows wanted (map (key_of columns) (absent_rows columns rows wanted)) ≡ absent_rows columns rows wanted)
    absent = absent_come wanted wanted (all_from_finds columns (λ row. row_like columns row wanted ≡ Some row) wanted rising (λ row found. found))

    pub gone_keys-all : gone_keys columns rows wanted (all_keys columns rows wanted) ≡ gone_keys columns rows wanted (map (key_of columns) rows)
    gone_keys-all =
        gone_keys-append columns rows wanted (map (key_of columns) rows) (map (key_of columns) (absent_rows columns rows wanted))
        ∙ rw absent.0 (append-nil (gone_keys columns rows wanted (map (key_of columns) rows)))

    pub coming_rows-all : coming_rows columns rows wanted (all_keys columns rows wanted) ≡ coming_rows columns rows wanted (map (key_of columns) rows) ++ absent_rows columns rows wanted
    coming_rows-all =
        coming_rows-append columns rows wanted (map (key_of columns) rows) (map (key_of columns) (absent_rows columns rows wanted))
        ∙ ap (λ more. coming_rows columns rows wanted (map (key_of columns) rows) ++ more) absent.1
