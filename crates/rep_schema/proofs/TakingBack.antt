-- Taking changes back: what was made is unmade, and each step is one that a store allows.
use Rattle.std.proofs.Common.{◌≡◌, ℕ, ◌+◌, ◌<◌, ◌≤◌, ◌⊎◌, List, [], ◌∷◌, ◌++◌, length, Option, Some, None, IsSome, OnSome, refl, sym, ap, ◌∙◌, subst, inl, inr, arith}
use Rattle.std.specs.Prelude.{IfSome}
use Rattle.std.proofs.lemmas.List.{get_or-set_same, set-get_or, set-set}
use Rattle.std.proofs.lemmas.Bool.{eq-eqb}
use Rattle.rep_lists.proofs.Rising.{put_take, take_put, put_put}
use Rattle.rep_values.specs.Order.{key_cmp}
use Rattle.rep_values.specs.OrderLaws.{key_cmp_total}
use Rattle.std.specs.declared.cmp.Ordering.TheVariants.{Less, Equal, Greater}
use Rattle.std.specs.Ordering.{ordering_reverse}
use Rattle.rep_schema.specs.declared.schema.Schema.{Schema}
use Rattle.rep_schema.specs.declared.schema.Column.{Column}
use Rattle.rep_schema.specs.declared.change.Change.{Change}
use Rattle.rep_schema.specs.Tables.{Cells, Rows, columns_of, key_of, row_beside, row_cmp, find_row, rows_of, RowFits, IsUniqueRow, IsTable, AreTables}
use Rattle.rep_schema.specs.Changes.{after_change_in, after_change, before_change, IsChange, LeadsTo, HaveLed, room_for}
use Rattle.rep_schema.proofs.SameValues.{row_beside-own}
use Rattle.rep_schema.proofs.TableSteps.{IsTable-put, IsTable-take, IsUniqueRow-take, IsUniqueRow-put_same, AreTables-set}
use Rattle.rep_schema.proofs.FoundRows.{found_row, key_of-found, find_row-put_own}

module _ (schema : Schema) (table : ℕ) (rows : Rows) (is : IsTable schema table rows) where
  abbrev columns : List Column
  columns = columns_of schema table

  -- behind the row of a key stand greater keys
  greater : (key x y : Cells) → row_beside columns key x ≡ Equal → row_cmp columns x y ≡ Less → row_beside columns key y ≡ Greater
  greater key x y here less =
      let below : key_cmp key (key_of columns y) ≡ Less = sym (key_cmp_total.congr (key_of columns x) key (key_of columns y) here) ∙ less in
      key_cmp_total.antisymm (key_of columns y) key ∙ ap ordering_reverse below

  -- what one change does to a table, and which rows it may do that to
  abbrev Before : Option Cells → Type 0
  Before before = IfSome before (λ row. find_row columns (key_of columns row) rows ≡ Some row)

  abbrev After : Option Cells → Option Cells → Type 0
  After before after = IfSome after (λ row. find_row columns (key_of columns row) rows ≡ before)

  -- the row before is found under its key
  found_before : (old : Cells) (after : Option Cells) → Before (Some old) → find_row columns (key_of columns old) rows ≡ Some old
  found_before old after before_is = before_is

  -- what was made in a table is unmade
  pub unmade_in : (before after : Option Cells) → Before before → After before after → after_change_in columns after before (after_change_in columns before after rows) ≡ rows
  unmade_in None None before_is after_is = refl
  unmade_in None (Some row) before_is after_is = take_put (row_beside columns (key_of columns row)) row rows (row_beside-own columns (key_of columns row) row refl) after_is
  unmade_in (Some old) None before_is after_is = put_take (row_beside columns (key_of columns old)) (row_cmp columns) (greater (key_of columns old)) old rows is.rising before_is
  unmade_in (Some old) (Some row) before_is after_is =
      let same : key_of columns row ≡ key_of columns old = sym (key_of-found columns (key_of columns row) old rows after_is) in
      rw same (put_put (row_beside columns (key_of columns old)) old row rows (row_beside-own columns (key_of columns old) row same) before_is)

  -- the row before fits
  pub fits_before : (old : Cells) → Before (Some old) → RowFits columns old
  fits_before old before_is = found_row columns (key_of columns old) old rows before_is (RowFits columns) is.fit

  -- and is unique among the rows after the change
  pub unique_before : (old : Cells) (after : Option Cells) → Before (Some old) → After (Some old) after → IsUniqueRow schema table old (after_change_in columns (Some old) after rows)
  unique_before old None before_is after_is =
      IsUniqueRow-take schema table (key_of columns old) old rows (found_row columns (key_of columns old) old rows before_is (λ x. IsUniqueRow schema table x rows) is.apart)
  unique_before old (Some row) before_is after_is =
      let same : key_of columns row ≡ key_of columns old = sym (key_of-found columns (key_of columns row) old rows after_is) in
      IsUniqueRow-put_same schema table old row rows same (found_row columns (key_of columns old) old rows before_is (λ x. IsUniqueRow schema table x rows) is.apart)

  -- where a row took its place, that one is found under its key
  pub replaced_by : (old row : Cells) → After (Some old) (Some row) → find_row columns (key_of columns old) (after_change_in columns (Some old) (Some row) rows) ≡ Some row
  replaced_by old row after_is =
      let same : key_of columns old ≡ key_of columns row = key_of-found columns (key_of columns row) old rows after_is in
      rw same (find_row-put_own columns row rows)

  -- a table with a change made is a table
  pub IsTable-made : (before after : Option Cells) → IfSome after (RowFits columns) → IfSome after (λ row. IsUniqueRow schema table row rows) → IsTable schema table (after_change_in columns before after rows)
  IsTable-made None None fits unique = is
  IsTable-made (Some old) None fits unique = IsTable-take schema table (key_of columns old) rows is
  IsTable-made None (Some row) fits unique = IsTable-put schema table row rows fits unique is
  IsTable-made (Some old) (Some row) fits unique = IsTable-put schema table row rows fits unique is

module _ (schema : Schema) (change : Change) (earlier : List Rows) (are : AreTables schema earlier) (is : IsChange schema change earlier) where
  in_range : change.table < length earlier
  in_range = omega (arith, is.table, are.number)

  is_table : IsTable schema change.table (rows_of earlier change.table)
  is_table = are.each change.table is.table

  -- the changed table after the change
  pub rows_of-made : rows_of (after_change schema change earlier) change.table ≡ after_change_in (columns_of schema change.table) change.before change.after (rows_of earlier change.table)
  rows_of-made = get_or-set_same earlier change.table _ [] in_range

  -- tables with a change made are tables
  pub AreTables-made : AreTables schema (after_change schema change earlier)
  AreTables-made = AreTables-set schema earlier change.table _ are (IsTable-made schema change.table (rows_of earlier change.table) is_table change.before change.after is.fits is.unique)

  -- what was made is unmade
  pub unmade-made : before_change schema change (after_change schema change earlier) ≡ earlier
  unmade-made =
      rw (rows_of-made, unmade_in schema change.table (rows_of earlier change.table) is_table change.before change.after is.before is.after)
      (set-set earlier change.table _ _ ∙ set-get_or earlier change.table [])

-- taking changes back, the last one first
abbrev pub before_changes : Schema → List Change → List Rows → List Rows
before_changes schema [] tables = tables
before_changes schema (change ∷ changes) tables = before_change schema change (before_changes schema changes tables)

-- the last of several changes
lead-last : (schema : Schema) (changes : List Change) (change : Change) (earlier later : List Rows) → AreTables schema earlier → LeadsTo schema (changes ++ change ∷ []) earlier later
    → (middle : List Rows) × AreTables schema middle × LeadsTo schema changes earlier middle × IsChange schema change middle × (after_change schema change middle ≡ later)
lead-last schema [] change earlier later are lead = (earlier, are, refl, lead.0, lead.1)
lead-last schema (first ∷ changes) change earlier later are lead =
    let rest = lead-last schema changes change (after_change schema first earlier) later (AreTables-made schema first earlier are lead.0) lead.1 in
    (rest.0, rest.1, (lead.0, rest.2), rest.3, rest.4)

module _ (schema : Schema) (changes : List Change) (change : Change) (tables : List Rows) (led : HaveLed schema (changes ++ change ∷ []) tables) where
  -- the last of several changes has led to these tables
  pub HaveLed-last : HaveLed schema (change ∷ []) tables
  HaveLed-last =
      let last = lead-last schema changes change led.earlier tables led.are led.lead in
      record { earlier = last.0; are = last.1; lead = (last.3, last.4) }

  -- and the others to the tables with it taken back
  pub HaveLed-others : HaveLed schema changes (before_change schema change tables)
  HaveLed-others =
      let last = lead-last schema changes change led.earlier tables led.are led.lead in
      let back : before_change schema change tables ≡ last.0 = ap (before_change schema change) (sym last.4) ∙ unmade-made schema change last.0 last.1 last.3 in
      record { earlier = led.earlier; are = led.are; lead = rw back last.2 }

pub before_changes-last : (schema : Schema) (changes : List Change) (change : Change) (tables : List Rows) → before_changes schema (changes ++ change ∷ []) tables ≡ before_changes schema changes (before_change schema change tables)
before_changes-last schema [] change tables = refl
before_changes-last schema (first ∷ changes) change tables = ap (before_change schema first) (before_changes-last schema changes change tables)

-- taking all changes back gives the earlier tables
pub before_changes-led : (schema : Schema) (changes : List Change) (earlier later : List Rows) → AreTables schema earlier → LeadsTo schema changes earlier later → before_changes schema changes later ≡ earlier
before_changes-led schema [] earlier later are lead = sym lead
before_changes-led schema (change ∷ changes) earlier later are lead =
    ap (before_change schema change) (before_changes-led schema changes (after_change schema change earlier) later (AreTables-made schema change earlier are lead.0) lead.1)
    ∙ unmade-made schema change earlier are lead.0

module _ (schema : Schema) (change : Change) (tables : List Rows) (led : HaveLed schema (change ∷ []) tables) where
  abbrev columns_here : List Column
  columns_here = columns_of schema change.table

  abbrev rows_then : Rows
  rows_then = rows_of led.earlier change.table

  table_then : IsTable schema change.table rows_then
  table_then = led.are.each change.table led.lead.0.table

  -- the changed table now
  rows_now : rows_of tables change.table ≡ after_change_in columns_here change.before change.after rows_then
  rows_now = ap (λ ts. rows_of ts change.table) (sym led.lead.1) ∙ rows_of-made schema change led.earlier led.are led.lead.0

  before_then : (old : Cells) → change.before ≡ Some old → find_row columns_here (key_of columns_here old) rows_then ≡ Some old
  before_then old had = subst (λ before. IfSome before (λ row. find_row columns_here (key_of columns_here row) rows_then ≡ Some row)) had led.lead.0.before

  -- the row to be put back fits
  pub put_back_fits : (old : Cells) → change.before ≡ Some old → RowFits columns_here old
  put_back_fits old had = fits_before schema change.table rows_then table_then old (before_then old had)

  -- it is unique
  pub put_back_unique : (old : Cells) → change.before ≡ Some old → IsUniqueRow schema change.table old (rows_of tables change.table)
  put_back_unique old had =
      let after_is = subst (λ before. IfSome change.after (λ row. find_row columns_here (key_of columns_here row) rows_then ≡ before)) had led.lead.0.after in
      rw (rows_now, had) (unique_before schema change.table rows_then table_then old change.after (before_then old had) after_is)

  -- where another row took its place, that one is found under its key
  found_now : (old row : Cells) → change.before ≡ Some old → change.after ≡ Some row → find_row columns_here (key_of columns_here old) (rows_of tables change.table) ≡ Some row
  found_now old row had has =
      let after_is = subst (λ after. IfSome after (λ row. find_row columns_here (key_of columns_here row) rows_then ≡ change.before)) has led.lead.0.after in
      rw (rows_now, had, has) (replaced_by schema change.table rows_then table_then old row (rw had at after_is))

  taken_here : change.after ≡ None → room_for change.table (change ∷ []) ≡ 1
  taken_here gone = rw (eq-eqb change.table change.table refl, gone)

  -- there is room for it
  pub put_back_room : (old : Cells) → change.before ≡ Some old → (n : ℕ) → room_for change.table (change ∷ []) ≤ n
      → IsSome (find_row columns_here (key_of columns_here old) (rows_of tables change.table)) ⊎ (1 ≤ n)
  put_back_room old had n room = go change.after refl
    where
      go : (after : Option Cells) → change.after ≡ after → IsSome (find_row columns_here (key_of columns_here old) (rows_of tables change.table)) ⊎ (1 ≤ n)
      go None gone = inr (omega (arith, taken_here gone))
      go (Some row) has = inl (rw (found_now old row had has) refl)

  -- and it takes at most as much room as was asked for
  pub put_back_takes : (old : Cells) → change.before ≡ Some old → (n m : ℕ) (replaced : Option Cells)
      → replaced ≡ find_row columns_here (key_of columns_here old) (rows_of tables change.table) → n ≤ m + 1 → OnSome replaced (n ≤ m)
      → n ≤ m + room_for change.table (change ∷ [])
  put_back_takes old had n m replaced is_found added kept = go change.after refl
    where
      go : (after : Option Cells) → change.after ≡ after → n ≤ m + room_for change.table (change ∷ [])
      go None gone = omega (arith, taken_here gone)
      go (Some row) has =
          let some : replaced ≡ Some row = is_found ∙ found_now old row had has in
          let less : n ≤ m = rw some at kept in
          omega arith

  -- the row to be taken away fits
  pub taken_fits : (row : Cells) → change.after ≡ Some row → RowFits columns_here row
  taken_fits row has = subst (λ after. IfSome after (λ row. RowFits columns_here row)) has led.lead.0.fits
