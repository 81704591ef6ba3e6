-- Rows of a table that are raised one after another.
use Rattle.std.proofs.Common.{◌≡◌, ℕ, ◌+◌, ◌<◌, ◌≤◌, true, false, List, [], ◌∷◌, ◌++◌, length, get_or, set, map, take, drop, Some, None, Ok, Err, refl, sym, ap, ◌∙◌, arith}
use Rattle.std.specs.Prelude.{ℤ, Bool, Option, slice_get}
use Rattle.std.specs.List.{list_all}
use Rattle.std.proofs.lemmas.List.{take_all, drop_all, append-nil, get_or-set_same, set-set, set-get_or, length-append, length-map, length-take, length-drop}
use Rattle.std.proofs.lemmas.Option.{slice_get_within, slice_get-get_or, get_or_from_slice_get}
use Rattle.rep_lists.specs.Rising.{IsRising}
use Rattle.rep_lists.proofs.InPlace.{unchanged_yet, changed_more}
use Rattle.rep_lists.proofs.Places.{drop_from_found}
use Rattle.rep_values.specs.declared.value.Value.TheVariants.{Num}
use Rattle.rep_values.specs.declared.refusal.ApplyError.TheVariants.{ValueRange}
use Rattle.rep_schema.specs.declared.schema.Column.{Column}
use Rattle.rep_schema.specs.declared.schema.Kind.TheVariants as kind
use Rattle.rep_schema.specs.Tables.{Cells, Rows, key_of, row_cmp, put_row, rows_of, FitsKind, RowFits}
use Rattle.rep_schema.specs.Fitting.{is_in_range}
use Rattle.rep_schema.proofs.FittingTests.{row_test}
use Rattle.rep_schema.proofs.PartFit.{RowFits-with_values, key_of-with_values}
use Rattle.rep_schema.proofs.RowFit.{length-fits}
use Rattle.snapshot_query.specs.declared.query.Query.{Query}
use Rattle.snapshot_query.specs.Queries.{matches}
use Rattle.proc_state.specs.Actions.{sum_at, can_rise, can_rise_where, row_raised, row_raised_where, after_add}
use Rattle.proc_state.specs.Calls.{TakesAmounts}
use Rattle.proc_calls.specs.Raising.{with_rows}
use Rattle.proc_calls.proofs.AtPlace.{put_row-place}

-- ---- a test of each value in turn

module _ {X : Type 0} (test : X → Bool) (xs : List X) (i : ℕ) (so_far : list_all test xs ≡ list_all test (drop i xs)) where
  -- one more passes
  pub all_more : (x : X) → slice_get xs i ≡ Some x → test x ≡ true → list_all test xs ≡ list_all test (drop (i + 1) xs)
  all_more x there passes = so_far ∙ rw (drop_from_found xs i x there, passes) refl

  -- one doesn't
  pub all_stops : (x : X) → slice_get xs i ≡ Some x → test x ≡ false → list_all test xs ≡ false
  all_stops x there fails = so_far ∙ rw (drop_from_found xs i x there, fails) refl

  -- none is left
  pub all_end : length xs ≤ i → list_all test xs ≡ true
  all_end past = so_far ∙ rw (drop_all i xs past) refl

-- ---- one row

fits_number : (c : Column) (n : ℤ) → c.kind ≡ kind.Number → is_in_range n ≡ true → FitsKind c.kind (Num n)
fits_number c n is range = ((row_test (c ∷ []) (Num n ∷ [])).0 (rw (is, range) refl)).0

-- the column to which amounts are added is a NUMBER outside the key
taking : (found : Option Column) → TakesAmounts found → (c : Column) × (found ≡ Some c) × (c.kind ≡ kind.Number) × (c.key ≡ false)
taking None is = absurd is
taking (Some c) is = (c, refl, is.0, is.1)

module _ (columns : List Column) (column : ℕ) (takes : TakesAmounts (slice_get columns column)) (amount : ℤ) (row : Cells) where
  -- the row has such a column
  pub column_within : RowFits columns row → column < length row
  column_within fits = let t = taking (slice_get columns column) takes in omega (arith, slice_get_within columns column t.0 t.1, length-fits columns row fits)

  -- a raised row fits, where the sum is in range
  pub RowFits-raised : can_rise column amount row ≡ true → RowFits columns row → RowFits columns (row_raised column amount row)
  RowFits-raised range fits =
      let t = taking (slice_get columns column) takes in
      RowFits-with_values columns (column ∷ []) (Num (sum_at column amount row) ∷ []) row (slice_get_within columns column t.0 t.1, tt) (rw t.1 (fits_number t.0 (sum_at column amount row) t.2 range, tt)) fits

  -- and has its key
  pub key_of-raised : key_of columns (row_raised column amount row) ≡ key_of columns row
  key_of-raised =
      let t = taking (slice_get columns column) takes in
      key_of-with_values columns (column ∷ []) (Num (sum_at column amount row) ∷ []) row (rw t.1 t.3, tt)

-- the row at a place in its own place
same_row : (rows : Rows) (i : ℕ) (row : Cells) → slice_get rows i ≡ Some row → set rows i row ≡ rows
same_row rows i row there = ap (set rows i) (sym (get_or_from_slice_get rows i row row there)) ∙ set-get_or rows i row

module _ (tests : Query) (column : ℕ) (amount : ℤ) (tables : List Rows) (table i : ℕ) (row : Cells) (there : slice_get (rows_of tables table) i ≡ Some row) where
  -- a row that doesn't pass the tests stays
  pub raise_passed_over : matches tests row ≡ false → tables ≡ set tables table (set (rows_of tables table) i (row_raised_where tests column amount row))
  raise_passed_over other =
      let own : row_raised_where tests column amount row ≡ row = rw other refl in
      sym (ap (set tables table) (ap (set (rows_of tables table) i) own ∙ same_row (rows_of tables table) i row there) ∙ set-get_or tables table [])

  -- one that does is put in its own place
  pub raise_there : (columns : List Column) (new : List Rows) → TakesAmounts (slice_get columns column) → IsRising (row_cmp columns) (rows_of tables table) → matches tests row ≡ true
      → (risen : Cells) → risen ≡ row_raised column amount row → new ≡ set tables table (put_row columns risen (rows_of tables table))
      → new ≡ set tables table (set (rows_of tables table) i (row_raised_where tests column amount row))
  raise_there columns new takes rising passes risen is put =
      let own : row_raised_where tests column amount row ≡ row_raised column amount row = rw passes refl in
      let key : key_of columns risen ≡ key_of columns row = ap (key_of columns) is ∙ key_of-raised columns column takes amount row in
      put ∙ ap (set tables table) (put_row-place columns (rows_of tables table) i row risen rising there key ∙ ap (set (rows_of tables table) i) (is ∙ sym own))

-- what can be added to a row that passes the tests can be added
pub range_of : (tests : Query) (column : ℕ) (amount : ℤ) (row : Cells) → can_rise_where tests column amount row ≡ true → matches tests row ≡ true → can_rise column amount row ≡ true
range_of tests column amount row can passes = rw passes at can

-- ---- all rows

module _ (f : Cells → Cells) (first now : List Rows) (table : ℕ) (below : table < length first) (i : ℕ) (now_is : now ≡ set first table (map f (take i (rows_of first table)) ++ drop i (rows_of first table))) where
  abbrev rows : Rows
  rows = rows_of first table

  pub rows_now : rows_of now table ≡ map f (take i rows) ++ drop i rows
  rows_now = ap (λ (ts : List Rows). rows_of ts table) now_is ∙ get_or-set_same first table (map f (take i rows) ++ drop i rows) [] below

  module _ (within : i < length rows) where
    -- as many rows
    pub place_within : i < length (rows_of now table)
    place_within =
        rw rows_now
        (omega (arith, within, length-append (map f (take i rows)) (drop i rows), length-map (take i rows) f, length-take i rows, length-drop i rows))

    -- the row at the place wasn't changed yet
    pub unchanged_there : (row : Cells) → slice_get (rows_of now table) i ≡ Some row → slice_get rows i ≡ Some row
    unchanged_there row there =
        let here : get_or (map f (take i rows) ++ drop i rows) i row ≡ row = ap (λ (rs : Rows). get_or rs i row) (sym rows_now) ∙ get_or_from_slice_get (rows_of now table) i row row there in
        slice_get-get_or rows i row within ∙ ap Some (sym (unchanged_yet f rows i row within) ∙ here)

    -- it is changed
    pub changed_there : (new : List Rows) → ((row : Cells) → slice_get (rows_of now table) i ≡ Some row → new ≡ set now table (set (rows_of now table) i (f row)))
        → new ≡ set first table (map f (take (i + 1) rows) ++ drop (i + 1) rows)
    changed_there new step =
        let row : Cells = get_or (rows_of now table) i [] in
        let put : new ≡ set now table (set (rows_of now table) i (f row)) = step row (slice_get-get_or (rows_of now table) i [] place_within) in
        put
        ∙ ap (set now table) (changed_more f rows (rows_of now table) i [] (f row) within rows_now refl)
        ∙ ap (λ (ts : List Rows). set ts table (map f (take (i + 1) rows) ++ drop (i + 1) rows)) now_is
        ∙ set-set first table (map f (take i rows) ++ drop i rows) (map f (take (i + 1) rows) ++ drop (i + 1) rows)

  -- at the end all are
  pub changed_all : length rows ≤ i → now ≡ set first table (map f rows)
  changed_all past =
      let all : map f (take i rows) ++ drop i rows ≡ map f rows = rw (take_all i rows past, drop_all i rows past) (append-nil (map f rows)) in
      now_is ∙ ap (set first table) all

-- at first none is
pub changed_none : (f : Cells → Cells) (tables : List Rows) (table : ℕ) → tables ≡ set tables table (map f (take 0 (rows_of tables table)) ++ drop 0 (rows_of tables table))
changed_none f tables table = sym (set-get_or tables table [])

-- ---- what an add does

module _ (tests : Query) (column : ℕ) (amount : ℤ) (tables : List Rows) (table : ℕ) where
  pub add_fails : list_all (can_rise_where tests column amount) (rows_of tables table) ≡ false → with_rows table tables (after_add column tests amount (rows_of tables table)) ≡ Err ValueRange
  add_fails one = rw one refl

  pub add_done : list_all (can_rise_where tests column amount) (rows_of tables table) ≡ true → (new : List Rows) → new ≡ set tables table (map (row_raised_where tests column amount) (rows_of tables table))
      → with_rows table tables (after_add column tests amount (rows_of tables table)) ≡ Ok new
  add_done all new is = rw all (ap Ok (sym is))
