-- Rows of a table that are taken away one after another, the last one first.
use Rattle.std.proofs.Common.{◌≡◌, ℕ, zero, suc, ◌+◌, ◌<◌, ◌≤◌, true, false, cond, List, [], ◌∷◌, ◌++◌, length, set, take, drop, Some, refl, sym, ap, ◌∙◌, arith}
use Rattle.std.specs.Prelude.{Bool, not, slice_get}
use Rattle.std.specs.List.{remove}
use Rattle.std.proofs.lemmas.List.{take_all, drop_all, append-nil, get_or-set_same, set-set, set-get_or, length-append, length-take}
use Rattle.rep_lists.specs.Rising.{IsRising}
use Rattle.rep_lists.proofs.Places.{found_at}
use Rattle.rep_schema.specs.declared.schema.Column.{Column}
use Rattle.rep_schema.specs.Tables.{Cells, Rows, key_of, row_cmp, take_row, rows_of}
use Rattle.snapshot_query.specs.declared.query.Query.{Query}
use Rattle.snapshot_query.specs.Queries.{matches}
use Rattle.proc_state.specs.Actions.{after_drop}
use Rattle.proc_calls.specs.Raising.{left_at}
use Rattle.proc_calls.proofs.AtPlace.{take_row-place}

-- ---- one row

module _ (tests : Query) (tables : List Rows) (table i : ℕ) (row : Cells) where
  -- a row that doesn't pass the tests stays
  pub take_passed_over : matches tests row ≡ false → tables ≡ set tables table (left_at tests i row (rows_of tables table))
  take_passed_over other =
      let own : left_at tests i row (rows_of tables table) ≡ rows_of tables table = rw other refl in
      sym (ap (set tables table) own ∙ set-get_or tables table [])

  -- one that does is taken by its key
  pub take_there : (columns : List Column) (key : Cells) (new : List Rows) → slice_get (rows_of tables table) i ≡ Some row → IsRising (row_cmp columns) (rows_of tables table) → matches tests row ≡ true → key ≡ key_of columns row
      → new ≡ set tables table (take_row columns key (rows_of tables table)) → new ≡ set tables table (left_at tests i row (rows_of tables table))
  take_there columns key new there rising passes key_is taken =
      let own : left_at tests i row (rows_of tables table) ≡ remove (rows_of tables table) i = rw passes refl in
      let out : take_row columns key (rows_of tables table) ≡ remove (rows_of tables table) i = rw key_is (take_row-place columns (rows_of tables table) i row rising there) in
      taken ∙ ap (set tables table) (out ∙ sym own)

-- ---- all rows

-- the row at a place of the rows of which those from the next place on are done
front_at : (xs zs : Rows) (i : ℕ) (x : Cells) → slice_get xs i ≡ Some x → slice_get (take (suc i) xs ++ zs) i ≡ Some x
front_at [] zs i x there = absurd (cc there)
front_at (y ∷ ys) zs zero x there = there
front_at (y ∷ ys) zs (suc i) x there = front_at ys zs i x there

module _ (tests : Query) where
  dropped_suc : (rows : Rows) (i : ℕ) (row : Cells) → slice_get rows i ≡ Some row
      → left_at tests i row (take (suc i) rows ++ after_drop tests (drop (suc i) rows)) ≡ take i rows ++ after_drop tests (drop i rows)
  dropped_suc [] i row there = absurd (cc there)
  dropped_suc (x ∷ xs) zero row there = let same : row ≡ x = cc there in rw same (go (matches tests x))
    where
      go : (b : Bool) → cond b (remove (x ∷ after_drop tests xs) 0) (x ∷ after_drop tests xs) ≡ cond (not b) (x ∷ after_drop tests xs) (after_drop tests xs)
      go true = refl
      go false = refl
  dropped_suc (x ∷ xs) (suc i) row there = go (matches tests row) (dropped_suc xs i row there)
    where
      rest : Rows
      rest = take (suc i) xs ++ after_drop tests (drop (suc i) xs)

      go : (b : Bool) → cond b (remove (take (suc i) xs ++ after_drop tests (drop (suc i) xs)) i) (take (suc i) xs ++ after_drop tests (drop (suc i) xs)) ≡ take i xs ++ after_drop tests (drop i xs)
          → cond b (remove (x ∷ (take (suc i) xs ++ after_drop tests (drop (suc i) xs))) (suc i)) (x ∷ (take (suc i) xs ++ after_drop tests (drop (suc i) xs))) ≡ x ∷ (take i xs ++ after_drop tests (drop i xs))
      go true later = ap (λ (rs : Rows). x ∷ rs) later
      go false later = ap (λ (rs : Rows). x ∷ rs) later

  module _ (first now : List Rows) (table : ℕ) (below : table < length first) (n i : ℕ) (next : n ≡ i + 1) (now_is : now ≡ set first table (take n (rows_of first table) ++ after_drop tests (drop n (rows_of first table)))) (within : n ≤ length (rows_of first table)) where
    abbrev rows : Rows
    rows = rows_of first table

    now_next : now ≡ set first table (take (suc i) rows ++ after_drop tests (drop (suc i) rows))
    now_next = let is : n ≡ suc i = omega (arith, next) in now_is ∙ ap (λ (k : ℕ). set first table (take k rows ++ after_drop tests (drop k rows))) is

    rows_now : rows_of now table ≡ take (suc i) rows ++ after_drop tests (drop (suc i) rows)
    rows_now = ap (λ (ts : List Rows). rows_of ts table) now_next ∙ get_or-set_same first table (take (suc i) rows ++ after_drop tests (drop (suc i) rows)) [] below

    -- the next place has a row
    pub place_within : i < length (rows_of now table)
    place_within = rw rows_now (omega (arith, next, within, length-append (take (suc i) rows) (after_drop tests (drop (suc i) rows)), length-take (suc i) rows))

    -- it is looked at
    pub dropped_there : (new : List Rows) → ((row : Cells) → slice_get (rows_of now table) i ≡ Some row → new ≡ set now table (left_at tests i row (rows_of now table)))
        → new ≡ set first table (take i rows ++ after_drop tests (drop i rows))
    dropped_there new step =
        let here = found_at rows i (omega (arith, next, within)) in
        let there : slice_get (rows_of now table) i ≡ Some here.0 = rw rows_now (front_at rows (after_drop tests (drop (suc i) rows)) i here.0 here.1) in
        step here.0 there
        ∙ ap (set now table) (ap (left_at tests i here.0) rows_now ∙ dropped_suc rows i here.0 here.1)
        ∙ ap (λ (ts : List Rows). set ts table (take i rows ++ after_drop tests (drop i rows))) now_next
        ∙ set-set first table (take (suc i) rows ++ after_drop tests (drop (suc i) rows)) (take i rows ++ after_drop tests (drop i rows))

  -- at first all rows are left to look at
  pub dropped_none : (tables : List Rows) (table n : ℕ) → length (rows_of tables table) ≤ n → tables ≡ set tables table (take n (rows_of tables table) ++ after_drop tests (drop n (rows_of tables table)))
  dropped_none tables table n past =
      let all : take n (rows_of tables table) ++ after_drop tests (drop n (rows_of tables table)) ≡ rows_of tables table = rw (take_all n (rows_of tables table) past, drop_all n (rows_of tables table) past) (append-nil (rows_of tables table)) in
      sym (ap (set tables table) all ∙ set-get_or tables table [])
