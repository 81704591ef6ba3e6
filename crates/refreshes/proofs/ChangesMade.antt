-- The changes of rows that go and of rows that come: where they lead, what they change, and the room to take them back.
use Rattle.std.proofs.Common.{◌≡◌, ◌≢◌, ℕ, ◌+◌, ◌*◌, ◌<◌, ◌≤◌, Bool, true, false, cond, List, [], ◌∷◌, ◌++◌, length, set, Some, None, refl, sym, ap, ◌∙◌, subst, arith, length-append}
use Rattle.std.specs.Prelude.{Option, ◌&&◌, ◌==◌}
use Rattle.std.specs.List.{AllByRecursion}
use Rattle.std.proofs.lemmas.Bool.{ne_eqb}
use Rattle.std.proofs.lemmas.List.{get_or-set_same, set-get_or, set-set, length-set}
use Rattle.rep_schema.specs.declared.schema.Schema.{Schema}
use Rattle.rep_schema.specs.declared.schema.Column.{Column}
use Rattle.rep_schema.specs.declared.change.Change.{Change}
use Rattle.rep_schema.specs.Tables.{Cells, Rows, columns_of, key_of, find_row, put_row, take_row, rows_of, IsKeyed}
use Rattle.rep_schema.specs.Changes.{LeadsTo, after_change, row_like, is_taken_from, room_for}
use Rattle.rep_schema.specs.Putting.{is_unchanged}
use Rattle.rep_schema.proofs.FoundRows.{key_of-found, take_row-absent}
use Rattle.rep_schema.proofs.Leading.{IsChange-take, made-take, IsChange-put, LeadsTo-append, room_for-append}
use Rattle.change_logs.specs.Noting.{key_changed, key_between}
use Rattle.refreshes.specs.Planned.{gone_here, coming_here, gone_keys, coming_rows, rows_left, rows_with, taking, takings, puttings, CanCome}

abbrev taken : ℕ → Cells → Change
taken table row = record { table = table; before = Some row; after = None }

abbrev pub put : ℕ → List Column → Cells → Rows → Change
put table columns row rows = record { table = table; before = row_like columns row rows; after = Some row }

-- ---- where they lead

module _ (schema : Schema) (table : ℕ) (below : table < length schema.tables) (keyed : IsKeyed (columns_of schema table)) where
  abbrev columns : List Column
  columns = columns_of schema table

  -- taking rows
  lead_taken : (keys : List Cells) (rows : Rows) (tables : List Rows) → rows ≡ rows_of tables table → table < length tables
      → LeadsTo schema (takings table columns keys rows) tables (set tables table (rows_left columns keys rows))
  lead_taken [] rows tables is within = sym (ap (set tables table) is ∙ set-get_or tables table [])
  lead_taken (key ∷ keys) rows tables is within =
      go (find_row columns key rows) refl (lead_taken keys rows tables is within)
      (lead_taken keys (take_row columns key rows) next (sym (get_or-set_same tables table (take_row columns key rows) [] within)) (rw (length-set tables table (take_row columns key rows)) within))
    where
      next : List Rows
      next = set tables table (take_row columns key rows)

      go : (found : Option Cells) → find_row columns key rows ≡ found
          → LeadsTo schema (takings table columns keys rows) tables (set tables table (rows_left columns keys rows))
          → LeadsTo schema (takings table columns keys (take_row columns key rows)) next (set next table (rows_left columns keys (take_row columns key rows)))
          → LeadsTo schema (taking table found ++ takings table columns keys (take_row columns key rows)) tables (set tables table (rows_left columns keys (take_row columns key rows)))
      go None none same rest = rw (take_row-absent columns key rows none) same
      go (Some row) found same rest =
          let was : Some row ≡ find_row columns key (rows_of tables table) = sym found ∙ ap (find_row columns key) is in
          let now : after_change schema (taken table row) tables ≡ set tables table (take_row columns key rows) =
          made-take schema table tables below keyed key (Some row) was ∙ ap (λ rs. set tables table (take_row columns key rs)) (sym is) in (
            IsChange-take schema table tables below keyed key (Some row) was,
            rw now (subst (LeadsTo schema (takings table columns keys (take_row columns key rows)) next) (set-set tables table (take_row columns key rows) (rows_left columns keys (take_row columns key rows))) rest),
          )

  -- putting rows
  lead_put : (coming rows : Rows) (tables : List Rows) → rows ≡ rows_of tables table → table < length tables → CanCome schema table coming rows
      → LeadsTo schema (puttings table columns coming rows) tables (set tables table (rows_with columns coming rows))
  lead_put [] rows tables is within can = sym (ap (set tables table) is ∙ set-get_or tables table [])
  lead_put (row ∷ coming) rows tables is within can =
      let next : List Rows = set tables table (put_row columns row rows) in
      let now : after_change schema (put table columns row rows) tables ≡ next = ap (λ rs. set tables table (put_row columns row rs)) (sym is) in
      let rest = lead_put coming (put_row columns row rows) next (sym (get_or-set_same tables table (put_row columns row rows) [] within)) (rw (length-set tables table (put_row columns row rows)) within) can.2 in (
        IsChange-put schema table tables below keyed row (row_like columns row rows) can.0 (rw (← is) can.1) (ap (row_like columns row) is),
        rw now (subst (LeadsTo schema (puttings table columns coming (put_row columns row rows)) next) (set-set tables table (put_row columns row rows) (rows_with columns coming (put_row columns row rows))) rest),
      )

  -- the one after the other
  pub LeadsTo-replaced : (keys : List Cells) (coming : Rows) (tables : List Rows) → table < length tables → CanCome schema table coming (rows_left columns keys (rows_of tables table))
      → LeadsTo schema (takings table columns keys (rows_of tables table) ++ puttings table columns coming (rows_left columns keys (rows_of tables table))) tables
      (set tables table (rows_with columns coming (rows_left columns keys (rows_of tables table))))
  LeadsTo-replaced keys coming tables within can =
      let left : Rows = rows_left columns keys (rows_of tables table) in
      let middle : List Rows = set tables table left in
      let later = lead_put coming left middle (sym (get_or-set_same tables table left [] within)) (rw (length-set tables table left) within) can in
      LeadsTo-append schema (takings table columns keys (rows_of tables table)) (puttings table columns coming left) tables middle (set tables table (rows_with columns coming left))
      (lead_taken keys (rows_of tables table) tables refl within)
      (subst (LeadsTo schema (puttings table columns coming left) middle) (set-set tables table left (rows_with columns coming left)) later)

-- ---- what they change

module _ (schema : Schema) (table : ℕ) (P : Change → Type 0) where
  abbrev own_columns : List Column
  own_columns = columns_of schema table

  -- each is a change of one of the keys that go
  pub all_taken : (keys : List Cells) (rows : Rows) → AllByRecursion (λ key. (change : Change) → change.table ≡ table → key_changed schema change ≡ key → P change) keys
      → AllByRecursion P (takings table own_columns keys rows)
  all_taken [] rows all = tt
  all_taken (key ∷ keys) rows all = go (find_row own_columns key rows) refl (all_taken keys (take_row own_columns key rows) all.1)
    where
      go : (found : Option Cells) → find_row own_columns key rows ≡ found → AllByRecursion P (takings table own_columns keys (take_row own_columns key rows)) → AllByRecursion P (taking table found ++ takings table own_columns keys (take_row own_columns key rows))
      go None none later = later
      go (Some row) found later = (all.0 (taken table row) refl (key_of-found own_columns key row rows found), later)

  -- or of the key of one of the rows that come
  pub all_put : (coming rows : Rows) → AllByRecursion (λ row. (change : Change) → change.table ≡ table → key_changed schema change ≡ key_of own_columns row → P change) coming
      → AllByRecursion P (puttings table own_columns coming rows)
  all_put [] rows all = tt
  all_put (row ∷ coming) rows all = (
    all.0 (put table own_columns row rows) refl (go (row_like own_columns row rows) refl),
    all_put coming (put_row own_columns row rows) all.1,
  )
    where
      go : (before : Option Cells) → row_like own_columns row rows ≡ before → key_between schema table before (Some row) ≡ key_of own_columns row
      go None is = refl
      go (Some old) is = key_of-found own_columns (key_of own_columns row) old rows is

pub all_append : {X : Type 0} (P : X → Type 0) (xs ys : List X) → AllByRecursion P xs → AllByRecursion P ys → AllByRecursion P (xs ++ ys)
all_append P [] ys first second = second
all_append P (x ∷ xs) ys first second = (first.0, all_append P xs ys first.1 second)

-- ---- the room to take them back

module _ (table : ℕ) (columns : List Column) where
  room_for-one : (t : ℕ) (change : Change) (changes : List Change) → room_for t (change ∷ changes) ≡ cond (is_taken_from t change) 1 0 + room_for t changes
  room_for-one t change changes = omega (arith, room_for-append t (change ∷ []) changes)

  -- a row for each key that goes, at most
  room_for-takings : (t : ℕ) (keys : List Cells) (rows : Rows) → room_for t (takings table columns keys rows) ≤ length keys
  room_for-takings t [] rows = omega arith
  room_for-takings t (key ∷ keys) rows = go (find_row columns key rows) (room_for-takings t keys (take_row columns key rows))
    where
      one : (b : Bool) → cond b 1 0 ≤ 1
      one true = omega arith
      one false = omega arith

      go : (found : Option Cells) → room_for t (takings table columns keys (take_row columns key rows)) ≤ length keys
          → room_for t (taking table found ++ takings table columns keys (take_row columns key rows)) ≤ length (key ∷ keys)
      go None later = omega (arith, later)
      go (Some row) later = omega (arith, room_for-one t (taken table row) (takings table columns keys (take_row columns key rows)), one (is_taken_from t (taken table row)), later)

  -- and none in another table
  room_for-takings_elsewhere : (t : ℕ) → table ≢ t → (keys : List Cells) (rows : Rows) → room_for t (takings table columns keys rows) ≡ 0
  room_for-takings_elsewhere t other [] rows = refl
  room_for-takings_elsewhere t other (key ∷ keys) rows = go (find_row columns key rows) (room_for-takings_elsewhere t other keys (take_row columns key rows))
    where
      go : (found : Option Cells) → room_for t (takings table columns keys (take_row columns key rows)) ≡ 0 → room_for t (taking table found ++ takings table columns keys (take_row columns key rows)) ≡ 0
      go None later = later
      go (Some row) later =
          room_for-one t (taken table row) (takings table columns keys (take_row columns key rows))
          ∙ rw (ne_eqb table t other, later) refl

  -- nor for a row that comes
  room_for-puttings : (t : ℕ) (coming rows : Rows) → room_for t (puttings table columns coming rows) ≡ 0
  room_for-puttings t [] rows = refl
  room_for-puttings t (row ∷ coming) rows =
      room_for-one t (put table columns row rows) (puttings table columns coming (put_row columns row rows))
      ∙ rw (never (table == t), room_for-puttings t coming (put_row columns row rows)) refl
    where
      never : (b : Bool) → (b && false) ≡ false
      never true = refl
      never false = refl

  pub room_for-replaced : (t : ℕ) (keys : List Cells) (rows coming left : Rows) → room_for t (takings table columns keys rows ++ puttings table columns coming left) ≤ length keys
  room_for-replaced t keys rows coming left =
      omega (arith, room_for-append t (takings table columns keys rows) (puttings table columns coming left), room_for-takings t keys rows, room_for-puttings t coming left)

  pub room_for-replaced_elsewhere : (t : ℕ) → table ≢ t → (keys : List Cells) (rows coming left : Rows) → room_for t (takings table columns keys rows ++ puttings table columns coming left) ≡ 0
  room_for-replaced_elsewhere t other keys rows coming left =
      omega (arith, room_for-append t (takings table columns keys rows) (puttings table columns coming left), room_for-takings_elsewhere t other keys rows, room_for-puttings t coming left)

-- ---- their number

module _ (columns : List Column) (rows wanted : Rows) where
  gone_one : (key : Cells) (present found : Option Cells) → length (gone_here key present found) ≤ 1
  gone_one key None found = omega arith
  gone_one key (Some row) found = go (is_unchanged (Some row) found)
    where
      go : (b : Bool) → length (cond b [] (key ∷ [])) ≤ 1
      go true = omega arith
      go false = omega arith

  coming_one : (present found : Option Cells) → length (coming_here present found) ≤ 1
  coming_one present None = omega arith
  coming_one present (Some row) = go (is_unchanged present (Some row))
    where
      go : (b : Bool) → length (cond b [] (row ∷ [])) ≤ 1
      go true = omega arith
      go false = omega arith

  length-gone_keys : (keys : List Cells) → length (gone_keys columns rows wanted keys) ≤ length keys
  length-gone_keys [] = omega arith
  length-gone_keys (key ∷ keys) =
      omega (arith, length-append (gone_here key (find_row columns key rows) (find_row columns key wanted)) (gone_keys columns rows wanted keys), gone_one key (find_row columns key rows) (find_row columns key wanted), length-gone_keys keys)

  length-coming_rows : (keys : List Cells) → length (coming_rows columns rows wanted keys) ≤ length keys
  length-coming_rows [] = omega arith
  length-coming_rows (key ∷ keys) =
      omega (arith, length-append (coming_here (find_row columns key rows) (find_row columns key wanted)) (coming_rows columns rows wanted keys), coming_one (find_row columns key rows) (find_row columns key wanted), length-coming_rows keys)

  length-takings : (table : ℕ) (keys : List Cells) (some : Rows) → length (takings table columns keys some) ≤ length keys
  length-takings table [] some = omega arith
  length-takings table (key ∷ keys) some = omega (arith, length-append (taking table (find_row columns key some)) (takings table columns keys (take_row columns key some)), one (find_row columns key some), length-takings table keys (take_row columns key some))
    where
      one : (found : Option Cells) → length (taking table found) ≤ 1
      one None = omega arith
      one (Some row) = omega arith

  length-puttings : (table : ℕ) (coming some : Rows) → length (puttings table columns coming some) ≡ length coming
  length-puttings table [] some = refl
  length-puttings table (row ∷ coming) some = omega (arith, length-puttings table coming (put_row columns row some))

  -- two for each key at most: its row is taken, and another one put
  pub length-replaced : (table : ℕ) (keys : List Cells) (left : Rows)
      → length (takings table columns (gone_keys columns rows wanted keys) rows ++ puttings table columns (coming_rows columns rows wanted keys) left) ≤ 2 * length keys
  length-replaced table keys left =
      omega (
        arith,
        length-append (takings table columns (gone_keys columns rows wanted keys) rows) (puttings table columns (coming_rows columns rows wanted keys) left),
        length-takings table (gone_keys columns rows wanted keys) rows,
        length-puttings table (coming_rows columns rows wanted keys) left,
        length-gone_keys keys,
        length-coming_rows keys,
      )
