-- Changes that were made one after the other, and the room that taking them back wants.
use Rattle.std.proofs.Common.{◌≡◌, ◌≢◌, ℕ, ◌≤◌, Bool, true, false, cond, List, [], ◌∷◌, ◌++◌, length, Some, None, refl, ap, arith}
use Rattle.std.specs.Prelude.{Option, is_none, ◌==◌, ◌&&◌}
use Rattle.std.specs.Bool.{Decides}
use Rattle.std.proofs.lemmas.Bool.{ne_eqb}
use Rattle.rep_schema.specs.declared.schema.Schema.{Schema}
use Rattle.rep_schema.specs.declared.change.Change.{Change}
use Rattle.rep_schema.specs.Tables.{Cells, Rows}
use Rattle.rep_schema.specs.Changes.{after_change, is_taken_from, room_for}
use Rattle.rep_schema.specs.Putting.{is_unchanged, changes_between, after_changes}
use Rattle.rep_schema.proofs.ValuesAt.{are_same-Decides}
use Rattle.rep_schema.proofs.Leading.{room_for-append}

-- the test whether a row is as before
pub is_unchanged-Decides : (before after : Option Cells) → Decides (is_unchanged before after) (before ≡ after)
is_unchanged-Decides None None = (λ yes. refl, λ same. refl)
is_unchanged-Decides None (Some row) = (λ yes. cc, λ same. cc)
is_unchanged-Decides (Some row) None = (λ yes. cc, λ same. cc)
is_unchanged-Decides (Some row) (Some other) =
    let test = are_same-Decides row other in
    (λ yes. ap Some (test.0 yes), λ same. let inner : row ≡ other = cc in test.1 inner)

-- a row that stays as it was is no change
pub changes_between-same : (table : ℕ) (row : Option Cells) → changes_between table row row ≡ []
changes_between-same table row = go (is_unchanged row row) ((is_unchanged-Decides row row).1 refl)
  where
    change : Change
    change = record { table = table; before = row; after = row }

    go : (b : Bool) → b ≡ true → cond {A = List Change} b [] (change ∷ []) ≡ []
    go true is = refl
    go false is = cc

-- the tables after changes and others behind them
pub after_changes-append : (schema : Schema) (changes others : List Change) (tables : List Rows) → after_changes schema (changes ++ others) tables ≡ after_changes schema others (after_changes schema changes tables)
after_changes-append schema [] others tables = refl
after_changes-append schema (change ∷ changes) others tables = after_changes-append schema changes others (after_change schema change tables)

-- each change wants room for one row at most
pub room_for-length : (t : ℕ) (changes : List Change) → room_for t changes ≤ length changes
room_for-length t [] = omega arith
room_for-length t (change ∷ changes) =
    let sum = room_for-append t (change ∷ []) changes in
    omega (arith, sum, one (is_taken_from t change), room_for-length t changes)
  where
    one : (b : Bool) → cond b 1 0 ≤ 1
    one true = omega arith
    one false = omega arith

-- the change of one row wants room for one row at most
pub room_for-changes_between : (t table : ℕ) (before after : Option Cells) → room_for t (changes_between table before after) ≤ 1
room_for-changes_between t table before after = go (is_unchanged before after)
  where
    taken : (b : Bool) → cond b 1 0 ≤ 1
    taken true = omega arith
    taken false = omega arith

    go : (b : Bool) → room_for t (cond b [] (record { table = table; before = before; after = after } ∷ [])) ≤ 1
    go true = omega arith
    go false = omega (arith, taken ((table == t) && is_none after))

-- and none in another table
pub room_for-changes_elsewhere : (t table : ℕ) (before after : Option Cells) → table ≢ t → room_for t (changes_between table before after) ≡ 0
room_for-changes_elsewhere t table before after other = go (is_unchanged before after)
  where
    go : (b : Bool) → room_for t (cond b [] (record { table = table; before = before; after = after } ∷ [])) ≡ 0
    go true = refl
    go false = rw (ne_eqb table t other) refl
