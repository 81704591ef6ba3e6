-- Steps of a store whose changes are kept.
use Rattle.std.proofs.Common.{◌≡◌, ◌≢◌, ℕ, ◌+◌, ◌<◌, ◌≤◌, ◌==◌, Bool, true, false, cond, List, [], ◌∷◌, ◌++◌, length, set, Some, None, refl, sym, ◌∙◌, subst, inl, inr, arith}
use Rattle.std.specs.Prelude.{Option, is_none, ◌&&◌, slice_index}
use Rattle.std.proofs.lemmas.Bool.{cases_eq, ne_eqb}
use Rattle.rep_schema.specs.declared.schema.Schema.{Schema}
use Rattle.rep_schema.specs.declared.change.Change.{Change}
use Rattle.rep_schema.specs.Tables.{Cells, Rows, columns_of, constraints_of, find_row, take_row, rows_of, RowFits, IsKeyed, IsUniqueRow}
use Rattle.rep_schema.specs.Changes.{after_change, row_like, IsChange, LeadsTo, is_taken_from, room_for}
use Rattle.rep_schema.specs.Putting.{StoreState}
use Rattle.rep_schema.proofs.Leading.{LeadsTo-append, room_for-append, IsChange-put, IsChange-take, made-take}
use Rattle.proc_calls.specs.Trails.{IsCounted, KeepsTrail}

-- ---- the room of one change

both_false : (b : Bool) → (b && false) ≡ false
both_false true = refl
both_false false = refl

-- a change that left a row wants no room
untaken : (t : ℕ) (change : Change) → is_taken_from t change ≡ false → room_for t (change ∷ []) ≡ 0
untaken t change none = rw none refl

stays : (t : ℕ) (change : Change) (row : Cells) → change.after ≡ Some row → is_taken_from t change ≡ false
stays t change row has = rw has (both_false (change.table == t))

elsewhere : (t : ℕ) (change : Change) → change.table ≢ t → is_taken_from t change ≡ false
elsewhere t change other = rw (ne_eqb change.table t other) refl

one_at_most : (b : Bool) → cond b 1 0 ≤ 1
one_at_most true = omega arith
one_at_most false = omega arith

-- and no more than it took
pub room_for-one : (t : ℕ) (change : Change) → room_for t (change ∷ []) ≤ cond (is_none change.after) 1 0
room_for-one t change = omega (arith, go (change.table == t) (is_none change.after))
  where
    go : (a b : Bool) → cond (a && b) 1 0 ≤ cond b 1 0
    go true b = omega arith
    go false b = omega arith

-- a change more is counted where it took a row
pub counted_more : (changes : List Change) (change : Change) (taken more : ℕ) → IsCounted changes taken → more ≡ taken + cond (is_none change.after) 1 0 → IsCounted (changes ++ change ∷ []) more
counted_more changes change taken more counted is = record {
  enough = λ t. omega (arith, is, counted.enough t, room_for-append t changes (change ∷ []), room_for-one t change);
}

-- nothing is counted of no change
pub counted_none : IsCounted [] 0
counted_none = record { enough = λ t. omega arith }

-- ---- steps

-- the tables stay, and no room is given up
pub keeps_still : (old new : StoreState) (changes : List Change) → new.schema ≡ old.schema → new.tables ≡ old.tables → ((t : ℕ) → slice_index old.spare t ≤ slice_index new.spare t) → KeepsTrail old new changes changes
keeps_still old new changes schema tables more = record {
  schema = schema;
  leads = λ earlier lead. subst (λ (later : List Rows). LeadsTo old.schema changes earlier later) (sym tables) lead;
  room = λ room t. omega (arith, room t, more t);
}

-- one step behind another
pub keeps_then : (a b c : StoreState) (before between after : List Change) → KeepsTrail a b before between → KeepsTrail b c between after → KeepsTrail a c before after
keeps_then a b c before between after one two = record {
  schema = two.schema ∙ one.schema;
  leads = λ earlier lead. subst (λ (s : Schema). LeadsTo s after earlier c.tables) one.schema
      (two.leads earlier (subst (λ (s : Schema). LeadsTo s between earlier b.tables) (sym one.schema) (one.leads earlier lead)));
  room = λ room. two.room (one.room room);
}

module _ (old mid new : StoreState) (changes : List Change) (table : ℕ) (below : table < length old.schema.tables) (keyed : IsKeyed (columns_of old.schema table))
    (same : mid.schema ≡ old.schema) (still : mid.tables ≡ old.tables) (kept : (t : ℕ) → slice_index old.spare t ≤ slice_index mid.spare t) (beside : room_for table changes + 1 ≤ slice_index mid.spare table)
    (schema : new.schema ≡ mid.schema) where
  -- room was taken, and then a row was put
  pub keeps_put : (row : Cells) (change : Change) → RowFits (columns_of old.schema table) row → IsUniqueRow old.schema table row (rows_of old.tables table)
      → change ≡ record { table = table; before = row_like (columns_of mid.schema table) row (rows_of mid.tables table); after = Some row } → new.tables ≡ after_change mid.schema change mid.tables
      → ((t : ℕ) → slice_index mid.spare t ≤ slice_index new.spare t + cond (t == table) 1 0) → KeepsTrail old new changes (changes ++ change ∷ [])
  keeps_put row change fits unique change_is tables room = record {
    schema = schema ∙ same;
    leads = λ earlier lead. LeadsTo-append old.schema changes (change ∷ []) earlier old.tables new.tables lead (is, sym made_is);
    room = λ had t. omega (arith, room_for-append t changes (change ∷ []), untaken t change (stays t change row after_is), enough t (had t));
  }
    where
      before_is : change ≡ record { table = table; before = row_like (columns_of old.schema table) row (rows_of old.tables table); after = Some row }
      before_is = change_is ∙ rw (same, still) refl

      after_is : change.after ≡ Some row
      after_is = rw change_is refl

      is : IsChange old.schema change old.tables
      is = rw before_is (IsChange-put old.schema table old.tables below keyed row (row_like (columns_of old.schema table) row (rows_of old.tables table)) fits unique refl)

      made_is : new.tables ≡ after_change old.schema change old.tables
      made_is = tables ∙ rw (same, still) refl

      enough : (t : ℕ) → room_for t changes ≤ slice_index old.spare t → room_for t changes ≤ slice_index new.spare t
      enough t had = elim (cases_eq t table) [
        | inl here ↦
            let room_here : room_for t changes + 1 ≤ slice_index mid.spare t = rw here beside in
            omega (arith, room_here, room t, one_at_most (t == table))
        | inr other ↦
            let none : ◌≡◌ {A = ℕ} (cond (t == table) 1 0) 0 = rw (ne_eqb t table other) refl in
            omega (arith, had, kept t, room t, none)
      ]

  -- room was taken, and then the row with a key was taken away
  pub keeps_take : (key : Cells) (change : Change) (before : Option Cells) → before ≡ find_row (columns_of mid.schema table) key (rows_of mid.tables table) → change ≡ record { table = table; before = before; after = None }
      → new.tables ≡ set mid.tables table (take_row (columns_of mid.schema table) key (rows_of mid.tables table)) → slice_index mid.spare table ≤ slice_index new.spare table
      → ((t : ℕ) → t ≢ table → slice_index new.spare t ≡ slice_index mid.spare t) → KeepsTrail old new changes (changes ++ change ∷ [])
  keeps_take key change before was change_is tables room others = record {
    schema = schema ∙ same;
    leads = λ earlier lead. LeadsTo-append old.schema changes (change ∷ []) earlier old.tables new.tables lead (is, sym made_is);
    room = λ had t. enough t (had t);
  }
    where
      was_old : before ≡ find_row (columns_of old.schema table) key (rows_of old.tables table)
      was_old = was ∙ rw (same, still) refl

      is : IsChange old.schema change old.tables
      is = rw change_is (IsChange-take old.schema table old.tables below keyed key before was_old)

      made_is : new.tables ≡ after_change old.schema change old.tables
      made_is = tables ∙ rw (same, still, change_is) (sym (made-take old.schema table old.tables below keyed key before was_old))

      enough : (t : ℕ) → room_for t changes ≤ slice_index old.spare t → room_for t (changes ++ change ∷ []) ≤ slice_index new.spare t
      enough t had = elim (cases_eq t table) [
        | inl here ↦
            let room_here : room_for t changes + 1 ≤ slice_index mid.spare t = rw here beside in
            let kept_here : slice_index mid.spare t ≤ slice_index new.spare t = rw here room in
            omega (arith, room_here, kept_here, room_for-append t changes (change ∷ []), room_for-one t change, one_at_most (is_none change.after))
        | inr other ↦
            let table_is : change.table ≡ table = rw change_is refl in
            let none : room_for t (change ∷ []) ≡ 0 = untaken t change (elsewhere t change (λ here. other (sym here ∙ table_is))) in
            omega (arith, had, kept t, others t other, room_for-append t changes (change ∷ []), none)
      ]

-- a table without secondary constraints bars no row
pub unconstrained_row : (schema : Schema) (table : ℕ) (row : Cells) (rows : Rows) → constraints_of schema table ≡ [] → IsUniqueRow schema table row rows
unconstrained_row schema table row rows none = record { unheld = λ c below held. nothing c (rw none at below) }
  where
    nothing : (c : ℕ) → c < 0 → ⊥
    nothing c below = omega (arith, below)
