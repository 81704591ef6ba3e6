-- One refresh more, of a table that wasn't changed yet.
use Rattle.std.proofs.Common.{◌≡◌, ◌≢◌, ℕ, List, [], ◌∷◌, ◌++◌, Ok, Err, refl, sym, ap, ◌∙◌, inl, inr, arith}
use Rattle.std.specs.List.{AllByRecursion}
use Rattle.std.proofs.lemmas.Bool.{cases_eq, ne_eqb}
use Rattle.std.proofs.lemmas.List.{get_or-set_other}
use Rattle.rep_lists.proofs.Each.{each_then}
use Rattle.rep_schema.specs.declared.change.Change.{Change}
use Rattle.rep_schema.specs.declared.change.Changes.{Changes}
use Rattle.rep_schema.specs.Tables.{Rows, rows_of}
use Rattle.rep_schema.specs.Changes.{room_for}
use Rattle.rep_schema.specs.Putting.{StoreState}
use Rattle.rep_schema.proofs.Leading.{LeadsTo-append, room_for-append}
use Rattle.refreshes.specs.Refreshed.{ChangesARow, RefreshesTo}
use Rattle.refreshes.specs.Done.{all_changes, HaveDone}
use Rattle.refreshes.proofs.ManyChanges.{all_changes-push}

-- changes of a table want no room in another one
room_elsewhere : (table t : ℕ) (changes : List Change) → AllByRecursion (λ (c : Change). c.table ≡ table) changes → t ≢ table → room_for t changes ≡ 0
room_elsewhere table t [] are other = refl
room_elsewhere table t (change ∷ changes) are other =
    let first : room_for t (change ∷ []) ≡ 0 = rw (are.0, ne_eqb table t (λ same. other (sym same))) refl in
    omega (arith, room_for-append t (change ∷ []) changes, first, room_elsewhere table t changes are.1 other)

module _ {E : Type 0} (table : ℕ) (rows : Rows) (old new : StoreState) where
  -- without memory no more is done than before
  pub HaveDone-err : (done : List Changes) (earlier : List Rows) (error : E) → RefreshesTo {E = E} table rows old new (Err error) → HaveDone done earlier old → HaveDone done earlier new
  HaveDone-err done earlier error refreshes have = record {
    lead = rw (refreshes.schema, refreshes.same) have.lead;
    room = λ t. elim (cases_eq t table) [
      | inl here ↦ omega (arith, have.room t, rw (← here) at refreshes.kept)
      | inr other ↦ rw (refreshes.others t other) (have.room t)
    ];
  }

  module _ (changes : Changes) (refreshes : RefreshesTo {E = E} table rows old new (Ok changes)) where
    -- other tables have their rows
    pub rows_elsewhere : (t : ℕ) → t ≢ table → rows_of new.tables t ≡ rows_of old.tables t
    rows_elsewhere t other = ap (λ tables. rows_of tables t) refreshes.tables ∙ get_or-set_other old.tables table t rows [] other

    -- so all changes are of this one
    in_table : AllByRecursion (λ (c : Change). c.table ≡ table) changes.rows
    in_table = each_then (ChangesARow old.schema old.tables new.tables) (λ (c : Change). c.table ≡ table)
        (λ c differ. elim (cases_eq c.table table) [
          | inl here ↦ here
          | inr other ↦ absurd (differ (rw (rows_elsewhere c.table other) refl))
        ]) changes.rows refreshes.differ

    -- the changes of this refresh are there too
    pub HaveDone-ok : (done : List Changes) (earlier : List Rows) → room_for table (all_changes done) ≡ 0 → HaveDone done earlier old → HaveDone (done ++ changes ∷ []) earlier new
    HaveDone-ok done earlier none have = record {
      lead = rw (all_changes-push, refreshes.schema) (LeadsTo-append old.schema (all_changes done) changes.rows earlier old.tables new.tables have.lead refreshes.leads);
      room = λ t. rw (all_changes-push, room_for-append t (all_changes done) changes.rows) (elim (cases_eq t table) [
        | inl here ↦ rw here (omega (arith, none, refreshes.room table))
        | inr other ↦ rw (refreshes.others t other) (omega (arith, room_elsewhere table t changes.rows in_table other, have.room t))
      ]);
    }

    -- a table that wasn't changed yet still isn't, if it is another one
    pub unchanged_still : (done : List Changes) (t : ℕ) → t ≢ table → room_for t (all_changes done) ≡ 0 → room_for t (all_changes (done ++ changes ∷ [])) ≡ 0
    unchanged_still done t other none = rw (all_changes-push, room_for-append t (all_changes done) changes.rows) (omega (arith, none, room_elsewhere table t changes.rows in_table other))
