-- What is left to be refreshed, and what remains true of it.
use Rattle.std.proofs.Common.{◌≡◌, ◌≢◌, ℕ, ◌+◌, List, [], ◌∷◌, ◌++◌, length, map, Ok, refl}
use Rattle.std.specs.Prelude.{sum}
use Rattle.std.specs.List.{AllByRecursion}
use Rattle.std.proofs.lemmas.List.Sums.{sum_by-cons}
use Rattle.rep_schema.specs.declared.schema.Schema.{Schema}
use Rattle.rep_schema.specs.declared.change.Changes.{Changes}
use Rattle.rep_schema.specs.Tables.{Rows, columns_of, rows_of}
use Rattle.rep_schema.specs.Changes.{room_for}
use Rattle.rep_schema.specs.Putting.{StoreState}
use Rattle.snapshot_query.specs.declared.snapshot.Snapshot.{Snapshot}
use Rattle.snapshot_query.specs.Queries.{matches}
use Rattle.site_state.specs.declared.rows.TableRows.{TableRows}
use Rattle.change_logs.specs.LogState.{LogState}
use Rattle.change_logs.specs.Noting.{pending_keys}
use Rattle.site_state.specs.Refreshes.{row_count}
use Rattle.site_state.specs.Fits.{SnapshotsApart}
use Rattle.refreshes.specs.Showing.{ShowsOthers}
use Rattle.refreshes.specs.Refreshed.{RefreshesTo}
use Rattle.refreshes.specs.Refreshing.{OthersAreShown, AreGivenOnce, pending_count}
use Rattle.refreshes.specs.Done.{all_changes}
use Rattle.refreshes.proofs.OneMore.{rows_elsewhere, unchanged_still}

-- what follows of each value from two things that hold of it
each_both : {X : Type 0} (P Q S : X → Type 0) → ((x : X) → P x → Q x → S x) → (xs : List X) → AllByRecursion P xs → AllByRecursion Q xs → AllByRecursion S xs
each_both P Q S follows [] ps qs = tt
each_both P Q S follows (x ∷ xs) ps qs = (follows x ps.0 qs.0, each_both P Q S follows xs ps.1 qs.1)

-- of a table without changes there is nothing to take back
abbrev pub IsUnchanged : List Changes → ℕ → Type 0
IsUnchanged done table = room_for table (all_changes done) ≡ 0

-- the snapshots that are left are apart, their tables weren't changed, and show what they have to
pub record SnapshotsLeft (schema : Schema) (logs : List LogState) (master : List Rows) (done : List Changes) (tables : List Rows) (left : List Snapshot) : Type 0 where
  pub apart : SnapshotsApart left
  pub unchanged : AllByRecursion (λ (s : Snapshot). IsUnchanged done s.table) left
  pub others : OthersAreShown schema logs master left tables

-- at first nothing was changed
pub none_changed : {X : Type 0} (table_of : X → ℕ) (xs : List X) → AllByRecursion (λ x. IsUnchanged [] (table_of x)) xs
none_changed table_of [] = tt
none_changed table_of (x ∷ xs) = (refl, none_changed table_of xs)

module _ {E : Type 0} (table : ℕ) (rows : Rows) (old new : StoreState) (changes : Changes) (refreshes : RefreshesTo {E = E} table rows old new (Ok changes)) where
  -- after one refresh the tables that are left are still unchanged
  pub unchanged_left : {X : Type 0} (table_of : X → ℕ) (done : List Changes) (left : List X) → AllByRecursion (λ x. table_of x ≢ table) left
      → AllByRecursion (λ x. IsUnchanged done (table_of x)) left → AllByRecursion (λ x. IsUnchanged (done ++ changes ∷ []) (table_of x)) left
  unchanged_left table_of done left apart unchanged =
      each_both (λ x. table_of x ≢ table) (λ x. IsUnchanged done (table_of x)) (λ x. IsUnchanged (done ++ changes ∷ []) (table_of x))
      (λ x other none. unchanged_still table rows old new changes refreshes done (table_of x) other none) left apart unchanged

  -- and show what they have to
  pub shown_left : (schema : Schema) (logs : List LogState) (master : List Rows) (left : List Snapshot) → AllByRecursion (λ (s : Snapshot). s.table ≢ table) left
      → OthersAreShown schema logs master left old.tables → OthersAreShown schema logs master left new.tables
  shown_left schema logs master left apart others =
      each_both (λ (s : Snapshot). s.table ≢ table)
      (λ (s : Snapshot). ShowsOthers (columns_of schema s.table) (matches s.query) (pending_keys logs s) (rows_of master s.table) (rows_of old.tables s.table))
      (λ (s : Snapshot). ShowsOthers (columns_of schema s.table) (matches s.query) (pending_keys logs s) (rows_of master s.table) (rows_of new.tables s.table))
      (λ s other shows. rw (rows_elsewhere table rows old new changes refreshes s.table other) shows) left apart others

-- after the first of them is refreshed, the others are left
pub SnapshotsLeft-next : {E : Type 0} (schema : Schema) (logs : List LogState) (master : List Rows) (s : Snapshot) (rows : Rows) (old new : StoreState) (changes : Changes) (done : List Changes) (left : List Snapshot)
    → RefreshesTo {E = E} s.table rows old new (Ok changes) → SnapshotsLeft schema logs master done old.tables (s ∷ left) → SnapshotsLeft schema logs master (done ++ changes ∷ []) new.tables left
SnapshotsLeft-next schema logs master s rows old new changes done left refreshes all = record {
  apart = all.apart.1;
  unchanged = unchanged_left s.table rows old new changes refreshes (λ (t : Snapshot). t.table) done left all.apart.0 all.unchanged.1;
  others = shown_left s.table rows old new changes refreshes schema logs master left all.apart.0 all.others.1;
}

-- the rows that are left are given once, and their tables weren't changed
pub record RowsLeft (done : List Changes) (left : List TableRows) : Type 0 where
  pub once : AreGivenOnce left
  pub unchanged : AllByRecursion (λ (t : TableRows). IsUnchanged done t.table) left

pub RowsLeft-next : {E : Type 0} (t : TableRows) (old new : StoreState) (changes : Changes) (done : List Changes) (left : List TableRows)
    → RefreshesTo {E = E} t.table t.rows old new (Ok changes) → RowsLeft done (t ∷ left) → RowsLeft (done ++ changes ∷ []) left
RowsLeft-next t old new changes done left refreshes all = record {
  once = all.once.1;
  unchanged = unchanged_left t.table t.rows old new changes refreshes (λ (u : TableRows). u.table) done left all.once.0 all.unchanged.1;
}

-- the pending keys of a snapshot and of those behind it
pub pending_count-cons : (logs : List LogState) (s : Snapshot) (left : List Snapshot) → pending_count logs (s ∷ left) ≡ length (pending_keys logs s) + pending_count logs left
pending_count-cons logs s left = sum_by-cons (λ n. n) (length (pending_keys logs s)) (map (λ (t : Snapshot). length (pending_keys logs t)) left)

-- the rows of a table and of those behind it
pub row_count-cons : (t : TableRows) (left : List TableRows) → sum (map row_count (t ∷ left)) ≡ length t.rows + sum (map row_count left)
row_count-cons t left = sum_by-cons (λ n. n) (length t.rows) (map row_count left)
