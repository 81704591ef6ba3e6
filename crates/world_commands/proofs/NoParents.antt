-- Where no snapshot has a parent, what is up to date is up to date by keys, and keys alone are looked up.
use Rattle.std.proofs.Common.{◌≡◌, ℕ, List, [], ◌∷◌, ◌++◌, map, None, refl, sym, ap, ap₂, ◌∙◌, subst}
use Rattle.std.specs.Prelude.{Option, filter, length, sum}
use Rattle.std.specs.List.{AllByRecursion}
use Rattle.std.proofs.lemmas.List.{append-nil}
use Rattle.rep_schema.specs.declared.schema.Schema.{Schema}
use Rattle.rep_schema.specs.Tables.{Cells, Rows, columns_of, key_of, rows_of}
use Rattle.snapshot_query.specs.declared.parent.Parent.{Parent}
use Rattle.snapshot_query.specs.declared.snapshot.Snapshot.{Snapshot}
use Rattle.snapshot_query.specs.Queries.{matches}
use Rattle.snapshot_query.specs.Parents.{picks_by}
use Rattle.site_state.specs.declared.rows.TableRows.{TableRows}
use Rattle.site_state.specs.State.{SiteState}
use Rattle.change_logs.specs.LogState.{LogState}
use Rattle.site_state.specs.Contents.{tables_of}
use Rattle.change_logs.specs.Noting.{pending_keys}
use Rattle.site_state.specs.Refreshes.{rows_shown, row_count, refresh_fast_answer}
use Rattle.refreshes.specs.Refreshing.{OthersAreShown}
use Rattle.site_events.specs.Rules.{rows_ruled, parents_above, looked_up, refresh_ruled_answer, HaveNoParents, QueriesAreRules}
use Rattle.refreshes.specs.Showing.{ShowsOthers}
use Rattle.event_laws.specs.WaitingRows.{waits_for, waiting_keys}
use Rattle.world_laws.specs.Sites.{IsShown}

-- no row waits
none_waits : (parents : List Cells) (rows : Rows) → filter (waits_for None parents) rows ≡ []
none_waits parents [] = refl
none_waits parents (row ∷ rows) = none_waits parents rows

module _ (m x : SiteState) where
  -- a snapshot has under each key that isn't pending what its query shows
  query_shown : (s : Snapshot) → s.parent ≡ None → IsShown m x s
      → ShowsOthers (columns_of x.schema s.table) (matches s.query) (pending_keys m.logs s) (rows_of (tables_of m) s.table) (rows_of (tables_of x) s.table)
  query_shown s none shows =
      let columns = columns_of x.schema s.table in
      let rows = rows_of (tables_of m) s.table in
      let pending = pending_keys m.logs s in
      let alone : pending ++ map (key_of columns) (filter (waits_for None []) rows) ≡ pending = ap (λ (more : Rows). pending ++ map (key_of columns) more) (none_waits [] rows) ∙ append-nil pending in
      subst (λ (keys : List Cells). ShowsOthers columns (matches s.query) keys rows (rows_of (tables_of x) s.table)) alone
      (subst (λ (p : Option Parent). ShowsOthers columns (picks_by x.schema (tables_of m) s.query p) (pending ++ waiting_keys columns p (parents_above m.logs s.mark p) rows) rows (rows_of (tables_of x) s.table)) none shows)

  pub queries_shown : (ss : List Snapshot) → HaveNoParents ss → AllByRecursion (IsShown m x) ss → OthersAreShown x.schema m.logs (tables_of m) ss (tables_of x)
  queries_shown [] none others = tt
  queries_shown (s ∷ ss) none others = (query_shown s none.0 others.0, queries_shown ss none.1 others.1)

-- ---- what is told

looked_up_by_keys : QueriesAreRules → (logs : List LogState) (ss : List Snapshot) → HaveNoParents ss → map (looked_up logs) ss ≡ map (λ (s : Snapshot). length (pending_keys logs s)) ss
looked_up_by_keys law logs [] none = refl
looked_up_by_keys law logs (s ∷ ss) none = ap₂ (λ n ns. n ∷ ns) (law.counted logs s none.0) (looked_up_by_keys law logs ss none.1)

-- what was counted by keys and queries is what is counted by rules
pub counted_by_keys : QueriesAreRules → (schema : Schema) (logs : List LogState) (tables : List Rows) (x : SiteState) → HaveNoParents x.snapshots
    → refresh_fast_answer logs (rows_shown tables x.snapshots) x ≡ refresh_ruled_answer logs (rows_ruled schema tables x.snapshots) x
counted_by_keys law schema logs tables x none =
    ap₂ (λ (ns : List ℕ) (rows : List TableRows). record { keys = sum ns; rows = sum (map row_count rows) })
    (sym (looked_up_by_keys law logs x.snapshots none)) (sym (law.rows schema tables x.snapshots none))
