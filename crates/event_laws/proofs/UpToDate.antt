-- A key is up to date exactly where it is none of those that aren't: where it isn't pending and the master's row doesn't wait.
use Rattle.std.proofs.Common.{◌≡◌, List, [], ◌∷◌, map, Bool, true, false, cond, refl, sym, ◌∙◌}
use Rattle.std.specs.Prelude.{Option, filter}
use Rattle.std.specs.declared.cmp.Ordering.{Ordering}
use Rattle.std.specs.declared.cmp.Ordering.TheVariants.{Less, Equal, Greater}
use Rattle.std.proofs.lemmas.List.Folds.{list_any-append}
use Rattle.rep_lists.specs.Rising.{found_here}
use Rattle.rep_values.specs.OrderLaws.{exact_keys}
use Rattle.rep_schema.specs.declared.schema.Schema.{Schema}
use Rattle.rep_schema.specs.declared.schema.Column.{Column}
use Rattle.rep_schema.specs.Tables.{Cells, Rows, columns_of, key_of, row_beside, find_row, rows_of}
use Rattle.rep_schema.specs.Groups.{are_same}
use Rattle.snapshot_query.specs.declared.parent.Parent.{Parent}
use Rattle.snapshot_query.specs.declared.snapshot.Snapshot.{Snapshot}
use Rattle.change_logs.specs.LogState.{LogState}
use Rattle.change_logs.specs.Noting.{pending_keys}
use Rattle.site_events.specs.Rules.{pending_parents}
use Rattle.refreshes.specs.Showing.{has_key}
use Rattle.event_laws.specs.WaitingRows.{waits_for, is_waiting, waiting_keys, outdated_keys}
use Rattle.event_laws.proofs.Keys.{neither, same_own}

-- a row whose key isn't that of a row that waits doesn't wait
module _ (columns : List Column) (parent : Option Parent) (parents : List Cells) where
  pub not_waiting : (key : Cells) (rows : Rows) → has_key key (waiting_keys columns parent parents rows) ≡ false → is_waiting parent parents (find_row columns key rows) ≡ false
  not_waiting key [] none = refl
  not_waiting key (r ∷ rs) none = go (waits_for parent parents r) refl (row_beside columns key r) refl none (not_waiting key rs)
    where
      go : (b : Bool) → waits_for parent parents r ≡ b → (o : Ordering) → row_beside columns key r ≡ o
          → has_key key (map (key_of columns) (cond b (r ∷ filter (waits_for parent parents) rs) (filter (waits_for parent parents) rs))) ≡ false
          → (has_key key (waiting_keys columns parent parents rs) ≡ false → is_waiting parent parents (find_row columns key rs) ≡ false)
          → is_waiting parent parents (found_here o r (find_row columns key rs)) ≡ false
      go true is Less place none later = later (neither (are_same key (key_of columns r)) (has_key key (waiting_keys columns parent parents rs)) none).1
      go true is Equal place none later =
          let own : key_of columns r ≡ key = exact_keys (key_of columns r) key place in
          absurd (cc ((neither (are_same key (key_of columns r)) (has_key key (waiting_keys columns parent parents rs)) none).0, same_own key, own))
      go true is Greater place none later = refl
      go false is Less place none later = later none
      go false is Equal place none later = is
      go false is Greater place none later = refl

-- a up-to-date key is none of a snapshot's pending keys, and the master's row under it has no pending parent
pub is_up_to_date : (schema : Schema) (logs : List LogState) (tables : List Rows) (s : Snapshot) (key : Cells) → has_key key (outdated_keys schema logs tables s) ≡ false
    → (has_key key (pending_keys logs s) ≡ false) × (is_waiting s.parent (pending_parents logs s) (find_row (columns_of schema s.table) key (rows_of tables s.table)) ≡ false)
is_up_to_date schema logs tables s key none =
    let waiting = waiting_keys (columns_of schema s.table) s.parent (pending_parents logs s) (rows_of tables s.table) in
    let both = neither (has_key key (pending_keys logs s)) (has_key key waiting) (sym (list_any-append (are_same key) (pending_keys logs s) waiting) ∙ none) in
    (both.0, not_waiting (columns_of schema s.table) s.parent (pending_parents logs s) key (rows_of tables s.table) both.1)
