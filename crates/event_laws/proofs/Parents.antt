-- What becomes of a parent's row, of the log of the parents, and of the rows that wait for them.
use Rattle.std.proofs.Common.{◌≡◌, ℕ, ◌<◌, ◌≤◌, ◌==◌, List, [], ◌∷◌, map, Bool, true, false, cond, Some, None, refl, ap, ◌∙◌, arith}
use Rattle.std.specs.Prelude.{Option}
use Rattle.rep_schema.specs.declared.schema.Schema.{Schema}
use Rattle.rep_schema.specs.declared.change.Change.{Change}
use Rattle.rep_schema.specs.Tables.{Cells, Rows, AreTables}
use Rattle.rep_schema.specs.Changes.{LeadsTo}
use Rattle.rep_schema.specs.Shown.{shown_by}
use Rattle.snapshot_query.specs.declared.query.Query.{Query}
use Rattle.snapshot_query.specs.declared.parent.Parent.{Parent}
use Rattle.snapshot_query.specs.Parents.{parent_key, found_matches, picks_by}
use Rattle.change_logs.specs.LogState.{LogState, log_purged, purged_where}
use Rattle.change_logs.specs.Noting.{logged_in, log_of, purged_in, purged_of}
use Rattle.site_events.specs.Rules.{parents_above, IsParentLogged}
use Rattle.event_laws.specs.WaitingRows.{is_waiting, IsParentOld}
use Rattle.event_laws.proofs.Keys.{is_some-logged, purged_of-logged, told-logged, table-purged_where, is_some-purged, told-purged}
use Rattle.event_laws.proofs.ChangedRows.{find_row-led}

-- ---- changes that are noted

module _ (schema : Schema) (moment : ℕ) (changes : List Change) where
  pub parent_logged : (logs : List LogState) (parent : Option Parent) → IsParentLogged logs parent → IsParentLogged (map (logged_in schema moment changes) logs) parent
  parent_logged logs None there = tt
  parent_logged logs (Some p) there = is_some-logged schema moment changes p.table logs ∙ there

  pub parent_old : (mark : ℕ) (logs : List LogState) (parent : Option Parent) → IsParentOld (map (logged_in schema moment changes) logs) mark parent → IsParentOld logs mark parent
  parent_old mark logs None old = tt
  parent_old mark logs (Some p) old = rw (← purged_of-logged schema moment changes p.table logs) old

  -- a row that doesn't wait after changes didn't before, and is picked as it was
  pub up_to_date-logged : (earlier later : List Rows) (query : Query) (mark : ℕ) (logs : List LogState) → AreTables schema earlier → LeadsTo schema changes earlier later → mark < moment
      → (parent : Option Parent) → IsParentLogged logs parent → (found : Option Cells) → is_waiting parent (parents_above (map (logged_in schema moment changes) logs) mark parent) found ≡ false
      → (is_waiting parent (parents_above logs mark parent) found ≡ false) × (shown_by (picks_by schema later query parent) found ≡ shown_by (picks_by schema earlier query parent) found)
  up_to_date-logged earlier later query mark logs are leads less parent there None up_to_date = (refl, refl)
  up_to_date-logged earlier later query mark logs are leads less None there (Some row) up_to_date = (refl, refl)
  up_to_date-logged earlier later query mark logs are leads less (Some p) there (Some row) up_to_date =
      let both = told-logged schema moment changes p.table mark (parent_key p row) logs there less up_to_date in
      (both.1, ap (λ (o : Option Cells). cond (found_matches p.tests o) (Some row) None) (find_row-led schema changes earlier later p.table (parent_key p row) are leads both.0))

-- ---- a purge

module _ (at moment : ℕ) where
  -- a log isn't purged less far after a purge
  less_purged : (mark : ℕ) (log : LogState) → (purged_where at moment log).purged ≤ mark → log.purged ≤ mark
  less_purged mark log le = go (log.table == at) le
    where
      go : (b : Bool) → (cond b (log_purged moment log) log).purged ≤ mark → log.purged ≤ mark
      go true le = omega (arith, le)
      go false le = le

  purged_of-purged : (table mark : ℕ) (logs : List LogState) → purged_of table (map (purged_where at moment) logs) ≤ mark → purged_of table logs ≤ mark
  purged_of-purged table mark [] le = le
  purged_of-purged table mark (log ∷ logs) le = go (log.table == table) (purged_of-purged table mark logs) (rw (table-purged_where at moment log) at le)
    where
      go : (b : Bool) → (purged_of table (map (purged_where at moment) logs) ≤ mark → purged_of table logs ≤ mark)
          → purged_in (cond b (Some (purged_where at moment log)) (log_of table (map (purged_where at moment) logs))) ≤ mark → purged_in (cond b (Some log) (log_of table logs)) ≤ mark
      go true later le = less_purged mark log le
      go false later le = later le

  pub parent_logged-purged : (logs : List LogState) (parent : Option Parent) → IsParentLogged logs parent → IsParentLogged (map (purged_where at moment) logs) parent
  parent_logged-purged logs None there = tt
  parent_logged-purged logs (Some p) there = is_some-purged at moment p.table logs ∙ there

  -- where the log of the parents isn't purged above a mark, it wasn't before
  pub parent_old-purged : (mark : ℕ) (logs : List LogState) (parent : Option Parent) → IsParentOld (map (purged_where at moment) logs) mark parent → IsParentOld logs mark parent
  parent_old-purged mark logs None old = tt
  parent_old-purged mark logs (Some p) old = purged_of-purged p.table mark logs old

  -- and a row that doesn't wait then didn't before
  pub up_to_date-purged : (mark : ℕ) (logs : List LogState) (parent : Option Parent) (found : Option Cells) → IsParentOld (map (purged_where at moment) logs) mark parent
      → is_waiting parent (parents_above (map (purged_where at moment) logs) mark parent) found ≡ false → is_waiting parent (parents_above logs mark parent) found ≡ false
  up_to_date-purged mark logs parent None old up_to_date = refl
  up_to_date-purged mark logs None (Some row) old up_to_date = refl
  up_to_date-purged mark logs (Some p) (Some row) old up_to_date = (told-purged at moment p.table mark (parent_key p row) logs old up_to_date).1
