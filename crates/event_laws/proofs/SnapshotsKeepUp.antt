-- That a snapshot keeps up with its master, whatever is called there and at its own site.
use Rattle.std.proofs.Common.{◌≡◌, ℕ, ◌<◌, ◌≤◌, List, length, Bool, true, false, refl, sym, ap, ◌∙◌, arith, inl, inr, subst}
use Rattle.std.specs.Prelude.{Option, is_some}
use Rattle.std.specs.List.{AllByRecursion}
use Rattle.rep_values.specs.declared.name.SiteName.{SiteName}
use Rattle.rep_schema.specs.declared.schema.Schema.{Schema}
use Rattle.rep_schema.specs.Tables.{Cells, columns_of, find_row, rows_of, AreTables}
use Rattle.rep_schema.specs.Shown.{shown_by}
use Rattle.txn_effects.specs.declared.local.Here.{Here}
use Rattle.snapshot_query.specs.declared.snapshot.Snapshot.{Snapshot}
use Rattle.snapshot_query.specs.Parents.{picks}
use Rattle.site_state.specs.State.{SiteState}
use Rattle.rep_schema.specs.Sites.{is_among}
use Rattle.site_state.specs.Contents.{tables_of}
use Rattle.change_logs.specs.Noting.{keys_changed, touched_in, log_of, purged_of}
use Rattle.site_state.specs.Steps.{begun}
use Rattle.site_state.specs.Purges.{site_purge_log}
use Rattle.site_events.specs.Rules.{pending_parents, IsParentWithin, IsParentLogged}
use Rattle.refreshes.specs.Showing.{has_key}
use Rattle.event_laws.specs.WaitingRows.{is_waiting, DoParentsRise, IsParentOld}
use Rattle.event_laws.proofs.Keys.{has_key-with_keys, told, is_some-logged, purged_of-logged, told-logged, is_some-purged, told-purged}
use Rattle.event_laws.proofs.ChangedRows.{find_row-led}
use Rattle.event_laws.proofs.Moves.{all_map, all_weaker, Quiet, Changes, Moves}
use Rattle.event_laws.proofs.Parents.{parent_logged, parent_old, up_to_date-logged, parent_logged-purged, parent_old-purged, up_to_date-purged}
use Rattle.event_laws.proofs.ParentKeys.{parents_rise-logged, parents_rise-purged}

module _ (schema : Schema) where
  -- a site's row under a key
  abbrev pub row_at : SiteState → ℕ → Cells → Option Cells
  row_at x table key = find_row (columns_of schema table) key (rows_of (tables_of x) table)

  -- what a snapshot shows of a master's row
  abbrev pub shown_at : SiteState → Snapshot → Option Cells → Option Cells
  shown_at m s found = shown_by (picks schema (tables_of m) s) found

  -- unless the log of the table or of the parents is purged above the mark, the snapshot's row under each key is what it shows
  -- of the master's row, but for keys that the log tells of above the mark, those that are touched, and those of rows with a
  -- pending parent; and where a pass was begun, the moment is above the mark
  pub record KeepsUp (names : List SiteName) (m x : SiteState) (s : Snapshot) : Type 0 where
    pub master : m.here.is_master ≡ true
    pub logged : is_some (log_of s.table m.logs) ≡ true
    pub parent_logged : IsParentLogged m.logs s.parent
    pub parents_rise : DoParentsRise m.logs s.parent
    pub below : s.mark ≤ m.moment
    pub before : is_among names m.here.site ≡ true → s.mark < m.moment
    pub within : s.table < length schema.tables
    pub parent_within : IsParentWithin schema s.parent
    pub others : (key : Cells) → purged_of s.table m.logs ≤ s.mark → IsParentOld m.logs s.mark s.parent
        → has_key key (told s.table s.mark m.logs) ≡ false → has_key key s.touched ≡ false → is_waiting s.parent (pending_parents m.logs s) (row_at m s.table key) ≡ false
        → row_at x s.table key ≡ shown_at m s (row_at m s.table key)

  abbrev pub AllKeepUp : List SiteName → SiteState → SiteState → List Snapshot → Type 0
  AllKeepUp names m x ss = AllByRecursion (KeepsUp names m x) ss

  -- ---- a call at the master

  among_same : (names : List SiteName) (m n : SiteState) → n.here ≡ m.here → is_among names n.here.site ≡ true → is_among names m.here.site ≡ true
  among_same names m n same is = ap (λ (h : Here). is_among names h.site) (sym same) ∙ is

  -- nothing that a snapshot goes by changes at its master but the moment
  same_master : (names later : List SiteName) (m n x : SiteState) (s : Snapshot) → n.here ≡ m.here → n.logs ≡ m.logs → tables_of n ≡ tables_of m → s.mark ≤ n.moment
      → (is_among later n.here.site ≡ true → s.mark < n.moment) → KeepsUp names m x s → KeepsUp later n x s
  same_master names later m n x s here logs tables below before h = record {
    master = ap (λ (k : Here). k.is_master) here ∙ h.master;
    logged = rw logs h.logged;
    parent_logged = rw logs h.parent_logged;
    parents_rise = rw logs h.parents_rise;
    below = below;
    before = before;
    within = h.within;
    parent_within = h.parent_within;
    others = rw (logs, tables) h.others;
  }

  changes_master : (names : List SiteName) (m n x : SiteState) (s : Snapshot) → Changes schema (is_among names m.here.site) m n → AreTables schema (tables_of m) → KeepsUp names m x s → KeepsUp names n x s
  changes_master names m n x s c are h = record {
    master = ap (λ (k : Here). k.is_master) c.here ∙ h.master;
    logged = rw c.logs (is_some-logged schema n.moment c.changes s.table m.logs ∙ h.logged);
    parent_logged = rw c.logs (parent_logged schema n.moment c.changes m.logs s.parent h.parent_logged);
    parents_rise = rw c.logs (parents_rise-logged schema n.moment c.changes m.logs s.parent h.parents_rise);
    below = omega (arith, h.below, c.moment);
    before = λ is. omega (arith, h.before (among_same names m n c.here is), c.moment);
    within = h.within;
    parent_within = h.parent_within;
    others = λ key le old untold untouched up_to_date.
        let less = c.above h.master s.mark h.below h.before in
        let both = told-logged schema n.moment c.changes s.table s.mark key m.logs h.logged less (rw (← c.logs) untold) in
        let same = find_row-led schema c.changes (tables_of m) (tables_of n) s.table key are c.leads both.0 in
        let was = up_to_date-logged schema n.moment c.changes (tables_of m) (tables_of n) s.query s.mark m.logs are c.leads less s.parent h.parent_logged (row_at m s.table key)
        (rw (← c.logs, ← same) up_to_date) in
        h.others key (rw (← purged_of-logged schema n.moment c.changes s.table m.logs, ← c.logs) le)
        (parent_old schema n.moment c.changes s.mark m.logs s.parent (rw (← c.logs) old)) both.1 untouched was.0
        ∙ sym was.1 ∙ ap (shown_at n s) (sym same);
  }

  pub master_moves : (names : List SiteName) (m n x : SiteState) (s : Snapshot) → Moves schema (is_among names m.here.site) m n → AreTables schema (tables_of m) → KeepsUp names m x s → KeepsUp names n x s
  master_moves names m n x s (inl q) are h = same_master names names m n x s q.here q.logs q.tables (omega (arith, h.below, q.moment)) (λ is. omega (arith, h.before (among_same names m n q.here is), q.moment)) h
  master_moves names m n x s (inr c) are h = changes_master names m n x s c are h

  -- ---- a call at the snapshots' site

  quiet_own : (names : List SiteName) (m x y : SiteState) (s : Snapshot) → Quiet x y → KeepsUp names m x s → KeepsUp names m y s
  quiet_own names m x y s q h = record {
    master = h.master;
    logged = h.logged;
    parent_logged = h.parent_logged;
    parents_rise = h.parents_rise;
    below = h.below;
    before = h.before;
    within = h.within;
    parent_within = h.parent_within;
    others = rw q.tables h.others;
  }

  changes_own : (names : List SiteName) (b : Bool) (m x y : SiteState) (s : Snapshot) (c : Changes schema b x y) → AreTables schema (tables_of x) → KeepsUp names m x s → KeepsUp names m y (touched_in schema c.changes s)
  changes_own names b m x y s c are h = record {
    master = h.master;
    logged = h.logged;
    parent_logged = h.parent_logged;
    parents_rise = h.parents_rise;
    below = h.below;
    before = h.before;
    within = h.within;
    parent_within = h.parent_within;
    others = λ key le old untold untouched up_to_date.
        let both = has_key-with_keys key (keys_changed schema s.table c.changes) s.touched untouched in
        find_row-led schema c.changes (tables_of x) (tables_of y) s.table key are c.leads both.0 ∙ h.others key le old untold both.1 up_to_date;
  }

  pub own_moves : (names : List SiteName) (b : Bool) (m x y : SiteState) → Moves schema b x y → AreTables schema (tables_of x) → AllKeepUp names m x x.snapshots → AllKeepUp names m y y.snapshots
  own_moves names b m x y (inl q) are h =
      subst (AllKeepUp names m y) (sym q.snapshots) (all_weaker (KeepsUp names m x) (KeepsUp names m y) x.snapshots (λ s. quiet_own names m x y s q) h)
  own_moves names b m x y (inr c) are h =
      subst (AllKeepUp names m y) (sym c.snapshots) (all_map (KeepsUp names m x) (KeepsUp names m y) (touched_in schema c.changes) x.snapshots (λ s. changes_own names b m x y s c are) h)

  -- ---- fewer passes are begun, or one more at the master; or a log is purged there

  pub fewer_begun : (names later : List SiteName) (m x : SiteState) (s : Snapshot) → (is_among later m.here.site ≡ true → is_among names m.here.site ≡ true) → KeepsUp names m x s → KeepsUp later m x s
  fewer_begun names later m x s fewer h = same_master names later m m x s refl refl refl h.below (λ is. h.before (fewer is)) h

  pub begin_master : (names later : List SiteName) (m x : SiteState) (s : Snapshot) → KeepsUp names m x s → KeepsUp later (begun m) x s
  begin_master names later m x s h = same_master names later m (begun m) x s refl refl refl (omega (arith, h.below)) (λ is. omega (arith, h.below)) h

  pub purge_master : (names later : List SiteName) (table : ℕ) (m x : SiteState) (s : Snapshot) → (is_among later m.here.site ≡ true → is_among names m.here.site ≡ true) → KeepsUp names m x s → KeepsUp later (site_purge_log table m) x s
  purge_master names later table m x s fewer h = record {
    master = h.master;
    logged = is_some-purged table m.moment s.table m.logs ∙ h.logged;
    parent_logged = parent_logged-purged table m.moment m.logs s.parent h.parent_logged;
    parents_rise = parents_rise-purged table m.moment m.logs s.parent h.parents_rise;
    below = h.below;
    before = λ is. h.before (fewer is);
    within = h.within;
    parent_within = h.parent_within;
    others = λ key le old untold untouched up_to_date.
        let both = told-purged table m.moment s.table s.mark key m.logs le untold in
        h.others key both.0 (parent_old-purged table m.moment s.mark m.logs s.parent old) both.1 untouched
        (up_to_date-purged table m.moment s.mark m.logs s.parent (row_at m s.table key) old up_to_date);
  }

  pub purge_own : (names : List SiteName) (table : ℕ) (m x : SiteState) (s : Snapshot) → KeepsUp names m x s → KeepsUp names m (site_purge_log table x) s
  purge_own names table m x s h = record {
    master = h.master;
    logged = h.logged;
    parent_logged = h.parent_logged;
    parents_rise = h.parents_rise;
    below = h.below;
    before = h.before;
    within = h.within;
    parent_within = h.parent_within;
    others = h.others;
  }
