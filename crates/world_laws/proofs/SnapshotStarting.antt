-- The world that Setup's end makes of what is well declared is where the laws of snapshots and of logs begin.
use Rattle.std.proofs.Common.{◌≡◌, ℕ, ◌<◌, List, [], ◌∷◌, length, map, replicate, Bool, true, false, cond, Some, None, refl, sym, ap, ◌∙◌, arith, subst}
use Rattle.std.specs.Prelude.{filter, not, is_some, Option}
use Rattle.std.specs.List.{AllByRecursion}
use Rattle.std.specs.Option.{option_and_then}
use Rattle.std.proofs.lemmas.List.{length-replicate}
use Rattle.rep_values.specs.declared.name.SiteName.{SiteName}
use Rattle.rep_schema.specs.declared.schema.SiteEntry.{SiteEntry}
use Rattle.rep_schema.specs.Shape.{HasShape}
use Rattle.rep_schema.specs.Tables.{Rows, rows_of}
use Rattle.rep_schema.specs.Named.{site_named}
use Rattle.snapshot_query.specs.declared.snapshot.Snapshot.{Snapshot}
use Rattle.snapshot_query.specs.Parents.{rule_rows}
use Rattle.site_state.specs.State.{SiteState}
use Rattle.change_logs.specs.Noting.{log_of}
use Rattle.change_logs.specs.LogState.{new_log, tables_in}
use Rattle.rep_schema.specs.Sites.{is_late_master}
use Rattle.site_state.specs.Fits.{SnapshotsApart}
use Rattle.site_events.specs.Rules.{IsParentWithin}
use Rattle.site_events.specs.Events.{master_of, found_site}
use Rattle.event_laws.specs.Fitting.{IsFitStart}
use Rattle.event_laws.specs.SnapshotStarts.{StartsShown, StartsFrom, StartsWithSnapshots, IsNewLog}
use Rattle.event_laws.proofs.Moves.{all_weaker}
use Rattle.event_laws.proofs.Refreshing.{rows_are_ruled}
use Rattle.world_state.specs.declared.declared_snapshot.DeclaredSnapshot.{DeclaredSnapshot}
use Rattle.world_state.specs.World.{WorldState}
use Rattle.world_state.specs.Making.{rows_made, logged_at, snapshots_at, site_made, entry_made, is_early, sites_made, world_made}
use Rattle.world_laws.proofs.FittingWorlds.{made_fit_start}
use Rattle.world_laws.specs.WellDeclared.{DeclaresWell}
use Rattle.world_laws.specs.Starts.{start_of, MadeWorldsAreSnapshotStarts, MadeWorldsAreLogStarts}
use Rattle.world_laws.proofs.Each.{all_both}
use Rattle.world_laws.proofs.Entries.{each_found, master_found, made_found}
use Rattle.world_laws.proofs.Logging.{has_log, has_parent_log, new_parents_rise}
use Rattle.world_laws.proofs.DeclaredSnapshots.{each_at, NeedsLogs, each_needs, apart_at}

-- a snapshot of one of so many tables that wasn't refreshed yet, and of which no key was touched
abbrev IsNew : ℕ → Snapshot → Type 0
IsNew number s = (s.table < number) × (s.mark ≡ 0) × (s.touched ≡ [])

module _ (w : WorldState) (well : DeclaresWell w) where
  shape : HasShape w.schema
  shape = well.sound.sound.shape

  abbrev rows : List Rows
  rows = rows_made w.schema w.base

  abbrev sites : List SiteState
  sites = sites_made w.schema rows w.snapshots

  not_late : (b : Bool) → b ≡ false → not b ≡ true
  not_late true is = absurd (cc is)
  not_late false is = refl

  -- the master of a site is the one that its entry makes
  master_made : (site master : SiteName) → master_of w.schema site ≡ Some master → found_site sites (master_of w.schema site) ≡ Some (site_made w.schema rows w.snapshots master None)
  master_made site master of_site =
      let m = master_found w.schema shape site master of_site in
      let early : is_early w.schema m.entry ≡ true = not_late (is_late_master w.schema m.entry.name) (ap (is_late_master w.schema) m.named ∙ m.early) in
      ap (found_site sites) of_site ∙ made_found w.schema rows w.snapshots w.schema.sites master m.entry m.found early
      ∙ ap (λ (n : SiteName). Some (site_made w.schema rows w.snapshots n m.entry.master)) m.named
      ∙ ap (λ (n : Option SiteName). Some (site_made w.schema rows w.snapshots master n)) m.none

  module _ (site master : SiteName) (of_site : master_of w.schema site ≡ Some master) where
    abbrev x : SiteState
    x = site_made w.schema rows w.snapshots site (Some master)

    abbrev m : SiteState
    m = site_made w.schema rows w.snapshots master None

    new : AllByRecursion (IsNew (length w.schema.tables)) (snapshots_at w.snapshots site)
    new = each_at (λ (d : DeclaredSnapshot). d.table < length w.schema.tables) (IsNew (length w.schema.tables)) w.snapshots site (λ d below. (below, refl, refl)) well.sound.snapshots

    apart : SnapshotsApart (snapshots_at w.snapshots site)
    apart = apart_at w.snapshots site well.once

    within : AllByRecursion (λ (s : Snapshot). IsParentWithin w.schema s.parent) (snapshots_at w.snapshots site)
    within = each_at (λ (d : DeclaredSnapshot). IsParentWithin w.schema d.parent) (λ (s : Snapshot). IsParentWithin w.schema s.parent) w.snapshots site (λ d is. is) well.parents

    shown : AllByRecursion (λ (s : Snapshot). rows_of x.base s.table ≡ rule_rows w.schema rows s) (snapshots_at w.snapshots site)
    shown = rows_are_ruled w.schema rows (snapshots_at w.snapshots site) (replicate (length w.schema.tables) []) apart
        (all_weaker (IsNew (length w.schema.tables)) (λ (s : Snapshot). s.table < length (replicate (length w.schema.tables) [])) (snapshots_at w.snapshots site)
        (λ s is. let same = length-replicate {A = Rows} (length w.schema.tables) [] in omega (arith, same, is.0)) new)

    -- its rows are there, and the logs that it goes by
    abbrev IsReady : Snapshot → Type 0
    IsReady s = (rows_of x.base s.table ≡ rule_rows w.schema rows s) × NeedsLogs w.snapshots site s

    abbrev IsNewWithin : Snapshot → Type 0
    IsNewWithin s = IsNew (length w.schema.tables) s × IsParentWithin w.schema s.parent

    one_starts : (s : Snapshot) → IsReady s → IsNewWithin s → StartsShown m x s
    one_starts s ready is = record {
      master = refl;
      logged = has_log w.schema shape w.snapshots site master of_site s.table is.0.0 ready.1.own;
      parent_logged = has_parent_log w.schema shape w.snapshots site master of_site s.parent is.1 ready.1.parents;
      parent_within = is.1;
      parents_rise = new_parents_rise (tables_in (logged_at w.schema w.snapshots master)) s.parent;
      below = rw is.0.1 (omega arith);
      rows = ready.0;
      touched = rw is.0.2 tt;
    }

    starts_shown : AllByRecursion (StartsShown m x) (snapshots_at w.snapshots site)
    starts_shown = all_both IsReady IsNewWithin (StartsShown m x) (snapshots_at w.snapshots site) one_starts
        (all_both (λ (s : Snapshot). rows_of x.base s.table ≡ rule_rows w.schema rows s) (NeedsLogs w.snapshots site) IsReady (snapshots_at w.snapshots site) (λ s rows needs. (rows, needs)) shown (each_needs w.snapshots site))
        (all_both (IsNew (length w.schema.tables)) (λ (s : Snapshot). IsParentWithin w.schema s.parent) IsNewWithin (snapshots_at w.snapshots site) (λ s one is. (one, is)) new within)

  starts_at : (site : SiteName) (master : Option SiteName) → master_of w.schema site ≡ master → StartsWithSnapshots sites (site_made w.schema rows w.snapshots site master)
  starts_at site None is = record { apart = tt; shown = tt }
  starts_at site (Some master) is = record {
    apart = apart_at w.snapshots site well.once;
    shown = subst (λ (o : Option SiteState). AllByRecursion (StartsFrom o (site_made w.schema rows w.snapshots site (Some master))) (snapshots_at w.snapshots site)) (sym (master_made site master is)) (starts_shown site master is);
  }

  each_starts : (es : List SiteEntry) → AllByRecursion (λ (u : SiteEntry). site_named w.schema u.name ≡ Some u) es → AllByRecursion (StartsWithSnapshots sites) (map (entry_made w.schema rows w.snapshots) (filter (is_early w.schema) es))
  each_starts [] found = tt
  each_starts (e ∷ es) found = go (is_early w.schema e) (each_starts es found.1)
    where
      go : (b : Bool) → AllByRecursion (StartsWithSnapshots sites) (map (entry_made w.schema rows w.snapshots) (filter (is_early w.schema) es))
          → AllByRecursion (StartsWithSnapshots sites) (map (entry_made w.schema rows w.snapshots) (cond b (e ∷ filter (is_early w.schema) es) (filter (is_early w.schema) es)))
      go true later = (starts_at e.name e.master (ap (option_and_then (λ (entry : SiteEntry). entry.master)) found.0), later)
      go false later = later

  fits : IsFitStart w.schema (start_of (world_made w))
  fits = made_fit_start w well.sound

  -- ---- logs

  new_logs : (tables : List ℕ) → AllByRecursion IsNewLog (map new_log tables)
  new_logs [] = tt
  new_logs (table ∷ tables) = ((refl, refl), new_logs tables)

  logs_at : (site : SiteName) (master : Option SiteName) → AllByRecursion IsNewLog (site_made w.schema rows w.snapshots site master).logs
  logs_at site None = new_logs (tables_in (logged_at w.schema w.snapshots site))
  logs_at site (Some master) = new_logs (tables_in [])

  each_logs : (es : List SiteEntry) → AllByRecursion (λ (x : SiteState). AllByRecursion IsNewLog x.logs) (map (entry_made w.schema rows w.snapshots) es)
  each_logs [] = tt
  each_logs (e ∷ es) = (logs_at e.name e.master, each_logs es)

pub made_snapshot_start : MadeWorldsAreSnapshotStarts
made_snapshot_start w well = record { fit = fits w well; sites = each_starts w well w.schema.sites (each_found w.schema (shape w well)); begun = refl }

pub made_log_start : MadeWorldsAreLogStarts
made_log_start w well = record { fit = fits w well; logs = each_logs w well (filter (is_early w.schema) w.schema.sites); begun = refl }
