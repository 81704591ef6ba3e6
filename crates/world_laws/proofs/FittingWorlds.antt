-- The sites that Setup's end makes of what is well declared fit, and so do those of each later world.
use Rattle.std.proofs.Common.{◌<◌, List, [], ◌∷◌, length, map, replicate, Bool, true, false, cond, Some, None, sym, ap, ◌∙◌}
use Rattle.std.specs.Prelude.{filter, Option}
use Rattle.std.specs.List.{AllByRecursion}
use Rattle.rep_values.specs.declared.name.SiteName.{SiteName}
use Rattle.rep_schema.specs.declared.schema.Schema.{Schema}
use Rattle.rep_schema.specs.declared.schema.SiteEntry.{SiteEntry}
use Rattle.rep_schema.specs.Tables.{Rows, AreTables}
use Rattle.rep_schema.proofs.TableSteps.{AreTables-empty}
use Rattle.rep_values.specs.SiteNames.{is_same_site}
use Rattle.site_state.specs.Fits.{AreWithin}
use Rattle.site_events.specs.Cluster.{site_of}
use Rattle.event_laws.specs.Fitting.{StartsFit, IsFitStart}
use Rattle.event_laws.proofs.QueryTables.{AreTables-rows_ruled}
use Rattle.event_laws.proofs.FittingSites.{every_site_fits}
use Rattle.event_laws.proofs.Confluence.{every_site_can_pass_in_any_order}
use Rattle.world_state.specs.declared.declared_snapshot.DeclaredSnapshot.{DeclaredSnapshot}
use Rattle.world_state.specs.World.{WorldState}
use Rattle.world_state.specs.Making.{rows_made, snapshots_at, site_made, entry_made, is_early, world_made}
use Rattle.world_laws.specs.Fitting.{IsWellDeclared, EachFitsInWorlds, EachCanPassInAnyOrder}
use Rattle.world_laws.proofs.Starting.{core_of, made_start, made_simulates, made_declared}
use Rattle.world_laws.proofs.WorldLaws.{lines_lead}

abbrev AreOf : Schema → List DeclaredSnapshot → Type 0
AreOf schema snapshots = AllByRecursion (λ (s : DeclaredSnapshot). s.table < length schema.tables) snapshots

-- a site's snapshots are of the schema's tables
AreWithin-snapshots_at : (schema : Schema) (snapshots : List DeclaredSnapshot) (site : SiteName) → AreOf schema snapshots → AreWithin schema (snapshots_at snapshots site)
AreWithin-snapshots_at schema [] site all = tt
AreWithin-snapshots_at schema (s ∷ ss) site all = go (is_same_site s.site site) (AreWithin-snapshots_at schema ss site all.1)
  where
    rest : List DeclaredSnapshot
    rest = filter (λ (s : DeclaredSnapshot). is_same_site s.site site) ss

    go : (b : Bool) → AreWithin schema (map (λ (s : DeclaredSnapshot). record { table = s.table; query = s.query; parent = s.parent; mark = 0; touched = [] }) rest)
        → AreWithin schema (map (λ (s : DeclaredSnapshot). record { table = s.table; query = s.query; parent = s.parent; mark = 0; touched = [] }) (cond b (s ∷ rest) rest))
    go true later = (all.0, later)
    go false later = later

made_fits : (schema : Schema) (rows : List Rows) (snapshots : List DeclaredSnapshot) (site : SiteName) (master : Option SiteName) → AreTables schema rows → AreOf schema snapshots
    → StartsFit schema (site_made schema rows snapshots site master)
made_fits schema rows snapshots site None are all = record { base = are; within = tt }
made_fits schema rows snapshots site (Some master) are all = record {
  base = AreTables-rows_ruled schema rows (snapshots_at snapshots site) (replicate (length schema.tables) []) are (AreWithin-snapshots_at schema snapshots site all) (AreTables-empty schema);
  within = AreWithin-snapshots_at schema snapshots site all;
}

each_fits : (schema : Schema) (rows : List Rows) (snapshots : List DeclaredSnapshot) (es : List SiteEntry) → AreTables schema rows → AreOf schema snapshots
    → AllByRecursion (StartsFit schema) (map (entry_made schema rows snapshots) es)
each_fits schema rows snapshots [] are all = tt
each_fits schema rows snapshots (e ∷ es) are all = (made_fits schema rows snapshots e.name e.master are all, each_fits schema rows snapshots es are all)

pub made_fit_start : (w : WorldState) → IsWellDeclared w → IsFitStart w.schema (core_of (world_made w))
made_fit_start w well = record {
  sound = well.sound;
  start = made_start w;
  sites = each_fits w.schema (rows_made w.schema w.base) w.snapshots (filter (is_early w.schema) w.schema.sites) well.rows well.snapshots;
}

pub each_fits_in_worlds : EachFitsInWorlds
each_fits_in_worlds w well number lines site x found =
    let a = lines_lead number lines (world_made w) (core_of (world_made w)) (made_simulates w) in
    every_site_fits w.schema (core_of (world_made w)) a.events (made_fit_start w well) site x (ap (site_of site) (sym a.simulates.sites) ∙ found)

pub each_can_pass_in_any_order : EachCanPassInAnyOrder
each_can_pass_in_any_order w well number lines site origin x found master =
    let a = lines_lead number lines (world_made w) (core_of (world_made w)) (made_simulates w) in
    every_site_can_pass_in_any_order w.schema (core_of (world_made w)) a.events (made_fit_start w well) (made_declared w well.sound.shape) site origin x (ap (site_of site) (sym a.simulates.sites) ∙ found) master
