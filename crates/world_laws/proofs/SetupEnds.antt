-- How Setup ends: by the one line that makes the world's sites, of what is well declared.
use Rattle.std.proofs.Common.{◌≡◌, ℕ, List, true, false, Some, None, refl, sym, ap, ◌∙◌}
use Rattle.std.specs.Prelude.{Option, is_none}
use Rattle.rep_values.specs.declared.name.SiteName.{SiteName}
use Rattle.rep_values.specs.declared.refusal.Refusal.{Refusal}
use Rattle.rep_values.specs.declared.refusal.Refusal.TheVariants as refusal
use Rattle.rep_values.proofs.RefusalSteps.{or_then-None}
use Rattle.rep_schema.specs.Tables.{Rows, AreTables}
use Rattle.rep_laws.specs.Commuting.{IsSound}
use Rattle.site_state.specs.State.{SiteState}
use Rattle.site_events.specs.Cluster.{site_of}
use Rattle.event_laws.specs.Fitting.{FitsHere}
use Rattle.event_laws.proofs.FittingSites.{every_site_fits}
use Rattle.script_parse.specs.declared.command.Command.{Command}
use Rattle.script_parse.specs.declared.command.Command.TheVariants as command
use Rattle.script_parse.specs.declared.command.ParentWords.{ParentWords}
use Rattle.script_parse.specs.declared.command.TestWords.{TestWords}
use Rattle.world_state.specs.declared.phase.Phase.{Phase}
use Rattle.world_state.specs.declared.phase.Phase.TheVariants as phase
use Rattle.world_state.specs.World.{WorldState}
use Rattle.world_state.specs.Phases.{is_setup, behind_setup_step, block_step, phase_step}
use Rattle.world_state.specs.Declaring.{with_snapshot_at, tests_in}
use Rattle.world_state.specs.Making.{rows_made, site_made, entry_made, world_made}
use Rattle.world_state.specs.Refusals.{world_refusal}
use Rattle.world_state.specs.Steps.{resumed, world_done, world_refused, step_by, world_step}
use Rattle.rep_schema.specs.Named.{table_place}
use Rattle.world_laws.specs.Reached.{IsInSetup}
use Rattle.world_laws.proofs.RefusedLines.{refused_leaves}
use Rattle.world_laws.specs.WellDeclared.{DeclaresWell}
use Rattle.world_laws.specs.SnapshotWorlds.{DeclaresSoFar, GoesOn}
use Rattle.world_laws.proofs.MadeMasters.{made_entry, FirstMaster, first_of}

-- ---- the line that ends it

module _ (number : ℕ) (w : WorldState) (in_setup : IsInSetup w) where
  not_behind : behind_setup_step w ≡ None → ⊥
  not_behind passes = let wrong : behind_setup_step w ≡ Some refusal.WrongPhase = rw in_setup.setup refl in cc (wrong, passes)

  no_block : block_step w ≡ None → ⊥
  no_block passes = let wrong : block_step w ≡ Some refusal.WrongPhase = rw in_setup.block refl in cc (wrong, passes)

  is_made : (now : Phase) → is_setup now ≡ true → resumed now w ≡ world_made w
  is_made phase.Setup setup = refl
  is_made phase.Running setup = absurd (cc setup)
  is_made phase.Suspended setup = absurd (cc setup)

  stays_setup : (y : WorldState) → y.phase ≡ w.phase → is_setup y.phase ≡ false → ⊥
  stays_setup y same behind = let setup : is_setup y.phase ≡ true = ap is_setup same ∙ in_setup.setup in cc (setup, behind)

  snapshot_phase : (site : SiteName) (table : Option ℕ) (parent : Option ParentWords) (tests : List TestWords) → (with_snapshot_at site table parent tests w).phase ≡ w.phase
  snapshot_phase site None parent tests = refl
  snapshot_phase site (Some table) parent tests = refl

  done_ends : (c : Command) → phase_step c w ≡ None → is_setup (world_done number c w).phase ≡ false → world_done number c w ≡ world_made w
  done_ends command.Resume passes behind = is_made w.phase in_setup.setup
  done_ends command.Nothing passes behind = absurd (stays_setup w refl behind)
  done_ends (command.Declare d) passes behind = absurd (stays_setup (world_done number (command.Declare d) w) refl behind)
  done_ends (command.Snapshot site table parent tests) passes behind =
      absurd (stays_setup (world_done number (command.Snapshot site table parent tests) w) (snapshot_phase site (table_place w.schema table) parent (tests_in tests)) behind)
  done_ends (command.Row table values) passes behind = absurd (stays_setup (world_done number (command.Row table values) w) refl behind)
  done_ends (command.Statement statement) passes behind = absurd (no_block passes)
  done_ends command.Commit passes behind = absurd (no_block passes)
  done_ends command.Abandon passes behind = absurd (no_block passes)
  done_ends (command.Txn site) passes behind = absurd (not_behind (or_then-None (behind_setup_step w) _ passes).0)
  done_ends (command.Push from to count) passes behind = absurd (not_behind passes)
  done_ends (command.Fates from to fates) passes behind = absurd (not_behind passes)
  done_ends (command.ClearFates from to) passes behind = absurd (not_behind passes)
  done_ends (command.Link from to word) passes behind = absurd (not_behind passes)
  done_ends (command.Clock site time) passes behind = absurd (not_behind passes)
  done_ends (command.Purge site) passes behind = absurd (not_behind passes)
  done_ends (command.Execute site origin position) passes behind = absurd (not_behind passes)
  done_ends (command.DropError site origin position) passes behind = absurd (not_behind passes)
  done_ends (command.Refresh site how) passes behind = absurd (not_behind passes)
  done_ends (command.PurgeLog master table) passes behind = absurd (not_behind passes)
  done_ends command.Suspend passes behind = absurd (not_behind (or_then-None (behind_setup_step w) _ passes).0)
  done_ends (command.Join site source) passes behind = absurd (not_behind (or_then-None (behind_setup_step w) _ passes).0)
  done_ends (command.Show what site) passes behind = absurd (not_behind passes)
  done_ends (command.Procedures line) passes behind = absurd (stays_setup (world_done number (command.Procedures line) w) refl behind)

  -- a line behind which Setup is over has made the sites
  pub ends_setup : (c : Command) → is_setup (world_step number c w).phase ≡ false → world_step number c w ≡ world_made w
  ends_setup c behind = go (world_refusal c w) refl behind
    where
      go : (r : Option Refusal) → world_refusal c w ≡ r → is_setup (step_by r number c w).phase ≡ false → step_by r number c w ≡ world_made w
      go None met behind = done_ends c (or_then-None (phase_step c w) _ met).0 behind
      go (Some why) met behind = absurd (stays_setup (world_refused c w) (refused_leaves c w).phase behind)

-- ---- what it is made of

-- what was declared in Setup is well declared where the world made of it goes on
module _ (w : WorldState) (so_far : DeclaresSoFar w) (g : GoesOn (world_made w)) where
  sound : IsSound w.schema
  sound = g.snapshots.fit.sound

  abbrev rows : List Rows
  rows = rows_made w.schema w.base

  fits : (site : SiteName) (x : SiteState) → site_of site (world_made w).sites ≡ Some x → FitsHere x
  fits site x found = every_site_fits w.schema g.start g.leads.events g.snapshots.fit site x (ap (site_of site) (sym g.leads.simulates.sites) ∙ found)

  tables_at : (site : SiteName) (master : Option SiteName) → is_none master ≡ true → FitsHere (site_made w.schema rows w.snapshots site master) → AreTables w.schema rows
  tables_at site None is fits = fits.content.tables
  tables_at site (Some master) is fits = absurd (cc is)

  tables : AreTables w.schema rows
  tables =
      let first : FirstMaster w.schema = first_of w.schema sound in
      tables_at first.entry.name first.entry.master first.master (fits first.entry.name (entry_made w.schema rows w.snapshots first.entry) (made_entry w.schema rows w.snapshots first))

  pub declares_well : DeclaresWell w
  declares_well = record { sound = record { sound = sound; rows = tables; snapshots = so_far.within }; once = so_far.once; parents = so_far.parents }
