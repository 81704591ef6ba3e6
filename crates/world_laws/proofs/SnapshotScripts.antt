-- The world of every script is one of which the laws of snapshots hold.
use Rattle.std.proofs.Common.{◌≡◌, ℕ, suc, ◌<◌, length, arith, List, [], ◌∷◌, ◌++◌, true, Some, None, refl, sym, ap, ◌∙◌, subst}
use Rattle.std.specs.Prelude.{Option}
use Rattle.std.specs.Option.{option_map}
use Rattle.std.specs.List.{AllByRecursion}
use Rattle.rep_values.specs.declared.name.SiteName.{SiteName}
use Rattle.rep_values.specs.declared.name.TableName.{TableName}
use Rattle.rep_values.specs.declared.literal.Literal.{Literal}
use Rattle.rep_values.specs.declared.refusal.Refusal.{Refusal}
use Rattle.rep_values.specs.declared.refusal.Refusal.TheVariants as refusal
use Rattle.rep_values.specs.RefusalSteps.{refused}
use Rattle.rep_values.proofs.RefusalSteps.{or_then-None, refused-None}
use Rattle.rep_schema.specs.declared.schema.Schema.{Schema}
use Rattle.rep_schema.specs.Tables.{Rows, AreTables}
use Rattle.rep_schema.specs.Named.{table_place}
use Rattle.rep_declare.specs.declared.declaration.Declare.{Declare}
use Rattle.rep_declare.specs.Shaping.{table_shaped}
use Rattle.rep_declare.proofs.DeclaredTables.{AreTables-declared}
use Rattle.schema_rules.specs.Rules.{broken_rule}
use Rattle.local_txn.specs.BaseRows.{base_refusal}
use Rattle.site_events.specs.Cluster.{Cluster, site_of}
use Rattle.site_events.specs.Events.{run}
use Rattle.event_laws.specs.Waiting.{SitesLinkAsDeclared}
use Rattle.site_state.specs.State.{SiteState}
use Rattle.script_parse.specs.declared.command.Command.{Command}
use Rattle.script_parse.specs.declared.command.Command.TheVariants as command
use Rattle.script_parse.specs.declared.command.ParentWords.{ParentWords}
use Rattle.script_parse.specs.declared.command.TestWords.{TestWords}
use Rattle.script_parse.specs.Named.{NamesColumn}
use Rattle.event_laws.specs.SnapshotStarts.{IsSnapshotStart, IsLogStart}
use Rattle.world_state.specs.declared.phase.Phase.{Phase}
use Rattle.world_state.specs.declared.phase.Phase.TheVariants as phase
use Rattle.world_state.specs.declared.declared_snapshot.DeclaredSnapshot.{DeclaredSnapshot}
use Rattle.world_state.specs.World.{WorldState, first_world}
use Rattle.world_state.specs.Phases.{is_setup, has_block, has_rows, setup_step, declare_step, behind_setup_step, broken_by, lowest_broken, resume_step, phase_step}
use Rattle.world_state.proofs.LowestRules.{lower-None}
use Rattle.world_state.specs.Declaring.{with_snapshot_at, tests_in}
use Rattle.world_state.specs.Making.{world_made}
use Rattle.world_state.specs.Refusals.{world_refusal}
use Rattle.world_state.specs.Steps.{resumed, world_done, world_refused, step_by, world_step, world_steps}
use Rattle.world_laws.specs.Simulation.{Simulates, Leads}
use Rattle.world_laws.specs.Scripts.{script_world}
use Rattle.world_laws.specs.Reached.{IsInSetup, IsOfScript, InSetup, Behind}
use Rattle.event_laws.proofs.Runs.{run-append}
use Rattle.world_laws.proofs.Pieces.{none_lead, steps_are_events}
use Rattle.world_laws.proofs.Starting.{made_simulates, made_linked}
use Rattle.world_laws.proofs.Scripts.{HasShape-no_schema, step_of_script}
use Rattle.world_laws.specs.WellDeclared.{AreDeclaredOnce, AreParentsWithin, DeclaresWell, ScriptsDeclareWell}
use Rattle.world_laws.specs.Starts.{start_of}
use Rattle.world_laws.specs.Sites.{EachCanRefresh, EachKeyComesOnce, EachIsNotedSince, SnapshotsHold}
use Rattle.world_laws.specs.Refreshes.{RefreshesShowTheQuery}
use Rattle.world_laws.specs.SnapshotScripts.{InWorlds, InScripts}
use Rattle.world_laws.specs.SnapshotWorlds.{DeclaresSoFar, GoesOn, IsOfSnapshots, Declares, Goes}
use Rattle.world_laws.proofs.WrittenRows.{AreTables-with_row}
use Rattle.world_laws.proofs.SnapshotStarting.{made_snapshot_start, made_log_start}
use Rattle.world_laws.proofs.SnapshotsHold.{holds, refreshes_show}
use Rattle.world_laws.proofs.DeclaredStays.{Stays, IsPlain, plain_stays, refused_stays, step_schema}
use Rattle.world_laws.proofs.Declaring.{shapes_no_rows, of_tables-declared, parents_within-declared, HasSnapshots, has_snapshots-push, declares_well}

-- ---- behind Setup

-- where events lead on and the schema stays, a world goes on
pub goes_on : (old new : WorldState) → new.schema ≡ old.schema → ((v : Cluster) → Simulates old v → Leads new v) → GoesOn old → GoesOn new
goes_on old new same leads g = let a = leads (run g.leads.events g.start) g.leads.simulates in record {
  start = g.start;
  snapshots = subst (λ (s : Schema). IsSnapshotStart s g.start) (sym same) g.snapshots;
  logs = subst (λ (s : Schema). IsLogStart s g.start) (sym same) g.logs;
  meshed = subst (λ (s : Schema). SitesLinkAsDeclared s g.start.sites) (sym same) g.meshed;
  leads = record { events = a.events ++ g.leads.events; simulates = subst (Simulates new) (sym (run-append a.events g.leads.events g.start)) a.simulates };
}

pub step_goes_on : (number : ℕ) (c : Command) (w : WorldState) → GoesOn w → GoesOn (world_step number c w)
step_goes_on number c w g = goes_on w (world_step number c w) (step_schema number c w g.leads.simulates.behind) (λ v s. steps_are_events number c w v s) g

steps_go_on : (number : ℕ) (lines : List Command) (w : WorldState) → GoesOn w → GoesOn (world_steps number lines w)
steps_go_on number [] w g = g
steps_go_on number (c ∷ more) w g = steps_go_on (suc number) more (world_step number c w) (step_goes_on number c w g)

-- Setup's end is where it begins
pub made_goes_on : (w : WorldState) → DeclaresWell w → GoesOn (world_made w)
made_goes_on w well = record {
  start = start_of (world_made w);
  snapshots = made_snapshot_start w well;
  logs = made_log_start w well;
  meshed = made_linked w well.sound.sound.shape;
  leads = none_lead (world_made w) (start_of (world_made w)) (made_simulates w);
}

-- ---- in Setup

-- what is kept of a world in Setup, beside that it is in Setup
record Keeps (w : WorldState) : Type 0 where
  rows : AreTables w.schema w.base
  has : HasSnapshots w

keeps_so_far : (w : WorldState) → DeclaresSoFar w → Keeps w
keeps_so_far w so_far = record { rows = so_far.rows; has = record { within = so_far.within; once = so_far.once; parents = so_far.parents } }

-- such a world in Setup is one of a script; behind Setup is none
declares : (y : WorldState) → is_setup y.phase ≡ true → IsOfScript y → Keeps y → IsOfSnapshots y
declares y setup (InSetup in_setup) k = Declares (record { setup = in_setup; rows = k.rows; within = k.has.within; once = k.has.once; parents = k.has.parents })
declares y setup (Behind r) k = absurd (cc (setup, r.leads.simulates.behind))

keeps-Stays : (w y : WorldState) → Stays w y → Keeps w → Keeps y
keeps-Stays w y stays k = record {
  rows = subst (λ (rows : List Rows). AreTables y.schema rows) (sym stays.base) (subst (λ (s : Schema). AreTables s w.base) (sym stays.schema) k.rows);
  has = record {
    within = subst (λ (ds : List DeclaredSnapshot). AllByRecursion (λ (d : DeclaredSnapshot). d.table < length y.schema.tables) ds) (sym stays.snapshots)
        (subst (λ (s : Schema). AllByRecursion (λ (d : DeclaredSnapshot). d.table < length s.tables) w.snapshots) (sym stays.schema) k.has.within);
    once = subst AreDeclaredOnce (sym stays.snapshots) k.has.once;
    parents = subst (AreParentsWithin y.schema) (sym stays.snapshots) (subst (λ (s : Schema). AreParentsWithin s w.snapshots) (sym stays.schema) k.has.parents);
  };
}

stays_declares : (w y : WorldState) → IsInSetup w → IsOfScript y → Stays w y → Keeps w → IsOfSnapshots y
stays_declares w y in_setup is stays k = declares y (stays.setup ∙ in_setup.setup) is (keeps-Stays w y stays k)

-- ---- lines in Setup

keeps-Declare : (number : ℕ) (d : Declare) (w : WorldState) → world_refusal (command.Declare d) w ≡ None → Keeps w → Keeps (world_done number (command.Declare d) w)
keeps-Declare number d w passes k =
    let none = refused-None (has_rows w (table_shaped d)) refusal.WrongPhase (or_then-None (setup_step w) _ (or_then-None (declare_step d w) _ passes).0).1 in
    record {
      rows = AreTables-declared d w.schema w.base k.rows (shapes_no_rows w d none);
      has = record { within = of_tables-declared d w.schema w.snapshots k.has.within; once = k.has.once; parents = parents_within-declared d w.schema w.snapshots k.has.parents };
    }

no_rule : (o : Option ℕ) → option_map refusal.SchemaRule o ≡ None → o ≡ None
no_rule None is = refl
no_rule (Some rule) is = absurd (cc is)

resumed_goes_on : (now : Phase) (w : WorldState) → is_setup now ≡ true → resume_step now (lowest_broken w.schema w.procs.tables) ≡ None → IsInSetup w → Keeps w → IsOfSnapshots (resumed now w)
resumed_goes_on phase.Setup w setup passes in_setup k =
    Goes (made_goes_on w (declares_well w in_setup.shape k.rows k.has (lower-None (broken_rule w.schema) (broken_by w.procs.tables) (no_rule (lowest_broken w.schema w.procs.tables) passes)).0))
resumed_goes_on phase.Running w setup passes in_setup k = absurd (cc setup)
resumed_goes_on phase.Suspended w setup passes in_setup k = absurd (cc setup)

no_suspension : (w : WorldState) → IsInSetup w → world_refusal command.Suspend w ≡ None → ⊥
no_suspension w in_setup passes =
    let wrong : behind_setup_step w ≡ Some refusal.WrongPhase = rw in_setup.setup refl in
    cc (wrong, (or_then-None (behind_setup_step w) _ (or_then-None (phase_step command.Suspend w) _ passes).0).0)

setup_snapshot : (w : WorldState) (site : SiteName) (table : Option ℕ) (parent : Option ParentWords) (tests : List TestWords) → is_setup (with_snapshot_at site table parent tests w).phase ≡ is_setup w.phase
setup_snapshot w site None parent tests = refl
setup_snapshot w site (Some table) parent tests = refl

rows_snapshot : (w : WorldState) (site : SiteName) (table : Option ℕ) (parent : Option ParentWords) (tests : List TestWords) → AreTables w.schema w.base → AreTables (with_snapshot_at site table parent tests w).schema (with_snapshot_at site table parent tests w).base
rows_snapshot w site None parent tests are = are
rows_snapshot w site (Some table) parent tests are = are

keeps-Row : (number : ℕ) (table : TableName) (values : List Literal) (w : WorldState) → world_refusal (command.Row table values) w ≡ None → Keeps w → Keeps (world_done number (command.Row table values) w)
keeps-Row number table values w passes k = record {
  rows = AreTables-with_row w.schema w.base values k.rows table (or_then-None (base_refusal w.schema w.base table values) None (or_then-None (setup_step w) _ passes).1).0;
  has = record { within = k.has.within; once = k.has.once; parents = k.has.parents };
}

keeps-Snapshot : (number : ℕ) (site : SiteName) (table : TableName) (parent : Option ParentWords) (tests : Option (List TestWords)) (w : WorldState) → world_refusal (command.Snapshot site table parent tests) w ≡ None → Keeps w
    → Keeps (world_done number (command.Snapshot site table parent tests) w)
keeps-Snapshot number site table parent tests w passes k = record {
  rows = rows_snapshot w site (table_place w.schema table) parent (tests_in tests) k.rows;
  has = has_snapshots-push w site table parent (tests_in tests) k.has (or_then-None (setup_step w) _ passes).1;
}

module _ (number : ℕ) (w : WorldState) (in_setup : IsInSetup w) (k : Keeps w) where
  plainly : (c : Command) → IsPlain c → IsOfScript (world_done number c w) → IsOfSnapshots (world_done number c w)
  plainly c plain is = stays_declares w (world_done number c w) in_setup is (plain_stays number c w plain) k

  -- what comes of a line that isn't refused
  done_in_setup : (c : Command) → world_refusal c w ≡ None → IsOfScript (world_done number c w) → IsOfSnapshots (world_done number c w)
  done_in_setup (command.Declare d) passes is = declares (world_done number (command.Declare d) w) in_setup.setup is (keeps-Declare number d w passes k)
  done_in_setup (command.Snapshot site table parent tests) passes is =
      declares (world_done number (command.Snapshot site table parent tests) w) (setup_snapshot w site (table_place w.schema table) parent (tests_in tests) ∙ in_setup.setup) is (keeps-Snapshot number site table parent tests w passes k)
  done_in_setup (command.Row table values) passes is = declares (world_done number (command.Row table values) w) in_setup.setup is (keeps-Row number table values w passes k)
  done_in_setup command.Resume passes is =
      resumed_goes_on w.phase w in_setup.setup (or_then-None (refused (has_block w) refusal.WrongPhase) (resume_step w.phase (lowest_broken w.schema w.procs.tables)) (or_then-None (phase_step command.Resume w) None passes).0).1 in_setup k
  done_in_setup command.Suspend passes is = absurd (no_suspension w in_setup passes)
  done_in_setup command.Nothing passes is = plainly command.Nothing tt is
  done_in_setup (command.Statement statement) passes is = plainly (command.Statement statement) tt is
  done_in_setup (command.Txn site) passes is = plainly (command.Txn site) tt is
  done_in_setup command.Commit passes is = plainly command.Commit tt is
  done_in_setup command.Abandon passes is = plainly command.Abandon tt is
  done_in_setup (command.Push from to count) passes is = plainly (command.Push from to count) tt is
  done_in_setup (command.Fates from to fates) passes is = plainly (command.Fates from to fates) tt is
  done_in_setup (command.ClearFates from to) passes is = plainly (command.ClearFates from to) tt is
  done_in_setup (command.Link from to word) passes is = plainly (command.Link from to word) tt is
  done_in_setup (command.Clock site time) passes is = plainly (command.Clock site time) tt is
  done_in_setup (command.Purge site) passes is = plainly (command.Purge site) tt is
  done_in_setup (command.Execute site origin position) passes is = plainly (command.Execute site origin position) tt is
  done_in_setup (command.DropError site origin position) passes is = plainly (command.DropError site origin position) tt is
  done_in_setup (command.Refresh site how) passes is = plainly (command.Refresh site how) tt is
  done_in_setup (command.PurgeLog master table) passes is = plainly (command.PurgeLog master table) tt is
  done_in_setup (command.Join site source) passes is = plainly (command.Join site source) tt is
  done_in_setup (command.Show what site) passes is = plainly (command.Show what site) tt is
  done_in_setup (command.Procedures line) passes is = plainly (command.Procedures line) tt is

  step_in_setup : (c : Command) → IsOfScript (world_step number c w) → IsOfSnapshots (world_step number c w)
  step_in_setup c is = go (world_refusal c w) refl is
    where
      go : (r : Option Refusal) → world_refusal c w ≡ r → IsOfScript (step_by r number c w) → IsOfSnapshots (step_by r number c w)
      go None met is = done_in_setup c met is
      go (Some why) met is = stays_declares w (world_refused c w) in_setup is (refused_stays c w) k

-- ---- every script

pub step_of_snapshots : (number : ℕ) (c : Command) (w : WorldState) → NamesColumn c → IsOfSnapshots w → IsOfSnapshots (world_step number c w)
step_of_snapshots number c w named (Declares so_far) = step_in_setup number w so_far.setup (keeps_so_far w so_far) c (step_of_script number c w named (InSetup so_far.setup))
step_of_snapshots number c w named (Goes g) = Goes (step_goes_on number c w g)

steps_of_snapshots : (number : ℕ) (lines : List Command) (w : WorldState) → AllByRecursion NamesColumn lines → IsOfSnapshots w → IsOfSnapshots (world_steps number lines w)
steps_of_snapshots number [] w named is = is
steps_of_snapshots number (c ∷ more) w named is = steps_of_snapshots (suc number) more (world_step number c w) named.1 (step_of_snapshots number c w named.0 is)

pub first_of_snapshots : IsOfSnapshots first_world
first_of_snapshots = Declares (record {
  setup = record { setup = refl; sites = refl; block = refl; shape = HasShape-no_schema };
  rows = record { number = refl; each = λ k below. absurd (omega (arith, below)) };
  within = tt;
  once = tt;
  parents = tt;
})

script_is : (lines : List Command) → AllByRecursion NamesColumn lines → IsOfSnapshots (script_world lines)
script_is lines named = steps_of_snapshots 1 lines first_world named first_of_snapshots

-- it is a world of that script
pub of_script : (w : WorldState) → IsOfSnapshots w → IsOfScript w
of_script w (Declares so_far) = InSetup so_far.setup
of_script w (Goes g) = Behind (record { schema = w.schema; start = g.start; is = g.snapshots.fit.start; meshed = g.meshed; leads = g.leads })

-- ---- the laws

-- in Setup no site is there
no_site : (w : WorldState) → IsInSetup w → (site : SiteName) (x : SiteState) → site_of site w.sites ≡ Some x → ⊥
no_site w in_setup site x found = let none : site_of site w.sites ≡ None = ap (site_of site) in_setup.sites in cc (none, found)

pub snapshots_hold_of : (w : WorldState) → IsOfSnapshots w → SnapshotsHold w
snapshots_hold_of w (Declares so_far) = record {
  schemas = λ site x found. absurd (no_site w so_far.setup site x found);
  refreshes = λ site x m found served. absurd (no_site w so_far.setup site x found);
  keys = λ site x found. absurd (no_site w so_far.setup site x found);
  logs = λ site x found master. absurd (no_site w so_far.setup site x found);
}
snapshots_hold_of w (Goes g) = holds w g

pub refreshes_show_of : (w : WorldState) → IsOfSnapshots w → RefreshesShowTheQuery w
refreshes_show_of w (Declares so_far) number site mode passes =
    let wrong : behind_setup_step w ≡ Some refusal.WrongPhase = rw so_far.setup.setup refl in
    absurd (cc (wrong, (or_then-None (behind_setup_step w) _ passes).0))
refreshes_show_of w (Goes g) number site mode passes = refreshes_show w g number site mode passes

in_scripts : (Holds : WorldState → Type 0) → ((w : WorldState) → IsOfSnapshots w → Holds w) → InScripts Holds
in_scripts Holds law lines named = law (script_world lines) (script_is lines named)

in_worlds : (Holds : WorldState → Type 0) → ((w : WorldState) → IsOfSnapshots w → Holds w) → InWorlds Holds
in_worlds Holds law w well number lines = law (world_steps number lines (world_made w)) (Goes (steps_go_on number lines (world_made w) (made_goes_on w well)))

pub snapshots_hold_in_scripts : InScripts SnapshotsHold
snapshots_hold_in_scripts = in_scripts SnapshotsHold snapshots_hold_of

pub snapshots_hold_in_worlds : InWorlds SnapshotsHold
snapshots_hold_in_worlds = in_worlds SnapshotsHold snapshots_hold_of

pub can_refresh_in_scripts : InScripts EachCanRefresh
can_refresh_in_scripts = in_scripts EachCanRefresh (λ w is. (snapshots_hold_of w is).refreshes)

pub can_refresh_in_worlds : InWorlds EachCanRefresh
can_refresh_in_worlds = in_worlds EachCanRefresh (λ w is. (snapshots_hold_of w is).refreshes)

pub keys_once_in_scripts : InScripts EachKeyComesOnce
keys_once_in_scripts = in_scripts EachKeyComesOnce (λ w is. (snapshots_hold_of w is).keys)

pub keys_once_in_worlds : InWorlds EachKeyComesOnce
keys_once_in_worlds = in_worlds EachKeyComesOnce (λ w is. (snapshots_hold_of w is).keys)

pub noted_since_in_scripts : InScripts EachIsNotedSince
noted_since_in_scripts = in_scripts EachIsNotedSince (λ w is. (snapshots_hold_of w is).logs)

pub noted_since_in_worlds : InWorlds EachIsNotedSince
noted_since_in_worlds = in_worlds EachIsNotedSince (λ w is. (snapshots_hold_of w is).logs)

pub refreshes_show_in_scripts : InScripts RefreshesShowTheQuery
refreshes_show_in_scripts = in_scripts RefreshesShowTheQuery refreshes_show_of

pub refreshes_show_in_worlds : InWorlds RefreshesShowTheQuery
refreshes_show_in_worlds = in_worlds RefreshesShowTheQuery refreshes_show_of

-- what a script has declared in Setup
declared_of : (w : WorldState) → IsOfSnapshots w → is_setup w.phase ≡ true → broken_rule w.schema ≡ None → DeclaresWell w
declared_of w (Declares so_far) setup unbroken = let k = keeps_so_far w so_far in declares_well w so_far.setup.shape k.rows k.has unbroken
declared_of w (Goes g) setup unbroken = absurd (cc (setup, g.leads.simulates.behind))

pub scripts_declare_well : ScriptsDeclareWell
scripts_declare_well lines named setup unbroken = declared_of (script_world lines) (script_is lines named) setup unbroken
