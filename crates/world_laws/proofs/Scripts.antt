-- The laws hold of the world of every script: while in Setup it has no site, and behind it events lead to it from a start.
use Rattle.std.proofs.Common.{◌≡◌, ◌≢◌, ℕ, suc, List, [], ◌∷◌, ◌++◌, Bool, true, false, Some, None, refl, sym, ap, ◌∙◌, arith, subst}
use Rattle.std.specs.Prelude.{◌&&◌, Option}
use Rattle.std.specs.List.{AllPairs, AllByRecursion}
use Rattle.std.proofs.lemmas.List.Elements.{All-from_recursion}
use Rattle.rep_values.specs.declared.name.SiteName.{SiteName}
use Rattle.rep_values.specs.declared.refusal.Refusal.{Refusal}
use Rattle.rep_values.specs.declared.refusal.Refusal.TheVariants as refusal
use Rattle.rep_values.specs.RefusalSteps.{refused, first_refusal}
use Rattle.rep_values.proofs.RefusalSteps.{or_then-None, refused_not-None}
use Rattle.rep_schema.specs.Shape.{HasShape, no_schema}
use Rattle.rep_schema.specs.Named.{table_place}
use Rattle.rep_declare.specs.Refusals.{declare_refusal}
use Rattle.rep_declare.proofs.DeclaredShapes.{HasShape-declared}
use Rattle.site_state.proofs.SchemaSites.{own_is_no_sender}
use Rattle.site_events.specs.Cluster.{Cluster, site_of}
use Rattle.site_events.specs.Events.{run}
use Rattle.world_state.specs.declared.phase.Phase.{Phase}
use Rattle.world_state.specs.declared.phase.Phase.TheVariants as phase
use Rattle.script_parse.specs.declared.command.Command.{Command}
use Rattle.script_parse.specs.declared.command.Command.TheVariants as command
use Rattle.script_parse.specs.declared.command.ParentWords.{ParentWords}
use Rattle.script_parse.specs.declared.command.TestWords.{TestWords}
use Rattle.script_parse.specs.Named.{NamesColumn}
use Rattle.world_state.specs.World.{WorldState, first_world, gets_from}
use Rattle.world_state.specs.Declaring.{with_snapshot_at, tests_in}
use Rattle.world_state.specs.Making.{world_made}
use Rattle.world_state.specs.Phases.{is_setup, declare_step, block_step, behind_setup_step, phase_step}
use Rattle.world_state.specs.ProcRefusals.{declaring_step}
use Rattle.world_state.specs.Refusals.{has_sender, are_there, further_steps, world_refusal}
use Rattle.world_state.specs.Steps.{resumed, world_done, step_by, world_step, world_steps}
use Rattle.world_laws.specs.Simulation.{Simulates}
use Rattle.world_laws.specs.Worlds.{WorldHolds}
use Rattle.world_laws.specs.Scripts.{script_world, ScriptsHold, NothingWaitsInScripts, ReportedPushesLeaveNothingReady}
use Rattle.world_laws.specs.Reached.{Reaches, IsInSetup, IsOfScript, InSetup, Behind}
use Rattle.event_laws.proofs.Runs.{run-append}
use Rattle.world_laws.proofs.Pieces.{none_lead, steps_are_events}
use Rattle.world_laws.proofs.Pushes.{pushes_leave_nothing_ready}
use Rattle.world_laws.proofs.Starting.{core_of, made_start, made_simulates, made_linked}
use Rattle.world_laws.proofs.WorldLaws.{holds_as_run, world_holds}
use Rattle.world_laws.proofs.RefusedLines.{refused_leaves, refused_block}

-- ---- nothing is declared

no_pair : {X : Type 0} (R : X → X → Type 0) → AllPairs R []
no_pair R i j e before within = absurd (omega (arith, before, within))

pub HasShape-no_schema : HasShape no_schema
HasShape-no_schema = record {
  masters = omega arith;
  snapshots = omega arith;
  site_names = no_pair (λ x y. x ≢ y);
  site_masters = All-from_recursion _ [] tt;
  tables = All-from_recursion _ [] tt;
  table_number = omega arith;
  table_names = no_pair (λ x y. x ≢ y);
  priorities = All-from_recursion _ [] tt;
  priority_names = no_pair (λ x y. x ≢ y);
}

-- ---- one line more, in Setup

behind_in_setup : (w : WorldState) → is_setup w.phase ≡ true → behind_setup_step w ≡ Some refusal.WrongPhase
behind_in_setup w setup = rw setup refl

block_in_setup : (w : WorldState) → w.block ≡ None → block_step w ≡ Some refusal.WrongPhase
block_in_setup w none = rw none refl

-- of the lines that declare nothing, those of a block find none in Setup
in_no_block : (w y : WorldState) → IsInSetup w → block_step w ≡ None → IsOfScript y
in_no_block w y in_setup passes = absurd (cc (passes, block_in_setup w in_setup.block))

-- and the others are for later
not_behind : (w y : WorldState) → IsInSetup w → behind_setup_step w ≡ None → IsOfScript y
not_behind w y in_setup passes = absurd (cc (passes, behind_in_setup w in_setup.setup))

-- Setup's end is a start
made_reaches : (w : WorldState) → HasShape w.schema → Reaches (world_made w)
made_reaches w shape = record {
  schema = w.schema;
  start = core_of (world_made w);
  is = made_start w;
  meshed = made_linked w shape;
  leads = none_lead (world_made w) (core_of (world_made w)) (made_simulates w);
}

resumed_of_script : (now : Phase) (w : WorldState) → is_setup now ≡ true → HasShape w.schema → IsOfScript (resumed now w)
resumed_of_script phase.Setup w setup shape = Behind (made_reaches w shape)
resumed_of_script phase.Running w setup shape = absurd (cc setup)
resumed_of_script phase.Suspended w setup shape = absurd (cc setup)

with_snapshot_in_setup : (w : WorldState) (site : SiteName) (table : Option ℕ) (parent : Option ParentWords) (tests : List TestWords) → IsInSetup w → IsOfScript (with_snapshot_at site table parent tests w)
with_snapshot_in_setup w site None parent tests in_setup = InSetup in_setup
with_snapshot_in_setup w site (Some table) parent tests in_setup = InSetup (record { setup = in_setup.setup; sites = in_setup.sites; block = in_setup.block; shape = in_setup.shape })

-- what comes of a line that isn't refused
done_in_setup : (number : ℕ) (c : Command) (w : WorldState) → NamesColumn c → IsInSetup w → world_refusal c w ≡ None → IsOfScript (world_done number c w)
done_in_setup number command.Nothing w named in_setup passes = InSetup in_setup
done_in_setup number (command.Declare declaration) w named in_setup passes = InSetup (record {
  setup = in_setup.setup;
  sites = in_setup.sites;
  block = in_setup.block;
  shape = HasShape-declared declaration w.schema in_setup.shape named
      (or_then-None (declare_refusal w.schema declaration) None (or_then-None (declaring_step declaration w) _ (or_then-None (declare_step declaration w) _ passes).1).1).0;
})
done_in_setup number (command.Snapshot site table parent tests) w named in_setup passes = with_snapshot_in_setup w site (table_place w.schema table) parent (tests_in tests) in_setup
done_in_setup number (command.Row table values) w named in_setup passes = InSetup (record { setup = in_setup.setup; sites = in_setup.sites; block = in_setup.block; shape = in_setup.shape })
done_in_setup number command.Resume w named in_setup passes = resumed_of_script w.phase w in_setup.setup in_setup.shape
done_in_setup number (command.Statement statement) w named in_setup passes = in_no_block w (world_done number (command.Statement statement) w) in_setup (or_then-None (block_step w) _ passes).0
done_in_setup number (command.Txn site) w named in_setup passes = not_behind w (world_done number (command.Txn site) w) in_setup (or_then-None (behind_setup_step w) _ (or_then-None (phase_step (command.Txn site) w) _ passes).0).0
done_in_setup number command.Commit w named in_setup passes = in_no_block w (world_done number command.Commit w) in_setup (or_then-None (block_step w) _ passes).0
done_in_setup number command.Abandon w named in_setup passes = in_no_block w (world_done number command.Abandon w) in_setup (or_then-None (block_step w) _ passes).0
done_in_setup number (command.Push from to count) w named in_setup passes = not_behind w (world_done number (command.Push from to count) w) in_setup (or_then-None (behind_setup_step w) _ passes).0
done_in_setup number (command.Fates from to fates) w named in_setup passes = not_behind w (world_done number (command.Fates from to fates) w) in_setup (or_then-None (behind_setup_step w) _ passes).0
done_in_setup number (command.ClearFates from to) w named in_setup passes = not_behind w (world_done number (command.ClearFates from to) w) in_setup (or_then-None (behind_setup_step w) _ passes).0
done_in_setup number (command.Link from to word) w named in_setup passes = not_behind w (world_done number (command.Link from to word) w) in_setup (or_then-None (behind_setup_step w) _ passes).0
done_in_setup number (command.Clock site time) w named in_setup passes = not_behind w (world_done number (command.Clock site time) w) in_setup (or_then-None (behind_setup_step w) _ passes).0
done_in_setup number (command.Purge site) w named in_setup passes = not_behind w (world_done number (command.Purge site) w) in_setup (or_then-None (behind_setup_step w) _ passes).0
done_in_setup number (command.Execute site origin position) w named in_setup passes = not_behind w (world_done number (command.Execute site origin position) w) in_setup (or_then-None (behind_setup_step w) _ passes).0
done_in_setup number (command.DropError site origin position) w named in_setup passes = not_behind w (world_done number (command.DropError site origin position) w) in_setup (or_then-None (behind_setup_step w) _ passes).0
done_in_setup number (command.Refresh site how) w named in_setup passes = not_behind w (world_done number (command.Refresh site how) w) in_setup (or_then-None (behind_setup_step w) _ passes).0
done_in_setup number (command.PurgeLog master table) w named in_setup passes = not_behind w (world_done number (command.PurgeLog master table) w) in_setup (or_then-None (behind_setup_step w) _ passes).0
done_in_setup number command.Suspend w named in_setup passes = not_behind w (world_done number command.Suspend w) in_setup (or_then-None (behind_setup_step w) _ (or_then-None (phase_step command.Suspend w) _ passes).0).0
done_in_setup number (command.Join site source) w named in_setup passes = not_behind w (world_done number (command.Join site source) w) in_setup (or_then-None (behind_setup_step w) _ (or_then-None (phase_step (command.Join site source) w) _ passes).0).0
done_in_setup number (command.Show what site) w named in_setup passes = not_behind w (world_done number (command.Show what site) w) in_setup (or_then-None (behind_setup_step w) _ passes).0
done_in_setup number (command.Procedures line) w named in_setup passes = InSetup (record { setup = in_setup.setup; sites = in_setup.sites; block = in_setup.block; shape = in_setup.shape })

step_in_setup : (number : ℕ) (c : Command) (w : WorldState) → NamesColumn c → IsInSetup w → IsOfScript (world_step number c w)
step_in_setup number c w named in_setup = go (world_refusal c w) refl
  where
    go : (r : Option Refusal) → world_refusal c w ≡ r → IsOfScript (step_by r number c w)
    go None is = done_in_setup number c w named in_setup is
    go (Some why) is =
        let same = refused_leaves c w in
        InSetup (record {
          setup = ap is_setup same.phase ∙ in_setup.setup;
          sites = same.sites ∙ in_setup.sites;
          block = refused_block c w in_setup.block;
          shape = subst HasShape (sym same.schema) in_setup.shape;
        })

-- ---- one line more, behind Setup

step_behind : (number : ℕ) (c : Command) (w : WorldState) → Reaches w → Reaches (world_step number c w)
step_behind number c w r = let a = steps_are_events number c w (run r.leads.events r.start) r.leads.simulates in record {
  schema = r.schema;
  start = r.start;
  is = r.is;
  meshed = r.meshed;
  leads = record { events = a.events ++ r.leads.events; simulates = subst (Simulates (world_step number c w)) (sym (run-append a.events r.leads.events r.start)) a.simulates };
}

pub step_of_script : (number : ℕ) (c : Command) (w : WorldState) → NamesColumn c → IsOfScript w → IsOfScript (world_step number c w)
step_of_script number c w named (InSetup in_setup) = step_in_setup number c w named in_setup
step_of_script number c w named (Behind r) = Behind (step_behind number c w r)

steps_of_script : (number : ℕ) (lines : List Command) (w : WorldState) → AllByRecursion NamesColumn lines → IsOfScript w → IsOfScript (world_steps number lines w)
steps_of_script number [] w named is = is
steps_of_script number (c ∷ more) w named is = steps_of_script (suc number) more (world_step number c w) named.1 (step_of_script number c w named.0 is)

pub first_of_script : IsOfScript first_world
first_of_script = InSetup (record { setup = refl; sites = refl; block = refl; shape = HasShape-no_schema })

-- every script leads to such a world
script_is : (lines : List Command) → AllByRecursion NamesColumn lines → IsOfScript (script_world lines)
script_is lines named = steps_of_script 1 lines first_world named first_of_script

-- ---- the laws

abbrev no_core : Cluster
no_core = record { sites = []; sent = []; begun = [] }

pub of_script_holds : (w : WorldState) → IsOfScript w → WorldHolds w
of_script_holds w (InSetup in_setup) = holds_as_run w w.schema no_core [] (record { sites = tt; sent = refl })
    (record { declared = record { shape = in_setup.shape; each = tt }; streams = λ site. tt; closed = λ site absent x found late none. cc }) in_setup.sites
of_script_holds w (Behind r) = world_holds w r.schema r.start r.is r.meshed r.leads

pub scripts_hold : ScriptsHold
scripts_hold lines named = of_script_holds (script_world lines) (script_is lines named)

pub nothing_waits_in_scripts : NothingWaitsInScripts
nothing_waits_in_scripts lines named = (scripts_hold lines named).waits

-- a push that isn't refused is to another site
reported_push_to_another : (from to : SiteName) (count : Option ℕ) (w : WorldState) → HasShape w.schema → world_refusal (command.Push from to count) w ≡ None → from ≢ to
reported_push_to_another from to count w shape passes same =
    let steps = (or_then-None (phase_step (command.Push from to count) w) (first_refusal (further_steps (command.Push from to count) w)) passes).1 in
    let sender : has_sender w to from ≡ true = refused_not-None (has_sender w to from) refusal.UnknownName (or_then-None (refused _ refusal.UnknownName) _ steps).0 in
    let gets : gets_from w to from ≡ true = both (are_there w to from) (gets_from w to from) sender in
    let own : gets_from w to to ≡ true = subst (λ (n : SiteName). gets_from w to n ≡ true) same gets in
    absurd (cc (own, own_is_no_sender w.schema shape to))
  where
    both : (b c : Bool) → (b && c) ≡ true → c ≡ true
    both true c is = is
    both false c is = absurd (cc is)

pub reported_pushes_leave_nothing_ready : ReportedPushesLeaveNothingReady
reported_pushes_leave_nothing_ready number from to count w x shape passes found =
    pushes_leave_nothing_ready from to count w x (reported_push_to_another from to count w shape passes)
    (subst (λ (r : Option Refusal). site_of to (step_by r number (command.Push from to count) w).sites ≡ Some x) passes found)
