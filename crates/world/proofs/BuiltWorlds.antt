-- What holds of a world of a script holds behind each of its lines.
use Rattle.std.proofs.Common.{◌≡◌, ℕ, List, [], ◌∷◌, Bool, true, false, cond, Some, None, refl, sym, ap, ◌∙◌, subst, inl, inr}
use Rattle.std.specs.Prelude.{◌||◌, not, Option, Ok, Err, is_some}
use Rattle.std.specs.List.{position}
use Rattle.rep_values.specs.declared.name.SiteName.{SiteName}
use Rattle.rep_values.specs.declared.refusal.Refusal.{Refusal}
use Rattle.rep_values.specs.declared.refusal.Refusal.TheVariants as refusal
use Rattle.rep_values.specs.RefusalSteps.{refused}
use Rattle.rep_values.proofs.RefusalSteps.{or_then-None}
use Rattle.rep_schema.specs.declared.schema.Schema.{Schema}
use Rattle.rep_schema.specs.Shape.{HasShape}
use Rattle.rep_schema.specs.Sites.{senders_of, is_among}
use Rattle.rep_schema.specs.Tables.{columns_in}
use Rattle.rep_schema.specs.Named.{is_table, table_place}
use Rattle.rep_declare.specs.declared.declaration.Declare.{Declare}
use Rattle.rep_declare.specs.Refusals.{declare_refusal}
use Rattle.rep_declare.proofs.DeclaredShapes.{HasShape-declared}
use Rattle.net_plan.specs.Directions.{Direction, HasDirection, direction_of, is_up, with_link, with_fates, without_fates}
use Rattle.script_parse.specs.declared.command.Command.{Command}
use Rattle.script_parse.specs.declared.command.Command.TheVariants as command
use Rattle.script_parse.specs.declared.proc_line.ProcLine.{ProcLine}
use Rattle.script_parse.specs.declared.proc_line.ProcLine.TheVariants as proc_line
use Rattle.script_parse.specs.declared.command.ParentWords.{ParentWords}
use Rattle.script_parse.specs.declared.command.TestWords.{TestWords}
use Rattle.script_parse.specs.Named.{NamesColumn}
use Rattle.site_events.specs.Cluster.{Cluster}
use Rattle.proc_state.specs.declared.procedure.Action.{Action}
use Rattle.world_state.specs.declared.phase.Phase.{Phase}
use Rattle.world_state.specs.declared.phase.Phase.TheVariants as phase
use Rattle.world_state.specs.declared.block.Block.{Block}
use Rattle.world_state.specs.declared.call_block.CallBlock.{CallBlock}
use Rattle.world_state.specs.declared.refused.Refused.{Refused}
use Rattle.world_state.specs.World.{WorldState, first_world, gets_from}
use Rattle.world_state.specs.Phases.{is_setup, has_block, setup_step, declare_step, phase_step, behind_setup_step}
use Rattle.world_state.specs.Blocks.{committed_block}
use Rattle.world_state.specs.Declaring.{with_snapshot_at, tests_in}
use Rattle.world_state.specs.Procs.{Procs}
use Rattle.world_state.specs.ProcDeclaring.{proc_table_named, action_of, procedure_at}
use Rattle.world_state.specs.CallBlocks.{block_sent}
use Rattle.world_state.specs.ProcRefusals.{declaring_step}
use Rattle.world_state.specs.ProcSteps.{procs_done}
use Rattle.world_state.specs.Pushes.{world_release, world_send, world_send_each, positions_above, world_deliver_mark, world_return_mark, world_until_quiet, pushed_in, world_push}
use Rattle.world_state.specs.Making.{world_made}
use Rattle.world_state.specs.Refusals.{world_refusal}
use Rattle.world_state.specs.Steps.{resumed, log_purged_at, is_up_word, world_done, world_refused, step_by, step_refused, told_by}
use Rattle.world_laws.specs.Scripts.{LeavesAllButTheBlock}
use Rattle.world_laws.specs.Reached.{IsOfScript}
use Rattle.world_laws.specs.Simulation.{Simulates, Leads}
use Rattle.world_laws.proofs.Pieces.{steps_are_events_however_refused}
use Rattle.world_laws.proofs.Scripts.{HasShape-no_schema, step_of_script, first_of_script}
use Rattle.world_laws.proofs.RefusedLines.{refused_leaves}
use Rattle.site_making.proofs.SenderDirections.{direction_to_sender, direction_from_sender}
use Rattle.world_laws.specs.AlikeWorlds.{IsOfConvergence}
use Rattle.world_laws.proofs.AlikeWorlds.{step_of_convergence, first_of_convergence}
use Rattle.world_laws.specs.Built.{AreProcsBuilt}
use Rattle.world_laws.proofs.ProceduresStay.{first_procs, step_procs}
use Rattle.world.specs.Procedures.{LinksForCalls}
use Rattle.world.specs.Following.{IsBuilt}
use Rattle.world.specs.Doing.{IsOutOfMemory, is_push_of_calls, is_push}
use Rattle.world.specs.BuiltWorlds.{LinesKeepBuilt}
use Rattle.world.proofs.Directions.{Stay, stay-at, stays, stay-push, stay-push_calls}
use Rattle.world.proofs.Apart.{made_apart, apart_kept}
use Rattle.world.proofs.Following.{built_in_part}
use Rattle.world.proofs.CallsBuilt.{built_calls_part}
use Rattle.world.proofs.Joining.{behind_of}

-- ---- lines that declare nothing and end no Setup

-- the schema stays, and whether it is Setup, and the directions, those for calls too
record Keeps (w y : WorldState) : Type 0 where
  schema : y.schema ≡ w.schema
  setup : is_setup y.phase ≡ is_setup w.phase
  net : Stay w.net y.net
  calls : Stay w.procs.net y.procs.net

same : (w : WorldState) → Keeps w w
same w = record { schema = refl; setup = refl; net = λ a b. refl; calls = λ a b. refl }

keeps_committed : (block : Option Block) (w : WorldState) → Keeps w (committed_block block w)
keeps_committed None w = same w
keeps_committed (Some block) w = record { schema = refl; setup = refl; net = λ a b. refl; calls = λ a b. refl }

keeps_snapshot : (site : SiteName) (table : Option ℕ) (parent : Option ParentWords) (tests : List TestWords) (w : WorldState) → Keeps w (with_snapshot_at site table parent tests w)
keeps_snapshot site None parent tests w = same w
keeps_snapshot site (Some table) parent tests w = record { schema = refl; setup = refl; net = λ a b. refl; calls = λ a b. refl }

keeps_log_purged : (site : SiteName) (table : Option ℕ) (w : WorldState) → Keeps w (log_purged_at site table w)
keeps_log_purged site None w = same w
keeps_log_purged site (Some table) w = record { schema = refl; setup = refl; net = λ a b. refl; calls = λ a b. refl }

keeps_answered : (from to : SiteName) (w : WorldState) → ((world_return_mark from to w).schema ≡ w.schema) × ((world_return_mark from to w).phase ≡ w.phase) × ((world_return_mark from to w).procs ≡ w.procs)
keeps_answered from to w = go (is_up from to w.net)
  where
    go : (t : Bool) → ((cond t (world_deliver_mark from to w) w).schema ≡ w.schema) × ((cond t (world_deliver_mark from to w) w).phase ≡ w.phase) × ((cond t (world_deliver_mark from to w) w).procs ≡ w.procs)
    go true = (refl, refl, refl)
    go false = (refl, refl, refl)

schema_each : (from to : SiteName) (positions : List ℕ) (w : WorldState) → (world_send_each from to positions w).schema ≡ w.schema
schema_each from to [] w = refl
schema_each from to (position ∷ more) w = schema_each from to more (world_send from to position w)

phase_each : (from to : SiteName) (positions : List ℕ) (w : WorldState) → (world_send_each from to positions w).phase ≡ w.phase
phase_each from to [] w = refl
phase_each from to (position ∷ more) w = phase_each from to more (world_send from to position w)

procs_each : (from to : SiteName) (positions : List ℕ) (w : WorldState) → (world_send_each from to positions w).procs ≡ w.procs
procs_each from to [] w = refl
procs_each from to (position ∷ more) w = procs_each from to more (world_send from to position w)

keeps_pushed : (from to : SiteName) (count : Option ℕ) (w : WorldState) → Keeps w (world_push from to count w)
keeps_pushed from to count w =
    let answered = keeps_answered to from (world_until_quiet from to (pushed_in from to count w)) in
    let before : (pushed_in from to count w).phase ≡ w.phase = phase_each from to (positions_above from to count (world_release from to w)) (world_release from to w) in
    let shaped : (pushed_in from to count w).schema ≡ w.schema = schema_each from to (positions_above from to count (world_release from to w)) (world_release from to w) in
    let alike : (pushed_in from to count w).procs ≡ w.procs = procs_each from to (positions_above from to count (world_release from to w)) (world_release from to w) in
    record {
      schema = answered.0 ∙ shaped;
      setup = ap is_setup (answered.1 ∙ before);
      net = stay-push from to count w;
      calls = λ a b. ap (λ (p : Procs). is_some (direction_of a b p.net)) (answered.2 ∙ alike);
    }

keeps_resumed : (now : Phase) (w : WorldState) → w.phase ≡ now → is_setup now ≡ false → Keeps w (resumed now w)
keeps_resumed phase.Setup w is behind = absurd (cc behind)
keeps_resumed phase.Running w is behind = same w
keeps_resumed phase.Suspended w is behind = record { schema = refl; setup = sym (ap is_setup is); net = λ a b. refl; calls = λ a b. refl }

-- ---- lines about procedures

stay_procedure : (place : Option ℕ) (name : List ℕ) (does : Action) (p : Procs) → Stay p.net (procedure_at place name does p).net
stay_procedure None name does p a b = refl
stay_procedure (Some place) name does p a b = refl

stay_sent : (block : Option CallBlock) (to : List SiteName) (p : Procs) → Stay p.net (block_sent block to p).net
stay_sent None to p a b = refl
stay_sent (Some block) to p a b = refl

stay_procs : (number : ℕ) (line : ProcLine) (net : List Direction) (p : Procs) → Stay p.net (procs_done number line net p).net
stay_procs number (proc_line.Table name columns) net p a b = refl
stay_procs number (proc_line.Procedure name table does) net p a b =
    stay_procedure (position (is_table table) p.tables) name (action_of (columns_in (proc_table_named p.tables table)) does) p a b
stay_procs number (proc_line.Calls site) net p a b = refl
stay_procs number (proc_line.Call call) net p a b = refl
stay_procs number (proc_line.Send to) net p a b = stay_sent p.block to p a b
stay_procs number (proc_line.Push from to) net p a b = stay-push_calls (is_up to from net) from to p a b
stay_procs number (proc_line.Fates from to fates) net p a b = stay-at from to (with_fates fates) (λ c d e. refl) p.net a b
stay_procs number (proc_line.Execute site origin position) net p a b = refl

-- ---- each line

-- each line that declares nothing and ends no Setup
abbrev IsPlain : Command → WorldState → Type 0
IsPlain command.Nothing w = Unit {0}
IsPlain (command.Declare declaration) w = ⊥
IsPlain (command.Snapshot site table parent tests) w = Unit {0}
IsPlain (command.Row table values) w = Unit {0}
IsPlain command.Resume w = is_setup w.phase ≡ false
IsPlain (command.Statement statement) w = Unit {0}
IsPlain (command.Txn site) w = Unit {0}
IsPlain command.Commit w = Unit {0}
IsPlain command.Abandon w = Unit {0}
IsPlain (command.Push from to count) w = Unit {0}
IsPlain (command.Fates from to fates) w = Unit {0}
IsPlain (command.ClearFates from to) w = Unit {0}
IsPlain (command.Link from to word) w = Unit {0}
IsPlain (command.Clock site time) w = Unit {0}
IsPlain (command.Purge site) w = Unit {0}
IsPlain (command.Execute site origin position) w = Unit {0}
IsPlain (command.DropError site origin position) w = Unit {0}
IsPlain (command.Refresh site how) w = Unit {0}
IsPlain (command.PurgeLog master table) w = Unit {0}
IsPlain command.Suspend w = is_setup w.phase ≡ false
IsPlain (command.Join site source) w = Unit {0}
IsPlain (command.Show what site) w = Unit {0}
IsPlain (command.Procedures line) w = Unit {0}

keeps_done : (number : ℕ) (c : Command) (w : WorldState) → IsPlain c w → Keeps w (world_done number c w)
keeps_done number command.Nothing w plain = same w
keeps_done number (command.Declare declaration) w plain = absurd plain
keeps_done number (command.Snapshot site table parent tests) w plain = keeps_snapshot site (table_place w.schema table) parent (tests_in tests) w
keeps_done number (command.Row table values) w plain = record { schema = refl; setup = refl; net = λ a b. refl; calls = λ a b. refl }
keeps_done number command.Resume w plain = keeps_resumed w.phase w refl plain
keeps_done number (command.Statement statement) w plain = record { schema = refl; setup = refl; net = λ a b. refl; calls = λ a b. refl }
keeps_done number (command.Txn site) w plain = record { schema = refl; setup = refl; net = λ a b. refl; calls = λ a b. refl }
keeps_done number command.Commit w plain = keeps_committed w.block w
keeps_done number command.Abandon w plain = record { schema = refl; setup = refl; net = λ a b. refl; calls = λ a b. refl }
keeps_done number (command.Push from to count) w plain = keeps_pushed from to count w
keeps_done number (command.Fates from to fates) w plain = record { schema = refl; setup = refl; net = stay-at from to (with_fates fates) (λ a b d. refl) w.net; calls = λ a b. refl }
keeps_done number (command.ClearFates from to) w plain = record { schema = refl; setup = refl; net = stay-at from to without_fates (λ a b d. refl) w.net; calls = λ a b. refl }
keeps_done number (command.Link from to word) w plain = record { schema = refl; setup = refl; net = stay-at from to (with_link (is_up_word word)) (λ a b d. refl) w.net; calls = λ a b. refl }
keeps_done number (command.Clock site time) w plain = record { schema = refl; setup = refl; net = λ a b. refl; calls = λ a b. refl }
keeps_done number (command.Purge site) w plain = record { schema = refl; setup = refl; net = λ a b. refl; calls = λ a b. refl }
keeps_done number (command.Execute site origin position) w plain = record { schema = refl; setup = refl; net = λ a b. refl; calls = λ a b. refl }
keeps_done number (command.DropError site origin position) w plain = record { schema = refl; setup = refl; net = λ a b. refl; calls = λ a b. refl }
keeps_done number (command.Refresh site how) w plain = record { schema = refl; setup = refl; net = λ a b. refl; calls = λ a b. refl }
keeps_done number (command.PurgeLog master table) w plain = keeps_log_purged master (table_place w.schema table) w
keeps_done number command.Suspend w plain = record { schema = refl; setup = sym plain; net = λ a b. refl; calls = λ a b. refl }
keeps_done number (command.Join site source) w plain = record { schema = refl; setup = refl; net = λ a b. refl; calls = λ a b. refl }
keeps_done number (command.Show what site) w plain = same w
keeps_done number (command.Procedures line) w plain = record { schema = refl; setup = refl; net = λ a b. refl; calls = stay_procs number line w.net w.procs }

-- ---- what stays built

-- the world that a step leads to is one of a script
step_is : (number : ℕ) (c : Command) (w : WorldState) (r : Option Refusal) → NamesColumn c → IsBuilt w → world_refusal c w ≡ r → IsOfScript (step_by r number c w)
step_is number c w r named built met = subst (λ (o : Option Refusal). IsOfScript (step_by o number c w)) met (step_of_script number c w named built.of_script)

-- and the laws of snapshots and of convergence hold of it
step_has : (number : ℕ) (c : Command) (w : WorldState) (r : Option Refusal) → NamesColumn c → IsBuilt w → world_refusal c w ≡ r → IsOfConvergence (step_by r number c w)
step_has number c w r named built met = subst (λ (o : Option Refusal). IsOfConvergence (step_by o number c w)) met (step_of_convergence number c w named built.of_convergence)

-- and its procedures are built
step_procs_by : (number : ℕ) (c : Command) (w : WorldState) (r : Option Refusal) → IsBuilt w → world_refusal c w ≡ r → AreProcsBuilt (step_by r number c w)
step_procs_by number c w r built met = subst (λ (o : Option Refusal). AreProcsBuilt (step_by o number c w)) met (step_procs number c w (λ setup. built.shape) built.procs)

linked_behind : (w y : WorldState) → IsBuilt w → Keeps w y → is_setup y.phase ≡ false → (site origin : SiteName) → gets_from y site origin ≡ true
    → HasDirection y.net site origin × HasDirection y.net origin site
linked_behind w y built kept behind site origin gets =
    let had = built.linked (sym kept.setup ∙ behind) site origin (subst (λ (s : Schema). is_among (senders_of s site) origin ≡ true) kept.schema gets) in
    (stays w.net y.net kept.net site origin had.0, stays w.net y.net kept.net origin site had.1)

calls_behind : (w y : WorldState) → IsBuilt w → Keeps w y → is_setup y.phase ≡ false → LinksForCalls y
calls_behind w y built kept behind site origin gets =
    let had = built.calls_linked (sym kept.setup ∙ behind) site origin (subst (λ (s : Schema). is_among (senders_of s site) origin ≡ true) kept.schema gets) in
    (stays w.procs.net y.procs.net kept.calls site origin had.0, stays w.procs.net y.procs.net kept.calls origin site had.1)

-- events lead to it from the sites before
step_leads : (number : ℕ) (c : Command) (w : WorldState) (r : Option Refusal) (v : Cluster) → Simulates w v → Leads (step_by r number c w) v
step_leads number c w r v s = steps_are_events_however_refused r number c w v s

built_kept : (w y : WorldState) → IsBuilt w → IsOfScript y → IsOfConvergence y → AreProcsBuilt y → ((v : Cluster) → Simulates w v → Leads y v) → Keeps w y → IsBuilt y
built_kept w y built is has procs leads kept = record {
  of_script = is;
  of_convergence = has;
  shape = subst HasShape (sym kept.schema) built.shape;
  apart = apart_kept w y built.of_script is kept.setup leads built.apart;
  linked = linked_behind w y built kept;
  procs = procs;
  calls_linked = calls_behind w y built kept;
}

-- ---- declarations

in_setup : (p : Phase) (b : Bool) → refused (not (is_setup p) || b) refusal.WrongPhase ≡ None → is_setup p ≡ true
in_setup phase.Setup b none = refl
in_setup phase.Running b none = absurd (cc none)
in_setup phase.Suspended b none = absurd (cc none)

built_declared : (number : ℕ) (d : Declare) (w : WorldState) → NamesColumn (command.Declare d) → world_refusal (command.Declare d) w ≡ None → IsBuilt w
    → IsBuilt (world_done number (command.Declare d) w)
built_declared number d w named passes built =
    let steps = or_then-None (declare_step d w) _ passes in
    let own = or_then-None (declaring_step d w) _ steps.1 in
    let setup : is_setup w.phase ≡ true = in_setup w.phase (has_block w) (or_then-None (setup_step w) _ steps.0).0 in
    record {
      of_script = step_is number (command.Declare d) w None named built passes;
      of_convergence = step_has number (command.Declare d) w None named built passes;
      shape = HasShape-declared d w.schema built.shape named (or_then-None (declare_refusal w.schema d) None own.1).0;
      apart = built.apart;
      linked = λ behind. absurd (cc (setup, behind));
      procs = step_procs_by number (command.Declare d) w None built passes;
      calls_linked = λ behind. absurd (cc (setup, behind));
    }

-- ---- Setup's end

built_made : (w : WorldState) → IsOfScript (world_made w) → IsOfConvergence (world_made w) → AreProcsBuilt (world_made w) → IsBuilt w → IsBuilt (world_made w)
built_made w is has procs built = record {
  of_script = is;
  of_convergence = has;
  shape = built.shape;
  apart = made_apart w built.shape;
  linked = λ behind site origin gets. (direction_to_sender w.schema site origin gets, direction_from_sender w.schema site origin gets);
  procs = procs;
  calls_linked = λ behind site origin gets. (direction_to_sender w.schema site origin gets, direction_from_sender w.schema site origin gets);
}

built_resumed : (number : ℕ) (w : WorldState) → world_refusal command.Resume w ≡ None → IsBuilt w → IsBuilt (world_done number command.Resume w)
built_resumed number w passes built = go w.phase refl
  where
    is : IsOfScript (resumed w.phase w)
    is = step_is number command.Resume w None tt built passes

    has : IsOfConvergence (resumed w.phase w)
    has = step_has number command.Resume w None tt built passes

    procs : AreProcsBuilt (resumed w.phase w)
    procs = step_procs_by number command.Resume w None built passes

    go : (now : Phase) → w.phase ≡ now → IsBuilt (resumed w.phase w)
    go phase.Setup at = subst (λ (p : Phase). IsBuilt (resumed p w)) (sym at)
        (built_made w (subst (λ (p : Phase). IsOfScript (resumed p w)) at is) (subst (λ (p : Phase). IsOfConvergence (resumed p w)) at has) (subst (λ (p : Phase). AreProcsBuilt (resumed p w)) at procs) built)
    go phase.Running at = built_kept w (resumed w.phase w) built is has procs (step_leads number command.Resume w None) (keeps_resumed w.phase w refl (ap is_setup at))
    go phase.Suspended at = built_kept w (resumed w.phase w) built is has procs (step_leads number command.Resume w None) (keeps_resumed w.phase w refl (ap is_setup at))

-- ---- each line

plain_done : (number : ℕ) (c : Command) (w : WorldState) → IsPlain c w → NamesColumn c → world_refusal c w ≡ None → IsBuilt w → IsBuilt (world_done number c w)
plain_done number c w plain named passes built = built_kept w (world_done number c w) built (step_is number c w None named built passes) (step_has number c w None named built passes) (step_procs_by number c w None built passes) (step_leads number c w None) (keeps_done number c w plain)

built_done : (number : ℕ) (c : Command) (w : WorldState) → NamesColumn c → world_refusal c w ≡ None → IsBuilt w → IsBuilt (world_done number c w)
built_done number (command.Declare declaration) w named passes built = built_declared number declaration w named passes built
built_done number command.Resume w named passes built = built_resumed number w passes built
built_done number (command.Snapshot site table parent tests) w named passes built = plain_done number (command.Snapshot site table parent tests) w tt named passes built
built_done number (command.Refresh site how) w named passes built = plain_done number (command.Refresh site how) w tt named passes built
built_done number (command.PurgeLog master table) w named passes built = plain_done number (command.PurgeLog master table) w tt named passes built
built_done number (command.Join site source) w named passes built = plain_done number (command.Join site source) w tt named passes built
built_done number command.Suspend w named passes built =
    plain_done number command.Suspend w (behind_of w.phase (has_block w) (or_then-None (behind_setup_step w) _ (or_then-None (phase_step command.Suspend w) _ passes).0).0) named passes built
built_done number command.Nothing w named passes built = plain_done number command.Nothing w tt named passes built
built_done number (command.Row table values) w named passes built = plain_done number (command.Row table values) w tt named passes built
built_done number (command.Statement statement) w named passes built = plain_done number (command.Statement statement) w tt named passes built
built_done number (command.Txn site) w named passes built = plain_done number (command.Txn site) w tt named passes built
built_done number command.Commit w named passes built = plain_done number command.Commit w tt named passes built
built_done number command.Abandon w named passes built = plain_done number command.Abandon w tt named passes built
built_done number (command.Push from to count) w named passes built = plain_done number (command.Push from to count) w tt named passes built
built_done number (command.Fates from to fates) w named passes built = plain_done number (command.Fates from to fates) w tt named passes built
built_done number (command.ClearFates from to) w named passes built = plain_done number (command.ClearFates from to) w tt named passes built
built_done number (command.Link from to word) w named passes built = plain_done number (command.Link from to word) w tt named passes built
built_done number (command.Clock site time) w named passes built = plain_done number (command.Clock site time) w tt named passes built
built_done number (command.Purge site) w named passes built = plain_done number (command.Purge site) w tt named passes built
built_done number (command.Execute site origin position) w named passes built = plain_done number (command.Execute site origin position) w tt named passes built
built_done number (command.DropError site origin position) w named passes built = plain_done number (command.DropError site origin position) w tt named passes built
built_done number (command.Show what site) w named passes built = plain_done number (command.Show what site) w tt named passes built
built_done number (command.Procedures line) w named passes built = plain_done number (command.Procedures line) w tt named passes built

built_refused : (number : ℕ) (c : Command) (w : WorldState) (r : Refused) → NamesColumn c → step_refused number c w ≡ Some r → IsBuilt w → IsBuilt (world_refused c w)
built_refused number c w r named told built = go (world_refusal c w) refl told
  where
    leaves : LeavesAllButTheBlock w (world_refused c w)
    leaves = refused_leaves c w

    kept : Keeps w (world_refused c w)
    kept = record { schema = leaves.schema; setup = ap is_setup leaves.phase; net = λ a b. ap (λ (net : List Direction). is_some (direction_of a b net)) leaves.net; calls = λ a b. ap (λ (p : Procs). is_some (direction_of a b p.net)) leaves.procs }

    go : (o : Option Refusal) → world_refusal c w ≡ o → told_by o number c w ≡ Some r → IsBuilt (world_refused c w)
    go None met told = absurd (cc told)
    go (Some why) met told = built_kept w (world_refused c w) built (step_is number c w (Some why) named built met) (step_has number c w (Some why) named built met) (step_procs_by number c w (Some why) built met) (step_leads number c w (Some why)) kept

-- what is left of a push of calls for which there was no memory
built_called : (number : ℕ) (line : ProcLine) (old new : WorldState) (r : Refused) → is_push_of_calls line ≡ true → IsOutOfMemory number (command.Procedures line) old new r → IsBuilt old → IsBuilt new
built_called number (proc_line.Push from to) old new r is short built =
    built_calls_part from to old new (behind_of old.phase (has_block old) (or_then-None (behind_setup_step old) _ (short.passes refl)).0) built (short.called from to refl)
built_called number (proc_line.Table table columns) old new r is _ _ = absurd (cc is)
built_called number (proc_line.Procedure procedure table does) old new r is _ _ = absurd (cc is)
built_called number (proc_line.Calls site) old new r is _ _ = absurd (cc is)
built_called number (proc_line.Call call) old new r is _ _ = absurd (cc is)
built_called number (proc_line.Send to) old new r is _ _ = absurd (cc is)
built_called number (proc_line.Fates from to fates) old new r is _ _ = absurd (cc is)
built_called number (proc_line.Execute site origin position) old new r is _ _ = absurd (cc is)

-- what is left of a push for which there was no memory
built_pushed : (number : ℕ) (c : Command) (old new : WorldState) (r : Refused) → is_push c ≡ true → IsOutOfMemory number c old new r → IsBuilt old → IsBuilt new
built_pushed number (command.Push from to count) old new r is short built =
    built_in_part from to old new (behind_of old.phase (has_block old) (or_then-None (behind_setup_step old) _ (short.passes refl)).0) built (short.pushed from to count refl)
built_pushed number command.Nothing old new r is _ _ = absurd (cc is)
built_pushed number (command.Declare declaration) old new r is _ _ = absurd (cc is)
built_pushed number (command.Snapshot site table parent tests) old new r is _ _ = absurd (cc is)
built_pushed number (command.Row table values) old new r is _ _ = absurd (cc is)
built_pushed number command.Resume old new r is _ _ = absurd (cc is)
built_pushed number (command.Statement statement) old new r is _ _ = absurd (cc is)
built_pushed number (command.Txn site) old new r is _ _ = absurd (cc is)
built_pushed number command.Commit old new r is _ _ = absurd (cc is)
built_pushed number command.Abandon old new r is _ _ = absurd (cc is)
built_pushed number (command.Fates from to fates) old new r is _ _ = absurd (cc is)
built_pushed number (command.ClearFates from to) old new r is _ _ = absurd (cc is)
built_pushed number (command.Link from to word) old new r is _ _ = absurd (cc is)
built_pushed number (command.Clock site time) old new r is _ _ = absurd (cc is)
built_pushed number (command.Purge site) old new r is _ _ = absurd (cc is)
built_pushed number (command.Execute site origin position) old new r is _ _ = absurd (cc is)
built_pushed number (command.DropError site origin position) old new r is _ _ = absurd (cc is)
built_pushed number (command.Refresh site how) old new r is _ _ = absurd (cc is)
built_pushed number (command.PurgeLog master table) old new r is _ _ = absurd (cc is)
built_pushed number command.Suspend old new r is _ _ = absurd (cc is)
built_pushed number (command.Join site source) old new r is _ _ = absurd (cc is)
built_pushed number (command.Show what site) old new r is _ _ = absurd (cc is)
built_pushed number (command.Procedures line) old new r is short built = built_called number line old new r is short built

-- what is left of a line for which there was no memory
built_short : (number : ℕ) (c : Command) (old new : WorldState) (r : Refused) → IsOutOfMemory number c old new r → IsBuilt old → IsBuilt new
built_short number c old new r short built = go (is_push c) refl
  where
    go : (b : Bool) → is_push c ≡ b → IsBuilt new
    go false is = subst IsBuilt (sym (short.kept is)) built
    go true is = built_pushed number c old new r is short built

pub lines_keep_built : LinesKeepBuilt
lines_keep_built number c old new (Ok sheet) named does built = subst IsBuilt (sym does.world) (built_done number c old named does.passes built)
lines_keep_built number c old new (Err r) named (inl short) built = built_short number c old new r short built
lines_keep_built number c old new (Err r) named (inr refused) built = subst IsBuilt (sym refused.world) (built_refused number c old r named refused.told built)

-- where nothing is declared
pub first_built : IsBuilt first_world
first_built = record {
  of_script = first_of_script;
  of_convergence = first_of_convergence;
  shape = HasShape-no_schema;
  apart = tt;
  linked = λ behind site origin gets. absurd (cc behind);
  procs = first_procs;
  calls_linked = λ behind. absurd (cc behind);
}
