-- What is declared stays behind Setup, and where a line declares nothing.
use Rattle.std.proofs.Common.{◌≡◌, ℕ, List, [], ◌∷◌, Bool, true, false, cond, Some, None, refl, ap, ◌∙◌}
use Rattle.std.specs.Prelude.{◌||◌, not, Option}
use Rattle.rep_values.specs.declared.name.SiteName.{SiteName}
use Rattle.rep_values.specs.declared.refusal.Refusal.{Refusal}
use Rattle.rep_values.specs.declared.refusal.Refusal.TheVariants as refusal
use Rattle.rep_values.specs.RefusalSteps.{refused}
use Rattle.rep_values.proofs.RefusalSteps.{or_then-None}
use Rattle.rep_schema.specs.Named.{table_place}
use Rattle.net_plan.specs.Directions.{is_up}
use Rattle.script_parse.specs.declared.command.Command.{Command}
use Rattle.script_parse.specs.declared.command.Command.TheVariants as command
use Rattle.script_parse.specs.declared.command.ParentWords.{ParentWords}
use Rattle.script_parse.specs.declared.command.TestWords.{TestWords}
use Rattle.world_state.specs.declared.phase.Phase.{Phase}
use Rattle.world_state.specs.declared.phase.Phase.TheVariants as phase
use Rattle.world_state.specs.declared.block.Block.{Block}
use Rattle.world_state.specs.World.{WorldState}
use Rattle.world_state.specs.Phases.{is_setup, has_block, setup_step, declare_step}
use Rattle.world_state.specs.Blocks.{committed_block}
use Rattle.world_state.specs.Declaring.{with_snapshot_at, tests_in}
use Rattle.world_state.specs.Pushes.{world_release, world_send, world_send_each, positions_above, world_deliver_mark, world_return_mark, world_until_quiet, pushed_in, world_push}
use Rattle.world_state.specs.Refusals.{world_refusal}
use Rattle.world_state.specs.Steps.{resumed, log_purged_at, world_done, world_refused, step_by, world_step}
use Rattle.world_laws.proofs.RefusedLines.{refused_leaves}

-- what is declared stays, and whether it is Setup
pub record Stays (w y : WorldState) : Type 0 where
  pub setup : is_setup y.phase ≡ is_setup w.phase
  pub schema : y.schema ≡ w.schema
  pub base : y.base ≡ w.base
  pub snapshots : y.snapshots ≡ w.snapshots

same : (w : WorldState) → Stays w w
same w = record { setup = refl; schema = refl; base = refl; snapshots = refl }

then_stays : (w y z : WorldState) → Stays w y → Stays y z → Stays w z
then_stays w y z a b = record { setup = b.setup ∙ a.setup; schema = b.schema ∙ a.schema; base = b.base ∙ a.base; snapshots = b.snapshots ∙ a.snapshots }

stays_committed : (block : Option Block) (w : WorldState) → Stays w (committed_block block w)
stays_committed None w = same w
stays_committed (Some block) w = record { setup = refl; schema = refl; base = refl; snapshots = refl }

stays_sent : (from to : SiteName) (positions : List ℕ) (w : WorldState) → Stays w (world_send_each from to positions w)
stays_sent from to [] w = same w
stays_sent from to (position ∷ more) w =
    then_stays w (world_send from to position w) (world_send_each from to more (world_send from to position w)) (record { setup = refl; schema = refl; base = refl; snapshots = refl }) (stays_sent from to more (world_send from to position w))

stays_answered : (from to : SiteName) (w : WorldState) → Stays w (world_return_mark from to w)
stays_answered from to w = go (is_up from to w.net)
  where
    go : (b : Bool) → Stays w (cond b (world_deliver_mark from to w) w)
    go true = record { setup = refl; schema = refl; base = refl; snapshots = refl }
    go false = same w

stays_pushed : (from to : SiteName) (count : Option ℕ) (w : WorldState) → Stays w (world_push from to count w)
stays_pushed from to count w =
    let sent = stays_sent from to (positions_above from to count (world_release from to w)) (world_release from to w) in
    let settled : Stays w (world_until_quiet from to (pushed_in from to count w)) = record { setup = sent.setup; schema = sent.schema; base = sent.base; snapshots = sent.snapshots } in
    then_stays w (world_until_quiet from to (pushed_in from to count w)) (world_push from to count w) settled (stays_answered to from (world_until_quiet from to (pushed_in from to count w)))

stays_purged : (site : SiteName) (table : Option ℕ) (w : WorldState) → Stays w (log_purged_at site table w)
stays_purged site None w = same w
stays_purged site (Some table) w = record { setup = refl; schema = refl; base = refl; snapshots = refl }

-- a line that declares nothing, ends no Setup and suspends nothing
abbrev pub IsPlain : Command → Type 0
IsPlain command.Nothing = Unit {0}
IsPlain (command.Declare declaration) = ⊥
IsPlain (command.Snapshot site table parent tests) = ⊥
IsPlain (command.Row table values) = ⊥
IsPlain command.Resume = ⊥
IsPlain (command.Statement statement) = Unit {0}
IsPlain (command.Txn site) = Unit {0}
IsPlain command.Commit = Unit {0}
IsPlain command.Abandon = Unit {0}
IsPlain (command.Push from to count) = Unit {0}
IsPlain (command.Fates from to fates) = Unit {0}
IsPlain (command.ClearFates from to) = Unit {0}
IsPlain (command.Link from to word) = Unit {0}
IsPlain (command.Clock site time) = Unit {0}
IsPlain (command.Purge site) = Unit {0}
IsPlain (command.Execute site origin position) = Unit {0}
IsPlain (command.DropError site origin position) = Unit {0}
IsPlain (command.Refresh site how) = Unit {0}
IsPlain (command.PurgeLog master table) = Unit {0}
IsPlain command.Suspend = ⊥
IsPlain (command.Join site source) = Unit {0}
IsPlain (command.Show what site) = Unit {0}
IsPlain (command.Procedures line) = Unit {0}

pub plain_stays : (number : ℕ) (c : Command) (w : WorldState) → IsPlain c → Stays w (world_done number c w)
plain_stays number command.Nothing w plain = same w
plain_stays number (command.Declare declaration) w plain = absurd plain
plain_stays number (command.Snapshot site table parent tests) w plain = absurd plain
plain_stays number (command.Row table values) w plain = absurd plain
plain_stays number command.Resume w plain = absurd plain
plain_stays number (command.Statement statement) w plain = record { setup = refl; schema = refl; base = refl; snapshots = refl }
plain_stays number (command.Txn site) w plain = record { setup = refl; schema = refl; base = refl; snapshots = refl }
plain_stays number command.Commit w plain = stays_committed w.block w
plain_stays number command.Abandon w plain = record { setup = refl; schema = refl; base = refl; snapshots = refl }
plain_stays number (command.Push from to count) w plain = stays_pushed from to count w
plain_stays number (command.Fates from to fates) w plain = record { setup = refl; schema = refl; base = refl; snapshots = refl }
plain_stays number (command.ClearFates from to) w plain = record { setup = refl; schema = refl; base = refl; snapshots = refl }
plain_stays number (command.Link from to word) w plain = record { setup = refl; schema = refl; base = refl; snapshots = refl }
plain_stays number (command.Clock site time) w plain = record { setup = refl; schema = refl; base = refl; snapshots = refl }
plain_stays number (command.Purge site) w plain = record { setup = refl; schema = refl; base = refl; snapshots = refl }
plain_stays number (command.Execute site origin position) w plain = record { setup = refl; schema = refl; base = refl; snapshots = refl }
plain_stays number (command.DropError site origin position) w plain = record { setup = refl; schema = refl; base = refl; snapshots = refl }
plain_stays number (command.Refresh site how) w plain = record { setup = refl; schema = refl; base = refl; snapshots = refl }
plain_stays number (command.PurgeLog master table) w plain = stays_purged master (table_place w.schema table) w
plain_stays number command.Suspend w plain = absurd plain
plain_stays number (command.Join site source) w plain = record { setup = refl; schema = refl; base = refl; snapshots = refl }
plain_stays number (command.Show what site) w plain = same w
plain_stays number (command.Procedures line) w plain = record { setup = refl; schema = refl; base = refl; snapshots = refl }

-- a line that is refused
pub refused_stays : (c : Command) (w : WorldState) → Stays w (world_refused c w)
refused_stays c w = let leaves = refused_leaves c w in record { setup = ap is_setup leaves.phase; schema = leaves.schema; base = leaves.base; snapshots = leaves.snapshots }

-- ---- behind Setup

no_setup : (now : Phase) (block : Bool) → is_setup now ≡ false → refused (not (is_setup now) || block) refusal.WrongPhase ≡ None → ⊥
no_setup phase.Setup block behind none = cc
no_setup phase.Running block behind none = cc
no_setup phase.Suspended block behind none = cc

schema_snapshot : (site : SiteName) (table : Option ℕ) (parent : Option ParentWords) (tests : List TestWords) (w : WorldState) → (with_snapshot_at site table parent tests w).schema ≡ w.schema
schema_snapshot site None parent tests w = refl
schema_snapshot site (Some table) parent tests w = refl

schema_resumed : (now : Phase) (w : WorldState) → (resumed now w).schema ≡ w.schema
schema_resumed phase.Setup w = refl
schema_resumed phase.Running w = refl
schema_resumed phase.Suspended w = refl

schema_done : (number : ℕ) (c : Command) (w : WorldState) → is_setup w.phase ≡ false → world_refusal c w ≡ None → (world_done number c w).schema ≡ w.schema
schema_done number (command.Declare declaration) w behind passes = absurd (no_setup w.phase (has_block w) behind (or_then-None (setup_step w) _ (or_then-None (declare_step declaration w) _ passes).0).0)
schema_done number (command.Snapshot site table parent tests) w behind passes = schema_snapshot site (table_place w.schema table) parent (tests_in tests) w
schema_done number (command.Row table values) w behind passes = refl
schema_done number command.Resume w behind passes = schema_resumed w.phase w
schema_done number command.Suspend w behind passes = refl
schema_done number command.Nothing w behind passes = refl
schema_done number (command.Statement statement) w behind passes = refl
schema_done number (command.Txn site) w behind passes = refl
schema_done number command.Commit w behind passes = (plain_stays number command.Commit w tt).schema
schema_done number command.Abandon w behind passes = refl
schema_done number (command.Push from to count) w behind passes = (plain_stays number (command.Push from to count) w tt).schema
schema_done number (command.Fates from to fates) w behind passes = refl
schema_done number (command.ClearFates from to) w behind passes = refl
schema_done number (command.Link from to word) w behind passes = refl
schema_done number (command.Clock site time) w behind passes = refl
schema_done number (command.Purge site) w behind passes = refl
schema_done number (command.Execute site origin position) w behind passes = refl
schema_done number (command.DropError site origin position) w behind passes = refl
schema_done number (command.Refresh site how) w behind passes = refl
schema_done number (command.PurgeLog master table) w behind passes = (plain_stays number (command.PurgeLog master table) w tt).schema
schema_done number (command.Join site source) w behind passes = refl
schema_done number (command.Show what site) w behind passes = refl
schema_done number (command.Procedures line) w behind passes = refl

-- behind Setup the schema stays
pub step_schema : (number : ℕ) (c : Command) (w : WorldState) → is_setup w.phase ≡ false → (world_step number c w).schema ≡ w.schema
step_schema number c w behind = go (world_refusal c w) refl
  where
    go : (r : Option Refusal) → world_refusal c w ≡ r → (step_by r number c w).schema ≡ w.schema
    go None is = schema_done number c w behind is
    go (Some why) is = (refused_stays c w).schema
