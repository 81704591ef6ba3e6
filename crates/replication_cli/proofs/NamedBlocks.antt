-- The site of an open block has a name, whatever comes of a line.
use Rattle.std.proofs.Common.{◌≡◌, ℕ, Bool, true, false, cond, List, [], ◌∷◌, ◌++◌, length, Some, None, refl, sym, ap, subst, ◌∙◌, inl, inr}
use Rattle.std.specs.Prelude.{◌⊎◌, Option, nat_lt}
use Rattle.rep_values.specs.Name.{is_name}
use Rattle.rep_values.specs.declared.name.SiteName.{SiteName}
use Rattle.rep_calls.specs.declared.statement.Statement.{Statement}
use Rattle.txn_effects.specs.Locals.{most_statements}
use Rattle.net_plan.specs.Directions.{is_up}
use Rattle.rep_schema.specs.Named.{table_place}
use Rattle.script_parse.specs.declared.command.Command.{Command}
use Rattle.script_parse.specs.declared.command.Command.TheVariants as command
use Rattle.script_parse.specs.declared.proc_line.ProcLine.{ProcLine}
use Rattle.script_parse.specs.declared.proc_line.ProcLine.TheVariants as proc_line
use Rattle.script_parse.specs.declared.command.ParentWords.{ParentWords}
use Rattle.script_parse.specs.declared.command.TestWords.{TestWords}
use Rattle.script_parse.specs.Spelled.{IsWellFormed}
use Rattle.world_state.specs.declared.block.Block.{Block}
use Rattle.world_state.specs.declared.phase.Phase.{Phase}
use Rattle.world_state.specs.declared.phase.Phase.TheVariants as phase
use Rattle.world_state.specs.declared.refused.Refused.{Refused}
use Rattle.world_state.specs.World.{WorldState}
use Rattle.world_state.specs.Declaring.{with_snapshot_at, tests_in}
use Rattle.world_state.specs.Blocks.{block_with, is_commit, closed, committed_block}
use Rattle.world_state.specs.CallBlocks.{sent_to}
use Rattle.world_state.specs.Pushes.{world_release, world_send, world_send_each, positions_above, pushed_in, world_until_quiet, world_deliver_mark, world_return_mark, world_push}
use Rattle.world_state.specs.Steps.{resumed, log_purged_at, left_by, world_done, world_refused}
use Rattle.world.specs.declared.answer.Answer.{Answer}
use Rattle.world.specs.Doing.{IsDone, IsOutOfMemory, IsRefused, is_push, is_push_of_calls}
use Rattle.replication_cli.specs.Runs.{IsNamedBlock}

-- ---- each line

named_stated : (line : ℕ) (s : Statement) (o : Option Block) → IsNamedBlock o → IsNamedBlock (block_with line s o)
named_stated line s None named = tt
named_stated line s (Some block) named = go (nat_lt most_statements (length block.statements))
  where
    go : (t : Bool) → is_name (cond t block (record block { lines = block.lines ++ line ∷ []; statements = block.statements ++ s ∷ [] })).site.0 ≡ true
    go true = named
    go false = named

named_committed : (o : Option Block) (w : WorldState) → IsNamedBlock w.block → IsNamedBlock (committed_block o w).block
named_committed None w named = named
named_committed (Some block) w named = tt

block_resumed : (p : Phase) (w : WorldState) → (resumed p w).block ≡ w.block
block_resumed phase.Setup w = refl
block_resumed phase.Running w = refl
block_resumed phase.Suspended w = refl

block_snapshot : (site : SiteName) (table : Option ℕ) (parent : Option ParentWords) (tests : List TestWords) (w : WorldState) → (with_snapshot_at site table parent tests w).block ≡ w.block
block_snapshot site None parent tests w = refl
block_snapshot site (Some table) parent tests w = refl

block_log_purged : (site : SiteName) (table : Option ℕ) (w : WorldState) → (log_purged_at site table w).block ≡ w.block
block_log_purged site None w = refl
block_log_purged site (Some table) w = refl

block_each : (from to : SiteName) (positions : List ℕ) (w : WorldState) → (world_send_each from to positions w).block ≡ w.block
block_each from to [] w = refl
block_each from to (position ∷ more) w = block_each from to more (world_send from to position w)

block_answered : (from to : SiteName) (w : WorldState) → (world_return_mark from to w).block ≡ w.block
block_answered from to w = go (is_up from to w.net)
  where
    go : (t : Bool) → (cond t (world_deliver_mark from to w) w).block ≡ w.block
    go true = refl
    go false = refl

block_pushed : (from to : SiteName) (count : Option ℕ) (w : WorldState) → (world_push from to count w).block ≡ w.block
block_pushed from to count w =
    block_answered to from (world_until_quiet from to (pushed_in from to count w))
    ∙ block_each from to (positions_above from to count (world_release from to w)) (world_release from to w)

-- what stays the same has a name still
stays : (o p : Option Block) → p ≡ o → IsNamedBlock o → IsNamedBlock p
stays o p same named = subst IsNamedBlock (sym same) named

named_done : (number : ℕ) (c : Command) (w : WorldState) → IsWellFormed c → IsNamedBlock w.block → IsNamedBlock (world_done number c w).block
named_done number (command.Snapshot site table parent tests) w formed named = stays _ _ (block_snapshot site (table_place w.schema table) parent (tests_in tests) w) named
named_done number command.Resume w formed named = stays _ _ (block_resumed w.phase w) named
named_done number (command.Statement statement) w formed named = named_stated number statement w.block named
named_done number (command.Txn site) w formed named = formed
named_done number command.Commit w formed named = named_committed w.block w named
named_done number command.Abandon w formed named = tt
named_done number (command.Push from to count) w formed named = stays _ _ (block_pushed from to count w) named
named_done number (command.PurgeLog master table) w formed named = stays _ _ (block_log_purged master (table_place w.schema table) w) named
named_done number _ w formed named = named

named_left : (o : Option (List SiteName)) (w : WorldState) → IsNamedBlock w.block → IsNamedBlock (left_by o w).block
named_left None w named = named
named_left (Some to) w named = named

named_refused : (c : Command) (w : WorldState) → IsNamedBlock w.block → IsNamedBlock (world_refused c w).block
named_refused c w named = go (is_commit c)
  where
    go : (t : Bool) → IsNamedBlock (cond t (closed w) (left_by (sent_to c) w)).block
    go true = tt
    go false = named_left (sent_to c) w named

-- ---- want of memory

block_called : (number : ℕ) (line : ProcLine) (old new : WorldState) (r : Refused) → is_push_of_calls line ≡ true → IsOutOfMemory number (command.Procedures line) old new r → new.block ≡ old.block
block_called number (proc_line.Push from to) old new r is short = ap (λ (w : WorldState). w.block) (short.called from to refl).rest
block_called number _ old new r is short = absurd (cc is)

block_short : (number : ℕ) (c : Command) (old new : WorldState) (r : Refused) → is_push c ≡ true → IsOutOfMemory number c old new r → new.block ≡ old.block
block_short number (command.Push from to count) old new r is short = (short.pushed from to count refl).beside.block
block_short number (command.Procedures line) old new r is short = block_called number line old new r is short
block_short number _ old new r is short = absurd (cc is)

named_short : (number : ℕ) (c : Command) (old new : WorldState) (r : Refused) → IsOutOfMemory number c old new r → IsNamedBlock old.block → IsNamedBlock new.block
named_short number c old new r short named = go (is_push c) refl
  where
    go : (t : Bool) → is_push c ≡ t → IsNamedBlock new.block
    go true is = stays _ _ (block_short number c old new r is short) named
    go false is = stays _ _ (ap (λ (w : WorldState). w.block) (short.kept is)) named

-- ---- what came of a line

-- behind a line that was done
pub named_behind : (number : ℕ) (c : Command) (old new : WorldState) (answer : Answer) → IsWellFormed c → IsDone number c old new answer → IsNamedBlock old.block → IsNamedBlock new.block
named_behind number c old new answer formed done named = stays _ _ (ap (λ (w : WorldState). w.block) done.world) (named_done number c old formed named)

-- behind one that wasn't
pub named_still : (number : ℕ) (c : Command) (old new : WorldState) (r : Refused) → IsOutOfMemory number c old new r ⊎ IsRefused number c old new r → IsNamedBlock old.block → IsNamedBlock new.block
named_still number c old new r (inl short) named = named_short number c old new r short named
named_still number c old new r (inr refused) named = stays _ _ (ap (λ (w : WorldState). w.block) refused.world) (named_refused c old named)
