-- How many transactions of their own the sites of a world have journalled: a line adds one at most. And the names of its sites.
use Rattle.std.proofs.Common.{◌≡◌, ℕ, zero, suc, ◌+◌, ◌≤◌, List, [], ◌∷◌, ◌++◌, map, filter, Bool, true, false, cond, Some, None, refl, sym, ap, ◌∙◌, subst, arith}
use Rattle.std.specs.Prelude.{not, Option, Result, Ok, Err}
use Rattle.std.specs.List.{AllByRecursion}
use Rattle.rep_values.specs.declared.name.SiteName.{SiteName}
use Rattle.rep_values.specs.declared.refusal.Refusal.{Refusal}
use Rattle.rep_schema.specs.declared.schema.Schema.{Schema}
use Rattle.rep_schema.specs.declared.schema.SiteEntry.{SiteEntry}
use Rattle.rep_schema.specs.Tables.{Rows}
use Rattle.rep_schema.specs.Entries.{master_site, late_site, snapshot_site}
use Rattle.rep_schema.specs.Named.{is_site, table_place}
use Rattle.rep_calls.specs.declared.statement.Statement.{Statement}
use Rattle.rep_declare.specs.declared.declaration.Declare.{Declare}
use Rattle.rep_declare.specs.declared.declaration.Declare.TheVariants as declare
use Rattle.rep_declare.specs.Additions.{with_changed, with_site_level, declared}
use Rattle.txn_effects.specs.Calls.{Effect}
use Rattle.txn_effects.specs.Transactions.{Failure}
use Rattle.txn_effects.specs.declared.local.LocalStop.{LocalStop}
use Rattle.txn_effects.specs.Locals.{BlockEffect}
use Rattle.rep_values.specs.SiteNames.{is_same_site}
use Rattle.error_queue.specs.declared.entry.ErrorEntry.{ErrorEntry}
use Rattle.packet_code.specs.declared.packet.Packet.{Packet}
use Rattle.packet_code.specs.declared.packet.Packet.TheVariants.{Carry, Mark}
use Rattle.net_plan.specs.Directions.{is_up, on_way_between}
use Rattle.script_parse.specs.declared.command.ParentWords.{ParentWords}
use Rattle.script_parse.specs.declared.command.TestWords.{TestWords}
use Rattle.script_parse.specs.declared.command.Command.{Command}
use Rattle.script_parse.specs.declared.command.Command.TheVariants as command
use Rattle.site_state.specs.declared.answers.Why.{Why}
use Rattle.site_state.specs.declared.arrival.Arrival.{Arrival}
use Rattle.site_state.specs.declared.entry.Entry.{Entry}
use Rattle.site_state.specs.declared.entry.Entry.TheVariants.{Local, Done, Error, Executed, Dropped, Refreshed}
use Rattle.site_state.specs.State.{SiteState, arrived_at, arrivals}
use Rattle.site_state.specs.Steps.{is_empty, begun}
use Rattle.rep_lists.specs.Counting.{count_where}
use Rattle.site_state.specs.Journal.{error_at}
use Rattle.site_state.specs.Ready.{stale_of}
use Rattle.site_state.specs.Commits.{block_at, committed, committed_by, site_commit, site_clock}
use Rattle.site_state.specs.Packets.{is_foreign, arrived_by, taken_in, taken_unless, site_accept}
use Rattle.site_state.specs.Passes.{effect_here, finished_by, applied_unless, site_apply, apply_each, site_pass}
use Rattle.site_state.specs.Errors.{effect_of_error, executed_by, executed_found, site_execute, dropped_found, site_drop}
use Rattle.site_state.specs.Purges.{site_purge, site_purge_log}
use Rattle.site_state.specs.Joining.{site_open}
use Rattle.site_events.specs.Cluster.{site_of, at_site}
use Rattle.site_events.specs.Events.{master_of, found_site, refreshed_from, refreshed}
use Rattle.site_events.specs.Joins.{open_to_each, copied, with_joined, may_join, joined_by, joined}
use Rattle.world_state.specs.declared.phase.Phase.{Phase}
use Rattle.world_state.specs.declared.phase.Phase.TheVariants as phase
use Rattle.world_state.specs.declared.block.Block.{Block}
use Rattle.world_state.specs.declared.declared_snapshot.DeclaredSnapshot.{DeclaredSnapshot}
use Rattle.world_state.specs.World.{WorldState, first_world, with_site}
use Rattle.world_state.specs.Declaring.{with_snapshot_at, tests_in}
use Rattle.world_state.specs.Blocks.{closed, committed_block, is_commit}
use Rattle.site_state.specs.Rounds.{has_ready, passed_where_ready, round, rounds, sender_names, arrived_count, site_until_quiet}
use Rattle.world_state.specs.Pushes.{world_release, world_send, world_send_each, positions_above, world_send_above, taken_each, world_until_quiet, world_send_mark, world_deliver_mark, world_return_mark, pushed_in, world_push}
use Rattle.world_state.specs.CallBlocks.{sent_to}
use Rattle.world_state.specs.Making.{is_early, rows_made, site_made, entry_made}
use Rattle.world_state.specs.Refusals.{world_refusal}
use Rattle.world_state.specs.Steps.{resumed, log_purged_at, world_done, left_by, world_refused, step_by, world_step}
use Rattle.world_run.proofs.ReadNames.{IsSiteName, DeclaresName, NamesSite}

-- ---- counts

abbrev pub is_own : Entry → Bool
is_own (Local number txn) = true
is_own (Done origin position onward txn) = false
is_own (Error origin position call error txn) = false
is_own (Executed origin position onward txn) = false
is_own (Dropped origin position) = false
is_own (Refreshed moment) = false

-- how many transactions of its own a site has journalled
abbrev pub own_count : SiteState → ℕ
own_count x = count_where is_own x.journal

-- how many these sites have
abbrev pub own_counts : List SiteState → ℕ
own_counts [] = 0
own_counts (x ∷ xs) = own_count x + own_counts xs

-- one has no more than all
pub own_count-found : (name : SiteName) (sites : List SiteState) (x : SiteState) → site_of name sites ≡ Some x → own_count x ≤ own_counts sites
own_count-found name [] x found = absurd (cc found)
own_count-found name (y ∷ ys) x found = go (is_same_site y.here.site name) (own_count-found name ys x) found
  where
    go : (b : Bool) → (site_of name ys ≡ Some x → own_count x ≤ own_counts ys) → cond b (Some y) (site_of name ys) ≡ Some x → own_count x ≤ own_count y + own_counts ys
    go true later found = let same : y ≡ x = cc found in subst (λ (z : SiteState). own_count z ≤ own_count y + own_counts ys) same (omega arith)
    go false later found = omega (arith, later found)

-- ---- changes of a site that add none

abbrev KeepsOwn : (SiteState → SiteState) → Type 0
KeepsOwn change = (x : SiteState) → own_count (change x) ≡ own_count x

own_counts-at : (name : SiteName) (change : SiteState → SiteState) (sites : List SiteState) → KeepsOwn change → own_counts (at_site name change sites) ≡ own_counts sites
own_counts-at name change [] keeps = refl
own_counts-at name change (x ∷ xs) keeps = go (is_same_site x.here.site name) (own_counts-at name change xs keeps)
  where
    go : (b : Bool) → own_counts (at_site name change xs) ≡ own_counts xs → own_counts (cond b (change x ∷ xs) (x ∷ at_site name change xs)) ≡ own_count x + own_counts xs
    go true later = ap (λ (n : ℕ). n + own_counts xs) (keeps x)
    go false later = ap (λ (n : ℕ). own_count x + n) later

own_accept : (packet : Packet) → KeepsOwn (site_accept packet)
own_accept packet x = go (is_foreign packet x) packet
  where
    come : (o : Option Arrival) (from : SiteName) (a : Arrival) → own_count (arrived_by o from a x) ≡ own_count x
    come None from a = refl
    come (Some before) from a = refl

    taken : (p : Packet) → own_count (taken_in p x) ≡ own_count x
    taken (Carry from to number position dep past txn) = come (arrived_at from position x.senders) from (record { position = position; number = number; dep = dep; past = past; txn = txn })
    taken (Mark from to mark) = refl

    go : (b : Bool) (p : Packet) → own_count (taken_unless b p x) ≡ own_count x
    go true p = refl
    go false p = taken p

own_apply : (origin : SiteName) (position : ℕ) → KeepsOwn (site_apply origin position)
own_apply origin position x = go (stale_of origin position x) (arrived_at origin position x.senders)
  where
    by : (a : Arrival) (r : Result Effect Failure) → own_count (finished_by origin a r x) ≡ own_count x
    by a (Ok effect) = refl
    by a (Err failure) = refl

    go : (why : Option Why) (found : Option Arrival) → own_count (applied_unless why origin found x) ≡ own_count x
    go (Some why) found = refl
    go None None = refl
    go None (Some a) = by a (effect_here origin a x)

own_each : (origin : SiteName) (arrived : List Arrival) → KeepsOwn (apply_each origin arrived)
own_each origin [] x = refl
own_each origin (a ∷ arrived) x = own_each origin arrived (site_apply origin a.position x) ∙ own_apply origin a.position x

own_where : (origin : SiteName) → KeepsOwn (passed_where_ready origin)
own_where origin x = go (has_ready origin x)
  where
    go : (b : Bool) → own_count (cond b (site_pass origin x) x) ≡ own_count x
    go true = own_each origin (arrivals origin x) (begun x)
    go false = refl

own_round : (origins : List SiteName) → KeepsOwn (round origins)
own_round [] x = refl
own_round (origin ∷ origins) x = own_round origins (passed_where_ready origin x) ∙ own_where origin x

own_rounds : (n : ℕ) (origins : List SiteName) → KeepsOwn (rounds n origins)
own_rounds zero origins x = refl
own_rounds (suc n) origins x = own_rounds n origins (round origins x) ∙ own_round origins x

own_until_quiet : (origin : SiteName) → KeepsOwn (site_until_quiet origin)
own_until_quiet origin x = own_rounds (arrived_count (site_pass origin x).senders) (sender_names (site_pass origin x).senders) (site_pass origin x) ∙ own_each origin (arrivals origin x) (begun x)

own_execute : (origin : SiteName) (position : ℕ) → KeepsOwn (site_execute origin position)
own_execute origin position x = go (error_at origin position x.journal)
  where
    by : (e : ErrorEntry) (r : Result Effect Failure) → own_count (executed_by e r x) ≡ own_count x
    by e (Ok effect) = refl
    by e (Err failure) = refl

    go : (found : Option ErrorEntry) → own_count (executed_found found x) ≡ own_count x
    go None = refl
    go (Some e) = by e (effect_of_error e x)

own_drop : (origin : SiteName) (position : ℕ) → KeepsOwn (site_drop origin position)
own_drop origin position x = go (error_at origin position x.journal)
  where
    go : (found : Option ErrorEntry) → own_count (dropped_found found x) ≡ own_count x
    go None = refl
    go (Some e) = refl

own_refresh : (sites : List SiteState) → KeepsOwn (refreshed sites)
own_refresh sites x = go (found_site sites (master_of x.schema x.here.site)) x.here.is_master
  where
    go : (o : Option SiteState) (b : Bool) → own_count (refreshed_from o x) ≡ own_count x
    go None b = refl
    go (Some master) b = by (not x.here.is_master) _ refl
      where
        by : (c : Bool) (y : SiteState) → own_count y ≡ own_count x → own_count (cond c y x) ≡ own_count x
        by true y same = same
        by false y same = refl

-- a commit adds one at most
own_commit : (statements : List Statement) (x : SiteState) → own_count (site_commit statements x) ≤ own_count x + 1
own_commit statements x = go (block_at statements x)
  where
    by : (block : BlockEffect) (b : Bool) → own_count (cond b x (committed block x)) ≤ own_count x + 1
    by block true = omega arith
    by block false = omega arith

    go : (r : Result BlockEffect LocalStop) → own_count (committed_by r x) ≤ own_count x + 1
    go (Ok block) = by block (is_empty block.changes)
    go (Err stop) = omega arith

own_counts-commit : (name : SiteName) (statements : List Statement) (sites : List SiteState) → own_counts (at_site name (site_commit statements) sites) ≤ own_counts sites + 1
own_counts-commit name statements [] = omega arith
own_counts-commit name statements (x ∷ xs) = go (is_same_site x.here.site name) (own_counts-commit name statements xs)
  where
    go : (b : Bool) → own_counts (at_site name (site_commit statements) xs) ≤ own_counts xs + 1
        → own_counts (cond b (site_commit statements x ∷ xs) (x ∷ at_site name (site_commit statements) xs)) ≤ own_count x + own_counts xs + 1
    go true later = omega (arith, own_commit statements x)
    go false later = omega (arith, later)

-- ---- pushes

own_taken : (to : SiteName) (packets : List Packet) (sites : List SiteState) → own_counts (taken_each to packets sites) ≡ own_counts sites
own_taken to [] sites = refl
own_taken to (packet ∷ packets) sites = own_taken to packets (at_site to (site_accept packet) sites) ∙ own_counts-at to (site_accept packet) sites (own_accept packet)

-- what sending leaves: the sites and the schema
record Leaves (w y : WorldState) : Type 0 where
  sites : y.sites ≡ w.sites
  schema : y.schema ≡ w.schema

sent_leaves : (from to : SiteName) (positions : List ℕ) (w : WorldState) → Leaves w (world_send_each from to positions w)
sent_leaves from to [] w = record { sites = refl; schema = refl }
sent_leaves from to (position ∷ more) w = let later = sent_leaves from to more (world_send from to position w) in record { sites = later.sites; schema = later.schema }

-- the schema stays, and the sites have journalled as many transactions of their own
pub record KeepsCounts (w y : WorldState) : Type 0 where
  pub own : own_counts y.sites ≡ own_counts w.sites
  pub schema : y.schema ≡ w.schema

pub keeps_then : (w y z : WorldState) → KeepsCounts w y → KeepsCounts y z → KeepsCounts w z
keeps_then w y z first second = record { own = second.own ∙ first.own; schema = second.schema ∙ first.schema }

-- all that was sent comes in
pub pushed_keeps : (from to : SiteName) (count : Option ℕ) (w : WorldState) → KeepsCounts w (pushed_in from to count w)
pushed_keeps from to count w =
    let sent : WorldState = world_send_above from to count (world_release from to w) in
    let leaves : Leaves (world_release from to w) sent = sent_leaves from to (positions_above from to count (world_release from to w)) (world_release from to w) in
    record { own = own_taken to (on_way_between from to sent.net) sent.sites ∙ ap own_counts leaves.sites; schema = leaves.schema }

answered_keeps : (from to : SiteName) (w : WorldState) → KeepsCounts w (world_return_mark from to w)
answered_keeps from to w = go (is_up from to w.net)
  where
    marked : WorldState
    marked = world_send_mark from to (world_release from to w)

    go : (b : Bool) → KeepsCounts w (cond b (world_deliver_mark from to w) w)
    go true = record { own = own_taken to (on_way_between from to marked.net) w.sites; schema = refl }
    go false = record { own = refl; schema = refl }

-- one site changes
pub site_keeps : (name : SiteName) (change : SiteState → SiteState) (w : WorldState) → KeepsOwn change → KeepsCounts w (with_site name change w)
site_keeps name change w keeps = record { own = own_counts-at name change w.sites keeps; schema = refl }

push_keeps : (from to : SiteName) (count : Option ℕ) (w : WorldState) → KeepsCounts w (world_push from to count w)
push_keeps from to count w =
    let come : WorldState = pushed_in from to count w in
    keeps_then w come (world_push from to count w) (pushed_keeps from to count w)
    (keeps_then come (world_until_quiet from to come) (world_push from to count w) (site_keeps to (site_until_quiet from) come (own_until_quiet from)) (answered_keeps to from (world_until_quiet from to come)))

-- ---- joins

own_open : (others : List SiteState) (x : SiteState) → own_count (open_to_each others x) ≡ own_count x
own_open [] x = refl
own_open (other ∷ others) x = own_open others (site_open other.here.site x)

own_joined : (site : SiteName) (sites : List SiteState) (new : SiteState) → own_count new ≡ 0 → own_counts (map (site_open site) sites ++ new ∷ []) ≡ own_counts sites
own_joined site [] new none = omega (arith, none)
own_joined site (x ∷ xs) new none = ap (λ (n : ℕ). own_count x + n) (own_joined site xs new none)

own_join : (site source : SiteName) (sites : List SiteState) → own_counts (joined site source sites) ≡ own_counts sites
own_join site source sites = go (site_of site sites) (site_of source sites)
  where
    by : (x : SiteState) (b : Bool) → own_counts (cond b (with_joined sites x site) sites) ≡ own_counts sites
    by x true = own_joined site sites (copied sites x site) (own_open sites _)
    by x false = refl

    go : (there source : Option SiteState) → own_counts (joined_by sites site there source) ≡ own_counts sites
    go (Some there) source = refl
    go None None = refl
    go None (Some x) = by x (may_join sites x site)

-- ---- Setup's end

own_made : (schema : Schema) (rows : List Rows) (snapshots : List DeclaredSnapshot) (entries : List SiteEntry) → own_counts (map (entry_made schema rows snapshots) entries) ≡ 0
own_made schema rows snapshots [] = refl
own_made schema rows snapshots (e ∷ es) = omega (arith, go e.master, own_made schema rows snapshots es)
  where
    go : (master : Option SiteName) → own_count (site_made schema rows snapshots e.name master) ≡ 0
    go None = refl
    go (Some master) = refl

-- ---- names

abbrev pub HasName : SiteEntry → Type 0
HasName entry = IsSiteName entry.name

-- all names of sites of a schema are names
abbrev pub AreNamed : Schema → Type 0
AreNamed schema = AllByRecursion HasName schema.sites

named_more : (entries : List SiteEntry) (entry : SiteEntry) → AllByRecursion HasName entries → HasName entry → AllByRecursion HasName (entries ++ entry ∷ [])
named_more [] entry all is = (is, tt)
named_more (e ∷ es) entry all is = (all.0, named_more es entry all.1 is)

named_changed : (test : SiteEntry → Bool) (level : _) (entries : List SiteEntry) → AllByRecursion HasName entries → AllByRecursion HasName (with_changed test (with_site_level level) entries)
named_changed test level [] all = tt
named_changed test level (e ∷ es) all = go (test e) (named_changed test level es all.1)
  where
    go : (b : Bool) → AllByRecursion HasName (with_changed test (with_site_level level) es) → AllByRecursion HasName (cond b (with_site_level level e ∷ es) (e ∷ with_changed test (with_site_level level) es))
    go true later = (all.0, all.1)
    go false later = (all.0, later)

declared_named : (d : Declare) (schema : Schema) → DeclaresName d → AreNamed schema → AreNamed (declared d schema)
declared_named (declare.Site name) schema is named = named_more schema.sites (master_site name) named is
declared_named (declare.LateSite name) schema is named = named_more schema.sites (late_site name) named is
declared_named (declare.SnapSite name master) schema is named = named_more schema.sites (snapshot_site name master) named is
declared_named (declare.SiteLevel site level) schema is named = named_changed (is_site site) level schema.sites named
declared_named other schema is named = named

-- ---- lines

-- sites have names, and have journalled at most so many transactions of their own
pub record IsSmall (n : ℕ) (w : WorldState) : Type 0 where
  pub own : own_counts w.sites ≤ n
  pub named : AreNamed w.schema

pub first_small : IsSmall 0 first_world
first_small = record { own = omega arith; named = tt }

pub kept_small : (n : ℕ) (w y : WorldState) → KeepsCounts w y → IsSmall n w → IsSmall n y
kept_small n w y keeps small = record { own = omega (arith, keeps.own, small.own); named = subst AreNamed (sym keeps.schema) small.named }

pub more_small : (n : ℕ) (w : WorldState) → IsSmall n w → IsSmall (n + 1) w
more_small n w small = record { own = omega (arith, small.own); named = small.named }

module _ (n number : ℕ) (w : WorldState) (small : IsSmall n w) where
  kept : (y : WorldState) → KeepsCounts w y → IsSmall (n + 1) y
  kept y keeps = more_small n y (kept_small n w y keeps small)

  kept_same : (y : WorldState) → y.sites ≡ w.sites → y.schema ≡ w.schema → IsSmall (n + 1) y
  kept_same y sites schema = kept y (record { own = ap own_counts sites; schema = schema })

  kept_site : (name : SiteName) (change : SiteState → SiteState) → KeepsOwn change → IsSmall (n + 1) (with_site name change w)
  kept_site name change keeps = kept (with_site name change w) (site_keeps name change w keeps)

  snapshot_small : (site : SiteName) (table : Option ℕ) (parent : Option ParentWords) (tests : List TestWords) → IsSmall (n + 1) (with_snapshot_at site table parent tests w)
  snapshot_small site None parent tests = more_small n w small
  snapshot_small site (Some table) parent tests = kept_same _ refl refl

  resumed_small : (p : Phase) → IsSmall (n + 1) (resumed p w)
  resumed_small phase.Setup = record { own = omega (arith, own_made w.schema (rows_made w.schema w.base) w.snapshots (filter (is_early w.schema) w.schema.sites)); named = small.named }
  resumed_small phase.Running = more_small n w small
  resumed_small phase.Suspended = kept_same _ refl refl

  commit_small : (block : Option Block) → IsSmall (n + 1) (committed_block block w)
  commit_small None = more_small n w small
  commit_small (Some block) = record { own = omega (arith, own_counts-commit block.site block.statements w.sites, small.own); named = small.named }

  purged_small : (site : SiteName) (table : Option ℕ) → IsSmall (n + 1) (log_purged_at site table w)
  purged_small site None = more_small n w small
  purged_small site (Some table) = kept_site site (site_purge_log table) (λ x. refl)

  done_small : (c : Command) → NamesSite c → IsSmall (n + 1) (world_done number c w)
  done_small command.Nothing named = more_small n w small
  done_small (command.Declare d) named = record { own = omega (arith, small.own); named = declared_named d w.schema named small.named }
  done_small (command.Snapshot site table parent tests) named = snapshot_small site (table_place w.schema table) parent (tests_in tests)
  done_small (command.Row table values) named = kept_same _ refl refl
  done_small command.Resume named = resumed_small w.phase
  done_small (command.Statement statement) named = kept_same _ refl refl
  done_small (command.Txn site) named = kept_same _ refl refl
  done_small command.Commit named = commit_small w.block
  done_small command.Abandon named = kept_same _ refl refl
  done_small (command.Push from to count) named = kept (world_push from to count w) (push_keeps from to count w)
  done_small (command.Fates from to fates) named = kept_same _ refl refl
  done_small (command.ClearFates from to) named = kept_same _ refl refl
  done_small (command.Link from to word) named = kept_same _ refl refl
  done_small (command.Clock site time) named = kept_site site (site_clock time) (λ x. refl)
  done_small (command.Purge site) named = kept_site site site_purge (λ x. refl)
  done_small (command.Execute site origin position) named = kept_site site (site_execute origin position) (own_execute origin position)
  done_small (command.DropError site origin position) named = kept_site site (site_drop origin position) (own_drop origin position)
  done_small (command.Refresh site how) named = kept_site site (refreshed w.sites) (own_refresh w.sites)
  done_small (command.PurgeLog master table) named = purged_small master (table_place w.schema table)
  done_small command.Suspend named = kept_same _ refl refl
  done_small (command.Join site source) named = kept (world_done number (command.Join site source) w) (record { own = own_join site source w.sites; schema = refl })
  done_small (command.Show what site) named = more_small n w small
  done_small (command.Procedures line) named = kept_same _ refl refl

  refused_small : (c : Command) → IsSmall (n + 1) (world_refused c w)
  refused_small c = go (is_commit c) (sent_to c)
    where
      go : (b : Bool) (to : Option (List SiteName)) → IsSmall (n + 1) (cond b (closed w) (left_by to w))
      go true to = kept_same _ refl refl
      go false None = more_small n w small
      go false (Some to) = kept_same _ refl refl

  -- a line, whatever refusal it meets
  pub step_small : (c : Command) → NamesSite c → IsSmall (n + 1) (world_step number c w)
  step_small c named = go (world_refusal c w)
    where
      go : (o : Option Refusal) → IsSmall (n + 1) (step_by o number c w)
      go None = done_small c named
      go (Some why) = refused_small c
