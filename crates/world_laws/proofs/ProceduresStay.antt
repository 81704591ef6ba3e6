-- Procedures stay built, line by line.
use Rattle.std.proofs.Common.{◌≡◌, ℕ, suc, List, [], ◌∷◌, map, Bool, true, false, cond, not, Some, None, refl, sym, ap, ◌∙◌, arith, subst}
use Rattle.std.specs.Prelude.{◌||◌, Option, option_map}
use Rattle.std.specs.List.{position, AllByRecursion}
use Rattle.rep_values.specs.declared.name.SiteName.{SiteName}
use Rattle.rep_values.specs.declared.refusal.Refusal.{Refusal}
use Rattle.rep_values.specs.declared.refusal.Refusal.TheVariants as refusal
use Rattle.rep_values.specs.RefusalSteps.{refused}
use Rattle.rep_values.proofs.RefusalSteps.{or_then-None}
use Rattle.rep_schema.specs.declared.schema.Schema.{Schema}
use Rattle.rep_schema.specs.Shape.{HasShape}
use Rattle.rep_schema.specs.Named.{is_table, table_place}
use Rattle.rep_schema.specs.Sites.{linked_pairs}
use Rattle.net_plan.specs.Directions.{is_up}
use Rattle.deferred_queue.specs.Streams.{acked_by}
use Rattle.rep_values.specs.SiteNames.{is_same_site}
use Rattle.site_state.specs.Making.{new_sender}
use Rattle.site_events.specs.Events.{without}
use Rattle.schema_rules.specs.Rules.{broken_rule}
use Rattle.proc_state.specs.declared.procedure.Action.{Action}
use Rattle.proc_state.specs.declared.procedure.Procedure.{Procedure}
use Rattle.proc_state.specs.State.{ProcState, no_mark}
use Rattle.proc_state.specs.Events.{Call, AreCalls}
use Rattle.script_parse.specs.declared.command.Command.{Command}
use Rattle.script_parse.specs.declared.command.Command.TheVariants as command
use Rattle.script_parse.specs.declared.command.ParentWords.{ParentWords}
use Rattle.script_parse.specs.declared.command.TestWords.{TestWords}
use Rattle.script_parse.specs.declared.proc_line.CallWords.{CallWords}
use Rattle.script_parse.specs.declared.proc_line.ProcLine.{ProcLine}
use Rattle.script_parse.specs.declared.proc_line.ProcLine.TheVariants as proc_line
use Rattle.script_parse.specs.Named.{NamesColumn}
use Rattle.world_state.specs.declared.phase.Phase.{Phase}
use Rattle.world_state.specs.declared.phase.Phase.TheVariants as phase
use Rattle.world_state.specs.declared.block.Block.{Block}
use Rattle.world_state.specs.declared.call_block.CallBlock.{CallBlock}
use Rattle.world_state.specs.declared.call_block.CallStop.{CallStop}
use Rattle.world_state.specs.World.{WorldState, first_world}
use Rattle.world_state.specs.Procs.{Procs, proc_schema, early_masters, proc_made, procs_made, proc_of, at_proc}
use Rattle.world_state.specs.Blocks.{closed, is_commit, committed_block}
use Rattle.world_state.specs.CallBlocks.{masters_named, calls_of, words_sent, block_sent, calls_sent, words_stop, calls_stop, stop_or, stop_at_proc, call_block_stop, send_stop, stop_refusal, can_send_to, sent_to}
use Rattle.world_state.specs.CallPushes.{calls_release, calls_send, calls_send_each, calls_positions, calls_push}
use Rattle.world_state.specs.ProcDeclaring.{procedure_at}
use Rattle.world_state.specs.Declaring.{with_snapshot_at, tests_in}
use Rattle.world_state.specs.Phases.{is_setup, has_block, setup_step, declare_step, behind_setup_step, broken_by, lowest_broken, resume_step, phase_step, proc_phase_step}
use Rattle.world_state.specs.ProcSteps.{procs_done}
use Rattle.world_state.specs.Pushes.{world_send, world_send_each, positions_above, world_release, world_until_quiet, pushed_in, world_deliver_mark, world_return_mark, world_push}
use Rattle.world_state.specs.Refusals.{world_refusal}
use Rattle.world_state.specs.Steps.{resumed, log_purged_at, world_done, left_by, world_refused, step_by, world_step, world_steps}
use Rattle.world_state.proofs.LowestRules.{lower-None, broken_by-None}
use Rattle.world_laws.specs.Reached.{IsOfScript, InSetup, Behind}
use Rattle.world_laws.specs.Scripts.{script_world}
use Rattle.world_laws.proofs.Scripts.{HasShape-no_schema, step_of_script, first_of_script}
use Rattle.world_laws.specs.Streams.{MarksAreLow, ArrivedOfStreams, SenderHasArrived, JournalOfStreams}
use Rattle.world_laws.specs.Built.{proc_names, ComesFromCalls, AreProcsDeclared, AreMade, AreProcsMade, AreProcsBuilt}
use Rattle.world_laws.proofs.Nets.{new_has}
use Rattle.world_laws.proofs.SiteStreams.{KeepsStreams, keeps_same, call_keeps}
use Rattle.world_laws.proofs.Made.{Happens, none_happens, one_happens, site_is, site_works, fates_made, execute_made, push_made}
use Rattle.world_laws.proofs.CallSending.{are_calls}
use Rattle.world_laws.proofs.Declared.{declared_table, declared_procedure, proc_keyed, procedures_beside}

-- ---- at first

pub first_procs : AreProcsBuilt first_world
first_procs = record {
  declared = record { shape = HasShape-no_schema; tables = tt; procedures = tt };
  none = λ setup. refl;
  made = λ behind. cc;
}

-- ---- what leaves procedures alone

alike_procs : (w y : WorldState) → is_setup y.phase ≡ is_setup w.phase → y.schema ≡ w.schema → y.procs ≡ w.procs → AreProcsBuilt w → AreProcsBuilt y
alike_procs w y setup schema procs b = record {
  declared = subst AreProcsDeclared (sym procs) b.declared;
  none = λ is. ap (λ (p : Procs). p.sites) procs ∙ b.none (sym setup ∙ is);
  made = λ is. subst (λ (s : Schema). AreMade s y.procs) (sym schema) (subst (AreMade w.schema) (sym procs) (b.made (sym setup ∙ is)));
}

-- what there is of procedures, the phase and the schema are as they were
pub same_procs : (w y : WorldState) → y.phase ≡ w.phase → y.schema ≡ w.schema → y.procs ≡ w.procs → AreProcsBuilt w → AreProcsBuilt y
same_procs w y phase schema procs b = alike_procs w y (ap is_setup phase) schema procs b

-- in Setup another schema changes nothing
setup_procs : (w y : WorldState) → is_setup w.phase ≡ true → y.phase ≡ w.phase → y.procs ≡ w.procs → AreProcsBuilt w → AreProcsBuilt y
setup_procs w y setup phase procs b = record {
  declared = subst AreProcsDeclared (sym procs) b.declared;
  none = λ is. ap (λ (p : Procs). p.sites) procs ∙ b.none setup;
  made = λ is. let in_setup : is_setup y.phase ≡ true = ap is_setup phase ∙ setup in absurd (cc (is, in_setup));
}

-- ---- Setup's end

new_names : (schema : Schema) (procedures : List Procedure) (masters names : List SiteName) → proc_names (map (proc_made schema procedures masters) names) ≡ names
new_names schema procedures masters [] = refl
new_names schema procedures masters (name ∷ names) = ap (λ (ns : List SiteName). name ∷ ns) (new_names schema procedures masters names)

new_comes : (schema : Schema) (procedures : List Procedure) (masters names : List SiteName) → AllByRecursion (ComesFromCalls schema procedures masters) (map (proc_made schema procedures masters) names)
new_comes schema procedures masters [] = tt
new_comes schema procedures masters (name ∷ names) = (record { events = []; fit = tt; is = refl }, new_comes schema procedures masters names)

none_arrived : (sites : List ProcState) (me : SiteName) (names : List SiteName) → AllByRecursion (SenderHasArrived sites me) (map new_sender names)
none_arrived sites me [] = tt
none_arrived sites me (name ∷ names) = (tt, none_arrived sites me names)

none_acked : (to : SiteName) (names : List SiteName) → acked_by to (map no_mark names) ≡ 0
none_acked to [] = refl
none_acked to (name ∷ names) = go (is_same_site name to) (none_acked to names)
  where
    go : (b : Bool) → acked_by to (map no_mark names) ≡ 0 → cond b 0 (acked_by to (map no_mark names)) ≡ 0
    go true later = refl
    go false later = later

-- nothing has arrived at a new site, and nothing is acknowledged there
new_arrived : (sites : List ProcState) (schema : Schema) (procedures : List Procedure) (masters names : List SiteName) → AllByRecursion (ArrivedOfStreams sites) (map (proc_made schema procedures masters) names)
new_arrived sites schema procedures masters [] = tt
new_arrived sites schema procedures masters (name ∷ names) = (none_arrived sites name (without name masters), new_arrived sites schema procedures masters names)

new_marks : (sites : List ProcState) (schema : Schema) (procedures : List Procedure) (masters names : List SiteName) → AllByRecursion (MarksAreLow sites) (map (proc_made schema procedures masters) names)
new_marks sites schema procedures masters [] = tt
new_marks sites schema procedures masters (name ∷ names) = ((λ to. omega (arith, none_acked to (without name masters))), new_marks sites schema procedures masters names)

new_journals : (sites : List ProcState) (schema : Schema) (procedures : List Procedure) (masters names : List SiteName) → AllByRecursion (JournalOfStreams sites) (map (proc_made schema procedures masters) names)
new_journals sites schema procedures masters [] = tt
new_journals sites schema procedures masters (name ∷ names) = (tt, new_journals sites schema procedures masters names)

made_procs : (schema : Schema) (p : Procs) → HasShape schema → AreProcsDeclared p → lowest_broken schema p.tables ≡ None → AreMade schema (procs_made schema p)
made_procs schema p shape d unbroken =
    let well = broken_by-None p.tables (lower-None (broken_rule schema) (broken_by p.tables) unbroken).1 in
    let masters = early_masters schema in
    let sites = map (proc_made (proc_schema schema p.tables) p.procedures masters) masters in
    record {
      keyed = proc_keyed schema p shape d well;
      procedures = procedures_beside schema p.tables p.procedures d.procedures;
      names = new_names (proc_schema schema p.tables) p.procedures masters masters;
      sites = new_comes (proc_schema schema p.tables) p.procedures masters masters;
      packets = new_has _ (linked_pairs schema.sites);
      streams = record {
        carried = new_has _ (linked_pairs schema.sites);
        arrived = new_arrived sites (proc_schema schema p.tables) p.procedures masters masters;
        marks = new_marks sites (proc_schema schema p.tables) p.procedures masters masters;
        journals = new_journals sites (proc_schema schema p.tables) p.procedures masters masters;
      };
    }

no_rule : (o : Option ℕ) → option_map refusal.SchemaRule o ≡ None → o ≡ None
no_rule None is = refl
no_rule (Some rule) is = absurd (cc is)

resumed_procs : (now : Phase) (w : WorldState) → w.phase ≡ now → (is_setup w.phase ≡ true → HasShape w.schema) → resume_step now (lowest_broken w.schema w.procs.tables) ≡ None → AreProcsBuilt w → AreProcsBuilt (resumed now w)
resumed_procs phase.Setup w is shape passes b = record {
  declared = record { shape = b.declared.shape; tables = b.declared.tables; procedures = b.declared.procedures };
  none = λ setup. absurd (cc setup);
  made = λ behind. made_procs w.schema w.procs (shape (ap is_setup is)) b.declared (no_rule (lowest_broken w.schema w.procs.tables) passes);
}
resumed_procs phase.Running w is shape passes b = b
resumed_procs phase.Suspended w is shape passes b = alike_procs w (record w { phase = phase.Running }) (sym (ap is_setup is)) refl refl b

-- ---- lines about procedures

-- behind Setup what there is of procedures changes, and what is declared stays
changed_procs : (w : WorldState) (p : Procs) → is_setup w.phase ≡ false → p.tables ≡ w.procs.tables → p.procedures ≡ w.procs.procedures → (AreProcsMade w → AreMade w.schema p) → AreProcsBuilt w
    → AreProcsBuilt (record w { procs = p })
changed_procs w p behind tables procedures made b = record {
  declared = record {
    shape = rw tables b.declared.shape;
    tables = rw tables b.declared.tables;
    procedures = rw (tables, procedures) b.declared.procedures;
  };
  none = λ setup. absurd (cc (setup, behind));
  made = λ is. made (b.made behind);
}

-- a block opens, grows or closes
block_procs : (w : WorldState) (block : Option CallBlock) → AreProcsBuilt w → AreProcsBuilt (record w { procs = record w.procs { block = block } })
block_procs w block b = record {
  declared = record { shape = b.declared.shape; tables = b.declared.tables; procedures = b.declared.procedures };
  none = b.none;
  made = λ behind. closed_made (b.made behind);
}
  where
    closed_made : AreProcsMade w → AreMade w.schema (record w.procs { block = block })
    closed_made m = record { keyed = m.keyed; procedures = m.procedures; names = m.names; sites = m.sites; packets = m.packets; streams = m.streams }

-- in Setup more is declared
declared_procs : (w : WorldState) (p : Procs) → is_setup w.phase ≡ true → p.sites ≡ w.procs.sites → AreProcsDeclared p → AreProcsBuilt w → AreProcsBuilt (record w { procs = p })
declared_procs w p setup sites d b = record { declared = d; none = λ is. sites ∙ b.none setup; made = λ behind. absurd (cc (setup, behind)) }

in_setup : (w : WorldState) → setup_step w ≡ None → is_setup w.phase ≡ true
in_setup w passes = go (is_setup w.phase) (has_block w) passes
  where
    go : (setup block : Bool) → refused (not setup || block) refusal.WrongPhase ≡ None → setup ≡ true
    go true block none = refl
    go false block none = absurd (cc none)

pub is_behind : (w : WorldState) → behind_setup_step w ≡ None → is_setup w.phase ≡ false
is_behind w passes = go (is_setup w.phase) (has_block w) passes
  where
    go : (setup block : Bool) → refused (setup || block) refusal.WrongPhase ≡ None → setup ≡ false
    go true block none = absurd (cc none)
    go false block none = refl

-- a send of calls of which none is refused
sent_happens : (schema : Schema) (procedures : List Procedure) (x : ProcState) (calls : List CallWords) (to : List SiteName) → x.schema ≡ schema → x.procedures ≡ procedures → words_stop x 1 calls ≡ None
    → Happens schema procedures x (words_sent calls to x)
sent_happens schema procedures x [] to same alike passes = none_happens schema procedures x
sent_happens schema procedures x (call ∷ calls) to same alike passes =
    let fit : AreCalls schema procedures (calls_of x (call ∷ calls)) =
    subst (λ (s : Schema). AreCalls s procedures (calls_of x (call ∷ calls))) same
    (subst (λ (qs : List Procedure). AreCalls x.schema qs (calls_of x (call ∷ calls))) alike (are_calls x call calls passes)) in
    one_happens schema procedures (Call (calls_of x (call ∷ calls)) (masters_named to x)) x fit

sent_keeps : (calls : List CallWords) (to : List SiteName) (sites : List ProcState) (x : ProcState) → KeepsStreams sites x (words_sent calls to x)
sent_keeps [] to sites x = keeps_same sites x
sent_keeps (call ∷ calls) to sites x = call_keeps sites (calls_of x (call ∷ calls)) (masters_named to x) x

no_stop : (o : Option CallStop) → stop_refusal o ≡ None → o ≡ None
no_stop None is = refl
no_stop (Some stop) is = absurd (cc is)

no_first : (one following : Option CallStop) → stop_or one following ≡ None → one ≡ None
no_first None following is = refl
no_first (Some stop) following is = absurd (cc is)

block_made : (schema : Schema) (p : Procs) (block : Option CallBlock) (to : List SiteName) → call_block_stop block p ≡ None → AreMade schema p → AreMade schema (block_sent block to p)
block_made schema p None to passes m = m
block_made schema p (Some block) to passes m = closed_too (site_works schema p block.site (words_sent block.calls to) happens (sent_keeps block.calls to) m)
  where
    passes_at : (o : Option ProcState) → proc_of block.site p.sites ≡ o → (x : ProcState) → o ≡ Some x → words_stop x 1 block.calls ≡ None
    passes_at None found x is = absurd (cc is)
    passes_at (Some y) found x is =
        let here : calls_stop y block.calls ≡ None = subst (λ (o : Option ProcState). stop_at_proc block.calls o ≡ None) found passes in
        let same : y ≡ x = cc is in
        subst (λ (z : ProcState). words_stop z 1 block.calls ≡ None) same (no_first (words_stop y 1 block.calls) _ here)

    happens : (x : ProcState) → proc_of block.site p.sites ≡ Some x → Happens (proc_schema schema p.tables) p.procedures x (words_sent block.calls to x)
    happens x found =
        let is = site_is schema p m block.site x found in
        sent_happens (proc_schema schema p.tables) p.procedures x block.calls to is.schema_is is.procedures_are (passes_at (proc_of block.site p.sites) refl x found)

    closed_too : AreMade schema (record p { sites = at_proc block.site (words_sent block.calls to) p.sites }) → AreMade schema (block_sent (Some block) to p)
    closed_too n = record { keyed = n.keyed; procedures = n.procedures; names = n.names; sites = n.sites; packets = n.packets; streams = n.streams }

-- what a send leaves
sent_nowhere : (block : Option CallBlock) (to : List SiteName) (p : Procs) → p.sites ≡ [] → (block_sent block to p).sites ≡ p.sites
sent_nowhere None to p none = refl
sent_nowhere (Some block) to p none = rw none refl

sent_declared : (block : Option CallBlock) (to : List SiteName) (p : Procs) → AreProcsDeclared p → AreProcsDeclared (block_sent block to p)
sent_declared None to p d = d
sent_declared (Some block) to p d = record { shape = d.shape; tables = d.tables; procedures = d.procedures }

sent_tables : (block : Option CallBlock) (to : List SiteName) (p : Procs) → (block_sent block to p).tables ≡ p.tables
sent_tables None to p = refl
sent_tables (Some block) to p = refl

sent_procedures : (block : Option CallBlock) (to : List SiteName) (p : Procs) → (block_sent block to p).procedures ≡ p.procedures
sent_procedures None to p = refl
sent_procedures (Some block) to p = refl

-- what a push leaves
send_each_tables : (from to : SiteName) (positions : List ℕ) (p : Procs) → (calls_send_each from to positions p).tables ≡ p.tables
send_each_tables from to [] p = refl
send_each_tables from to (position ∷ more) p = send_each_tables from to more (calls_send from to position p)

send_each_procedures : (from to : SiteName) (positions : List ℕ) (p : Procs) → (calls_send_each from to positions p).procedures ≡ p.procedures
send_each_procedures from to [] p = refl
send_each_procedures from to (position ∷ more) p = send_each_procedures from to more (calls_send from to position p)

push_tables : (up : Bool) (from to : SiteName) (p : Procs) → (calls_push up from to p).tables ≡ p.tables
push_tables true from to p = send_each_tables from to (calls_positions from to (calls_release from to p)) (calls_release from to p)
push_tables false from to p = send_each_tables from to (calls_positions from to (calls_release from to p)) (calls_release from to p)

push_procedures : (up : Bool) (from to : SiteName) (p : Procs) → (calls_push up from to p).procedures ≡ p.procedures
push_procedures true from to p = send_each_procedures from to (calls_positions from to (calls_release from to p)) (calls_release from to p)
push_procedures false from to p = send_each_procedures from to (calls_positions from to (calls_release from to p)) (calls_release from to p)

same_sites : (table : Option ℕ) (name : List ℕ) (does : Action) (p : Procs) → (procedure_at table name does p).sites ≡ p.sites
same_sites None name does p = refl
same_sites (Some table) name does p = refl

-- where a block of calls is open, sites are made
line_procs : (number : ℕ) (line : ProcLine) (w : WorldState) → world_refusal (command.Procedures line) w ≡ None → AreProcsBuilt w → AreProcsBuilt (world_done number (command.Procedures line) w)
line_procs number (proc_line.Table name columns) w passes b =
    let steps = or_then-None (setup_step w) _ passes in
    declared_procs w (procs_done number (proc_line.Table name columns) w.net w.procs) (in_setup w steps.0) refl (declared_table name columns w steps.1 b.declared) b
line_procs number (proc_line.Procedure name table does) w passes b = let steps = or_then-None (setup_step w) _ passes in
    declared_procs w (procs_done number (proc_line.Procedure name table does) w.net w.procs) (in_setup w steps.0) (same_sites (position (is_table table) w.procs.tables) name _ w.procs) (declared_procedure name table does w.procs steps.1 b.declared) b
line_procs number (proc_line.Calls site) w passes b = block_procs w _ b
line_procs number (proc_line.Call call) w passes b = block_procs w _ b
line_procs number (proc_line.Send to) w passes b = by_phase (is_setup w.phase) refl
  where
    none : call_block_stop w.procs.block w.procs ≡ None
    none =
        let steps = or_then-None (proc_phase_step (proc_line.Send to) w) _ passes in
        let names = or_then-None (refused (not (can_send_to to w.procs)) refusal.UnknownName) _ steps.1 in
        no_stop (send_stop w.procs) (or_then-None (stop_refusal (send_stop w.procs)) None names.1).0

    by_phase : (setup : Bool) → is_setup w.phase ≡ setup → AreProcsBuilt (record w { procs = calls_sent to w.procs })
    by_phase true is = declared_procs w (calls_sent to w.procs) is (sent_nowhere w.procs.block to w.procs (b.none is)) (sent_declared w.procs.block to w.procs b.declared) b
    by_phase false is = changed_procs w (calls_sent to w.procs) is (sent_tables w.procs.block to w.procs) (sent_procedures w.procs.block to w.procs) (block_made w.schema w.procs w.procs.block to none) b
line_procs number (proc_line.Push from to) w passes b =
    let behind = is_behind w (or_then-None (behind_setup_step w) _ passes).0 in
    changed_procs w (procs_done number (proc_line.Push from to) w.net w.procs) behind (push_tables (is_up to from w.net) from to w.procs) (push_procedures (is_up to from w.net) from to w.procs)
    (push_made w.schema (is_up to from w.net) from to w.procs) b
line_procs number (proc_line.Fates from to fates) w passes b =
    changed_procs w (procs_done number (proc_line.Fates from to fates) w.net w.procs) (is_behind w (or_then-None (behind_setup_step w) _ passes).0) refl refl (fates_made w.schema from to fates w.procs) b
line_procs number (proc_line.Execute site origin position) w passes b =
    changed_procs w (procs_done number (proc_line.Execute site origin position) w.net w.procs) (is_behind w (or_then-None (behind_setup_step w) _ passes).0) refl refl (execute_made w.schema site origin position w.procs) b

-- ---- every line

-- beside procedures something changes
record Beside (w y : WorldState) : Type 0 where
  phase : y.phase ≡ w.phase
  schema : y.schema ≡ w.schema
  procs : y.procs ≡ w.procs

beside_same : (w : WorldState) → Beside w w
beside_same w = record { phase = refl; schema = refl; procs = refl }

beside_then : (w y z : WorldState) → Beside w y → Beside y z → Beside w z
beside_then w y z first second = record { phase = second.phase ∙ first.phase; schema = second.schema ∙ first.schema; procs = second.procs ∙ first.procs }

beside_built : (w y : WorldState) → Beside w y → AreProcsBuilt w → AreProcsBuilt y
beside_built w y beside b = same_procs w y beside.phase beside.schema beside.procs b

snapshot_beside : (site : SiteName) (table : Option ℕ) (parent : Option ParentWords) (tests : List TestWords) (w : WorldState) → Beside w (with_snapshot_at site table parent tests w)
snapshot_beside site None parent tests w = beside_same w
snapshot_beside site (Some table) parent tests w = record { phase = refl; schema = refl; procs = refl }

commit_beside : (block : Option Block) (w : WorldState) → Beside w (committed_block block w)
commit_beside None w = beside_same w
commit_beside (Some block) w = record { phase = refl; schema = refl; procs = refl }

log_beside : (site : SiteName) (table : Option ℕ) (w : WorldState) → Beside w (log_purged_at site table w)
log_beside site None w = beside_same w
log_beside site (Some table) w = record { phase = refl; schema = refl; procs = refl }

send_each_beside : (from to : SiteName) (positions : List ℕ) (w : WorldState) → Beside w (world_send_each from to positions w)
send_each_beside from to [] w = beside_same w
send_each_beside from to (position ∷ more) w =
    beside_then w (world_send from to position w) (world_send_each from to more (world_send from to position w)) (record { phase = refl; schema = refl; procs = refl })
    (send_each_beside from to more (world_send from to position w))

answer_beside : (from to : SiteName) (w : WorldState) → Beside w (world_return_mark from to w)
answer_beside from to w = go (is_up from to w.net)
  where
    go : (b : Bool) → Beside w (cond b (world_deliver_mark from to w) w)
    go true = record { phase = refl; schema = refl; procs = refl }
    go false = beside_same w

push_beside : (from to : SiteName) (count : Option ℕ) (w : WorldState) → Beside w (world_push from to count w)
push_beside from to count w =
    let sent = send_each_beside from to (positions_above from to count (world_release from to w)) (world_release from to w) in
    let settled : Beside w (world_until_quiet from to (pushed_in from to count w)) = record { phase = sent.phase; schema = sent.schema; procs = sent.procs } in
    beside_then w (world_until_quiet from to (pushed_in from to count w)) (world_push from to count w) settled (answer_beside to from (world_until_quiet from to (pushed_in from to count w)))

done_procs : (number : ℕ) (c : Command) (w : WorldState) → (is_setup w.phase ≡ true → HasShape w.schema) → world_refusal c w ≡ None → AreProcsBuilt w → AreProcsBuilt (world_done number c w)
done_procs number command.Nothing w shape passes b = b
done_procs number (command.Declare d) w shape passes b =
    setup_procs w (world_done number (command.Declare d) w) (in_setup w (or_then-None (setup_step w) _ (or_then-None (declare_step d w) _ passes).0).0) refl refl b
done_procs number (command.Snapshot site table parent tests) w shape passes b = beside_built w _ (snapshot_beside site (table_place w.schema table) parent (tests_in tests) w) b
done_procs number (command.Row table values) w shape passes b = same_procs w (world_done number (command.Row table values) w) refl refl refl b
done_procs number command.Resume w shape passes b =
    resumed_procs w.phase w refl shape (or_then-None (refused (has_block w) refusal.WrongPhase) (resume_step w.phase (lowest_broken w.schema w.procs.tables)) (or_then-None (phase_step command.Resume w) _ passes).0).1 b
done_procs number (command.Statement statement) w shape passes b = same_procs w (world_done number (command.Statement statement) w) refl refl refl b
done_procs number (command.Txn site) w shape passes b = same_procs w (world_done number (command.Txn site) w) refl refl refl b
done_procs number command.Commit w shape passes b = beside_built w _ (commit_beside w.block w) b
done_procs number command.Abandon w shape passes b = same_procs w (world_done number command.Abandon w) refl refl refl b
done_procs number (command.Push from to count) w shape passes b = beside_built w _ (push_beside from to count w) b
done_procs number (command.Fates from to fates) w shape passes b = same_procs w (world_done number (command.Fates from to fates) w) refl refl refl b
done_procs number (command.ClearFates from to) w shape passes b = same_procs w (world_done number (command.ClearFates from to) w) refl refl refl b
done_procs number (command.Link from to word) w shape passes b = same_procs w (world_done number (command.Link from to word) w) refl refl refl b
done_procs number (command.Clock site time) w shape passes b = same_procs w (world_done number (command.Clock site time) w) refl refl refl b
done_procs number (command.Purge site) w shape passes b = same_procs w (world_done number (command.Purge site) w) refl refl refl b
done_procs number (command.Execute site origin position) w shape passes b = same_procs w (world_done number (command.Execute site origin position) w) refl refl refl b
done_procs number (command.DropError site origin position) w shape passes b = same_procs w (world_done number (command.DropError site origin position) w) refl refl refl b
done_procs number (command.Refresh site how) w shape passes b = same_procs w (world_done number (command.Refresh site how) w) refl refl refl b
done_procs number (command.PurgeLog master table) w shape passes b = beside_built w _ (log_beside master (table_place w.schema table) w) b
done_procs number command.Suspend w shape passes b =
    alike_procs w (world_done number command.Suspend w) (sym (is_behind w (or_then-None (behind_setup_step w) _ (or_then-None (phase_step command.Suspend w) _ passes).0).0)) refl refl b
done_procs number (command.Join site source) w shape passes b = same_procs w (world_done number (command.Join site source) w) refl refl refl b
done_procs number (command.Show what site) w shape passes b = b
done_procs number (command.Procedures line) w shape passes b = line_procs number line w passes b

refused_procs : (c : Command) (w : WorldState) → AreProcsBuilt w → AreProcsBuilt (world_refused c w)
refused_procs c w b = go (is_commit c) (sent_to c)
  where
    go : (commits : Bool) (to : Option (List SiteName)) → AreProcsBuilt (cond commits (closed w) (left_by to w))
    go true to = same_procs w (closed w) refl refl refl b
    go false None = b
    go false (Some to) = block_procs w None b

-- procedures stay built whatever comes of a line
pub step_procs : (number : ℕ) (c : Command) (w : WorldState) → (is_setup w.phase ≡ true → HasShape w.schema) → AreProcsBuilt w → AreProcsBuilt (world_step number c w)
step_procs number c w shape b = go (world_refusal c w) refl
  where
    go : (r : Option Refusal) → world_refusal c w ≡ r → AreProcsBuilt (step_by r number c w)
    go None met = done_procs number c w shape met b
    go (Some why) met = refused_procs c w b

-- ---- scripts

shape_in_setup : (w : WorldState) → IsOfScript w → is_setup w.phase ≡ true → HasShape w.schema
shape_in_setup w (InSetup s) setup = s.shape
shape_in_setup w (Behind r) setup = absurd (cc (setup, r.leads.simulates.behind))

steps_procs : (number : ℕ) (lines : List Command) (w : WorldState) → AllByRecursion NamesColumn lines → IsOfScript w → AreProcsBuilt w → AreProcsBuilt (world_steps number lines w)
steps_procs number [] w named is b = b
steps_procs number (c ∷ more) w named is b =
    steps_procs (suc number) more (world_step number c w) named.1 (step_of_script number c w named.0 is) (step_procs number c w (shape_in_setup w is) b)

-- the world of every script has its procedures built
pub scripts_procs : (lines : List Command) → AllByRecursion NamesColumn lines → AreProcsBuilt (script_world lines)
scripts_procs lines named = steps_procs 1 lines first_world named first_of_script first_procs
