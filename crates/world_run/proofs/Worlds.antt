-- The world behind lines of a script is one of a script's.
use Rattle.std.proofs.Common.{arith, ◌≡◌, ℕ, ◌+◌, ◌<◌, ◌≤◌, ◌⊎◌, List, [], ◌∷◌, ◌++◌, length, Bool, true, false, Some, None, refl, sym, ap, ◌∙◌, subst, inl, inr}
use Rattle.std.specs.Prelude.{take, nat_lt, if◌then◌else◌, Option, Result, Ok, Err}
use Rattle.std.proofs.lemmas.Bool.{cases_lt}
use Rattle.std.proofs.lemmas.List.{length-take-le, take_more}
use Rattle.std.proofs.lemmas.Option.{get_or_from_slice_get, slice_get_within}
use Rattle.rep_values.specs.declared.refusal.Refusal.{Refusal}
use Rattle.script_drive.specs.Lines.{lines_after}
use Rattle.script_drive.specs.Runs.{Stepped, halts, state_after}
use Rattle.script_drive.specs.Limits.{limited}
use Rattle.script_drive.proofs.RunLemmas.{state_after-append}
use Rattle.script_drive.proofs.LimitLemmas.{limited-within}
use Rattle.report_text.specs.Texts.{malformed_text}
use Rattle.script_lex.proofs.Steps.{line_long}
use Rattle.script_parse.specs.declared.command.Command.{Command}
use Rattle.script_parse.specs.declared.command.Command.TheVariants as command
use Rattle.script_parse.specs.declared.proc_line.ProcLine.TheVariants as proc_line
use Rattle.script_parse.specs.Named.{NamesColumn}
use Rattle.script_parse.specs.Parsed.{parsed}
use Rattle.script_parse.proofs.NamedLines.{parsed-Ok}
use Rattle.site_events.specs.Cluster.{site_of}
use Rattle.world_state.specs.declared.refused.Refused.{Refused}
use Rattle.world_state.specs.World.{WorldState, first_world}
use Rattle.world_state.specs.Procs.{proc_of}
use Rattle.world_state.specs.Refusals.{world_refusal}
use Rattle.world_state.specs.Steps.{world_done, world_refused, world_step, step_by, told_by, told_line}
use Rattle.world_laws.proofs.QuietPushes.{push_leaves_none_ready}
use Rattle.world_laws.proofs.ProceduresHold.{procedures_hold_of}
use Rattle.world_laws.proofs.Scripts.{of_script_holds, reported_pushes_leave_nothing_ready}
use Rattle.world_laws.proofs.SnapshotScripts.{snapshots_hold_of, refreshes_show_of}
use Rattle.convergent_worlds.specs.Convergence.{HoldsOfConvergence}
use Rattle.world_laws.proofs.AlikeWorlds.{of_snapshots}
use Rattle.world.specs.declared.answer.Answer.{Answer}
use Rattle.world.specs.Following.{IsBuilt}
use Rattle.world.specs.Outcomes.{world_outcome}
use Rattle.world.specs.Texts.{world_text}
use Rattle.world_laws.specs.Refreshes.{ShowsItsMaster}
use Rattle.world.proofs.BuiltWorlds.{lines_keep_built, first_built}
use Rattle.world_commands.specs.Joining.{TakesOver}
use Rattle.world_commands.proofs.TakenOver.{step_takes_over}
use Rattle.script_drive.specs.LineBytes.{most_lines, most_bytes, line_step}
use Rattle.world_run.specs.Scripts.{stepped_by, script_step, world_behind, world_at, IsDoneAt, ReportedWorldsHold, ReportedSnapshotsHold, ReportedWorldsConverge, ReportedProceduresHold, PushesOfScriptsLeaveNothingReady, PushesOfCallsLeaveNothingReady, RefreshesOfScriptsShowTheQuery, JoinsOfScriptsTakeOver, LinesOfScriptsHold}

-- after a line, whatever refusal it meets
pub step_built : (number : ℕ) (c : Command) (w : WorldState) → NamesColumn c → IsBuilt w → IsBuilt (world_step number c w)
step_built number c w named built = go (world_refusal c w) refl
  where
    go : (o : Option Refusal) → world_refusal c w ≡ o → IsBuilt (step_by o number c w)
    go None passes =
        let answer : Answer = record { lines = record { bytes = world_text c w; room = 0 }; outcome = world_outcome c w } in
        lines_keep_built number c w (world_done number c w) (Ok answer) named (record { passes = passes; world = refl; text = refl; outcome = refl }) built
    go (Some why) met =
        let told : Refused = record { line = told_line number c w; refusal = why } in
        lines_keep_built number c w (world_refused c w) (Err told) named (inr (record { told = ap (λ (o : Option Refusal). told_by o number c w) met; world = refl })) built

pub stepped_built : (w : WorldState) (number : ℕ) (line : List ℕ) → IsBuilt w → IsBuilt (script_step w number line).state
unfolding script_step
stepped_built w number line built = go (parsed line) refl
  where
    go : (o : Result Command ℕ) → parsed line ≡ o → IsBuilt (stepped_by w number o).state
    go (Err rule) read = built
    go (Ok c) read = step_built number c w (parsed-Ok line c read) built

limited_built : (w : WorldState) (number : ℕ) (line : List ℕ) → IsBuilt w → IsBuilt (line_step script_step w number line).state
unfolding limited
limited_built w number line built = go (nat_lt most_lines number) (nat_lt most_bytes (length line))
  where
    go : (a b : Bool) → IsBuilt (if a then halts w (malformed_text number 2) else if b then halts w (malformed_text number 1) else script_step w number line).state
    go true b = built
    go false true = built
    go false false = stepped_built w number line built

behind_built : (w : WorldState) (number : ℕ) (lines : List (List ℕ)) → IsBuilt w → IsBuilt (state_after (line_step script_step) w number lines)
behind_built w number [] built = built
behind_built w number (line ∷ lines) built = behind_built (line_step script_step w number line).state (number + 1) lines (limited_built w number line built)

behind_first : (lines : List (List ℕ)) → IsBuilt (world_behind lines)
behind_first lines = behind_built first_world 1 lines first_built

pub reported_worlds_hold : ReportedWorldsHold
reported_worlds_hold lines = of_script_holds _ (behind_first lines).of_script

pub pushes_leave_nothing_ready : PushesOfScriptsLeaveNothingReady
unfolding script_step
pushes_leave_nothing_ready lines number line from to count x read passes there =
    let found = rw read at there in
    reported_pushes_leave_nothing_ready number from to count (world_behind lines) x (behind_first lines).shape passes found

pub pushes_of_calls_leave_nothing_ready : PushesOfCallsLeaveNothingReady
unfolding script_step
pushes_of_calls_leave_nothing_ready lines number line from to x read passes there =
    let found = rw read at there in
    push_leaves_none_ready (world_behind lines) (behind_first lines).procs number from to x passes found

pub reported_procedures_hold : ReportedProceduresHold
reported_procedures_hold lines = procedures_hold_of (world_behind lines) (behind_first lines).procs

pub reported_snapshots_hold : ReportedSnapshotsHold
reported_snapshots_hold lines = snapshots_hold_of _ (of_snapshots _ (behind_first lines).of_convergence)

pub reported_worlds_converge : HoldsOfConvergence → ReportedWorldsConverge
reported_worlds_converge law lines = law _ (behind_first lines).of_convergence

pub refreshes_show_the_query : RefreshesOfScriptsShowTheQuery
unfolding script_step
refreshes_show_the_query lines number line site how read passes =
    rw read (refreshes_show_of (world_behind lines) (of_snapshots (world_behind lines) (behind_first lines).of_convergence) number site how passes)

pub joins_take_over : JoinsOfScriptsTakeOver
unfolding script_step
joins_take_over lines number line site source read passes = rw read (step_takes_over (world_behind lines) (behind_first lines) site source passes number)

-- ---- each line of a script

-- a line that gives a command isn't too long
pub parsed_short : (line : List ℕ) (c : Command) → parsed line ≡ Ok c → length line ≤ most_bytes
parsed_short line c read = go (cases_lt most_bytes (length line))
  where
    go : (most_bytes < length line) ⊎ (length line ≤ most_bytes) → length line ≤ most_bytes
    go (inl long) = let broken = rw (line_long line long) at read in absurd (cc broken)
    go (inr short) = short

-- the world behind a line that is done is that to which its step leads
world_at-next : (script : List ℕ) (n : ℕ) (c : Command) (done : IsDoneAt script n c)
    → world_at script (n + 1) ≡ (script_step (world_at script n) (1 + length (take n (lines_after [] script))) done.line).state
world_at-next script n c done =
    let lines : List (List ℕ) = lines_after [] script in
    let front : List (List ℕ) = take n lines in
    let within : n < length lines = slice_get_within lines n done.line done.here in
    let next : take (n + 1) lines ≡ front ++ done.line ∷ [] =
    take_more lines n done.line within ∙ ap (λ (line : List ℕ). front ++ line ∷ []) (get_or_from_slice_get lines n done.line done.line done.here) in
    let size : length front ≡ n = length-take-le n lines (omega (arith, within)) in
    let few : 1 + length front ≤ most_lines = omega (arith, size, done.few) in
    ap world_behind next
    ∙ state_after-append (line_step script_step) first_world 1 front (done.line ∷ [])
    ∙ ap (λ (x : Stepped WorldState). x.state) (limited-within most_lines most_bytes malformed_text script_step (world_behind front) (1 + length front) done.line few (parsed_short done.line c done.reads))

-- all of it holds of each line
pub lines_of_scripts_hold : HoldsOfConvergence → LinesOfScriptsHold
lines_of_scripts_hold law script n =
    let front : List (List ℕ) = take n (lines_after [] script) in
    record {
      laws = record { events = reported_worlds_hold front; snapshots = reported_snapshots_hold front; convergence = reported_worlds_converge law front; procedures = reported_procedures_hold front };
      pushed = λ from to count x done there.
          pushes_leave_nothing_ready front (1 + length front) done.line from to count x done.reads done.passes
          (subst (λ (w : WorldState). site_of to w.sites ≡ Some x) (world_at-next script n (command.Push from to count) done) there);
      calls_pushed = λ from to x done there.
          pushes_of_calls_leave_nothing_ready front (1 + length front) done.line from to x done.reads done.passes
          (subst (λ (w : WorldState). proc_of to w.procs.sites ≡ Some x) (world_at-next script n (command.Procedures (proc_line.Push from to)) done) there);
      refreshed = λ site how done.
          subst (ShowsItsMaster site (world_at script n)) (sym (world_at-next script n (command.Refresh site how) done))
          (refreshes_show_the_query front (1 + length front) done.line site how done.reads done.passes);
      joined = λ site source done.
          subst (TakesOver site source (world_at script n)) (sym (world_at-next script n (command.Join site source) done))
          (joins_take_over front (1 + length front) done.line site source done.reads done.passes);
    }
