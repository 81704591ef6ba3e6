-- Laws of scripts with a live part, whatever turns the part has.
use Rattle.std.proofs.Common.{arith, ◌≡◌, ℕ, ◌+◌, ◌<◌, ◌≤◌, List, [], ◌∷◌, ◌++◌, length, Bool, true, false, Some, refl, sym, ap, ◌∙◌, subst}
use Rattle.std.specs.Prelude.{All, take, nat_lt, if◌then◌else◌, Result, Ok, Err}
use Rattle.std.proofs.lemmas.List.{length-take-le, take_more}
use Rattle.std.proofs.lemmas.List.Elements.{All-head, All-tail}
use Rattle.std.proofs.lemmas.Option.{get_or_from_slice_get, slice_get_within}
use Rattle.script_drive.specs.Lines.{lines_after}
use Rattle.script_drive.specs.Runs.{Stepped, halts, printed}
use Rattle.script_drive.specs.Limits.{limited}
use Rattle.script_drive.proofs.RunLemmas.{state_after-append}
use Rattle.script_drive.proofs.LimitLemmas.{limited-within}
use Rattle.report_text.specs.Texts.{malformed_text}
use Rattle.script_lex.specs.Lines.{lexed}
use Rattle.script_words.specs.Reading.{◌>>=◌}
use Rattle.script_parse.specs.declared.command.Command.{Command}
use Rattle.script_parse.specs.declared.command.Command.TheVariants as command
use Rattle.script_parse.specs.declared.proc_line.ProcLine.TheVariants as proc_line
use Rattle.script_parse.specs.declared.live_lines.LiveCommand.{LiveCommand}
use Rattle.script_parse.specs.Parsed.{parsed}
use Rattle.script_parse.specs.LiveLines.{as_plain}
use Rattle.script_parse.specs.LiveLaws.{is_live}
use Rattle.script_parse.proofs.LiveLinesAgain.{keeps_lines, keeps_commands}
use Rattle.script_drive.specs.LineBytes.{most_lines, most_bytes, line_step}
use Rattle.site_events.specs.Cluster.{site_of}
use Rattle.live_laws.specs.declared.turn.LiveTurn.{LiveTurn}
use Rattle.world_state.specs.World.{WorldState}
use Rattle.world_state.specs.Procs.{proc_of}
use Rattle.world_state.specs.Steps.{world_step}
use Rattle.world_laws.proofs.QuietPushes.{push_leaves_none_ready}
use Rattle.world_laws.proofs.ProceduresHold.{procedures_hold_of}
use Rattle.world.specs.Following.{IsBuilt}
use Rattle.convergent_worlds.specs.Convergence.{HoldsOfConvergence}
use Rattle.world_laws.specs.Refreshes.{ShowsItsMaster}
use Rattle.world_commands.specs.Joining.{TakesOver}
use Rattle.world_laws.proofs.Scripts.{of_script_holds, reported_pushes_leave_nothing_ready}
use Rattle.world_laws.proofs.SnapshotScripts.{snapshots_hold_of, refreshes_show_of}
use Rattle.world_laws.proofs.AlikeWorlds.{of_snapshots}
use Rattle.world_commands.proofs.TakenOver.{step_takes_over}
use Rattle.world_run.specs.Scripts.{stepped_by, script_step, AllLawsHold}
use Rattle.world_run.specs.declared.live_part.LivePart.{LivePart}
use Rattle.world_run.specs.declared.live_part.LivePart.TheVariants as part
use Rattle.world_run.specs.LiveScripts.{LiveState, live_start, around, plain_in, read_step, live_step}
use Rattle.world_run.specs.LiveLaws.{state_behind, LiveWorldsHold, is_outside, LinesOutsideAreAsBefore, ScriptsWithoutPartsPrintTheSame, state_at, IsDoneOutside, LiveLinesHold}
use Rattle.world_run.proofs.Worlds.{parsed_short}
use Rattle.world_run.proofs.LiveWorldsStay.{live_behind}

-- ---- worlds

-- all laws hold of a world that is one of a script's
built_holds : HoldsOfConvergence → (w : WorldState) → IsBuilt w → AllLawsHold w
built_holds law w built = record {
  events = of_script_holds w built.of_script;
  snapshots = snapshots_hold_of w (of_snapshots w built.of_convergence);
  convergence = law w built.of_convergence;
  procedures = procedures_hold_of w built.procs;
}

pub live_worlds_hold : HoldsOfConvergence → LiveWorldsHold
live_worlds_hold law json turns lines = built_holds law (state_behind json turns lines).world (live_behind json turns lines).built

-- ---- lines outside a part

plain_outside : (s : LiveState) (number : ℕ) (c : Command) (old : LivePart) → is_outside old ≡ true → plain_in old s number c ≡ around s (stepped_by s.world number (Ok c))
plain_outside s number c part.NotYet is = refl
plain_outside s number c (part.Open p) is = absurd (cc is)
plain_outside s number c (part.Ended e) is = refl

pub lines_outside_are_as_before : LinesOutsideAreAsBefore
unfolding live_step script_step
lines_outside_are_as_before turns s number line is plain = ap (read_step turns s number) (keeps_lines.others line plain) ∙ go (parsed line)
  where
    go : (o : Result Command ℕ) → read_step turns s number (o >>= as_plain) ≡ around s (stepped_by s.world number o)
    go (Err rule) = refl
    go (Ok c) = plain_outside s number c s.part is

limited_outside : (turns : List LiveTurn) (s : LiveState) (number : ℕ) (line : List ℕ) → is_outside s.part ≡ true → is_live (lexed line) ≡ false
    → line_step (live_step turns) s number line ≡ around s (line_step script_step s.world number line)
unfolding limited
limited_outside turns s number line is plain = go (nat_lt most_lines number) (nat_lt most_bytes (length line))
  where
    go : (a b : Bool) → (if a then halts s (malformed_text number 2) else if b then halts s (malformed_text number 1) else live_step turns s number line)
        ≡ around s (if a then halts s.world (malformed_text number 2) else if b then halts s.world (malformed_text number 1) else script_step s.world number line)
    go true b = refl
    go false true = refl
    go false false = lines_outside_are_as_before turns s number line is plain

printed_outside : (turns : List LiveTurn) (s : LiveState) (number : ℕ) (lines : List (List ℕ)) → is_outside s.part ≡ true → All (λ line. is_live (lexed line) ≡ false) lines
    → printed (line_step (live_step turns)) s number lines ≡ printed (line_step script_step) s.world number lines
printed_outside turns s number [] is plain = refl
printed_outside turns s number (line ∷ lines) is plain =
    let x : Stepped WorldState = line_step script_step s.world number line in
    let here : line_step (live_step turns) s number line ≡ around s x = limited_outside turns s number line is (All-head (λ line. is_live (lexed line) ≡ false) line lines plain) in
    ap (λ (z : Stepped LiveState). z.prints ++ (if z.stops then [] else printed (line_step (live_step turns)) z.state (number + 1) lines)) here
    ∙ ap (λ (rest : List ℕ). x.prints ++ (if x.stops then [] else rest))
    (printed_outside turns (around s x).state (number + 1) lines is (All-tail (λ line. is_live (lexed line) ≡ false) line lines plain))

pub scripts_without_parts_print_the_same : ScriptsWithoutPartsPrintTheSame
scripts_without_parts_print_the_same json turns script plain = printed_outside turns (live_start json) 1 (lines_after [] script) refl plain

-- ---- each line

-- a command of every script steps the world
step_outside : (turns : List LiveTurn) (s : LiveState) (number : ℕ) (line : List ℕ) (c : Command) → is_outside s.part ≡ true → parsed line ≡ Ok c
    → (live_step turns s number line).state.world ≡ world_step number c s.world
unfolding live_step
step_outside turns s number line c is read =
    ap (λ (o : Result LiveCommand ℕ). (read_step turns s number o).state.world) ((keeps_commands line c).1 read)
    ∙ ap (λ (z : Stepped LiveState). z.state.world) (plain_outside s number c s.part is)

-- the world behind a line that is done is that to which its step leads
state_at-next : (json : Bool) (turns : List LiveTurn) (script : List ℕ) (n : ℕ) (c : Command) (done : IsDoneOutside json turns script n c)
    → (state_at json turns script (n + 1)).world ≡ world_step (1 + length (take n (lines_after [] script))) c (state_at json turns script n).world
state_at-next json turns script n c done =
    let lines : List (List ℕ) = lines_after [] script in
    let front : List (List ℕ) = take n lines in
    let within : n < length lines = slice_get_within lines n done.line done.here in
    let next : take (n + 1) lines ≡ front ++ done.line ∷ [] =
    take_more lines n done.line within ∙ ap (λ (line : List ℕ). front ++ line ∷ []) (get_or_from_slice_get lines n done.line done.line done.here) in
    let size : length front ≡ n = length-take-le n lines (omega (arith, within)) in
    let few : 1 + length front ≤ most_lines = omega (arith, size, done.few) in
    let s : LiveState = state_behind json turns front in
    ap (λ (ls : List (List ℕ)). (state_behind json turns ls).world) next
    ∙ ap (λ (z : LiveState). z.world) (state_after-append (line_step (live_step turns)) (live_start json) 1 front (done.line ∷ []))
    ∙ ap (λ (x : Stepped LiveState). x.state.world)
    (limited-within most_lines most_bytes malformed_text (live_step turns) s (1 + length front) done.line few (parsed_short done.line c done.reads))
    ∙ step_outside turns s (1 + length front) done.line c done.outside done.reads

-- all of it holds of each line
pub live_lines_hold : HoldsOfConvergence → LiveLinesHold
live_lines_hold law json turns script n =
    let front : List (List ℕ) = take n (lines_after [] script) in
    let w : WorldState = (state_at json turns script n).world in
    let built : IsBuilt w = (live_behind json turns front).built in
    record {
      laws = built_holds law w built;
      pushed = λ from to count x done there.
          reported_pushes_leave_nothing_ready (1 + length front) from to count w x built.shape done.passes
          (subst (λ (y : WorldState). site_of to y.sites ≡ Some x) (state_at-next json turns script n (command.Push from to count) done) there);
      calls_pushed = λ from to x done there.
          push_leaves_none_ready w built.procs (1 + length front) from to x done.passes
          (subst (λ (y : WorldState). proc_of to y.procs.sites ≡ Some x) (state_at-next json turns script n (command.Procedures (proc_line.Push from to)) done) there);
      refreshed = λ site how done.
          subst (ShowsItsMaster site w) (sym (state_at-next json turns script n (command.Refresh site how) done))
          (refreshes_show_of w (of_snapshots w built.of_convergence) (1 + length front) site how done.passes);
      joined = λ site source done.
          subst (TakesOver site source w) (sym (state_at-next json turns script n (command.Join site source) done))
          (step_takes_over w built site source done.passes (1 + length front));
    }
