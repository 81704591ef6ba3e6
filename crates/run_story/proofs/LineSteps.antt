-- The step of a line, by what its command does, and that of all lines.
use Rattle.std.proofs.Common.{◌≡◌, ℕ, ◌≤◌, ◌<◌, List, length, Bool, true, false, cond, None, refl, sym, ap, ◌∙◌, nat_lt}
use Rattle.std.specs.Prelude.{Option, Result, Ok, Err, IfOk, OnOk}
use Rattle.std.proofs.lemmas.Bool.{ltb-true, ltb-false, lt-leb, le-ltb, lt-ltb}
use Rattle.rep_values.specs.declared.refusal.Refusal.{Refusal}
use Rattle.report_text.specs.Texts.{malformed_text}
use Rattle.script_lex.specs.Lines.{lexed}
use Rattle.script_drive.specs.Runs.{Stepped, halts}
use Rattle.script_drive.specs.LineBytes.{most_lines, most_bytes}
use Rattle.script_drive.proofs.LimitLemmas.{limited-many, limited-long, limited-within}
use Rattle.script_parse.specs.declared.command.Command.{Command}
use Rattle.script_parse.specs.declared.command.Command.TheVariants as command
use Rattle.script_parse.specs.declared.live_lines.LiveCommand.{LiveCommand}
use Rattle.script_parse.specs.declared.live_lines.LiveCommand.TheVariants as live_command
use Rattle.script_parse.specs.LiveLines.{live_parsed}
use Rattle.live_laws.specs.declared.turn.LiveTurn.{LiveTurn}
use Rattle.world_state.specs.declared.refused.Refused.{Refused as RefusedLine}
use Rattle.world_state.specs.World.{WorldState}
use Rattle.world_run.specs.declared.live_part.LivePart.{LivePart}
use Rattle.world_run.specs.declared.live_part.LivePart.TheVariants as part
use Rattle.world_run.specs.LiveParts.{taken, part_opened, as_part, session_in}
use Rattle.world_run.specs.LiveScripts.{LiveState, answered, plain_in, end_in, command_step, read_step, live_step}
use Rattle.run_story.specs.declared.happening.Outcome.{Outcome}
use Rattle.run_story.specs.declared.happening.Outcome.TheVariants.{PassedOver, Declared, Shown, Done, Refused, Malformed}
use Rattle.run_story.specs.Telling.{ends_run}
use Rattle.run_story.specs.Running.{engine_step, said_in, plain_refused, command_refused, said_of, line_said, GoesOn, LineGoes}
use Rattle.run_story.proofs.Steps.{goes_nothing}

-- a script stands so
abbrev at : WorldState → LivePart → LiveState
at w p = record { world = w; part = p; json = false }

-- ---- a command ends no run

answered_goes : (s : LiveState) (n : ℕ) (answer : Result LivePart Refusal) → (answered s n answer).stops ≡ false
answered_goes s n (Ok p) = refl
answered_goes s n (Err why) = refl

plain_goes : (p : LivePart) (s : LiveState) (n : ℕ) (c : Command) → (plain_in p s n c).stops ≡ false
plain_goes part.NotYet s n c = refl
plain_goes (part.Open p) s n c = answered_goes s n (as_part (taken n c p))
plain_goes (part.Ended e) s n c = refl

end_goes : (turns : List LiveTurn) (p : LivePart) (s : LiveState) (n : ℕ) → (end_in turns p s n).stops ≡ false
end_goes turns part.NotYet s n = refl
end_goes turns (part.Open p) s n = refl
end_goes turns (part.Ended e) s n = refl

command_goes : (turns : List LiveTurn) (s : LiveState) (n : ℕ) (c : LiveCommand) → (command_step turns s n c).stops ≡ false
command_goes turns s n (live_command.Plain c) = plain_goes s.part s n c
command_goes turns s n (live_command.Open site) = answered_goes s n (part_opened s.part site s.world)
command_goes turns s n live_command.Session = answered_goes s n (session_in s.part)
command_goes turns s n live_command.End = end_goes turns s.part s n

-- ---- lines

-- a line that is too long breaks rule 1
long_breaks : (line : List ℕ) → most_bytes < length line → live_parsed line ≡ Err 1
unfolding lexed
long_breaks line long = rw (lt-leb (length line) 1024 long) refl

-- a line within the limits is read
within_is : (turns : List LiveTurn) (s : LiveState) (n : ℕ) (line : List ℕ) → n ≤ most_lines → length line ≤ most_bytes → engine_step turns s n line ≡ read_step turns s n (live_parsed line)
unfolding live_step
within_is turns s n line few short = limited-within most_lines most_bytes malformed_text (live_step turns) s n line few short

-- a line is read, if it isn't one too many
step_is : (turns : List LiveTurn) (s : LiveState) (n : ℕ) (line : List ℕ) → n ≤ most_lines → engine_step turns s n line ≡ read_step turns s n (live_parsed line)
step_is turns s n line few = go (nat_lt most_bytes (length line)) refl
  where
    go : (long : Bool) → nat_lt most_bytes (length line) ≡ long → engine_step turns s n line ≡ read_step turns s n (live_parsed line)
    go true is =
        let long : most_bytes < length line = ltb-true most_bytes (length line) is in
        limited-long most_lines most_bytes malformed_text (live_step turns) s n line few long ∙ ap (read_step turns s n) (sym (long_breaks line long))
    go false is = within_is turns s n line few (ltb-false most_bytes (length line) is)

-- what is said of a line, if it isn't one too many
said_is : (s : LiveState) (n : ℕ) (line : List ℕ) (read : Result LiveCommand ℕ) → n ≤ most_lines → live_parsed line ≡ read → line_said s n line ≡ said_of s n read
said_is s n line read few is = rw (le-ltb most_lines n few, is) refl

-- an outcome that doesn't say that a rule is broken ends no run
ends_by_said : (outcome : Outcome) (refused : Option RefusedLine) → said_in outcome ≡ Ok refused → ends_run outcome ≡ false
ends_by_said PassedOver refused is = refl
ends_by_said Declared refused is = refl
ends_by_said Shown refused is = refl
ends_by_said Done refused is = refl
ends_by_said (Refused r) refused is = refl
ends_by_said (Malformed rule) refused is = absurd (cc is)

-- a line that gives a command, where this goes on so
pub line_goes : (n : ℕ) (line : List ℕ) (c : LiveCommand) (outcome : Outcome) (s s' : LiveState) → n ≤ most_lines → live_parsed line ≡ Ok c → GoesOn n c s s'
    → said_in outcome ≡ Ok (command_refused s n c) → LineGoes n line outcome s s'
line_goes n line c outcome s s' few read goes said = record {
  said = said ∙ sym (said_is s n line (Ok c) few read);
  state = λ turns may. let went = goes turns may in (went.0, ap (λ (x : Stepped LiveState). x.state) (is turns) ∙ went.1);
  ends = λ turns. ap (λ (x : Stepped LiveState). x.stops) (is turns) ∙ command_goes turns s n c ∙ sym (ends_by_said outcome (command_refused s n c) said);
}
  where
    is : (turns : List LiveTurn) → engine_step turns s n line ≡ command_step turns s n c
    is turns = step_is turns s n line few ∙ ap (read_step turns s n) read

-- so it is where such a command was run
pub line_answers : {A E : Type 0} (outcome_of : A → Outcome) (result : Result A E) (n : ℕ) (line : List ℕ) (c : LiveCommand) (s s' : LiveState) → OnOk result (GoesOn n c s s')
    → IfOk result (λ answer. said_in (outcome_of answer) ≡ Ok (command_refused s n c)) → n ≤ most_lines → live_parsed line ≡ Ok c → IfOk result (λ answer. LineGoes n line (outcome_of answer) s s')
line_answers outcome_of (Ok answer) n line c s s' goes said few read = line_goes n line c (outcome_of answer) s s' few read goes said
line_answers outcome_of (Err e) n line c s s' goes said few read = tt

-- an empty line meets no refusal
nothing_meets : (p : LivePart) (w : WorldState) (n : ℕ) → plain_refused p w n command.Nothing ≡ None
nothing_meets part.NotYet w n = refl
nothing_meets (part.Open p) w n = refl
nothing_meets (part.Ended e) w n = refl

-- a line that is passed over
pub line_passes : (n : ℕ) (line : List ℕ) (outcome : Outcome) (w : WorldState) (p : LivePart) → n ≤ most_lines → live_parsed line ≡ Ok (live_command.Plain command.Nothing)
    → outcome ≡ PassedOver → LineGoes n line outcome (at w p) (at w p)
line_passes n line outcome w p few read is =
    line_goes n line (live_command.Plain command.Nothing) outcome (at w p) (at w p) few read (goes_nothing w n p)
    (ap said_in is ∙ ap Ok (sym (nothing_meets p w n)))

-- a line that breaks a rule
pub line_breaks : (n : ℕ) (line : List ℕ) (rule : ℕ) (outcome : Outcome) (s : LiveState) → n ≤ most_lines → live_parsed line ≡ Err rule → outcome ≡ Malformed rule → LineGoes n line outcome s s
line_breaks n line rule outcome s few read is = record {
  said = ap said_in is ∙ sym (said_is s n line (Err rule) few read);
  state = λ turns may. (may, ap (λ (x : Stepped LiveState). x.state) (halted turns));
  ends = λ turns. ap (λ (x : Stepped LiveState). x.stops) (halted turns) ∙ sym (ap ends_run is);
}
  where
    halted : (turns : List LiveTurn) → engine_step turns s n line ≡ halts s (malformed_text n rule)
    halted turns = step_is turns s n line few ∙ ap (read_step turns s n) read

-- one line too many
pub line_many : (n : ℕ) (line : List ℕ) (outcome : Outcome) (s : LiveState) → most_lines < n → outcome ≡ Malformed 2 → LineGoes n line outcome s s
line_many n line outcome s many is = record {
  said = ap said_in is ∙ too_many (nat_lt most_lines n) (lt-ltb most_lines n many);
  state = λ turns may. (may, ap (λ (x : Stepped LiveState). x.state) (halted turns));
  ends = λ turns. ap (λ (x : Stepped LiveState). x.stops) (halted turns) ∙ sym (ap ends_run is);
}
  where
    halted : (turns : List LiveTurn) → engine_step turns s n line ≡ halts s (malformed_text n 2)
    halted turns = limited-many most_lines most_bytes malformed_text (live_step turns) s n line many

    too_many : (b : Bool) → b ≡ true → Err 2 ≡ cond b (Err 2) (said_of s n (live_parsed line))
    too_many true is = refl
    too_many false is = absurd (cc is)
