-- One line more of a run.
use Rattle.std.proofs.Common.{◌≡◌, ◌<◌, ◌≤◌, ℕ, ◌+◌, Bool, true, false, List, [], ◌∷◌, ◌++◌, length, refl, sym, ap, ◌∙◌, arith, append_assoc, append-nil}
use Rattle.std.specs.Prelude.{◌||◌, if◌then◌else◌, Option, Some, None, Result, Ok, Err}
use Rattle.script_drive.specs.Runs.{Stepped, printed, is_stopped}
use Rattle.report_text.specs.Texts.{malformed_text}
use Rattle.script_parse.specs.declared.command.Command.{Command}
use Rattle.script_parse.specs.Parsed.{parsed}
use Rattle.script_drive.specs.LineBytes.{most_lines, line_step}
use Rattle.world_state.specs.declared.refused.Refused.{Refused}
use Rattle.world_state.specs.World.{WorldState}
use Rattle.world_run.specs.Scripts.{script_step}
use Rattle.script_steps.specs.declared.answer.Answer.{Answer}
use Rattle.script_steps.specs.declared.answer.Verdict.{Verdict}
use Rattle.script_steps.specs.declared.answer.Verdict.TheVariants as verdict
use Rattle.script_steps.specs.Lines.{lines_of}
use Rattle.script_steps.specs.Saying.{malformed_at, refused_so}
use Rattle.script_steps.proofs.Worlds.{world_past-command, world_past-malformed, prints_at-command, prints_at-malformed}
use Rattle.script_steps.proofs.Limits.{line_step-within, line_step-many}

-- a command goes on, and a malformed line ends the run
pub stops-command : (w : WorldState) (number : ℕ) (line : List ℕ) (c : Command) → parsed line ≡ Ok c → false ≡ (script_step w number line).stops
unfolding script_step
stops-command w number line c read = rw read refl

pub stops-malformed : (w : WorldState) (number : ℕ) (line : List ℕ) (rule : ℕ) → parsed line ≡ Err rule → true ≡ (script_step w number line).stops
unfolding script_step
stops-malformed w number line rule read = rw read refl

pub ruleset line_facts = (world_past-command, world_past-malformed, prints_at-command, prints_at-malformed, stops-command, stops-malformed)

-- ---- a command that was read

abbrev is_broken : Verdict → Bool
is_broken (verdict.Malformed rule) = true
is_broken (verdict.Refused refusal) = false

abbrev says_broken : Option Answer → Bool
says_broken None = false
says_broken (Some answer) = is_broken answer.verdict

-- what is said of it isn't that its line breaks a rule
pub no_rule : (number rule : ℕ) (o : Option Refused) → Some (malformed_at number rule) ≡ refused_so o → ⊥
no_rule number rule None same = let no : true ≡ false = ap says_broken same in cc
no_rule number rule (Some refused) same = let no : true ≡ false = ap says_broken same in cc

-- ---- the lines to come

abbrev pub to_print : WorldState → ℕ → List ℕ → List ℕ
to_print w number left = printed (line_step script_step) w number (lines_of left)

abbrev pub to_stop : WorldState → ℕ → List ℕ → Bool
to_stop w number left = is_stopped (line_step script_step) w number (lines_of left)

module _ (w : WorldState) (number : ℕ) (left line behind : List ℕ) (first : lines_of left ≡ line ∷ lines_of behind) where
  prints_first : (s : Stepped WorldState) → line_step script_step w number line ≡ s
      → to_print w number left ≡ s.prints ++ (if s.stops then [] else printed (line_step script_step) s.state (number + 1) (lines_of behind))
  prints_first s is =
      ap (printed (line_step script_step) w number) first
      ∙ ap (λ (t : Stepped WorldState). t.prints ++ (if t.stops then [] else printed (line_step script_step) t.state (number + 1) (lines_of behind))) is

  stops_first : (s : Stepped WorldState) → line_step script_step w number line ≡ s → to_stop w number left ≡ (s.stops || is_stopped (line_step script_step) s.state (number + 1) (lines_of behind))
  stops_first s is =
      ap (is_stopped (line_step script_step) w number) first
      ∙ ap (λ (t : Stepped WorldState). t.stops || is_stopped (line_step script_step) t.state (number + 1) (lines_of behind)) is

-- a line behind which the run goes on
pub goes_on_prints : (w w' : WorldState) (number : ℕ) (left line behind told told' : List ℕ) → number ≤ 200000 → lines_of left ≡ line ∷ lines_of behind → false ≡ (script_step w number line).stops
    → w' ≡ (script_step w number line).state → told' ≡ told ++ (script_step w number line).prints → told' ++ to_print w' (number + 1) behind ≡ told ++ to_print w number left
goes_on_prints w w' number left line behind told told' few first goes world is =
    let s = script_step w number line in
    let rest : to_print w number left ≡ s.prints ++ to_print w' (number + 1) behind =
    prints_first w number left line behind first s (line_step-within w number line few)
    ∙ ap (λ (b : Bool). s.prints ++ (if b then [] else printed (line_step script_step) s.state (number + 1) (lines_of behind))) (sym goes)
    ∙ ap (λ (y : WorldState). s.prints ++ to_print y (number + 1) behind) (sym world) in
    ap (λ (t : List ℕ). t ++ to_print w' (number + 1) behind) is ∙ append_assoc told s.prints (to_print w' (number + 1) behind) ∙ ap (λ (t : List ℕ). told ++ t) (sym rest)

pub goes_on_stops : (w w' : WorldState) (number : ℕ) (left line behind : List ℕ) → number ≤ 200000 → lines_of left ≡ line ∷ lines_of behind → false ≡ (script_step w number line).stops
    → w' ≡ (script_step w number line).state → to_stop w' (number + 1) behind ≡ to_stop w number left
goes_on_stops w w' number left line behind few first goes world =
    let s = script_step w number line in
    sym (stops_first w number left line behind first s (line_step-within w number line few)
    ∙ ap (λ (b : Bool). b || is_stopped (line_step script_step) s.state (number + 1) (lines_of behind)) (sym goes)
    ∙ ap (λ (y : WorldState). to_stop y (number + 1) behind) (sym world))

-- a line that ends it
pub ends_prints : (w : WorldState) (number : ℕ) (left line behind told told' : List ℕ) → number ≤ 200000 → lines_of left ≡ line ∷ lines_of behind → true ≡ (script_step w number line).stops
    → told' ≡ told ++ (script_step w number line).prints → told' ≡ told ++ to_print w number left
ends_prints w number left line behind told told' few first ends is =
    let s = script_step w number line in
    is ∙ ap (λ (t : List ℕ). told ++ t) (sym (prints_first w number left line behind first s (line_step-within w number line few)
    ∙ ap (λ (b : Bool). s.prints ++ (if b then [] else printed (line_step script_step) s.state (number + 1) (lines_of behind))) (sym ends) ∙ append-nil s.prints))

pub ends_stops : (w : WorldState) (number : ℕ) (left line behind : List ℕ) → number ≤ 200000 → lines_of left ≡ line ∷ lines_of behind → true ≡ (script_step w number line).stops → true ≡ to_stop w number left
ends_stops w number left line behind few first ends =
    let s = script_step w number line in
    sym (stops_first w number left line behind first s (line_step-within w number line few) ∙ ap (λ (b : Bool). b || is_stopped (line_step script_step) s.state (number + 1) (lines_of behind)) (sym ends))

-- one that is too many
pub over_prints : (w : WorldState) (number : ℕ) (left line behind told told' : List ℕ) → 200000 < number → lines_of left ≡ line ∷ lines_of behind
    → told' ≡ told ++ malformed_text number 2 → told' ≡ told ++ to_print w number left
over_prints w number left line behind told told' many first is =
    is ∙ ap (λ (t : List ℕ). told ++ t) (sym (prints_first w number left line behind first (record { state = w; prints = malformed_text number 2; stops = true }) (line_step-many w number line many) ∙ append-nil (malformed_text number 2)))

pub over_stops : (w : WorldState) (number : ℕ) (left line behind : List ℕ) → 200000 < number → lines_of left ≡ line ∷ lines_of behind → true ≡ to_stop w number left
over_stops w number left line behind many first =
    sym (stops_first w number left line behind first (record { state = w; prints = malformed_text number 2; stops = true }) (line_step-many w number line many))

-- and none
no_lines : (left : List ℕ) → length left ≡ 0 → lines_of left ≡ []
no_lines [] none = refl
no_lines (byte ∷ bytes) none = absurd (omega (arith, none))

pub none_prints : (w : WorldState) (number : ℕ) (left told : List ℕ) → length left ≡ 0 → told ≡ told ++ to_print w number left
none_prints w number left told none = sym (ap (λ (ls : List (List ℕ)). told ++ printed (line_step script_step) w number ls) (no_lines left none) ∙ append-nil told)

pub none_stops : (w : WorldState) (number : ℕ) (left : List ℕ) → length left ≡ 0 → false ≡ to_stop w number left
none_stops w number left none = sym (ap (λ (ls : List (List ℕ)). is_stopped (line_step script_step) w number ls) (no_lines left none))

pub ruleset run_facts = (goes_on_prints, goes_on_stops, ends_prints, ends_stops, over_prints, over_stops, none_prints, none_stops)
