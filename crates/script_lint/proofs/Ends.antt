-- A run ends at the first line that is told as malformed.
use Rattle.std.proofs.Common.{◌≡◌, ◌<◌, ◌≤◌, ℕ, ◌+◌, Bool, true, false, List, [], ◌∷◌, Some, None, refl, sym, ap, ◌∙◌, subst}
use Rattle.std.specs.Prelude.{nat_lt, ◌||◌, if◌then◌else◌, Option, Result, Ok, Err}
use Rattle.std.specs.List.{list_any}
use Rattle.std.proofs.lemmas.Bool.{ltb-true, ltb-false}
use Rattle.std.proofs.lemmas.List.Folds.{list_any-append}
use Rattle.script_drive.specs.Runs.{Stepped, is_stopped}
use Rattle.script_parse.specs.declared.command.Command.{Command}
use Rattle.script_parse.specs.Parsed.{parsed}
use Rattle.script_drive.specs.LineBytes.{most_lines, line_step}
use Rattle.world_state.specs.declared.refused.Refused.{Refused}
use Rattle.world_state.specs.World.{WorldState}
use Rattle.world_state.specs.Steps.{step_refused}
use Rattle.world_run.specs.Scripts.{script_step, stepped_by}
use Rattle.script_steps.specs.Saying.{malformed_at, refused_so, said_by, said_at, world_past}
use Rattle.script_steps.proofs.Limits.{line_step-within, line_step-many}
use Rattle.script_lint.specs.Checking.{Checked, with_said, checked, checked_from}
use Rattle.script_lint.specs.Laws.{is_malformed}
use Rattle.script_steps.specs.declared.answer.Answer.{Answer}

abbrev said_malformed : Option Answer → Bool
said_malformed None = false
said_malformed (Some said) = is_malformed said

-- an answer is that a line is malformed
abbrev tells_malformed : Checked → Bool
tells_malformed c = list_any is_malformed c.answers

or_false : (b : Bool) → b ≡ (b || false)
or_false true = refl
or_false false = refl

or_true : (b : Bool) → (b || true) ≡ true
or_true true = refl
or_true false = refl

tells_said : (said : Option Answer) (c : Checked) → tells_malformed (with_said said c) ≡ (tells_malformed c || said_malformed said)
tells_said None c = or_false (tells_malformed c)
tells_said (Some said) c = list_any-append is_malformed c.answers (said ∷ []) ∙ ap (λ (b : Bool). tells_malformed c || b) (sym (or_false (is_malformed said)))

said_world : (said : Option Answer) (c : Checked) → (with_said said c).world ≡ c.world
said_world None c = refl
said_world (Some said) c = refl

-- what was told stays told
tells_more : (said : Option Answer) (c : Checked) → tells_malformed c ≡ true → tells_malformed (with_said said c) ≡ true
tells_more said c told = tells_said said c ∙ ap (λ (b : Bool). b || said_malformed said) told

-- where a line is one too many, the run's end is told, and else what is told of the lines behind it
tells_either : (many : Bool) (over behind : Checked) → tells_malformed over ≡ true → tells_malformed behind ≡ true → tells_malformed (if many then over else behind) ≡ true
tells_either true over behind ends later = ends
tells_either false over behind ends later = later

tells_on : (number : ℕ) (lines : List (List ℕ)) (c : Checked) → tells_malformed c ≡ true → tells_malformed (checked_from number lines c) ≡ true
tells_on number [] c told = told
tells_on number (line ∷ lines) c told =
    let more : tells_malformed (checked number line c) ≡ true = tells_more (said_at c.world number line) (record c { world = world_past c.world number line }) told in
    tells_either (nat_lt most_lines number) (with_said (Some (malformed_at number 2)) c) (checked_from (number + 1) lines (checked number line c))
    (tells_more (Some (malformed_at number 2)) c told) (tells_on (number + 1) lines (checked number line c) more)

-- ---- a line

refused_no_rule : (told : Option Refused) → said_malformed (refused_so told) ≡ false
refused_no_rule None = refl
refused_no_rule (Some r) = refl

stops_read : (w : WorldState) (number : ℕ) (read : Result Command ℕ) → (stepped_by w number read).stops ≡ said_malformed (said_by w number read)
stops_read w number (Err rule) = refl
stops_read w number (Ok command) = sym (refused_no_rule (step_refused number command w))

-- a line stops a run where it is told as malformed, and leads to one world
record Meets (w : WorldState) (number : ℕ) (line : List ℕ) (stepped : Stepped WorldState) : Type 0 where
  stops : stepped.stops ≡ said_malformed (said_at w number line)
  state : stepped.state ≡ world_past w number line

meets_step : (w : WorldState) (number : ℕ) (line : List ℕ) → Meets w number line (script_step w number line)
unfolding script_step
meets_step w number line = record { stops = stops_read w number (parsed line); state = refl }

meets : (w : WorldState) (number : ℕ) (line : List ℕ) → number ≤ most_lines → Meets w number line (line_step script_step w number line)
meets w number line few = subst (Meets w number line) (sym (line_step-within w number line few)) (meets_step w number line)

-- ---- lines

-- a run from a world on is stopped exactly where one of these lines is told as malformed
abbrev StopsWhereTold : ℕ → List (List ℕ) → Checked → Type 0
StopsWhereTold number lines c = tells_malformed c ≡ false → is_stopped (line_step script_step) c.world number lines ≡ tells_malformed (checked_from number lines c)

-- a line, and those behind it
module _ (number : ℕ) (line : List ℕ) (lines : List (List ℕ)) (c : Checked) (none : tells_malformed c ≡ false) (later : StopsWhereTold (number + 1) lines (checked number line c)) where
  abbrev told : Bool
  told = said_malformed (said_at c.world number line)

  -- the step of the line
  abbrev taken : Stepped WorldState
  taken = line_step script_step c.world number line

  tells_line : tells_malformed (checked number line c) ≡ told
  tells_line = tells_said (said_at c.world number line) (record c { world = world_past c.world number line }) ∙ ap (λ (b : Bool). b || told) none

  -- it is told as malformed
  stops_here : taken.stops ≡ told → told ≡ true
      → (taken.stops || is_stopped (line_step script_step) taken.state (number + 1) lines) ≡ tells_malformed (checked_from (number + 1) lines (checked number line c))
  stops_here stops is =
      ap (λ (b : Bool). b || is_stopped (line_step script_step) taken.state (number + 1) lines) (stops ∙ is)
      ∙ sym (tells_on (number + 1) lines (checked number line c) (tells_line ∙ is))

  -- it isn't
  goes_on : Meets c.world number line taken → told ≡ false
      → (taken.stops || is_stopped (line_step script_step) taken.state (number + 1) lines) ≡ tells_malformed (checked_from (number + 1) lines (checked number line c))
  goes_on meet is =
      let world : taken.state ≡ (checked number line c).world =
      meet.state ∙ sym (said_world (said_at c.world number line) (record c { world = world_past c.world number line })) in
      ap (λ (b : Bool). b || is_stopped (line_step script_step) taken.state (number + 1) lines) (meet.stops ∙ is)
      ∙ (ap (λ (w : WorldState). is_stopped (line_step script_step) w (number + 1) lines) world ∙ later (tells_line ∙ is))

  stops_within : number ≤ most_lines → (b : Bool) → told ≡ b
      → (taken.stops || is_stopped (line_step script_step) taken.state (number + 1) lines) ≡ tells_malformed (checked_from (number + 1) lines (checked number line c))
  stops_within few true is = stops_here (meets c.world number line few).stops is
  stops_within few false is = goes_on (meets c.world number line few) is

  -- it is one too many
  stops_over : most_lines < number → (taken.stops || is_stopped (line_step script_step) taken.state (number + 1) lines) ≡ tells_malformed (with_said (Some (malformed_at number 2)) c)
  stops_over many =
      ap (λ (s : Stepped WorldState). s.stops || is_stopped (line_step script_step) s.state (number + 1) lines) (line_step-many c.world number line many)
      ∙ sym (tells_said (Some (malformed_at number 2)) c ∙ or_true (tells_malformed c))

  stops_line : (many : Bool) → nat_lt most_lines number ≡ many
      → (taken.stops || is_stopped (line_step script_step) taken.state (number + 1) lines)
      ≡ tells_malformed (if many then with_said (Some (malformed_at number 2)) c else checked_from (number + 1) lines (checked number line c))
  stops_line true is = stops_over (ltb-true most_lines number is)
  stops_line false is = stops_within (ltb-false most_lines number is) told refl

pub stops_where_told : (number : ℕ) (lines : List (List ℕ)) (c : Checked) → StopsWhereTold number lines c
stops_where_told number [] c none = sym none
stops_where_told number (line ∷ lines) c none =
    stops_line number line lines c none (stops_where_told (number + 1) lines (checked number line c)) (nat_lt most_lines number) refl
