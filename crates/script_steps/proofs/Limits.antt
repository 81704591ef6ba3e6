-- A line that isn't one too many does what its step says: a line that is too long is malformed.
use Rattle.std.proofs.Common.{◌≡◌, ◌<◌, ◌≤◌, ℕ, Bool, true, false, List, length, refl, ◌∙◌}
use Rattle.std.specs.Prelude.{nat_lt, Err}
use Rattle.std.proofs.lemmas.Bool.{ltb-true, ltb-false, lt-leb}
use Rattle.script_drive.specs.Runs.{halts}
use Rattle.script_drive.proofs.LimitLemmas.{limited-many, limited-long, limited-within}
use Rattle.report_text.specs.Texts.{malformed_text}
use Rattle.script_lex.specs.Lines.{lexed}
use Rattle.script_parse.specs.Parsed.{parsed}
use Rattle.script_drive.specs.LineBytes.{most_lines, most_bytes, line_step}
use Rattle.world_state.specs.World.{WorldState}
use Rattle.world_run.specs.Scripts.{script_step}

parsed_long : (line : List ℕ) → most_bytes < length line → parsed line ≡ Err 1
unfolding lexed
parsed_long line long = rw (lt-leb (length line) 1024 long) refl

step_long : (w : WorldState) (number : ℕ) (line : List ℕ) → parsed line ≡ Err 1 → halts w (malformed_text number 1) ≡ script_step w number line
unfolding script_step
step_long w number line broken = rw broken refl

pub line_step-within : (w : WorldState) (number : ℕ) (line : List ℕ) → number ≤ most_lines → line_step script_step w number line ≡ script_step w number line
line_step-within w number line few = go (nat_lt most_bytes (length line)) refl
  where
    go : (long : Bool) → nat_lt most_bytes (length line) ≡ long → line_step script_step w number line ≡ script_step w number line
    go true is =
        let long : most_bytes < length line = ltb-true most_bytes (length line) is in
        limited-long most_lines most_bytes malformed_text script_step w number line few long ∙ step_long w number line (parsed_long line long)
    go false is = limited-within most_lines most_bytes malformed_text script_step w number line few (ltb-false most_bytes (length line) is)

-- and one that is too many is malformed by rule 2
pub line_step-many : (w : WorldState) (number : ℕ) (line : List ℕ) → most_lines < number → line_step script_step w number line ≡ halts w (malformed_text number 2)
line_step-many w number line many = limited-many most_lines most_bytes malformed_text script_step w number line many
