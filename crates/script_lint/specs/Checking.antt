-- What the engine says of the lines of a script.
use Rattle.std.specs.Prelude.{ℕ, ◌+◌, nat_lt, Bool, true, false, if◌then◌else◌, List, [], ◌∷◌, ◌++◌, Option, Some, None}
use Rattle.rep_values.specs.declared.refusal.Refusal.{Refusal}
use Rattle.rep_values.specs.declared.refusal.Refusal.TheVariants as refusal
use Rattle.rep_schema.specs.declared.schema.Schema.{Schema}
use Rattle.schema_advice.specs.declared.broken.BrokenPart.{BrokenPart}
use Rattle.schema_advice.specs.Broken.{broken_parts}
use Rattle.script_drive.specs.LineBytes.{most_lines}
use Rattle.world_state.specs.World.{WorldState, first_world}
use Rattle.script_steps.specs.Lines.{lines_of}
use Rattle.script_steps.specs.Saying.{malformed_at, said_at, world_past}
use Rattle.script_steps.specs.declared.answer.Answer.{Answer}
use Rattle.script_steps.specs.declared.answer.Verdict.{Verdict}
use Rattle.script_steps.specs.declared.answer.Verdict.TheVariants as verdict

-- ---- the lines so far

-- the world behind them, what the engine said of them, and the parts of the schema that break a rule, each time that it refused a
-- line for one
pub record Checked : Type 0 where
  pub world : WorldState
  pub answers : List Answer
  pub parts : List BrokenPart

-- no line yet
abbrev pub nothing_checked : Checked
nothing_checked = record { world = first_world; answers = []; parts = [] }

-- a refusal is for a rule of schemas
abbrev pub is_for_rule : Refusal → Bool
is_for_rule (refusal.SchemaRule rule) = true
is_for_rule other = false

-- the parts that are told beside a refusal: those of the schema where it is for a rule
abbrev pub parts_beside : Refusal → Schema → List BrokenPart
parts_beside why schema = if is_for_rule why then broken_parts schema else []

-- and beside a verdict
abbrev pub parts_with : Verdict → Schema → List BrokenPart
parts_with (verdict.Malformed rule) schema = []
parts_with (verdict.Refused why) schema = parts_beside why schema

-- one answer more, or none
abbrev pub with_said : Option Answer → Checked → Checked
with_said None c = c
with_said (Some said) c = record {
  world = c.world;
  answers = c.answers ++ said ∷ [];
  parts = c.parts ++ parts_with said.verdict c.world.schema;
}

-- one line more
abbrev pub checked : ℕ → List ℕ → Checked → Checked
checked number line c = with_said (said_at c.world number line) (record c { world = world_past c.world number line })

-- ---- a script

-- lines from a number on; the first that is one too many is the last
abbrev pub checked_from : ℕ → List (List ℕ) → Checked → Checked
checked_from number [] c = c
checked_from number (line ∷ lines) c =
    if nat_lt most_lines number then with_said (Some (malformed_at number 2)) c else checked_from (number + 1) lines (checked number line c)

-- all lines of a script
abbrev pub script_checked : List ℕ → Checked
script_checked script = checked_from 1 (lines_of script) nothing_checked
