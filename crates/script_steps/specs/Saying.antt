-- What the engine says of the line of a number.
use Rattle.std.specs.Prelude.{ℕ, List, Option, Some, None, Result, Ok, Err}
use Rattle.script_parse.specs.declared.command.Command.{Command}
use Rattle.script_parse.specs.Parsed.{parsed}
use Rattle.world_state.specs.declared.refused.Refused.{Refused}
use Rattle.world_state.specs.World.{WorldState}
use Rattle.world_state.specs.Steps.{step_refused}
use Rattle.world_run.specs.Scripts.{script_step}
use Rattle.script_steps.specs.declared.answer.Answer.{Answer}
use Rattle.script_steps.specs.declared.answer.Verdict.TheVariants as verdict

abbrev pub malformed_at : ℕ → ℕ → Answer
malformed_at number rule = record { line = number; verdict = verdict.Malformed rule }

-- what is told of a refusal, if there is one
abbrev pub refused_so : Option Refused → Option Answer
refused_so None = None
refused_so (Some r) = Some (record { line = r.line; verdict = verdict.Refused r.refusal })

-- that a line breaks a rule, or what the world tells of its command, where it refuses that
abbrev pub said_by : WorldState → ℕ → Result Command ℕ → Option Answer
said_by w number (Err rule) = Some (malformed_at number rule)
said_by w number (Ok command) = refused_so (step_refused number command w)

-- what the engine says of the line of a number, None where it does it
abbrev pub said_at : WorldState → ℕ → List ℕ → Option Answer
said_at w number line = said_by w number (parsed line)

-- the world behind the line, which a malformed one leaves
abbrev pub world_past : WorldState → ℕ → List ℕ → WorldState
world_past w number line = (script_step w number line).state

-- what the line prints
abbrev pub prints_at : WorldState → ℕ → List ℕ → List ℕ
prints_at w number line = (script_step w number line).prints
