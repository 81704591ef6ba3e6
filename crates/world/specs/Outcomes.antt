-- What comes of a line, as data.
use Rattle.std.specs.Prelude.{ℕ, ◌==◌, cond, Option, Some, None, Result, Ok, Err}
use Rattle.rep_values.specs.declared.refusal.Refusal.{Refusal}
use Rattle.script_parse.specs.declared.command.Command.{Command}
use Rattle.script_parse.specs.declared.command.Command.TheVariants as command
use Rattle.world_state.specs.declared.block.Block.{Block}
use Rattle.world_state.specs.World.{WorldState}
use Rattle.world_state.specs.Answers.{commit_number}
use Rattle.world_state.specs.PushAnswers.{push_count}
use Rattle.world_state.specs.Refusals.{world_refusal}
use Rattle.world.specs.declared.answer.Outcome.{Outcome}
use Rattle.world.specs.declared.answer.Outcome.TheVariants as outcome

-- a commit under a number, or one that changes no row
abbrev pub committed : ℕ → Outcome
committed number = cond (number == 0) outcome.NothingCommitted (outcome.Committed number)

abbrev pub block_outcome : Option Block → ℕ → Outcome
block_outcome None number = outcome.Done
block_outcome (Some block) number = committed number

-- what comes of a line that isn't refused
abbrev pub world_outcome : Command → WorldState → Outcome
world_outcome command.Commit w = block_outcome w.block (commit_number w)
world_outcome (command.Push from to count) w = outcome.Pushed (push_count from to count w)
world_outcome _ w = outcome.Done

abbrev pub outcome_by : Option Refusal → Command → WorldState → Result Outcome Refusal
outcome_by None command w = Ok (world_outcome command w)
outcome_by (Some why) command w = Err why

-- what comes of a line, or why it is refused
abbrev pub line_outcome : Command → WorldState → Result Outcome Refusal
line_outcome command w = outcome_by (world_refusal command w) command w
