-- What came of a line, and what a declaration makes of the schema.
use Rattle.std.specs.Prelude.{ℕ, List, Option, Some, None, Result, Ok, Err}
use Rattle.rep_values.specs.declared.refusal.Refusal.{Refusal}
use Rattle.rep_schema.specs.declared.schema.Schema.{Schema}
use Rattle.rep_declare.specs.declared.declaration.Declare.{Declare}
use Rattle.rep_declare.specs.Additions.{declared}
use Rattle.rep_declare.specs.Refusals.{declare_refusal}
use Rattle.report_text.specs.Sheet.{Sheet}
use Rattle.report_text.specs.Refusals.{refused_text}
use Rattle.report_text.specs.Texts.{malformed_text}
use Rattle.script_parse.specs.declared.command.Command.{Command}
use Rattle.script_parse.specs.declared.command.Command.TheVariants as command
use Rattle.world_state.specs.declared.refused.Refused.{Refused}
use Rattle.script_steps.specs.Saying.{malformed_at, refused_so}
use Rattle.script_steps.specs.declared.answer.Answer.{Answer}
use Rattle.script_steps.specs.declared.came.Came.{Came}
use Rattle.script_steps.specs.declared.came.Came.TheVariants as came

-- the schema with a declaration that it doesn't refuse
abbrev pub declared_unless : Option Refusal → Declare → Schema → Option Schema
declared_unless None declaration schema = Some (declared declaration schema)
declared_unless (Some why) declaration schema = None

-- the schema behind a command that declares something and isn't refused by it; None for all others
abbrev pub schema_with : Command → Schema → Option Schema
schema_with (command.Declare declaration) schema = declared_unless (declare_refusal schema declaration) declaration schema
schema_with other schema = None

-- the schema where there may be another one in its place
abbrev pub renewed : Option Schema → Schema → Schema
renewed None old = old
renewed (Some next) old = next

-- what the engine said of the line of a number of which this came
abbrev pub said_of : ℕ → Came → Option Answer
said_of number (came.Done command lines) = None
said_of number (came.Malformed mistake) = Some (malformed_at number mistake.rule)
said_of number (came.Refused command refused) = refused_so (Some refused)

-- and what it printed
abbrev pub printed_by : ℕ → Came → List ℕ
printed_by number (came.Done command lines) = lines.bytes
printed_by number (came.Malformed mistake) = malformed_text number mistake.rule
printed_by number (came.Refused command refused) = refused_text refused.line refused.refusal

-- a command was done, and this was printed, or it was refused
abbrev pub refused_in : Result Sheet Refused → Option Refused
refused_in (Ok lines) = None
refused_in (Err refused) = Some refused

abbrev pub text_in : Result Sheet Refused → List ℕ
text_in (Ok lines) = lines.bytes
text_in (Err refused) = refused_text refused.line refused.refusal
