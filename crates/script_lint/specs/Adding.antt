-- What one more error, and further broken parts, make of what was found.
use Rattle.std.specs.Prelude.{List, [], ◌∷◌, ◌++◌}
use Rattle.schema_advice.specs.declared.broken.BrokenPart.{BrokenPart}
use Rattle.script_steps.specs.declared.answer.Answer.{Answer}
use Rattle.script_lint.specs.declared.error.ErrorFound.{ErrorFound}
use Rattle.script_lint.specs.Checking.{Checked}

-- what the engine said where an error was found
abbrev pub answer_of : ErrorFound → Answer
answer_of error = error.answer

-- one answer more
abbrev pub with_answer : Answer → Checked → Checked
with_answer said c = record c { answers = c.answers ++ said ∷ [] }

-- further parts
abbrev pub with_parts : List BrokenPart → Checked → Checked
with_parts parts c = record c { parts = c.parts ++ parts }
