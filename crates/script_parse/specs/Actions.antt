-- The actions of procedures, as their lines give them.
use Rattle.std.specs.Prelude.{ℕ, List, [], ◌∷◌, codes}
use Rattle.script_words.specs.Reading.{Reading, ◌>>=◌, row, ◌⊛◌}
use Rattle.script_words.specs.Parts.{name, choice}
use Rattle.script_parse.specs.declared.actions.ActionHead.{ActionHead}
use Rattle.script_parse.specs.declared.actions.ActionHead.TheVariants as head
use Rattle.script_parse.specs.declared.proc_line.ActionWords.{ActionWords}
use Rattle.script_parse.specs.declared.proc_line.ActionWords.TheVariants as action_words
use Rattle.script_parse.specs.Parts.{where_tests}

-- the first words of actions
abbrev pub action_heads : List (List ℕ × ActionHead)
action_heads = (codes "put", head.Put) ∷ (codes "add", head.Add) ∷ (codes "drop", head.Drop) ∷ []

-- what stands behind the first word
abbrev pub action_behind : ActionHead → Reading ActionWords
action_behind head.Put = row action_words.Put
action_behind head.Add = row action_words.Add ⊛ name ⊛ where_tests
action_behind head.Drop = row action_words.Drop ⊛ where_tests

-- ACTION: put, add NAME [where TEST [and TEST]..] or drop [where TEST [and TEST]..]
abbrev pub action : Reading ActionWords
action ts = choice action_heads ts >>= λ h. action_behind h.0 h.1
