-- What a script's literal stands for.
use Rattle.rep_values.specs.declared.value.Value.{Value}
use Rattle.rep_values.specs.declared.value.Value.TheVariants as value
use Rattle.rep_values.specs.declared.literal.Literal.{Literal}
use Rattle.rep_values.specs.declared.literal.Literal.TheVariants as literal

-- the same number or the same text
abbrev pub value_of_literal : Literal → Value
value_of_literal (literal.Num n) = value.Num n
value_of_literal (literal.Words t) = value.Words t
