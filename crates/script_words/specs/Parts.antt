-- The parts of one token that forms share.
use Rattle.std.specs.Prelude.{ℕ, ℤ, List}
use Rattle.rep_values.specs.declared.literal.Literal.{Literal}
use Rattle.script_words.specs.Words.{name_of, whole_of, token_number, value_of, choice_of}
use Rattle.script_words.specs.Reading.{Reading, one}

-- NAME
abbrev pub name : Reading (List ℕ)
name = one name_of

-- WHOLE
abbrev pub whole_number : Reading ℕ
whole_number = one whole_of

-- a number
abbrev pub number : Reading ℤ
number = one token_number

-- VALUE
abbrev pub value : Reading Literal
value = one value_of

-- one of a table's words and symbols
abbrev pub choice : {A : Type 0} → List (List ℕ × A) → Reading A
choice table = one (choice_of table)
