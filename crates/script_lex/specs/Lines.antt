-- A line as its tokens, or the first rule that it breaks.
use Rattle.std.specs.Prelude.{ℕ, ◌≡◌, Bool, true, false, ◌||◌, ◌==◌, nat_le, if◌then◌else◌, List, [], ◌∷◌, length, Option, Some, None, Result, Ok, Err, IsOk}
use Rattle.std.specs.List.{list_all}
use Rattle.rep_values.specs.Bytes.{is_printable}
use Rattle.script_lex.specs.declared.token.Token.{Token}
use Rattle.script_lex.specs.Bytes.{is_space}
use Rattle.script_lex.specs.Tokens.{tokens_from}

-- it is empty, begins with #, or has spaces alone
abbrev pub is_passed_over : List ℕ → Bool
is_passed_over [] = true
is_passed_over (b ∷ bs) = b == 35 || list_all is_space (b ∷ bs)

-- the tokens, or the rule where there are none
abbrev pub or_rule : ℕ → Option (List Token) → Result (List Token) ℕ
or_rule rule None = Err rule
or_rule rule (Some ts) = Ok ts

-- rule 1: at most 1,024 bytes; rule 3: printable bytes alone; rule 4: tokens at every place, unless it is passed over
unfoldable pub lexed : List ℕ → Result (List Token) ℕ
lexed line =
    if nat_le (length line) 1024 then
    (if list_all is_printable line then
    (if is_passed_over line then Ok [] else or_rule 4 (tokens_from 0 line))
    else Err 3)
    else Err 1

-- the line has tokens, which take memory: it isn't passed over, and breaks none of these rules
abbrev pub HasTokens : List ℕ → Type 0
HasTokens line = (is_passed_over line ≡ false) × IsOk (lexed line)
