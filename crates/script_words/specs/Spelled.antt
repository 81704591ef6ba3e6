-- How values are written.
use Rattle.std.specs.Prelude.{pos, suc, negsuc, ◌^◌, Bool, true, false, nat_lt}
use Rattle.rep_values.specs.declared.literal.Literal.{Literal}
use Rattle.rep_values.specs.declared.literal.Literal.TheVariants as literal
use Rattle.script_lex.specs.declared.token.Token.{Token}
use Rattle.script_lex.specs.declared.token.Token.TheVariants as token

-- the token that writes a value
abbrev pub value_token : Literal → Token
value_token (literal.Num (pos n)) = token.Number false n
value_token (literal.Num (negsuc n)) = token.Number true (suc n)
value_token (literal.Words bytes) = token.Words bytes

-- a number that is small enough to be read, or a text
abbrev pub is_small : Literal → Bool
is_small (literal.Num (pos n)) = nat_lt n (2 ^ 63)
is_small (literal.Num (negsuc n)) = nat_lt (suc n) (2 ^ 63)
is_small (literal.Words bytes) = true
