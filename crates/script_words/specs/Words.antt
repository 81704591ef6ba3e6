-- What one token may be.
use Rattle.std.specs.Prelude.{ℕ, ℤ, pos, zero, suc, negsuc, ◌^◌, Bool, true, false, nat_lt, nat_eq, if◌then◌else◌, List, [], ◌∷◌, Option, Some, None}
use Rattle.std.specs.Borrow.{Bor}
use Rattle.std.specs.Option.{is_some}
use Rattle.std.specs.Cmp.Lexicographic.{pointwise}
use Rattle.rep_values.specs.Name.{is_name}
use Rattle.rep_values.specs.declared.literal.Literal.{Literal}
use Rattle.rep_values.specs.declared.literal.Literal.TheVariants as literal
use Rattle.script_lex.specs.declared.token.Token.{Token}
use Rattle.script_lex.specs.declared.token.Token.TheVariants as token
use Rattle.script_lex.specs.Forms.{symbol_bytes}

-- NAME: a word without a dash
abbrev pub name_of : Token → Option (List ℕ)
name_of (token.Word bytes) = if is_name bytes then Some bytes else None
name_of (token.Number minus size) = None
name_of (token.Words bytes) = None
name_of (token.Symbol s) = None

-- WHOLE: a number without a minus
abbrev pub whole_of : Token → Option ℕ
whole_of (token.Word bytes) = None
whole_of (token.Number minus size) = if minus then None else Some size
whole_of (token.Words bytes) = None
whole_of (token.Symbol s) = None

-- a number by its sign and its size
abbrev pub signed : Bool → ℕ → ℤ
signed false size = pos size
signed true zero = pos 0
signed true (suc size) = negsuc size

-- a number with its sign; one of at most 16 digits is far below the bound
abbrev pub token_number : Token → Option ℤ
token_number (token.Word bytes) = None
token_number (token.Number minus size) = if nat_lt size (2 ^ 63) then Some (signed minus size) else None
token_number (token.Words bytes) = None
token_number (token.Symbol s) = None

-- VALUE: a number or a text
abbrev pub value_of : Token → Option Literal
value_of (token.Word bytes) = None
value_of (token.Number minus size) = if nat_lt size (2 ^ 63) then Some (literal.Num (signed minus size)) else None
value_of (token.Words bytes) = Some (literal.Words bytes)
value_of (token.Symbol s) = None

-- the token is the word or the symbol that is written so
abbrev pub is_mark : List ℕ → Token → Bool
is_mark mark (token.Word bytes) = pointwise nat_eq mark bytes
is_mark mark (token.Number minus size) = false
is_mark mark (token.Words bytes) = false
is_mark mark (token.Symbol s) = pointwise nat_eq mark (symbol_bytes s)

-- what stands beside the first entry that is written so
abbrev pub chosen : {A : Type 0} → List (List ℕ × A) → List ℕ → Option A
chosen [] written = None
chosen (entry ∷ rest) written = if pointwise nat_eq entry.0 written then Some entry.1 else chosen rest written

-- what stands beside the word or the symbol in a table
abbrev pub choice_of : {A : Type 0} → List (List ℕ × A) → Token → Option A
choice_of table (token.Word bytes) = chosen table bytes
choice_of table (token.Number minus size) = None
choice_of table (token.Words bytes) = None
choice_of table (token.Symbol s) = chosen table (symbol_bytes s)

-- a table of the program as one of these
abbrev pub entries : {A : Type 0} → List (Bor (List ℕ) × A) → List (List ℕ × A)
entries [] = []
entries (entry ∷ rest) = (entry.0.now, entry.1) ∷ entries rest

-- What a part that repeats begins with.

-- a NAME
abbrev pub is_named : Token → Bool
is_named t = is_some (name_of t)

-- a VALUE
abbrev pub is_valued : Token → Bool
is_valued t = is_some (value_of t)

-- a word or a symbol of the table
abbrev pub is_chosen : {A : Type 0} → List (List ℕ × A) → Token → Bool
is_chosen table t = is_some (choice_of table t)
