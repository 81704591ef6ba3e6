-- Tokens as they stand in a line.
use Rattle.std.specs.Prelude.{◌≡◌, ℕ, suc, Bool, true, ◌==◌, nat_lt, if◌then◌else◌, List, length, take, drop, Option, Some, None}
use Rattle.std.specs.Borrow.{Bor}
use Rattle.std.specs.List.{prefix_len}
use Rattle.std.specs.Option.{is_some}
use Rattle.rep_values.specs.Bytes.{is_digit}
use Rattle.rep_values.specs.Text.{is_text}
use Rattle.script_lex.specs.declared.lexeme.Lexeme.{Lexeme}
use Rattle.script_lex.specs.declared.lexeme.Lexeme.TheVariants as lexeme
use Rattle.script_lex.specs.declared.token.Token.{Token}
use Rattle.script_lex.specs.declared.token.Token.TheVariants as token
use Rattle.script_lex.specs.Bytes.{is_plain}
use Rattle.script_lex.specs.Forms.{symbol_of}
use Rattle.script_lex.specs.Tokens.{number_token, text_token}

-- the token that stands there
abbrev pub lexeme_token : Lexeme → Token
lexeme_token (lexeme.Word bytes) = token.Word bytes.now
lexeme_token (lexeme.Number minus size) = token.Number minus size
lexeme_token (lexeme.Words bytes) = token.Words bytes.now
lexeme_token (lexeme.Symbol s) = token.Symbol s

-- the bytes of a word or of a text are those of a text
abbrev pub is_lexeme : Lexeme → Bool
is_lexeme (lexeme.Word bytes) = is_text bytes.now
is_lexeme (lexeme.Number minus size) = true
is_lexeme (lexeme.Words bytes) = is_text bytes.now
is_lexeme (lexeme.Symbol s) = true

-- the bytes of a word stand in front of the others, and those of a text behind a quote
abbrev pub Stands : List ℕ → Lexeme → Type 0
Stands bytes (lexeme.Word word) = word.now ≡ take (length word.now) bytes
Stands bytes (lexeme.Number minus size) = Unit {0}
Stands bytes (lexeme.Words text) = text.now ≡ take (length text.now) (drop 1 bytes)
Stands bytes (lexeme.Symbol s) = Unit {0}

-- what is cut off is the token, and the bytes behind it are left; or there is no token
abbrev pub IsCut : Option Token → List ℕ → Option (Lexeme × Bor (List ℕ)) → Type 0
IsCut t behind None = t ≡ None
IsCut t behind (Some cut) = (t ≡ Some (lexeme_token cut.0)) × (cut.1.now ≡ behind) × (is_lexeme cut.0 ≡ true)

-- the text up to the first quote, or none where there is no quote
abbrev pub closed_token : List ℕ → Option Token
closed_token bytes =
    if nat_lt (prefix_len is_plain bytes) (length bytes) then text_token (take (suc (prefix_len is_plain bytes)) bytes) else None

-- the number behind a minus, or none where there is no digit
abbrev pub negative_token : List ℕ → Option Token
negative_token bytes =
    if prefix_len is_digit bytes == 0 then None else number_token true (take (prefix_len is_digit bytes) bytes)

-- how many bytes in front are a symbol, two if they can be
abbrev pub symbol_len : List ℕ → ℕ
symbol_len bytes =
    if is_some (symbol_of (take 2 bytes)) then length (take 2 bytes)
    else if is_some (symbol_of (take 1 bytes)) then 1
    else 0
