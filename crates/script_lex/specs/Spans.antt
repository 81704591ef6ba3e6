-- Tokens by where they stand in a line.
use Rattle.std.specs.Prelude.{ℕ, ◌+◌, Bool, true, ◌&&◌, nat_le, List, length, take, drop}
use Rattle.rep_values.specs.Text.{is_text}
use Rattle.script_lex.specs.declared.lexeme.Lexeme.{Lexeme}
use Rattle.script_lex.specs.declared.lexeme.Lexeme.TheVariants as lexeme
use Rattle.script_lex.specs.declared.span.Span.{Span}
use Rattle.script_lex.specs.declared.span.Span.TheVariants as span
use Rattle.script_lex.specs.declared.token.Token.{Token}
use Rattle.script_lex.specs.declared.token.Token.TheVariants as token

-- the token that stands there
abbrev pub span_token : List ℕ → Span → Token
span_token line (span.Word start len) = token.Word (take len (drop start line))
span_token line (span.Number minus size) = token.Number minus size
span_token line (span.Words start len) = token.Words (take len (drop start line))
span_token line (span.Symbol s) = token.Symbol s

-- the bytes of a word or of a text are within the line, and are those of a text
abbrev pub is_span : List ℕ → Span → Bool
is_span line (span.Word start len) = nat_le (start + len) (length line) && is_text (take len (drop start line))
is_span line (span.Number minus size) = true
is_span line (span.Words start len) = nat_le (start + len) (length line) && is_text (take len (drop start line))
is_span line (span.Symbol s) = true

-- where a token stands of which the first byte is at this place; a text stands behind its quote
abbrev pub span_at : ℕ → Lexeme → Span
span_at start (lexeme.Word bytes) = span.Word start (length bytes.now)
span_at start (lexeme.Number minus size) = span.Number minus size
span_at start (lexeme.Words bytes) = span.Words (start + 1) (length bytes.now)
span_at start (lexeme.Symbol s) = span.Symbol s
