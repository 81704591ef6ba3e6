-- Laws of tokens.
use Rattle.std.specs.Prelude.{◌≡◌, ◌↔◌, ℕ, List, Some}
use Rattle.script_lex.specs.declared.token.Symbol.{Symbol}
use Rattle.script_lex.specs.declared.token.Token.{Token}
use Rattle.script_lex.specs.Forms.{symbol_bytes, symbol_of}
use Rattle.script_lex.specs.Tokens.{tokens_from, IsTokens}

-- two sequences that are the tokens of one line are the same
abbrev pub HaveOneReading : Type 0
HaveOneReading = (bytes : List ℕ) (ts us : List Token) → IsTokens bytes ts → IsTokens bytes us → ts ≡ us

-- the tokens that are found are the tokens of the line, and none are found where it has none
abbrev pub FindsTokens : Type 0
FindsTokens = (bytes : List ℕ) (ts : List Token) → (tokens_from 0 bytes ≡ Some ts) ↔ IsTokens bytes ts

-- the bytes that write a symbol are that symbol
abbrev pub SymbolsReadAgain : Type 0
SymbolsReadAgain = (s : Symbol) → symbol_of (symbol_bytes s) ≡ Some s
