-- Bytes as tokens.
use Rattle.std.specs.Prelude.{◌≡◌, ℕ, zero, suc, ◌+◌, ◌-◌, ◌*◌, ◌<◌, ◌≤◌, Bool, true, false, ◌==◌, nat_le, if◌then◌else◌, List, [], ◌∷◌, ◌++◌, length, take, Option, Some, None}
use Rattle.script_lex.specs.declared.bytes.Start.{Start}
use Rattle.script_lex.specs.declared.bytes.Start.TheVariants as start
use Rattle.script_lex.specs.declared.token.Symbol.{Symbol}
use Rattle.script_lex.specs.declared.token.Token.{Token}
use Rattle.script_lex.specs.declared.token.Token.TheVariants as token
use Rattle.script_lex.specs.Bytes.{start_of}
use Rattle.script_lex.specs.Forms.{symbol_of, has_form, longest}

-- the number that digits write, behind others that write n
abbrev pub digits_value : ℕ → List ℕ → ℕ
digits_value n [] = n
digits_value n (d ∷ ds) = digits_value (10 * n + (d - 48)) ds

-- a word of at most 30 bytes
abbrev pub word_token : List ℕ → Option Token
word_token bytes = if nat_le (length bytes) 30 then Some (token.Word bytes) else None

-- a number of at most 16 digits
abbrev pub number_token : Bool → List ℕ → Option Token
number_token minus digits = if nat_le (length digits) 16 then Some (token.Number minus (digits_value 0 digits)) else None

-- a text of at most 64 bytes, which stand before the closing quote
abbrev pub text_token : List ℕ → Option Token
text_token bytes = if nat_le (length bytes) 65 then Some (token.Words (take (length bytes - 1) bytes)) else None

-- a symbol is a token as it is
abbrev pub symbol_token : Option Symbol → Option Token
symbol_token None = None
symbol_token (Some s) = Some (token.Symbol s)

-- the token that a byte and those behind it are, by what the byte begins
abbrev pub token_by : Start → ℕ → List ℕ → Option Token
token_by start.Word b bs = word_token (b ∷ bs)
token_by start.Number b bs = number_token false (b ∷ bs)
token_by start.Minus b bs = number_token true bs
token_by start.Text b bs = text_token bs
token_by start.Other b bs = symbol_token (symbol_of (b ∷ bs))

-- the token that bytes of its form are, or none where they are too many
unfoldable pub token_of : List ℕ → Option Token
token_of [] = None
token_of (b ∷ bs) = token_by (start_of b) b bs

-- a token and those behind it, where there are both
abbrev pub with_front : Option Token → Option (List Token) → Option (List Token)
with_front None ts = None
with_front (Some t) None = None
with_front (Some t) (Some ts) = Some (t ∷ ts)

-- the tokens of the bytes behind the first k of them, at each place the longest that can be taken
unfoldable pub tokens_from : ℕ → List ℕ → Option (List Token)
tokens_from k [] = Some []
tokens_from (suc k) (b ∷ bs) = tokens_from k bs
tokens_from zero (b ∷ bs) =
    if b == 32 then tokens_from zero bs
    else with_front (token_of (take (longest (b ∷ bs)) (b ∷ bs))) (tokens_from (longest (b ∷ bs) - 1) bs)

-- a front that has a token's form, as no longer front has, and is that token
pub record IsFirst (bytes front : List ℕ) (t : Token) : Type 0 where
  pub form : has_form front ≡ true
  pub longest : (k : ℕ) → length front < k → k ≤ length bytes → has_form (take k bytes) ≡ false
  pub token : token_of front ≡ Some t

-- what the tokens of bytes are: of no byte none, of a space and more those of what is behind it, and else the first
-- token and those of the rest
pub data IsTokens : List ℕ → List Token → Type 0 where
  nothing : IsTokens [] []
  space : {bytes : List ℕ} {ts : List Token} → IsTokens bytes ts → IsTokens (32 ∷ bytes) ts
  first : {bytes : List ℕ} {ts : List Token} (front rest : List ℕ) (t : Token)
      → bytes ≡ front ++ rest → IsFirst bytes front t → IsTokens rest ts → IsTokens bytes (t ∷ ts)
