-- What a byte of a line may begin, and which bytes may follow.
use Rattle.std.specs.Prelude.{ℕ, Bool, ◌||◌, not, ◌==◌, if◌then◌else◌}
use Rattle.rep_values.specs.Bytes.{is_letter, is_digit}
use Rattle.script_lex.specs.declared.bytes.Start.{Start}
use Rattle.script_lex.specs.declared.bytes.Start.TheVariants as start

-- a letter, a digit, an underscore or a dash
abbrev pub is_word_byte : ℕ → Bool
is_word_byte byte = is_letter byte || is_digit byte || byte == 95 || byte == 45

-- any byte but a quote
abbrev pub is_plain : ℕ → Bool
is_plain byte = not (byte == 39)

-- the space
abbrev pub is_space : ℕ → Bool
is_space byte = byte == 32

-- what a byte begins
abbrev pub start_of : ℕ → Start
start_of byte =
    if is_letter byte then start.Word
    else if is_digit byte then start.Number
    else if byte == 45 then start.Minus
    else if byte == 39 then start.Text
    else start.Other
