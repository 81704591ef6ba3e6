-- Printed bytes with room behind them, and lines made of words.
use Rattle.std.specs.Prelude.{◌≡◌, ℕ, ◌+◌, ◌≤◌, List, [], ◌∷◌, ◌++◌, length, decimal}
use Rattle.std.specs.Fmt.{signed_decimal}
use Rattle.report_text.specs.declared.word.Word.{Word}
use Rattle.report_text.specs.declared.word.Word.TheVariants as word

-- what a contract sees of printed lines: the bytes, and how many more find room
pub record Sheet : Type 0 where
  pub bytes : List ℕ
  pub room : ℕ

-- the piece stands behind the old bytes, and took no more room than it has bytes
pub record Appends (old new : Sheet) (piece : List ℕ) : Type 0 where
  pub bytes : new.bytes ≡ old.bytes ++ piece
  pub room : old.room ≤ new.room + length piece

-- the bytes stand in front of the others
abbrev pub StandBefore : List ℕ → List ℕ → Type 0
StandBefore bytes longer = (more : List ℕ) × (longer ≡ bytes ++ more)

-- a line has at most so many bytes, where it has no row
abbrev pub most_line : ℕ
most_line = 256

-- a value behind its space has at most so many bytes
abbrev pub most_value : ℕ
most_value = 67

-- a text between quotes
abbrev pub quoted : List ℕ → List ℕ
quoted text = 39 ∷ (text ++ 39 ∷ [])

-- the bytes of a word
abbrev pub word_text : Word → List ℕ
word_text (word.Plain bytes) = bytes.now
word_text (word.Name name) = name
word_text (word.Number n) = decimal n
word_text (word.Signed z) = signed_decimal z
word_text (word.Quoted text) = quoted text

-- a word of its kind has at most so many bytes
abbrev pub most_of : Word → ℕ
most_of (word.Plain bytes) = length bytes.now
most_of (word.Name name) = 30
most_of (word.Number n) = 20
most_of (word.Signed z) = 20
most_of (word.Quoted text) = 66

-- words, each behind a space
abbrev pub spaced : List (List ℕ) → List ℕ
spaced [] = []
spaced (w ∷ ws) = 32 ∷ (w ++ spaced ws)

-- the first word, the others each behind a space, and the end of the line
abbrev pub line : List ℕ → List (List ℕ) → List ℕ
line first words = first ++ (spaced words ++ 10 ∷ [])

-- words, each behind a space, have at most so many bytes
abbrev pub most_spaced : List Word → ℕ
most_spaced [] = 0
most_spaced (w ∷ ws) = 1 + most_of w + most_spaced ws
