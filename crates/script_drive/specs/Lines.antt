-- Bytes as lines, each of which ends with the byte 10.
use Rattle.std.specs.Prelude.{◌≢◌, ℕ, List, [], ◌∷◌, ◌++◌, if◌then◌else◌, ◌==◌, All}
use Rattle.std.specs.List.{flat_map}

-- the byte that ends a line
abbrev pub newline : ℕ
newline = 10

-- the lines that these bytes end, where the bytes `front` of the first stand before them
abbrev pub whole_lines : List ℕ → List ℕ → List (List ℕ)
whole_lines front [] = []
whole_lines front (b ∷ bs) = if b == newline then front ∷ whole_lines [] bs else whole_lines (front ++ b ∷ []) bs

-- the bytes of the line that they leave without an end
abbrev pub pending : List ℕ → List ℕ → List ℕ
pending front [] = front
pending front (b ∷ bs) = if b == newline then pending [] bs else pending (front ++ b ∷ []) bs

-- a last line without an end counts where it isn't empty
abbrev pub last_line : List ℕ → List (List ℕ)
last_line [] = []
last_line (b ∷ bs) = (b ∷ bs) ∷ []

-- all lines, where no more bytes come
abbrev pub lines_after : List ℕ → List ℕ → List (List ℕ)
lines_after front bytes = whole_lines front bytes ++ last_line (pending front bytes)

-- lines, each with its end behind it
abbrev pub joined_lines : List (List ℕ) → List ℕ
joined_lines lines = flat_map (λ line. line ++ newline ∷ []) lines

-- no byte of it ends a line
abbrev pub IsUnbroken : List ℕ → Type 0
IsUnbroken bytes = All (λ byte. byte ≢ newline) bytes
