-- Texts: the bytes that one may have, and how many.
use Rattle.std.specs.Prelude.{ℕ, Bool, ◌&&◌, ◌==◌, not, nat_le, List, length}
use Rattle.std.specs.List.{list_all}
use Rattle.rep_values.specs.Bytes.{is_printable}

-- printable, and not a quote
abbrev pub is_text_byte : ℕ → Bool
is_text_byte byte = is_printable byte && not (byte == 39)

-- at most 64 such bytes
abbrev pub is_text : List ℕ → Bool
is_text bytes = nat_le (length bytes) 64 && list_all is_text_byte bytes
