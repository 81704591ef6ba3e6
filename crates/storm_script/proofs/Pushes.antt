-- Commands that are added one after another.
use Rattle.std.proofs.Common.{◌≡◌, ℕ, ◌+◌, List, [], ◌∷◌, ◌++◌, refl, append_assoc, zero-add}
use Rattle.std.proofs.lemmas.List.FromFn.{map-range_with_len_more}
use Rattle.script_parse.specs.declared.command.Command.{Command}
use Rattle.storm_script.specs.Opening.{row_line, row_lines}

-- one row more behind the others
pub row_lines-more : (earlier items : List Command) (number : ℕ) → items ≡ earlier ++ row_lines number
    → items ++ (row_line number ∷ []) ≡ earlier ++ row_lines (number + 1)
row_lines-more earlier items number so = rw (so, map-range_with_len_more row_line 0 number number (zero-add number), append_assoc) refl

-- two pieces, added to none
pub two_pieces : {X : Type 0} (a b none one two : List X) → none ≡ [] → one ≡ none ++ a → two ≡ one ++ b → two ≡ a ++ b
two_pieces a b none one two first second third = rw (third, second, first) refl

-- two pieces and the last one, added to none
pub three_pieces : {X : Type 0} (a b last none one two three : List X) → none ≡ [] → one ≡ none ++ a → two ≡ one ++ b → three ≡ two ++ last → three ≡ a ++ (b ++ last)
three_pieces a b last none one two three first second third fourth = rw (fourth, third, second, first, append_assoc) refl
