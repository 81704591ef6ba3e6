-- Texts that get bytes put behind them.
use Rattle.std.specs.Prelude.{ℕ, ◌+◌, ◌==◌, Bool, not, cond, ◌&&◌, nat_le, List, length, ◌++◌, Option, Some, None, slice_get, slice_set}
use Rattle.std.specs.List.{list_any}
use Rattle.rep_values.specs.declared.value.Value.{Value}
use Rattle.rep_values.specs.declared.value.Value.TheVariants.{Num, Words}
use Rattle.rep_schema.specs.declared.schema.Column.{Column}
use Rattle.rep_schema.specs.Tables.{Cells}
use Rattle.rep_schema.specs.Kinds.{is_key_at}

-- a column of a constraint that is no key column
abbrev pub may_change : List Column → List ℕ → ℕ → Bool
may_change columns places column = list_any (λ place. place == column) places && not (is_key_at columns column)

-- a text has at most 64 bytes
abbrev pub most_bytes : ℕ
most_bytes = 64

-- the row with bytes behind the text in a column; none where no text is there, or where it gets too long
abbrev pub text_appended : ℕ → List ℕ → Cells → Option Value → Option Cells
text_appended column bytes row None = None
text_appended column bytes row (Some (Num n)) = None
text_appended column bytes row (Some (Words text)) = cond (nat_le (length text + length bytes) most_bytes) (Some (slice_set row column (Words (text ++ bytes)))) None

-- the same for a column of a constraint that is no key column; none for others
abbrev pub appended : List Column → List ℕ → ℕ → List ℕ → Cells → Option Cells
appended columns places column bytes row = cond (may_change columns places column) (text_appended column bytes row (slice_get row column)) None
