-- The columns of a table, as its line gives them.
use Rattle.std.specs.Prelude.{ℕ, Bool, List, [], ◌∷◌, codes}
use Rattle.rep_schema.specs.declared.schema.Kind.{Kind}
use Rattle.rep_schema.specs.declared.schema.Kind.TheVariants as kind
use Rattle.rep_schema.specs.declared.schema.Column.{Column}
use Rattle.script_words.specs.Reading.{Reading, row, ◌⊛◌, ◌⊘◌, flag}
use Rattle.script_words.specs.Parts.{name, choice}

-- TYPE
abbrev pub kinds : List (List ℕ × Kind)
kinds =
    (codes "NUMBER", kind.Number) ∷
    (codes "TEXT", kind.Words) ∷
    (codes "DATE", kind.Date) ∷
    (codes "STAMP", kind.Stamp) ∷
    (codes "SITE", kind.Site) ∷
    []

-- a column by its parts
abbrev pub column_of : List ℕ → Kind → Bool → Column
column_of n k b = record { name = n; kind = k; key = b }

-- NAME : TYPE [: key], with a type of these
unfoldable pub column_among : List (List ℕ × Kind) → Reading Column
column_among types = row column_of ⊛ name ⊘ codes ":" ⊛ choice types ⊛ flag (codes ":") (codes "key")

-- NAME : TYPE [: key]
abbrev pub column : Reading Column
column = column_among kinds

-- the types of columns that procedures write
abbrev pub plain_kinds : List (List ℕ × Kind)
plain_kinds = (codes "NUMBER", kind.Number) ∷ (codes "TEXT", kind.Words) ∷ (codes "DATE", kind.Date) ∷ []

-- NAME : TYPE [: key], where the site fills nothing in
abbrev pub plain_column : Reading Column
plain_column = column_among plain_kinds
