-- A script's literals beside columns: kinds and declared sites.
use Rattle.std.specs.Prelude.{Bool, true, false, not, ◌&&◌, ◌||◌, List, [], ◌∷◌, map, Option, Some, None}
use Rattle.std.specs.List.{list_any}
use Rattle.rep_values.specs.declared.literal.Literal.{Literal}
use Rattle.rep_values.specs.declared.literal.Literal.TheVariants as literal
use Rattle.rep_values.specs.Literal.{value_of_literal}
use Rattle.rep_values.specs.Name.{same_bytes}
use Rattle.rep_schema.specs.declared.schema.Schema.{Schema}
use Rattle.rep_schema.specs.declared.schema.Column.{Column}
use Rattle.rep_schema.specs.Tables.{Cells, key_columns}
use Rattle.rep_schema.specs.Kinds.{is_site_kind, is_of_kind, is_filled}
use Rattle.txn_effects.specs.declared.given.Given.{Given}
use Rattle.txn_effects.specs.declared.given.Given.TheVariants.{Written, Key}

-- a literal is the name of a declared site
abbrev pub names_site : Schema → Literal → Bool
names_site schema (literal.Num n) = false
names_site schema (literal.Words t) = list_any (λ site. same_bytes site.name.0 t) schema.sites

-- a literal for a column: of its kind, and in a SITE key column the name of a declared site
abbrev pub literal_fits : Schema → Column → Literal → Bool
literal_fits schema column literal = is_of_kind column.kind literal && (not (column.key && is_site_kind column.kind) || names_site schema literal)

abbrev pub literal_there : Schema → Column → Option Literal → Bool
literal_there schema column None = false
literal_there schema column (Some literal) = literal_fits schema column literal

-- a literal for each of these columns
abbrev pub literals_fit : Schema → List Column → List Literal → Bool
literals_fit schema [] [] = true
literals_fit schema [] (l ∷ ls) = false
literals_fit schema (c ∷ cs) [] = false
literals_fit schema (c ∷ cs) (l ∷ ls) = literal_fits schema c l && literals_fit schema cs ls

-- a literal for each key column
abbrev pub key_literals_fit : Schema → List Column → List Literal → Bool
key_literals_fit schema columns literals = literals_fit schema (key_columns columns) literals

-- a column that literals are given for: one that a script writes, or a key column
abbrev pub is_given : Given → Column → Bool
is_given Written column = not (is_filled column)
is_given Key column = column.key

-- the values that literals stand for
abbrev pub values_of : List Literal → Cells
values_of literals = map value_of_literal literals
