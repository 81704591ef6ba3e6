-- What an update sets: which columns, and to what.
use Rattle.std.specs.Prelude.{ℕ, ◌+ℤ◌, Bool, true, false, not, ◌&&◌, ◌||◌, List, [], ◌∷◌, map, Option, Some, None}
use Rattle.std.specs.List.{find, list_any, list_all}
use Rattle.rep_values.specs.declared.value.Value.{Value}
use Rattle.rep_values.specs.declared.value.Value.TheVariants.{Num, Words}
use Rattle.rep_values.specs.Literal.{value_of_literal}
use Rattle.rep_values.specs.Name.{same_bytes}
use Rattle.rep_schema.specs.declared.schema.Column.{Column}
use Rattle.rep_schema.specs.Tables.{Cells}
use Rattle.rep_calls.specs.declared.statement.Set.{Set}
use Rattle.rep_calls.specs.declared.statement.How.{How}
use Rattle.rep_calls.specs.declared.statement.How.TheVariants.{To, Add}
use Rattle.rep_schema.specs.Named.{is_column}
use Rattle.rep_schema.specs.Kinds.{is_of_kind, takes_amounts, is_filled}

-- each name is that of a column
abbrev pub names_columns : List Column → List Set → Bool
names_columns columns sets = list_all (λ s. list_any (is_column s.column) columns) sets

-- a set is about the column of this name
abbrev pub is_about : List ℕ → Set → Bool
is_about name s = same_bytes s.column name

-- a column is named twice
abbrev pub names_one_twice : List Set → Bool
names_one_twice [] = false
names_one_twice (s ∷ ss) = list_any (is_about s.column) ss || names_one_twice ss

-- a column takes the new value or the amount
abbrev pub takes_how : Column → How → Bool
takes_how column (To literal) = is_of_kind column.kind literal
takes_how column (Add amount) = takes_amounts column.kind

-- a column takes what is set of it, if anything is: it is no key column
abbrev pub takes_set : Column → Option Set → Bool
takes_set column None = true
takes_set column (Some s) = not column.key && takes_how column s.how

-- each column takes what is set of it, and none is set twice
abbrev pub sets_fit : List Column → List Set → Bool
sets_fit columns sets = list_all (λ c. takes_set c (find (is_about c.name) sets)) columns && not (names_one_twice sets)

-- a set is of a column that the site fills
abbrev pub is_of_filled : List Column → Set → Bool
is_of_filled columns s = list_any (λ c. is_column s.column c && is_filled c) columns

-- a column that the site fills is set
abbrev pub sets_filled : List Column → List Set → Bool
sets_filled columns sets = list_any (is_of_filled columns) sets

-- a value after what is done to it: the literal, or the old value plus the amount
abbrev pub value_after : How → Value → Value
value_after (To literal) old = value_of_literal literal
value_after (Add amount) (Num n) = Num (n +ℤ amount)
value_after (Add amount) (Words t) = Words t

abbrev pub value_by : Option Set → Value → Value
value_by None old = old
value_by (Some s) old = value_after s.how old

-- what is set of each column
abbrev pub sets_by_column : List Column → List Set → List (Option Set)
sets_by_column columns sets = map (λ c. find (is_about c.name) sets) columns

-- the row after an update: the columns that are set have their new values, all from the row before, and the others keep theirs
abbrev pub row_with : List Set → List Column → Cells → Cells
row_with sets [] row = row
row_with sets (c ∷ cs) [] = []
row_with sets (c ∷ cs) (v ∷ vs) = value_by (find (is_about c.name) sets) v ∷ row_with sets cs vs
