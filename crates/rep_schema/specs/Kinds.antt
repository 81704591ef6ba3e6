-- The kinds of columns, and tests of the column at a place.
use Rattle.std.specs.Prelude.{ℕ, Bool, true, false, not, ◌&&◌, ◌||◌, ◌==◌, List, Option, Some, None, slice_get}
use Rattle.std.specs.Option.{option_map}
use Rattle.std.specs.List.{list_any, list_all}
use Rattle.rep_values.specs.declared.literal.Literal.{Literal}
use Rattle.rep_values.specs.declared.literal.Literal.TheVariants as literal
use Rattle.rep_values.specs.declared.value.Value.{Value}
use Rattle.rep_values.specs.declared.value.Value.TheVariants as value
use Rattle.rep_schema.specs.declared.schema.Column.{Column}
use Rattle.rep_schema.specs.declared.schema.Kind.{Kind}
use Rattle.rep_schema.specs.declared.schema.Kind.TheVariants as kind
use Rattle.rep_schema.specs.Tables.{Cells}
use Rattle.rep_schema.specs.Fitting.{is_in_range}

-- something is there, and passes the test
abbrev pub is_some_and : {X : Type 0} → (X → Bool) → Option X → Bool
is_some_and test None = false
is_some_and test (Some x) = test x

-- what is there, if something is, passes the test
abbrev pub is_none_or : {X : Type 0} → (X → Bool) → Option X → Bool
is_none_or test None = true
is_none_or test (Some x) = test x

abbrev pub is_number : Kind → Bool
is_number kind.Number = true
is_number kind.Words = false
is_number kind.Date = false
is_number kind.Stamp = false
is_number kind.Site = false

abbrev pub is_text : Kind → Bool
is_text kind.Number = false
is_text kind.Words = true
is_text kind.Date = false
is_text kind.Stamp = false
is_text kind.Site = false

abbrev pub is_date : Kind → Bool
is_date kind.Number = false
is_date kind.Words = false
is_date kind.Date = true
is_date kind.Stamp = false
is_date kind.Site = false

abbrev pub is_stamp : Kind → Bool
is_stamp kind.Number = false
is_stamp kind.Words = false
is_stamp kind.Date = false
is_stamp kind.Stamp = true
is_stamp kind.Site = false

abbrev pub is_site_kind : Kind → Bool
is_site_kind kind.Number = false
is_site_kind kind.Words = false
is_site_kind kind.Date = false
is_site_kind kind.Stamp = false
is_site_kind kind.Site = true

-- a DATE or a STAMP
abbrev pub is_time : Kind → Bool
is_time k = is_date k || is_stamp k

-- it takes numbers; the others take texts
abbrev pub takes_numbers : Kind → Bool
takes_numbers kind.Number = true
takes_numbers kind.Words = false
takes_numbers kind.Date = true
takes_numbers kind.Stamp = true
takes_numbers kind.Site = false

-- an amount can be added in it: a NUMBER or a DATE
abbrev pub takes_amounts : Kind → Bool
takes_amounts kind.Number = true
takes_amounts kind.Words = false
takes_amounts kind.Date = true
takes_amounts kind.Stamp = false
takes_amounts kind.Site = false

-- a NUMBER, TEXT or DATE
abbrev pub is_plain : Kind → Bool
is_plain k = is_number k || is_text k || is_date k

-- the kind of the column at a place
abbrev pub kind_at : List Column → ℕ → Option Kind
kind_at columns place = option_map (λ column. column.kind) (slice_get columns place)

-- there is a column at a place, and its kind passes the test
abbrev pub has_kind : (Kind → Bool) → List Column → ℕ → Bool
has_kind test columns place = is_some_and test (kind_at columns place)

-- there is a key column at a place
abbrev pub is_key_at : List Column → ℕ → Bool
is_key_at columns place = is_some_and (λ column. column.key) (slice_get columns place)

-- a place is one of these
abbrev pub has_place : List ℕ → ℕ → Bool
has_place places place = list_any (λ p. p == place) places

-- a column that the site fills: a STAMP, or a SITE outside the key
abbrev pub is_filled : Column → Bool
is_filled column = is_stamp column.kind || (is_site_kind column.kind && not column.key)

-- a literal is of a kind, its range untested
abbrev pub is_of_kind : Kind → Literal → Bool
is_of_kind kind (literal.Num n) = takes_numbers kind
is_of_kind kind (literal.Words t) = not (takes_numbers kind)

-- a number lies within ±10^15, or it is a text
abbrev pub value_in_range : Value → Bool
value_in_range (value.Num n) = is_in_range n
value_in_range (value.Words t) = true

-- each number of a row lies within ±10^15
abbrev pub row_in_range : Cells → Bool
row_in_range row = list_all value_in_range row
