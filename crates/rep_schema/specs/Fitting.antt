-- Tests of rows and columns that compute.
use Rattle.std.specs.Prelude.{Bool, true, false, ◌&&◌, ℤ, pos, negsuc, int_le, nat_le, List, [], ◌∷◌}
use Rattle.rep_values.specs.declared.value.Value.{Value}
use Rattle.rep_values.specs.declared.value.Value.TheVariants.{Num, Words}
use Rattle.rep_schema.specs.declared.schema.Column.{Column}
use Rattle.rep_schema.specs.declared.schema.Kind.{Kind}
use Rattle.rep_schema.specs.declared.schema.Kind.TheVariants as kind
use Rattle.rep_schema.specs.Tables.{Cells, key_count}

-- within ±10^15
abbrev pub is_in_range : ℤ → Bool
is_in_range n = int_le (negsuc 999999999999999) n && int_le n (pos 1000000000000000)

-- a value that a kind of column may hold: a number in range or a text
abbrev pub fits_kind : Kind → Value → Bool
fits_kind kind.Number (Num n) = is_in_range n
fits_kind kind.Date (Num n) = is_in_range n
fits_kind kind.Stamp (Num n) = is_in_range n
fits_kind kind.Words (Num n) = false
fits_kind kind.Site (Num n) = false
fits_kind kind.Number (Words t) = false
fits_kind kind.Date (Words t) = false
fits_kind kind.Stamp (Words t) = false
fits_kind kind.Words (Words t) = true
fits_kind kind.Site (Words t) = true

-- a value for each column, of its kind
abbrev pub row_fits : List Column → Cells → Bool
row_fits [] [] = true
row_fits [] (v ∷ vs) = false
row_fits (c ∷ cs) [] = false
row_fits (c ∷ cs) (v ∷ vs) = fits_kind c.kind v && row_fits cs vs

-- there are 1 to 4 key columns
abbrev pub is_keyed : List Column → Bool
is_keyed columns = nat_le 1 (key_count columns) && nat_le (key_count columns) 4
