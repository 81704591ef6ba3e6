-- Rows that fit their columns.
use Rattle.std.proofs.Common.{◌≡◌, ◌+◌, Bool, true, false, cond, List, [], ◌∷◌, length, refl, arith}
use Rattle.rep_schema.specs.declared.schema.Column.{Column}
use Rattle.rep_schema.specs.Tables.{Cells, key_of, key_count, RowFits}

-- a row that fits has a value for each key column
pub length-key_of : (columns : List Column) (row : Cells) → RowFits columns row → length (key_of columns row) ≡ key_count columns
length-key_of [] [] fits = refl
length-key_of [] (v ∷ vs) fits = absurd fits
length-key_of (c ∷ cs) [] fits = absurd fits
length-key_of (c ∷ cs) (v ∷ vs) fits = go c.key (length-key_of cs vs fits.1)
  where
    go : (is_key : Bool) → length (key_of cs vs) ≡ key_count cs → length (cond is_key (v ∷ key_of cs vs) (key_of cs vs)) ≡ cond is_key (key_count cs + 1) (key_count cs)
    go true rest = omega (arith, rest)
    go false rest = rest

-- a row that fits has as many values as there are columns
pub length-fits : (columns : List Column) (row : Cells) → RowFits columns row → length columns ≡ length row
length-fits [] [] fits = refl
length-fits [] (v ∷ vs) fits = absurd fits
length-fits (c ∷ cs) [] fits = absurd fits
length-fits (c ∷ cs) (v ∷ vs) fits = omega (arith, length-fits cs vs fits.1)
