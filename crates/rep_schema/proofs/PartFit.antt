-- Parts of a row that fit their columns.
use Rattle.std.proofs.Common.{◌≡◌, ℕ, zero, suc, ◌<◌, List, [], ◌∷◌, length, set, Bool, true, false, cond, Some, None, refl, ap, ◌∙◌, arith}
use Rattle.std.specs.Prelude.{Option, IfSome, slice_get}
use Rattle.std.specs.List.{AllByRecursion, cons_option}
use Rattle.rep_values.specs.declared.value.Value.{Value}
use Rattle.rep_schema.specs.declared.schema.Column.{Column}
use Rattle.rep_schema.specs.Tables.{Cells, key_of, key_columns, FitsKind, RowFits}
use Rattle.rep_schema.specs.Groups.{values_at, with_values}

-- a row's key fits the key columns
pub RowFits-key_of : (columns : List Column) (row : Cells) → RowFits columns row → RowFits (key_columns columns) (key_of columns row)
RowFits-key_of [] [] fits = tt
RowFits-key_of [] (v ∷ vs) fits = absurd fits
RowFits-key_of (c ∷ cs) [] fits = absurd fits
RowFits-key_of (c ∷ cs) (v ∷ vs) fits = go c.key (RowFits-key_of cs vs fits.1)
  where
    go : (b : Bool) → RowFits (key_columns cs) (key_of cs vs) → RowFits (cond b (c ∷ key_columns cs) (key_columns cs)) (cond b (v ∷ key_of cs vs) (key_of cs vs))
    go true rest = (fits.0, rest)
    go false rest = rest

-- at a place there is a column and a value of its kind, or neither
abbrev FitTogether : Option Column → Option Value → Type 0
FitTogether None None = Unit {0}
FitTogether None (Some v) = ⊥
FitTogether (Some c) None = ⊥
FitTogether (Some c) (Some v) = FitsKind c.kind v

fit_at : (columns : List Column) (row : Cells) (p : ℕ) → RowFits columns row → FitTogether (slice_get columns p) (slice_get row p)
fit_at [] [] p fits = tt
fit_at [] (v ∷ vs) p fits = absurd fits
fit_at (c ∷ cs) [] p fits = absurd fits
fit_at (c ∷ cs) (v ∷ vs) zero fits = fits.0
fit_at (c ∷ cs) (v ∷ vs) (suc p) fits = fit_at cs vs p fits.1

-- a row's values at some places fit the columns there
pub RowFits-values_at : (places : List ℕ) (columns : List Column) (row : Cells) → RowFits columns row → RowFits (values_at places columns) (values_at places row)
RowFits-values_at [] columns row fits = tt
RowFits-values_at (p ∷ ps) columns row fits = go (slice_get columns p) (slice_get row p) (fit_at columns row p fits) (RowFits-values_at ps columns row fits)
  where
    go : (c : Option Column) (v : Option Value) → FitTogether c v → RowFits (values_at ps columns) (values_at ps row) → RowFits (cons_option c (values_at ps columns)) (cons_option v (values_at ps row))
    go None None here rest = rest
    go None (Some v) here rest = absurd here
    go (Some c) None here rest = absurd here
    go (Some c) (Some v) here rest = (here, rest)

none_within : (columns : List Column) (p : ℕ) → p < length columns → slice_get columns p ≡ None → ⊥
none_within [] p within gone = omega (arith, within)
none_within (c ∷ cs) zero within gone = cc
none_within (c ∷ cs) (suc p) within gone = none_within cs p (omega arith) gone

-- a row fits with another value that fits its column
RowFits-set : (columns : List Column) (row : Cells) (p : ℕ) (v : Value) → IfSome (slice_get columns p) (λ c. FitsKind c.kind v) → RowFits columns row → RowFits columns (set row p v)
RowFits-set [] [] p v here fits = tt
RowFits-set [] (x ∷ xs) p v here fits = absurd fits
RowFits-set (c ∷ cs) [] p v here fits = absurd fits
RowFits-set (c ∷ cs) (x ∷ xs) zero v here fits = (here, fits.1)
RowFits-set (c ∷ cs) (x ∷ xs) (suc p) v here fits = (fits.0, RowFits-set cs xs p v here fits.1)

-- its key is the same where the column is no key column
key_of-set : (columns : List Column) (row : Cells) (p : ℕ) (v : Value) → IfSome (slice_get columns p) (λ c. c.key ≡ false) → key_of columns (set row p v) ≡ key_of columns row
key_of-set [] row p v plain = refl
key_of-set (c ∷ cs) [] p v plain = refl
key_of-set (c ∷ cs) (x ∷ xs) zero v plain = rw plain
key_of-set (c ∷ cs) (x ∷ xs) (suc p) v plain = go c.key (key_of-set cs xs p v plain)
  where
    go : (b : Bool) → key_of cs (set xs p v) ≡ key_of cs xs → cond b (x ∷ key_of cs (set xs p v)) (key_of cs (set xs p v)) ≡ cond b (x ∷ key_of cs xs) (key_of cs xs)
    go true rest = ap (λ vs. x ∷ vs) rest
    go false rest = rest

-- a row with other values at some places of its columns fits where they fit the columns there
pub RowFits-with_values : (columns : List Column) (places : List ℕ) (values row : Cells) → AllByRecursion (λ p. p < length columns) places → RowFits (values_at places columns) values → RowFits columns row
    → RowFits columns (with_values places values row)
RowFits-with_values columns [] values row below fit fits = fits
RowFits-with_values columns (p ∷ ps) [] row below fit fits = fits
RowFits-with_values columns (p ∷ ps) (v ∷ vs) row below fit fits =
    go (slice_get columns p) refl fit (λ rest kept. RowFits-with_values columns ps vs (set row p v) below.1 rest kept)
  where
    go : (c : Option Column) → slice_get columns p ≡ c → RowFits (cons_option c (values_at ps columns)) (v ∷ vs)
        → (RowFits (values_at ps columns) vs → RowFits columns (set row p v) → RowFits columns (with_values ps vs (set row p v))) → RowFits columns (with_values ps vs (set row p v))
    go None gone here later = absurd (none_within columns p below.0 gone)
    go (Some c) there here later = later here.1 (RowFits-set columns row p v (rw there here.0) fits)

-- its key is the same where these are no key columns
pub key_of-with_values : (columns : List Column) (places : List ℕ) (values row : Cells) → AllByRecursion (λ p. IfSome (slice_get columns p) (λ c. c.key ≡ false)) places
    → key_of columns (with_values places values row) ≡ key_of columns row
key_of-with_values columns [] values row plain = refl
key_of-with_values columns (p ∷ ps) [] row plain = refl
key_of-with_values columns (p ∷ ps) (v ∷ vs) row plain = key_of-with_values columns ps vs (set row p v) plain.1 ∙ key_of-set columns row p v plain.0
