-- Rows whose values are of their columns' kinds, whether or not their numbers are in range.
use Rattle.std.proofs.Common.{◌≡◌, ℕ, suc, ◌+◌, Bool, true, false, List, [], ◌∷◌, length, refl, arith, add-zero, pos}
use Rattle.std.specs.Prelude.{ℤ, Option, Some, None, ◌&&◌, ◌||◌, cond, not, slice_get}
use Rattle.std.specs.List.{find, list_all}
use Rattle.std.proofs.lemmas.Bool.{and_parts, and_from, both_ways, not-true}
use Rattle.rep_values.specs.declared.literal.Literal.{Literal}
use Rattle.rep_values.specs.declared.literal.Literal.TheVariants as literal
use Rattle.rep_values.specs.declared.value.Value.{Value}
use Rattle.rep_values.specs.declared.value.Value.TheVariants.{Num, Words}
use Rattle.rep_values.specs.Literal.{value_of_literal}
use Rattle.rep_schema.specs.declared.schema.Schema.{Schema}
use Rattle.rep_schema.specs.declared.schema.Column.{Column}
use Rattle.rep_schema.specs.declared.schema.Kind.{Kind}
use Rattle.rep_schema.specs.declared.schema.Kind.TheVariants as kind
use Rattle.rep_schema.specs.Tables.{Cells, key_of, RowFits}
use Rattle.rep_schema.specs.Fitting.{fits_kind, row_fits}
use Rattle.rep_schema.specs.Kinds.{takes_numbers, is_stamp, is_site_kind, is_filled, is_of_kind, value_in_range, row_in_range}
use Rattle.rep_schema.proofs.FittingTests.{row_test}
use Rattle.rep_calls.specs.declared.statement.Set.{Set}
use Rattle.rep_calls.specs.declared.statement.How.{How}
use Rattle.rep_calls.specs.declared.statement.How.TheVariants.{To, Add}
use Rattle.txn_effects.specs.Literals.{names_site, literal_fits, literals_fit, values_of}
use Rattle.txn_effects.specs.Sets.{is_about, takes_how, takes_set, value_after, value_by, row_with}
use Rattle.txn_effects.specs.Filled.{Filling, filling_value, value_filled, filled_from, blank_value, written_columns, with_written, row_written}

-- a number, or a text, where the kind takes it
abbrev pub is_of : Kind → Value → Bool
is_of k (Num n) = takes_numbers k
is_of k (Words t) = not (takes_numbers k)

-- a value for each column, of its kind
abbrev pub are_of : List Column → Cells → Bool
are_of [] [] = true
are_of [] (v ∷ vs) = false
are_of (c ∷ cs) [] = false
are_of (c ∷ cs) (v ∷ vs) = is_of c.kind v && are_of cs vs

pub length-are_of : (columns : List Column) (row : Cells) → are_of columns row ≡ true → length columns ≡ length row
length-are_of [] [] are = refl
length-are_of [] (v ∷ vs) are = cc
length-are_of (c ∷ cs) [] are = cc
length-are_of (c ∷ cs) (v ∷ vs) are = let rest = length-are_of cs vs (and_parts (is_of c.kind v) (are_of cs vs) are).1 in omega (arith, rest)

fits-is_of : (k : Kind) (v : Value) → is_of k v ≡ true → value_in_range v ≡ true → fits_kind k v ≡ true
fits-is_of kind.Number (Num n) is range = range
fits-is_of kind.Date (Num n) is range = range
fits-is_of kind.Stamp (Num n) is range = range
fits-is_of kind.Words (Num n) is range = cc
fits-is_of kind.Site (Num n) is range = cc
fits-is_of kind.Number (Words t) is range = cc
fits-is_of kind.Date (Words t) is range = cc
fits-is_of kind.Stamp (Words t) is range = cc
fits-is_of kind.Words (Words t) is range = refl
fits-is_of kind.Site (Words t) is range = refl

is_of-fits : (k : Kind) (v : Value) → fits_kind k v ≡ true → (is_of k v ≡ true) × (value_in_range v ≡ true)
is_of-fits kind.Number (Num n) fits = (refl, fits)
is_of-fits kind.Date (Num n) fits = (refl, fits)
is_of-fits kind.Stamp (Num n) fits = (refl, fits)
is_of-fits kind.Words (Num n) fits = cc
is_of-fits kind.Site (Num n) fits = cc
is_of-fits kind.Number (Words t) fits = cc
is_of-fits kind.Date (Words t) fits = cc
is_of-fits kind.Stamp (Words t) fits = cc
is_of-fits kind.Words (Words t) fits = (refl, refl)
is_of-fits kind.Site (Words t) fits = (refl, refl)

row_fits-are_of : (columns : List Column) (row : Cells) → are_of columns row ≡ true → row_in_range row ≡ true → row_fits columns row ≡ true
row_fits-are_of [] [] are range = refl
row_fits-are_of [] (v ∷ vs) are range = cc
row_fits-are_of (c ∷ cs) [] are range = cc
row_fits-are_of (c ∷ cs) (v ∷ vs) are range =
    let of = and_parts (is_of c.kind v) (are_of cs vs) are in
    let ranges = and_parts (value_in_range v) (row_in_range vs) range in
    and_from (fits_kind c.kind v) (row_fits cs vs) (fits-is_of c.kind v of.0 ranges.0) (row_fits-are_of cs vs of.1 ranges.1)

are_of-row_fits : (columns : List Column) (row : Cells) → row_fits columns row ≡ true → (are_of columns row ≡ true) × (row_in_range row ≡ true)
are_of-row_fits [] [] fits = (refl, refl)
are_of-row_fits [] (v ∷ vs) fits = cc
are_of-row_fits (c ∷ cs) [] fits = cc
are_of-row_fits (c ∷ cs) (v ∷ vs) fits =
    let here = and_parts (fits_kind c.kind v) (row_fits cs vs) fits in
    let one = is_of-fits c.kind v here.0 in
    let rest = are_of-row_fits cs vs here.1 in
    (and_from (is_of c.kind v) (are_of cs vs) one.0 rest.0, and_from (value_in_range v) (row_in_range vs) one.1 rest.1)

-- such a row fits where its numbers are in range
pub RowFits-are_of : (columns : List Column) (row : Cells) → are_of columns row ≡ true → row_in_range row ≡ true → RowFits columns row
RowFits-are_of columns row are range = (row_test columns row).0 (row_fits-are_of columns row are range)

-- a row that fits is of its columns' kinds, and in range
pub are_of-RowFits : (columns : List Column) (row : Cells) → RowFits columns row → (are_of columns row ≡ true) × (row_in_range row ≡ true)
are_of-RowFits columns row fits = are_of-row_fits columns row ((row_test columns row).1 fits)

is_of-literal : (k : Kind) (l : Literal) → is_of_kind k l ≡ true → is_of k (value_of_literal l) ≡ true
is_of-literal k (literal.Num n) of = of
is_of-literal k (literal.Words t) of = of

-- a number in a STAMP, a text in another filled column
is_of-fill : (k : Kind) (key : Bool) (n : ℤ) (text : List ℕ) → (is_stamp k || (is_site_kind k && not key)) ≡ true → is_of k (cond (is_stamp k) (Num n) (Words text)) ≡ true
is_of-fill kind.Number key n text filled = cc
is_of-fill kind.Words key n text filled = cc
is_of-fill kind.Date key n text filled = cc
is_of-fill kind.Stamp key n text filled = refl
is_of-fill kind.Site key n text filled = refl

-- the row that a script writes is of its columns' kinds
pub are_of-row_written : (schema : Schema) (columns : List Column) (literals : List Literal) → literals_fit schema (written_columns columns) literals ≡ true → are_of columns (row_written columns (values_of literals)) ≡ true
are_of-row_written schema [] [] fits = refl
are_of-row_written schema [] (l ∷ ls) fits = cc
are_of-row_written schema (c ∷ cs) literals fits = go (is_filled c) refl literals fits (λ ls rest. are_of-row_written schema cs ls rest)
  where
    go : (b : Bool) → is_filled c ≡ b → (ls : List Literal) → literals_fit schema (cond (not b) (c ∷ written_columns cs) (written_columns cs)) ls ≡ true
        → ((rest : List Literal) → literals_fit schema (written_columns cs) rest ≡ true → are_of cs (row_written cs (values_of rest)) ≡ true)
        → are_of (c ∷ cs) (with_written b c (row_written cs) (values_of ls)) ≡ true
    go true filled ls fit rest = and_from (is_of c.kind (blank_value c)) (are_of cs (row_written cs (values_of ls))) (is_of-fill c.kind c.key (pos 0) [] filled) (rest ls fit)
    go false written [] fit rest = cc
    go false written (l ∷ ls) fit rest =
        let here = and_parts (literal_fits schema c l) (literals_fit schema (written_columns cs) ls) fit in
        and_from (is_of c.kind (value_of_literal l)) (are_of cs (row_written cs (values_of ls)))
        (is_of-literal c.kind l (and_parts (is_of_kind c.kind l) (not (c.key && is_site_kind c.kind) || names_site schema l) here.0).0) (rest ls here.1)

-- it stays so where columns are filled in
pub are_of-filled_from : (filling : Filling) (chosen : ℕ → Bool) (n : ℕ) (columns : List Column) (row : Cells) → are_of columns row ≡ true → are_of columns (filled_from filling chosen n columns row) ≡ true
are_of-filled_from filling chosen n [] [] are = refl
are_of-filled_from filling chosen n [] (v ∷ vs) are = cc
are_of-filled_from filling chosen n (c ∷ cs) [] are = cc
are_of-filled_from filling chosen n (c ∷ cs) (v ∷ vs) are =
    let parts = and_parts (is_of c.kind v) (are_of cs vs) are in
    and_from (is_of c.kind (value_filled filling (chosen n) c v)) (are_of cs (filled_from filling chosen (n + 1) cs vs)) (go (chosen n) (is_filled c) refl parts.0) (are_of-filled_from filling chosen (n + 1) cs vs parts.1)
  where
    go : (a b : Bool) → is_filled c ≡ b → is_of c.kind v ≡ true → is_of c.kind (cond (a && b) (filling_value filling c) v) ≡ true
    go true true filled here = is_of-fill c.kind c.key (pos filling.stamp) filling.site.0 filled
    go true false filled here = here
    go false b filled here = here

is_of-after : (c : Column) (how : How) (v : Value) → takes_how c how ≡ true → is_of c.kind v ≡ true → is_of c.kind (value_after how v) ≡ true
is_of-after c (To l) v takes here = is_of-literal c.kind l takes
is_of-after c (Add amount) (Num n) takes here = here
is_of-after c (Add amount) (Words t) takes here = here

is_of-by : (c : Column) (s : Option Set) (v : Value) → takes_set c s ≡ true → is_of c.kind v ≡ true → is_of c.kind (value_by s v) ≡ true
is_of-by c None v takes here = here
is_of-by c (Some s) v takes here = is_of-after c s.how v (and_parts (not c.key) (takes_how c s.how) takes).1 here

key_value-by : (c : Column) (s : Option Set) (v : Value) → takes_set c s ≡ true → c.key ≡ true → value_by s v ≡ v
key_value-by c None v takes is_key = refl
key_value-by c (Some s) v takes is_key = let plain = not-true c.key (and_parts (not c.key) (takes_how c s.how) takes).0 in absurd (both_ways c.key plain is_key)

module _ (sets : List Set) where
  -- a column takes what is set of it
  abbrev pub takes : Column → Bool
  takes c = takes_set c (find (is_about c.name) sets)

  -- and where an update sets some
  pub are_of-row_with : (columns : List Column) (row : Cells) → list_all takes columns ≡ true → are_of columns row ≡ true → are_of columns (row_with sets columns row) ≡ true
  are_of-row_with [] [] all are = refl
  are_of-row_with [] (v ∷ vs) all are = cc
  are_of-row_with (c ∷ cs) [] all are = cc
  are_of-row_with (c ∷ cs) (v ∷ vs) all are =
      let here = and_parts (takes c) (list_all takes cs) all in
      let parts = and_parts (is_of c.kind v) (are_of cs vs) are in
      and_from (is_of c.kind (value_by (find (is_about c.name) sets) v)) (are_of cs (row_with sets cs vs)) (is_of-by c (find (is_about c.name) sets) v here.0 parts.0) (are_of-row_with cs vs here.1 parts.1)

  -- an update leaves the key
  pub key_of-row_with : (columns : List Column) (row : Cells) → list_all takes columns ≡ true → key_of columns (row_with sets columns row) ≡ key_of columns row
  key_of-row_with [] row all = refl
  key_of-row_with (c ∷ cs) [] all = refl
  key_of-row_with (c ∷ cs) (v ∷ vs) all =
      let here = and_parts (takes c) (list_all takes cs) all in
      go c.key refl here.0 (key_of-row_with cs vs here.1)
    where
      go : (b : Bool) → c.key ≡ b → takes c ≡ true → key_of cs (row_with sets cs vs) ≡ key_of cs vs
          → cond b (value_by (find (is_about c.name) sets) v ∷ key_of cs (row_with sets cs vs)) (key_of cs (row_with sets cs vs)) ≡ cond b (v ∷ key_of cs vs) (key_of cs vs)
      go true is_key here rest = rw (key_value-by c (find (is_about c.name) sets) v here is_key, rest) refl
      go false plain here rest = rest

-- filling columns in leaves the key where no key column is filled in
pub key_of-filled_from : (filling : Filling) (chosen : ℕ → Bool) (n : ℕ) (columns : List Column) (row : Cells)
    → ((k : ℕ) (c : Column) → slice_get columns k ≡ Some c → c.key ≡ true → (chosen (n + k) && is_filled c) ≡ false)
    → key_of columns (filled_from filling chosen n columns row) ≡ key_of columns row
key_of-filled_from filling chosen n [] row off = refl
key_of-filled_from filling chosen n (c ∷ cs) [] off = refl
key_of-filled_from filling chosen n (c ∷ cs) (v ∷ vs) off = go c.key refl (key_of-filled_from filling chosen (n + 1) cs vs later)
  where
    later : (k : ℕ) (d : Column) → slice_get cs k ≡ Some d → d.key ≡ true → (chosen (n + 1 + k) && is_filled d) ≡ false
    later k d at is_key = let next : n + 1 + k ≡ n + suc k = omega arith in rw next (off (suc k) d at is_key)

    first : c.key ≡ true → (chosen n && is_filled c) ≡ false
    first is_key = let here : (chosen (n + 0) && is_filled c) ≡ false = off 0 c refl is_key in rw add-zero at here

    go : (b : Bool) → c.key ≡ b → key_of cs (filled_from filling chosen (n + 1) cs vs) ≡ key_of cs vs
        → cond b (value_filled filling (chosen n) c v ∷ key_of cs (filled_from filling chosen (n + 1) cs vs)) (key_of cs (filled_from filling chosen (n + 1) cs vs)) ≡ cond b (v ∷ key_of cs vs) (key_of cs vs)
    go true is_key rest = rw (first is_key, rest) refl
    go false plain rest = rest

-- how long it is
pub length-filled_from : (filling : Filling) (chosen : ℕ → Bool) (n : ℕ) (columns : List Column) (row : Cells) → length columns ≡ length row → length (filled_from filling chosen n columns row) ≡ length row
length-filled_from filling chosen n [] row long = refl
length-filled_from filling chosen n (c ∷ cs) [] long = refl
length-filled_from filling chosen n (c ∷ cs) (v ∷ vs) long = let rest = length-filled_from filling chosen (n + 1) cs vs (omega (arith, long)) in omega (arith, rest)
