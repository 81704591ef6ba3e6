-- A part's new values in the columns of its group are the same over every row.
use Rattle.std.proofs.Common.{◌≡◌, ℕ, zero, suc, ◌<◌, List, [], ◌∷◌, length, Bool, true, false, Some, None, refl, sym, ap, ◌∙◌, arith}
use Rattle.std.specs.Prelude.{Option, slice_get, is_some, ◌||◌, ◌==◌}
use Rattle.std.specs.List.{AllByRecursion, cons_option}
use Rattle.rep_values.specs.declared.value.Value.{Value}
use Rattle.rep_schema.specs.declared.schema.Schema.{Schema}
use Rattle.rep_schema.specs.declared.schema.Column.{Column}
use Rattle.rep_schema.specs.Tables.{Cells, columns_of, RowFits}
use Rattle.rep_schema.specs.Kinds.{has_place}
use Rattle.rep_schema.specs.Shape.{HasShape}
use Rattle.rep_schema.specs.Groups.{values_at, group_columns_of, columns_in_group}
use Rattle.rep_schema.proofs.Coverage.{group_columns_of-below}
use Rattle.rep_schema.proofs.RowFit.{length-fits}
use Rattle.rep_calls.specs.declared.call.Part.{Part}
use Rattle.resolve_methods.specs.PartValues.{HasGroupValues}
use Rattle.resolve_methods.specs.Ranks.{number_of, site_level_of}
use Rattle.resolve_methods.specs.Decide.{new_in}
use Rattle.resolve_methods.specs.Written.{written}
use Rattle.resolve_methods.specs.SequenceLaws.{Rank, number_or_zero, NewRankIsThePartsOwn}
use Rattle.resolve_methods.proofs.Over.{written_over, written-apart, slice_get-with_values}

-- a row has a value where there is a column
there_as_column : (columns : List Column) (row : Cells) (p : ℕ) → RowFits columns row → is_some (slice_get row p) ≡ is_some (slice_get columns p)
there_as_column [] [] p fits = refl
there_as_column [] (v ∷ vs) p fits = absurd fits
there_as_column (c ∷ cs) [] p fits = absurd fits
there_as_column (c ∷ cs) (v ∷ vs) zero fits = refl
there_as_column (c ∷ cs) (v ∷ vs) (suc p) fits = there_as_column cs vs p fits.1

there_within : {X : Type 0} (xs : List X) (p : ℕ) → p < length xs → is_some (slice_get xs p) ≡ true
there_within [] p within = absurd (omega (arith, within))
there_within (x ∷ xs) zero within = refl
there_within (x ∷ xs) (suc p) within = there_within xs p (omega arith)

-- as many values as places, where all of these are there
length-values_at : {X : Type 0} (places : List ℕ) (xs : List X) → AllByRecursion (λ p. p < length xs) places → length (values_at places xs) ≡ length places
length-values_at [] xs below = refl
length-values_at {X} (p ∷ ps) xs below = go (slice_get xs p) (there_within xs p below.0) (length-values_at ps xs below.1)
  where
    go : (x : Option X) → is_some x ≡ true → length (values_at ps xs) ≡ length ps → length (cons_option x (values_at ps xs)) ≡ suc (length ps)
    go None there rest = cc
    go (Some x) there rest = ap suc rest

-- a value written where one was doesn't tell which it was
written_same : (x y : Option Value) (v : Value) → is_some x ≡ is_some y → written true x v ≡ written true y v
written_same None None v both = refl
written_same None (Some y) v both = cc
written_same (Some x) None v both = cc
written_same (Some x) (Some y) v both = refl

-- the values written at places don't tell what was at one of them
written_over-same : (k : ℕ) (places : List ℕ) (values : Cells) (x y : Option Value) → is_some x ≡ is_some y → length places ≡ length values → has_place places k ≡ true
    → written_over k places values x ≡ written_over k places values y
written_over-same k [] values x y both long has = cc
written_over-same k (p ∷ ps) [] x y both long has = absurd (omega (arith, long))
written_over-same k (p ∷ ps) (v ∷ vs) x y both long has = go (p == k) has (written_over-same k ps vs x y both (omega (arith, long)))
  where
    go : (b : Bool) → (b || has_place ps k) ≡ true → (has_place ps k ≡ true → written_over k ps vs x ≡ written_over k ps vs y)
        → written_over k ps vs (written b x v) ≡ written_over k ps vs (written b y v)
    go true listed rest = ap (written_over k ps vs) (written_same x y v both)
    go false listed rest = rw (written-apart x v, written-apart y v) (rest listed)

module _ (schema : Schema) (table : ℕ) (part : Part) (row other : Cells) (shape : HasShape schema) (part_fits : HasGroupValues schema table part) (fits : RowFits (columns_of schema table) row) (fits_other : RowFits (columns_of schema table) other) where
  -- so a part's new value in a column of its group is the same over both rows
  new_in-same : (column : ℕ) → has_place (group_columns_of schema table part.group) column ≡ true → new_in schema table part row column ≡ new_in schema table part other column
  new_in-same column has =
      let places : List ℕ = group_columns_of schema table part.group in
      let both : is_some (slice_get row column) ≡ is_some (slice_get other column) = there_as_column (columns_of schema table) row column fits ∙ sym (there_as_column (columns_of schema table) other column fits_other) in
      let long : length places ≡ length part.new = sym (length-values_at places (columns_of schema table) (group_columns_of-below schema shape table part.group))
      ∙ length-fits (columns_in_group schema table part.group) part.new part_fits.new in
      slice_get-with_values places part.new row column
      ∙ written_over-same column places part.new (slice_get row column) (slice_get other column) both long has
      ∙ sym (slice_get-with_values places part.new other column)

abbrev rank_by : Schema → Option Value → Option Value → Rank
rank_by schema stamp site = record { stamp = number_or_zero (number_of stamp); level = site_level_of schema site }

pub new_rank_is_the_parts_own : NewRankIsThePartsOwn
new_rank_is_the_parts_own schema table stamp site part row other shape has_stamp has_site part_fits fits fits_other =
    let stamps = new_in-same schema table part row other shape part_fits fits fits_other stamp has_stamp in
    let sites = new_in-same schema table part row other shape part_fits fits fits_other site has_site in
    ap (λ v. rank_by schema v (new_in schema table part row site)) stamps ∙ ap (λ v. rank_by schema (new_in schema table part other stamp) v) sites
