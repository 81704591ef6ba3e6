-- Values beside columns, one after another.
use Rattle.std.proofs.Common.{◌≡◌, ℕ, ◌+◌, ◌<◌, ◌≤◌, List, [], ◌∷◌, length, drop, get_or, true, false, length-drop, refl, ◌∙◌, arith}
use Rattle.std.specs.Prelude.{Option, Some, None, ◌↔◌, slice_get}
use Rattle.std.proofs.lemmas.List.{drop_more, drop_all}
use Rattle.std.proofs.lemmas.Option.{slice_get_read, slice_get_within}
use Rattle.rep_lists.proofs.Places.{drop_from_found}
use Rattle.rep_values.specs.declared.value.Value.{Value}
use Rattle.rep_schema.specs.declared.schema.Column.{Column}
use Rattle.rep_schema.specs.Tables.{Cells, key_columns, RowFits}
use Rattle.rep_schema.specs.Groups.{values_at}
use Rattle.rep_schema.proofs.ValuesAt.{drop-values_at_some, slice_get-drop}
use Rattle.rep_schema.proofs.RowFit.{length-fits}
use Rattle.conflict_detect.specs.Fits.{FitsThere}

-- behind its end a list has nothing
nothing_left : (values : Cells) (read : ℕ) → slice_get values read ≡ None → drop read values ≡ []
nothing_left values read gone = go (drop read values) (slice_get-drop values read ∙ gone)
  where
    go : (rest : Cells) → slice_get rest 0 ≡ None → rest ≡ []
    go [] none = refl
    go (v ∷ vs) none = cc

module _ (values : Cells) (read : ℕ) where
  -- a column more: its value, and what is left
  pub RowFits-more : (c : Column) (cs : List Column) → RowFits (c ∷ cs) (drop read values) ↔ (FitsThere c.kind (slice_get values read) × RowFits cs (drop (read + 1) values))
  RowFits-more c cs = go (slice_get values read) refl
    where
      go : (v : Option Value) → slice_get values read ≡ v → RowFits (c ∷ cs) (drop read values) ↔ (FitsThere c.kind v × RowFits cs (drop (read + 1) values))
      go None gone = rw (nothing_left values read gone) (λ fits. absurd fits, λ both. absurd both.0)
      go (Some v) there = rw (drop_from_found values read v there) (λ fits. fits, λ both. both)

  -- where a value is there, it counts
  pub counted : (c : Column) → FitsThere c.kind (slice_get values read) → read < length values
  counted c fits = go (slice_get values read) refl fits
    where
      go : (v : Option Value) → slice_get values read ≡ v → FitsThere c.kind v → read < length values
      go None gone fits = absurd fits
      go (Some v) there fits = slice_get_within values read v there

  -- no column more: no value is left
  pub RowFits-end : read ≤ length values → RowFits [] (drop read values) ↔ (read ≡ length values)
  RowFits-end within = (
    λ fits. let none = length-fits [] (drop read values) fits in omega (arith, none, length-drop read values),
    λ all. rw (drop_all read values (omega arith)) tt,
  )

-- the values beside the columns at some places, from place i on
module _ (columns : List Column) (places : List ℕ) (values : Cells) (i : ℕ) where
  pub values_fit-more : (c : Column) → i < length places → get_or places i 0 < length columns → c ≡ get_or columns (get_or places i 0) c
      → RowFits (values_at (drop i places) columns) (drop i values) ↔ (FitsThere (get_or columns (get_or places i 0) c).kind (slice_get values i) × RowFits (values_at (drop (i + 1) places) columns) (drop (i + 1) values))
  values_fit-more c within below is =
      let there : slice_get columns (get_or places i 0) ≡ Some c = slice_get_read columns (length columns) (get_or places i 0) c refl below is in
      rw (← is, drop-values_at_some places columns i within c there) (RowFits-more values i c (values_at (drop (i + 1) places) columns))

  pub values_fit-end : length places ≤ i → i ≤ length values → RowFits (values_at (drop i places) columns) (drop i values) ↔ (i ≡ length values)
  values_fit-end ended within = rw (drop_all i places ended) (RowFits-end values i within)

-- the values of a key from place read on, beside the key columns from column i on
module _ (columns : List Column) (key : Cells) (i read : ℕ) where
  module _ (c : Column) (within : i < length columns) (is : c ≡ get_or columns i c) where
    pub key_fits-more : c.key ≡ true
        → RowFits (key_columns (drop i columns)) (drop read key) ↔ (FitsThere c.kind (slice_get key read) × RowFits (key_columns (drop (i + 1) columns)) (drop (read + 1) key))
    key_fits-more is_key = rw (drop_more columns i c within, ← is, is_key) (RowFits-more key read c (key_columns (drop (i + 1) columns)))

    pub key_fits-other : c.key ≡ false → RowFits (key_columns (drop i columns)) (drop read key) ↔ RowFits (key_columns (drop (i + 1) columns)) (drop read key)
    key_fits-other other = rw (drop_more columns i c within, ← is, other) (λ fits. fits, λ fits. fits)

  pub key_fits-end : length columns ≤ i → read ≤ length key → RowFits (key_columns (drop i columns)) (drop read key) ↔ (read ≡ length key)
  key_fits-end ended within = rw (drop_all i columns ended) (RowFits-end key read within)
