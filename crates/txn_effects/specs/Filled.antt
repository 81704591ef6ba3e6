-- The columns that a site fills, and the stamps that it fills in.
use Rattle.std.specs.Prelude.{ℕ, ◌+◌, max, pos, negsuc, Bool, true, false, cond, not, ◌&&◌, ◌||◌, List, [], ◌∷◌, filter}
use Rattle.std.specs.List.{list_any}
use Rattle.rep_values.specs.declared.value.Value.{Value}
use Rattle.rep_values.specs.declared.value.Value.TheVariants.{Num, Words}
use Rattle.rep_values.specs.declared.name.SiteName.{SiteName}
use Rattle.rep_schema.specs.declared.schema.Schema.{Schema}
use Rattle.rep_schema.specs.declared.schema.Column.{Column}
use Rattle.rep_schema.specs.Tables.{Cells, columns_of}
use Rattle.rep_schema.specs.Kinds.{is_stamp, is_filled, has_place}
use Rattle.rep_schema.specs.Groups.{group_columns_of, differing_groups}
use Rattle.txn_effects.specs.Stamps.{stamp_above}
use Rattle.txn_effects.specs.declared.local.Stamps.{Stamps}
pub use Rattle.txn_effects.specs.declared.row_made.RowMade.{RowMade}

-- what a site fills in: a stamp, and its name
pub record Filling : Type 0 where
  pub stamp : ℕ
  pub site : SiteName

-- what a filled column gets: a STAMP the stamp, a SITE the site's name
abbrev pub filling_value : Filling → Column → Value
filling_value filling column = cond (is_stamp column.kind) (Num (pos filling.stamp)) (Words filling.site.0)

abbrev pub value_filled : Filling → Bool → Column → Value → Value
value_filled filling chosen column value = cond (chosen && is_filled column) (filling_value filling column) value

-- a row, its columns counted from n, with the filled ones at the chosen places filled in
abbrev pub filled_from : Filling → (ℕ → Bool) → ℕ → List Column → Cells → Cells
filled_from filling chosen n [] row = row
filled_from filling chosen n (c ∷ cs) [] = []
filled_from filling chosen n (c ∷ cs) (v ∷ vs) = value_filled filling (chosen n) c v ∷ filled_from filling chosen (n + 1) cs vs

-- every place
abbrev pub everywhere : ℕ → Bool
everywhere place = true

-- a row with all of its filled columns filled in
abbrev pub filled_row : Filling → List Column → Cells → Cells
filled_row filling columns row = filled_from filling everywhere 0 columns row

-- the columns that a script writes
abbrev pub written_columns : List Column → List Column
written_columns columns = filter (λ column. not (is_filled column)) columns

-- what a filled column holds before it is filled: 0 in a STAMP, the empty text in a SITE
abbrev pub blank_value : Column → Value
blank_value column = cond (is_stamp column.kind) (Num (pos 0)) (Words [])

abbrev pub with_written : Bool → Column → (Cells → Cells) → Cells → Cells
with_written true c rest values = blank_value c ∷ rest values
with_written false c rest [] = []
with_written false c rest (v ∷ vs) = v ∷ rest vs

-- the row of the values that a script writes, blank in the columns that a site fills
abbrev pub row_written : List Column → Cells → Cells
row_written [] values = []
row_written (c ∷ cs) values = with_written (is_filled c) c (row_written cs) values

-- the column at a place stands in a group in which two rows differ
abbrev pub is_modified : Schema → ℕ → Cells → Cells → ℕ → Bool
is_modified schema table before after place = list_any (λ group. has_place (group_columns_of schema table group) place) (differing_groups schema table before after)

-- the least number above a stamp, which is never below 0
abbrev pub above_value : Value → ℕ
above_value (Num (pos n)) = n + 1
above_value (Num (negsuc n)) = 0
above_value (Words text) = 0

abbrev pub bound_by : Bool → Value → ℕ
bound_by chosen value = cond chosen (above_value value) 0

-- the least number above each stamp that a row, its columns counted from n, has at the chosen places
abbrev pub bound_from : (ℕ → Bool) → ℕ → List Column → Cells → ℕ
bound_from chosen n [] row = 0
bound_from chosen n (c ∷ cs) [] = 0
bound_from chosen n (c ∷ cs) (v ∷ vs) = max (bound_by (chosen n && is_stamp c.kind) v) (bound_from chosen (n + 1) cs vs)

-- one of the columns, counted from n, at the chosen places is a STAMP
abbrev pub has_stamp_from : (ℕ → Bool) → ℕ → List Column → Bool
has_stamp_from chosen n [] = false
has_stamp_from chosen n (c ∷ cs) = (chosen n && is_stamp c.kind) || has_stamp_from chosen (n + 1) cs

-- the greatest of the clock, the last stamp plus 1, and a bound
abbrev pub next_stamp : Stamps → ℕ → ℕ
next_stamp stamps bound = stamp_above stamps.clock stamps.last bound

-- a row with the chosen columns filled in; the stamp becomes the last one where a STAMP column is among them
abbrev pub made_with : List Column → SiteName → ℕ → (ℕ → Bool) → ℕ → Cells → RowMade
made_with columns site last chosen stamp row = record {
  row = filled_from (record { stamp = stamp; site = site }) chosen 0 columns row;
  last = cond (has_stamp_from chosen 0 columns) stamp last;
}

-- a new row: filled in everywhere, with the next stamp
abbrev pub inserted : List Column → SiteName → Stamps → Cells → RowMade
inserted columns site stamps row = made_with columns site stamps.last everywhere (next_stamp stamps 0) row

-- a row that takes another's place: filled in in the groups that are modified, with the next stamp above each stamp that they had
abbrev pub updated : Schema → ℕ → SiteName → Stamps → Cells → Cells → RowMade
updated schema table site stamps before row = made_with (columns_of schema table) site stamps.last (is_modified schema table before row)
    (next_stamp stamps (bound_from (is_modified schema table before row) 0 (columns_of schema table) before)) row
