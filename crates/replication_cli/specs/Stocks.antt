-- The storm's table at the sites of a world.
use Rattle.std.specs.Prelude.{◌+ℤ◌, ℤ, pos, int_lt, Bool, ◌&&◌, if◌then◌else◌, [], length, fold, slice_get, Option, Some, None, unwrap_or}
use Rattle.std.specs.Cmp.Lexicographic.{pointwise}
use Rattle.rep_values.specs.declared.name.SiteName.{SiteName}
use Rattle.rep_values.specs.declared.value.Value.{Value}
use Rattle.rep_values.specs.declared.value.Value.TheVariants as value
use Rattle.rep_values.specs.Equality.{value_eq}
use Rattle.rep_schema.specs.Tables.{Cells, Rows, rows_of}
use Rattle.site_state.specs.State.{SiteState}
use Rattle.site_state.specs.Contents.{tables_of}
use Rattle.site_events.specs.Cluster.{site_of}
use Rattle.world_state.specs.World.{WorldState}
use Rattle.replication_cli.specs.declared.stocks.Totals.{Totals}
use Rattle.storm_script.specs.Sites.{site_a, site_b, site_c}

-- the rows of the first table at a site; none where the site isn't there
abbrev pub rows_in : Option SiteState → Rows
rows_in None = []
rows_in (Some x) = rows_of (tables_of x) 0

-- the rows of the storm's table at a site of a world
abbrev pub stock_rows : SiteName → WorldState → Rows
stock_rows site w = rows_in (site_of site w.sites)

-- the number that a value is; 0 where it is none
abbrev pub number_or_zero : Option Value → ℤ
number_or_zero None = pos 0
number_or_zero (Some (value.Num n)) = n
number_or_zero (Some (value.Words text)) = pos 0

-- a row's QTY
abbrev pub qty_of : Cells → ℤ
qty_of row = number_or_zero (slice_get row 2)

-- a row's TOP
abbrev pub top_of : Cells → ℤ
top_of row = number_or_zero (slice_get row 3)

-- the sum of QTY
abbrev pub total_qty : Rows → ℤ
total_qty rows = fold (λ sum row. sum +ℤ qty_of row) (pos 0) rows

-- the greater of what was greatest so far, if there was any, and a number
abbrev pub greatest_with : Option ℤ → ℤ → Option ℤ
greatest_with None n = Some n
greatest_with (Some m) n = Some (if int_lt m n then n else m)

-- the greatest TOP; 0 where there is no row
abbrev pub greatest_top : Rows → ℤ
greatest_top rows = unwrap_or (fold (λ top row. greatest_with top (top_of row)) None rows) (pos 0)

-- how many rows there are, the sum of QTY, and the greatest TOP
abbrev pub totals_of : Rows → Totals
totals_of rows = record { rows = length rows; qty = total_qty rows; top = greatest_top rows }

-- the same rows, value by value
abbrev pub same_rows : Rows → Rows → Bool
same_rows = pointwise (pointwise value_eq)

-- the three masters have the same rows
abbrev pub masters_agree : WorldState → Bool
masters_agree w = same_rows (stock_rows site_a w) (stock_rows site_b w) && same_rows (stock_rows site_b w) (stock_rows site_c w)
