-- Which rows some queries pick.
use Rattle.std.proofs.Common.{◌≡◌, [], ◌∷◌, pos, true, false, refl}
use Rattle.std.specs.Prelude.{codes}
use Rattle.rep_values.specs.declared.value.Value.TheVariants.{Num, Words}
use Rattle.rep_schema.specs.Tables.{Cells}
use Rattle.snapshot_query.specs.declared.query.Query.{Query}
use Rattle.snapshot_query.specs.declared.query.Op.TheVariants.{Eq, Ge, Lt}
use Rattle.snapshot_query.specs.Queries.{matches, query_rows}

-- two rows of zone 1, and a third of zone 2
abbrev first : Cells
first = Num (pos 1) ∷ Num (pos 1) ∷ Num (pos 10) ∷ []

abbrev second : Cells
second = Num (pos 2) ∷ Num (pos 1) ∷ Num (pos 20) ∷ []

abbrev third : Cells
third = Num (pos 3) ∷ Num (pos 2) ∷ Num (pos 30) ∷ []

-- the zone is 1, and the quantity 20 or more
abbrev of_zone : Query
of_zone = record { tests = record { column = 1; op = Eq; value = Num (pos 1) } ∷ [] }

abbrev many_of_zone : Query
many_of_zone = record { tests = record { column = 1; op = Eq; value = Num (pos 1) } ∷ record { column = 2; op = Ge; value = Num (pos 20) } ∷ [] }

one_zone : query_rows of_zone (first ∷ second ∷ third ∷ []) ≡ first ∷ second ∷ []
one_zone = refl

both_tests : query_rows many_of_zone (first ∷ second ∷ third ∷ []) ≡ second ∷ []
both_tests = refl

no_tests : query_rows (record { tests = [] }) (first ∷ second ∷ third ∷ []) ≡ first ∷ second ∷ third ∷ []
no_tests = refl

no_column : matches of_zone (Num (pos 1) ∷ []) ≡ false
no_column = refl

-- a number stands before a text
number_below_text : matches (record { tests = record { column = 0; op = Lt; value = Words (codes "a") } ∷ [] }) first ≡ true
number_below_text = refl
