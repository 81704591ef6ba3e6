-- What some refreshes come to.
use Rattle.std.proofs.Common.{◌≡◌, ℕ, [], ◌∷◌, pos, true, false, List, refl}
use Rattle.std.specs.Prelude.{Some, None, codes}
use Rattle.rep_values.specs.declared.value.Value.TheVariants.{Num}
use Rattle.rep_schema.specs.declared.schema.Column.{Column}
use Rattle.rep_schema.specs.declared.schema.Kind.TheVariants as kind
use Rattle.rep_schema.specs.Tables.{Cells, Rows}
use Rattle.snapshot_query.specs.declared.query.Query.{Query}
use Rattle.snapshot_query.specs.declared.query.Op.TheVariants.{Eq}
use Rattle.snapshot_query.specs.Queries.{query_rows}
use Rattle.refreshes.specs.Planned.{gone_keys, coming_rows, all_keys, rows_left, rows_with, takings, puttings}

-- a number as the key, a zone and a quantity
abbrev columns : List Column
columns = record { name = codes "K"; kind = kind.Number; key = true } ∷ record { name = codes "Z"; kind = kind.Number; key = false } ∷ record { name = codes "Q"; kind = kind.Number; key = false } ∷ []

abbrev row : ℕ → ℕ → ℕ → Cells
row k z q = Num (pos k) ∷ Num (pos z) ∷ Num (pos q) ∷ []

abbrev key : ℕ → Cells
key k = Num (pos k) ∷ []

abbrev zone_one : Query
zone_one = record { tests = record { column = 1; op = Eq; value = Num (pos 1) } ∷ [] }

-- at the master 1 is as it was, 2 has another quantity, 3 went to another zone, 4 is gone, 5 is new
abbrev shown_before : Rows
shown_before = row 1 1 10 ∷ row 2 1 20 ∷ row 3 1 30 ∷ row 4 1 40 ∷ []

abbrev master : Rows
master = row 1 1 10 ∷ row 2 1 25 ∷ row 3 2 30 ∷ row 5 1 50 ∷ []

abbrev wanted : Rows
wanted = query_rows zone_one master

abbrev pending : List Cells
pending = key 1 ∷ key 2 ∷ key 3 ∷ key 4 ∷ key 5 ∷ []

three_go : gone_keys columns shown_before wanted pending ≡ key 2 ∷ key 3 ∷ key 4 ∷ []
three_go = refl

two_come : coming_rows columns shown_before wanted pending ≡ row 2 1 25 ∷ row 5 1 50 ∷ []
two_come = refl

refreshed : rows_with columns (row 2 1 25 ∷ row 5 1 50 ∷ []) (rows_left columns (key 2 ∷ key 3 ∷ key 4 ∷ []) shown_before) ≡ wanted
refreshed = refl

-- the keys of both tables are those that are there and the new one
every_key : all_keys columns shown_before wanted ≡ key 1 ∷ key 2 ∷ key 3 ∷ key 4 ∷ key 5 ∷ []
every_key = refl

-- two rows whose quantities are exchanged are both taken before one of them comes
abbrev exchanged : Rows
exchanged = row 1 1 20 ∷ row 2 1 10 ∷ []

both_taken : takings 0 columns (key 1 ∷ key 2 ∷ []) (row 1 1 10 ∷ row 2 1 20 ∷ [])
    ≡ record { table = 0; before = Some (row 1 1 10); after = None } ∷ record { table = 0; before = Some (row 2 1 20); after = None } ∷ []
both_taken = refl

then_put : puttings 0 columns exchanged []
    ≡ record { table = 0; before = None; after = Some (row 1 1 20) } ∷ record { table = 0; before = None; after = Some (row 2 1 10) } ∷ []
then_put = refl
