-- The test of rows tells whether they are the same.
use Rattle.std.proofs.Common.{◌≡◌, Bool, true, false, refl}
use Rattle.std.specs.Bool.{Decides}
use Rattle.std.specs.Prelude.{◌↔◌, IsTrue}
use Rattle.std.specs.Cmp.Lexicographic.{pointwise}
use Rattle.std.proofs.lemmas.Slice.Eq.{slice_eq-Decides}
use Rattle.rep_values.specs.Equality.{value_eq, value_eq-Decides}
use Rattle.rep_schema.specs.Tables.{Cells, Rows}
use Rattle.replication_cli.specs.Stocks.{same_rows}

cells-Decides : (a b : Cells) → Decides (pointwise value_eq a b) (a ≡ b)
cells-Decides a b = slice_eq-Decides value_eq-Decides a b (pointwise value_eq a b) refl

rows-Decides : (a b : Rows) → Decides (same_rows a b) (a ≡ b)
rows-Decides a b = slice_eq-Decides cells-Decides a b (same_rows a b) refl

-- a test that tells it is that test
pub same_rows_by : (test : Bool) (a b : Rows) → (IsTrue test ↔ (a ≡ b)) → test ≡ same_rows a b
same_rows_by test a b told = go test (same_rows a b) told (rows-Decides a b)
  where
    go : (t s : Bool) → (IsTrue t ↔ (a ≡ b)) → Decides s (a ≡ b) → t ≡ s
    go true true is says = refl
    go true false is says = absurd (cc (says.1 (is.0 refl)))
    go false true is says = absurd (cc (is.1 (says.0 refl)))
    go false false is says = refl
