-- Calls that fit are carried within the limits of a packet.
use Rattle.std.proofs.Common.{◌≡◌, ℕ, ◌<◌, ◌≤◌, ◌^◌, true, pos, List, [], ◌∷◌, length, arith}
use Rattle.std.specs.List.{AllByRecursion}
use Rattle.std.proofs.lemmas.Int.{ints}
use Rattle.rep_values.specs.declared.value.Value.{Value}
use Rattle.rep_values.specs.declared.value.Value.TheVariants.{Num, Words}
use Rattle.rep_schema.specs.declared.schema.Schema.{Schema}
use Rattle.rep_schema.specs.declared.schema.Column.{Column}
use Rattle.rep_schema.specs.declared.schema.Kind.{Kind}
use Rattle.rep_schema.specs.declared.schema.Kind.TheVariants as kind
use Rattle.rep_schema.specs.Tables.{Cells, columns_of, IsInRange, FitsKind, RowFits}
use Rattle.rep_schema.proofs.FittingTests.{row_test}
use Rattle.rep_schema.proofs.RowFit.{length-fits}
use Rattle.rep_calls.specs.declared.call.Call.{Call}
use Rattle.rep_calls.specs.declared.call.Call.TheVariants.{Insert}
use Rattle.rep_calls.specs.declared.call.Txn.{Txn}
use Rattle.packet_code.specs.Limits.{IsPlainValue, IsPlainRow, IsPlainCall}
use Rattle.packet_code.specs.Texts.{HasTextForm, HaveTextForm, CallHasTextForm}
use Rattle.site_state.specs.Fits.{SchemaIsKeyed}
use Rattle.proc_state.specs.declared.procedure.Procedure.{Procedure}
use Rattle.proc_state.specs.Calls.{IsProcedure, values_fit}
use Rattle.proc_state.specs.Carriers.{carried_values, carrier_row}
use Rattle.proc_state.proofs.Carrying.{row_fits-carried}
use Rattle.proc_calls.specs.Carrying.{CallCanBeCarried, CanBeCarried}

plain_value : (k : Kind) (value : Value) → FitsKind k value → HasTextForm value → IsPlainValue value
plain_value kind.Number (Num n) fits form = fits
plain_value kind.Date (Num n) fits form = fits
plain_value kind.Stamp (Num n) fits form = fits
plain_value kind.Words (Num n) fits form = absurd fits
plain_value kind.Site (Num n) fits form = absurd fits
plain_value k (Words text) fits form = form

plain_values : (columns : List Column) (row : Cells) → RowFits columns row → HaveTextForm row → AllByRecursion IsPlainValue row
plain_values [] [] fits form = tt
plain_values [] (v ∷ vs) fits form = absurd fits
plain_values (c ∷ cs) [] fits form = absurd fits
plain_values (c ∷ cs) (v ∷ vs) fits form = (plain_value c.kind v fits.0 form.0, plain_values cs vs fits.1 form.1)

-- a place of four bytes is a number in range
place_in_range : (place : ℕ) → place < 2 ^ 32 → IsInRange (pos place)
place_in_range place below = (omega (arith, ints), omega (arith, ints, below))

-- the row of a carrier with at most 30 values that fit columns
pub plain_row : (columns : List Column) (place : ℕ) (values : Cells) → place < 2 ^ 32 → length columns ≤ 30 → RowFits columns values → HaveTextForm (carrier_row place values) → IsPlainRow (carrier_row place values)
plain_row columns place values below width fits form =
    let long = length-fits columns values fits in
    record {
      number = (omega arith, omega (arith, long, width));
      values = (place_in_range 0 (omega arith), (place_in_range place below, plain_values columns values fits form.1.1));
    }

module _ (schema : Schema) (keyed : SchemaIsKeyed schema) (p : Procedure) (is : IsProcedure schema p) (values : Cells) (fits : values_fit (columns_of schema p.table) p.action values ≡ true) where
  -- what is carried fits the columns of the table
  pub carried_fits : RowFits (columns_of schema p.table) (carried_values (columns_of schema p.table) p.action values)
  carried_fits = (row_test (columns_of schema p.table) (carried_values (columns_of schema p.table) p.action values)).0 (row_fits-carried (columns_of schema p.table) p.action values is.acts fits)

  -- so there are at most 30 values
  pub carried_few : length (carried_values (columns_of schema p.table) p.action values) ≤ 30
  carried_few = omega (arith, length-fits (columns_of schema p.table) (carried_values (columns_of schema p.table) p.action values) carried_fits, is.width)

  -- and a packet can hold the call
  pub call_can : (place : ℕ) → place < 2 ^ 32 → CallCanBeCarried (Insert p.table (carrier_row place (carried_values (columns_of schema p.table) p.action values)))
  call_can place below form = (
    omega (arith, is.table, keyed.shape.table_number),
    plain_row (columns_of schema p.table) place (carried_values (columns_of schema p.table) p.action values) below is.width carried_fits form,
  )

-- and a transaction of such calls
pub txn_can : (txn : Txn) → 1 ≤ length txn.calls → length txn.calls ≤ 1000 → AllByRecursion CallCanBeCarried txn.calls → CanBeCarried txn
txn_can txn some most can form = record { some = some; most = most; calls = each txn.calls can form }
  where
    each : (calls : List Call) → AllByRecursion CallCanBeCarried calls → AllByRecursion CallHasTextForm calls → AllByRecursion IsPlainCall calls
    each [] can form = tt
    each (call ∷ calls) can form = (can.0 form.0, each calls can.1 form.1)
