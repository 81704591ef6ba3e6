-- A call that fits comes back as it was carried, and what comes back fits.
use Rattle.std.proofs.Common.{◌≡◌, ℕ, zero, suc, List, [], ◌∷◌, set, take, drop, Bool, true, false, cond, pos, Some, None, refl, ap, subst}
use Rattle.std.specs.Prelude.{◌==◌, ◌&&◌, ◌||◌, not, Option, IfSome, slice_get}
use Rattle.std.specs.List.{AllByRecursion, cons_option}
use Rattle.std.proofs.lemmas.Bool.Decides.{Decides-eqb}
use Rattle.std.proofs.lemmas.List.{set-set}
use Rattle.rep_values.specs.declared.value.Value.{Value}
use Rattle.rep_values.specs.declared.value.Value.TheVariants.{Num, Words}
use Rattle.rep_schema.specs.declared.schema.Schema.{Schema}
use Rattle.rep_schema.specs.declared.schema.Column.{Column}
use Rattle.rep_schema.specs.declared.schema.Kind.{Kind}
use Rattle.rep_schema.specs.declared.schema.Kind.TheVariants as kind
use Rattle.rep_schema.specs.Tables.{Cells, columns_of}
use Rattle.rep_schema.specs.Fitting.{fits_kind, row_fits}
use Rattle.rep_schema.specs.Kinds.{takes_numbers}
use Rattle.rep_schema.specs.Groups.{values_at, are_same}
use Rattle.rep_schema.proofs.ValuesAt.{are_same-Decides}
use Rattle.rep_calls.specs.declared.call.Call.{Call}
use Rattle.rep_calls.specs.declared.call.Call.TheVariants.{Insert, Update, Delete}
use Rattle.conflict_detect.specs.Fits.{table_of}
use Rattle.site_state.proofs.Waited.{and_both}
use Rattle.proc_state.specs.declared.procedure.Action.{Action}
use Rattle.proc_state.specs.declared.procedure.Action.TheVariants.{Put, Add, Drop}
use Rattle.proc_state.specs.declared.procedure.Procedure.{Procedure}
use Rattle.proc_state.specs.declared.call.ProcCall.{ProcCall}
use Rattle.proc_state.specs.Actions.{number_or_zero, column_number}
use Rattle.proc_state.specs.Calls.{TakesAmounts, ActsOn, IsProcedure, AreProcedures, is_amount, values_fit, found_fits, call_fits, calls_fit, calls_after}
use Rattle.proc_state.specs.Carriers.{blank, blanks, carried_values, carrier_row, carried_by, carried, carried_txn, place_named, has_form, values_in, is_row_of, call_by, call_in, calls_in, is_carried}
use Rattle.proc_state.specs.Laws.{CarriedCallsDoTheSame}

-- what holds of each holds of the one at a place, where there is one
pub each_at_place : {X : Type 0} (P : X → Type 0) (xs : List X) (i : ℕ) → AllByRecursion P xs → IfSome (slice_get xs i) P
each_at_place P [] i all = tt
each_at_place P (x ∷ xs) zero all = all.0
each_at_place P (x ∷ xs) (suc i) all = each_at_place P xs i all.1

-- two tests that pass pass together
pub both_pass : (b c : Bool) → b ≡ true → c ≡ true → (b && c) ≡ true
both_pass b c p q = rw (p, q) refl

-- where one of two tests or the other would do, neither passes
pub neither : (b c : Bool) → (b || c) ≡ false → (b ≡ false) × (c ≡ false)
neither true c none = cc
neither false c none = (refl, none)

pub isnt_not : (b : Bool) → not b ≡ false → b ≡ true
isnt_not true is = refl
isnt_not false is = cc

-- ---- blanks, and an amount among them

kind_blank : (k : Kind) → fits_kind k (cond (takes_numbers k) (Num (pos 0)) (Words [])) ≡ true
kind_blank kind.Number = refl
kind_blank kind.Words = refl
kind_blank kind.Date = refl
kind_blank kind.Stamp = refl
kind_blank kind.Site = refl

-- a row of blanks fits
pub blanks_fit : (columns : List Column) → row_fits columns (blanks columns) ≡ true
blanks_fit [] = refl
blanks_fit (c ∷ cs) = both_pass (fits_kind c.kind (blank c)) (row_fits cs (blanks cs)) (kind_blank c.kind) (blanks_fit cs)

amount_fits : (columns : List Column) (i : ℕ) (v : Value) → TakesAmounts (slice_get columns i) → fits_kind kind.Number v ≡ true → row_fits columns (set (blanks columns) i v) ≡ true
amount_fits [] i v takes fits = absurd takes
amount_fits (c ∷ cs) zero v takes fits = both_pass (fits_kind c.kind v) (row_fits cs (blanks cs)) (rw takes.0 fits) (blanks_fit cs)
amount_fits (c ∷ cs) (suc i) v takes fits = both_pass (fits_kind c.kind (blank c)) (row_fits cs (set (blanks cs) i v)) (kind_blank c.kind) (amount_fits cs i v takes fits)

-- at a column that takes amounts the blank is 0
zero_blank : (columns : List Column) (i : ℕ) → TakesAmounts (slice_get columns i) → set (blanks columns) i (Num (pos 0)) ≡ blanks columns
zero_blank [] i takes = absurd takes
zero_blank (c ∷ cs) zero takes = rw takes.0 refl
zero_blank (c ∷ cs) (suc i) takes = ap (λ vs. blank c ∷ vs) (zero_blank cs i takes)

amount_there : (columns : List Column) (i : ℕ) (v : Value) → TakesAmounts (slice_get columns i) → slice_get (set (blanks columns) i v) i ≡ Some v
amount_there [] i v takes = absurd takes
amount_there (c ∷ cs) zero v takes = refl
amount_there (c ∷ cs) (suc i) v takes = amount_there cs i v takes

-- the amount of an add is the number at its column of the values in which it is carried
pub amount-carried : (column : ℕ) (values : Cells) → column_number 0 (values_at (column ∷ []) values) ≡ column_number column values
amount-carried column values = go (slice_get values column)
  where
    go : (o : Option Value) → column_number 0 (cons_option o []) ≡ number_or_zero o
    go None = refl
    go (Some v) = refl

-- a row that fits has an amount at such a column
amount_read : (columns : List Column) (i : ℕ) (values : Cells) → TakesAmounts (slice_get columns i) → row_fits columns values ≡ true → is_amount (cons_option (slice_get values i) []) ≡ true
amount_read [] i values takes fits = absurd takes
amount_read (c ∷ cs) i [] takes fits = cc
amount_read (c ∷ cs) zero (v ∷ vs) takes fits = subst (λ (k : Kind). fits_kind k v ≡ true) takes.0 (and_both (fits_kind c.kind v) (row_fits cs vs) fits).0
amount_read (c ∷ cs) (suc i) (v ∷ vs) takes fits = amount_read cs i vs takes (and_both (fits_kind c.kind v) (row_fits cs vs) fits).1

-- ---- an action's values

-- values are the same as themselves
pub own_same : (values : Cells) → are_same values values ≡ true
own_same values = (are_same-Decides values values).1 refl

add_form : (columns : List Column) (column : ℕ) (v : Value) → TakesAmounts (slice_get columns column) → fits_kind kind.Number v ≡ true
    → (row_fits columns (set (blanks columns) column v) && are_same (set (set (blanks columns) column v) column (Num (pos 0))) (blanks columns)) ≡ true
add_form columns column v takes fits = both_pass (row_fits columns (set (blanks columns) column v)) (are_same (set (set (blanks columns) column v) column (Num (pos 0))) (blanks columns))
    (amount_fits columns column v takes fits) (rw (set-set (blanks columns) column v (Num (pos 0)), zero_blank columns column takes) (own_same (blanks columns)))

-- values that fit are carried in the action's form
pub form-carried : (columns : List Column) (action : Action) (values : Cells) → ActsOn columns action → values_fit columns action values ≡ true → has_form columns action (carried_values columns action values) ≡ true
form-carried columns Put values acts fits = fits
form-carried columns (Add column tests) [] acts fits = cc
form-carried columns (Add column tests) (v ∷ []) acts fits = add_form columns column v acts.0 fits
form-carried columns (Add column tests) (v ∷ w ∷ vs) acts fits = cc
form-carried columns (Drop tests) values acts fits = own_same (blanks columns)

-- in a row of the table
pub row_fits-carried : (columns : List Column) (action : Action) (values : Cells) → ActsOn columns action → values_fit columns action values ≡ true → row_fits columns (carried_values columns action values) ≡ true
row_fits-carried columns Put values acts fits = fits
row_fits-carried columns (Add column tests) [] acts fits = cc
row_fits-carried columns (Add column tests) (v ∷ []) acts fits = amount_fits columns column v acts.0 fits
row_fits-carried columns (Add column tests) (v ∷ w ∷ vs) acts fits = cc
row_fits-carried columns (Drop tests) values acts fits = blanks_fit columns

-- and come back
values-carried : (columns : List Column) (action : Action) (values : Cells) → ActsOn columns action → values_fit columns action values ≡ true → values_in action (carried_values columns action values) ≡ values
values-carried columns Put values acts fits = refl
values-carried columns (Add column tests) [] acts fits = cc
values-carried columns (Add column tests) (v ∷ []) acts fits = rw (amount_there columns column v acts.0) refl
values-carried columns (Add column tests) (v ∷ w ∷ vs) acts fits = cc
values-carried columns (Drop tests) [] acts fits = refl
values-carried columns (Drop tests) (v ∷ vs) acts fits = cc

-- what comes back from the action's form fits
form_fits : (columns : List Column) (action : Action) (values : Cells) → ActsOn columns action → has_form columns action values ≡ true → values_fit columns action (values_in action values) ≡ true
form_fits columns Put values acts form = form
form_fits columns (Add column tests) values acts form =
    amount_read columns column values acts.0 (and_both (row_fits columns values) (are_same (set values column (Num (pos 0))) (blanks columns)) form).0
form_fits columns (Drop tests) values acts form = refl

-- ---- a call

module _ (schema : Schema) (procedures : List Procedure) (are : AreProcedures schema procedures) where
  row_of-carried : (p : Procedure) (place : ℕ) (values : Cells) → IsProcedure schema p → values_fit (columns_of schema p.table) p.action values ≡ true
      → is_row_of schema p.table (carrier_row place (carried_values (columns_of schema p.table) p.action values)) p ≡ true
  row_of-carried p place values is fits = both_pass (p.table == p.table && are_same (carrier_row place []) (carrier_row place []))
      (has_form (columns_of schema p.table) p.action (carried_values (columns_of schema p.table) p.action values))
      (both_pass (p.table == p.table) (are_same (carrier_row place []) (carrier_row place [])) ((Decides-eqb p.table p.table).1 refl) (own_same (carrier_row place [])))
      (form-carried (columns_of schema p.table) p.action values is.acts fits)

  -- a call that fits comes back as it was carried
  pub call_in-carried : (call : ProcCall) → call_fits schema procedures call ≡ true → call_in schema procedures (carried schema procedures call) ≡ Some call
  call_in-carried call fits = go (slice_get procedures call.procedure) refl (each_at_place (IsProcedure schema) procedures call.procedure are) fits
    where
      go : (o : Option Procedure) → slice_get procedures call.procedure ≡ o → IfSome o (IsProcedure schema) → found_fits schema o call.values ≡ true
          → call_in schema procedures (carried_by schema call.procedure call.values o) ≡ Some call
      go None there is fits = cc
      go (Some p) there is fits =
          rw (there, row_of-carried p call.procedure call.values is fits, values-carried (columns_of schema p.table) p.action call.values is.acts fits) refl

  -- so do calls that fit
  pub calls_in-carried : (calls : List ProcCall) → calls_fit schema procedures calls ≡ true → calls_in schema procedures (carried_txn schema procedures calls) ≡ calls
  calls_in-carried [] fit = refl
  calls_in-carried (call ∷ calls) fit =
      let both = and_both (call_fits schema procedures call) (calls_fit schema procedures calls) fit in
      rw (call_in-carried call both.0) (ap (λ cs. call ∷ cs) (calls_in-carried calls both.1))

  -- and each of them is carried in its form
  pub is_carried-carried : (calls : List ProcCall) → calls_fit schema procedures calls ≡ true → is_carried schema procedures (carried_txn schema procedures calls) ≡ true
  is_carried-carried [] fit = refl
  is_carried-carried (call ∷ calls) fit =
      let both = and_both (call_fits schema procedures call) (calls_fit schema procedures calls) fit in
      rw (call_in-carried call both.0) (is_carried-carried calls both.1)

-- carried calls that fit do what the calls do
pub carried_calls_do_the_same : CarriedCallsDoTheSame
carried_calls_do_the_same schema procedures calls tables are fit = ap (λ (cs : List ProcCall). calls_after schema procedures 1 cs tables) (calls_in-carried schema procedures are calls fit)

-- ---- a call that was carried

-- what a carried call is read as: a call of a procedure of its table, with the values of the action's form
pub record IsReadFrom (schema : Schema) (procedures : List Procedure) (call : Call) (read : ProcCall) : Type 0 where
  pub procedure : Procedure
  pub there : slice_get procedures read.procedure ≡ Some procedure
  pub table : procedure.table ≡ table_of call
  pub carrying : Cells
  pub form : has_form (columns_of schema procedure.table) procedure.action carrying ≡ true
  pub values : read.values ≡ values_in procedure.action carrying

pub read_from : (schema : Schema) (procedures : List Procedure) (call : Call) (read : ProcCall) → call_in schema procedures call ≡ Some read → IsReadFrom schema procedures call read
read_from schema procedures (Insert table row) read reads = go (slice_get procedures (place_named row)) refl reads
  where
    by : (p : Procedure) → slice_get procedures (place_named row) ≡ Some p → (b : Bool) → is_row_of schema table row p ≡ b
        → cond b (Some (record { procedure = place_named row; values = values_in p.action (drop 2 row) })) None ≡ Some read → IsReadFrom schema procedures (Insert table row) read
    by p there false is here = absurd (cc here)
    by p there true is here =
        let same : record { procedure = place_named row; values = values_in p.action (drop 2 row) } ≡ read = cc here in
        let parts = and_both (p.table == table && are_same (take 2 row) (carrier_row (place_named row) [])) (has_form (columns_of schema p.table) p.action (drop 2 row)) is in
        let begins = and_both (p.table == table) (are_same (take 2 row) (carrier_row (place_named row) [])) parts.0 in
        record {
          procedure = p;
          there = subst (λ (r : ProcCall). slice_get procedures r.procedure ≡ Some p) same there;
          table = (Decides-eqb p.table table).0 begins.0;
          carrying = drop 2 row;
          form = parts.1;
          values = subst (λ (r : ProcCall). r.values ≡ values_in p.action (drop 2 row)) same refl;
        }

    go : (o : Option Procedure) → slice_get procedures (place_named row) ≡ o → call_by schema table row o ≡ Some read → IsReadFrom schema procedures (Insert table row) read
    go None there here = absurd (cc here)
    go (Some p) there here = by p there (is_row_of schema table row p) refl here
read_from schema procedures (Update table key parts) read reads = absurd (cc reads)
read_from schema procedures (Delete table row) read reads = absurd (cc reads)

module _ (schema : Schema) (procedures : List Procedure) (are : AreProcedures schema procedures) where
  -- it fits
  pub call_fits-read : (call : Call) (read : ProcCall) → call_in schema procedures call ≡ Some read → call_fits schema procedures read ≡ true
  call_fits-read call read reads = go (read_from schema procedures call read reads)
    where
      go : IsReadFrom schema procedures call read → call_fits schema procedures read ≡ true
      go from =
          let is : IsProcedure schema from.procedure = rw from.there at (each_at_place (IsProcedure schema) procedures read.procedure are) in
          rw (from.there, from.values) (form_fits (columns_of schema from.procedure.table) from.procedure.action from.carrying is.acts from.form)

  -- so do all that a transaction carries
  pub calls_fit-read : (calls : List Call) → calls_fit schema procedures (calls_in schema procedures (record { calls = calls })) ≡ true
  calls_fit-read [] = refl
  calls_fit-read (call ∷ calls) = go (call_in schema procedures call) refl (calls_fit-read calls)
    where
      rest : List ProcCall
      rest = calls_in schema procedures (record { calls = calls })

      go : (o : Option ProcCall) → call_in schema procedures call ≡ o → calls_fit schema procedures rest ≡ true → calls_fit schema procedures (cons_option o rest) ≡ true
      go None reads later = later
      go (Some read) reads later = both_pass (call_fits schema procedures read) (calls_fit schema procedures rest) (call_fits-read call read reads) later
