-- Tables stay tables when calls of procedures are made.
use Rattle.std.proofs.Common.{◌≡◌, ℕ, zero, suc, ◌+◌, ◌<◌, List, [], ◌∷◌, length, map, set, Bool, true, false, cond, Some, None, Ok, Err, refl, arith, subst}
use Rattle.std.specs.Prelude.{ℤ, ◌||◌, not, Option, Result, IfSome, slice_get}
use Rattle.std.specs.List.{AllByRecursion, cons_option, list_all}
use Rattle.std.specs.declared.cmp.Ordering.TheVariants.{Less}
use Rattle.rep_lists.specs.Rising.{IsRising}
use Rattle.rep_values.specs.declared.value.Value.TheVariants.{Num}
use Rattle.rep_values.specs.declared.refusal.ApplyError.TheVariants.{ValueRange}
use Rattle.rep_schema.specs.declared.schema.Schema.{Schema}
use Rattle.rep_schema.specs.declared.schema.Column.{Column}
use Rattle.rep_schema.specs.Tables.{Cells, Rows, columns_of, constraints_of, key_of, row_cmp, rows_of, RowFits, IsUniqueRow, IsTable, AreTables}
use Rattle.rep_schema.specs.Fitting.{is_in_range}
use Rattle.rep_schema.proofs.TableSteps.{IsTable-put, AreTables-set, AreTables-empty}
use Rattle.rep_schema.proofs.FilteredRows.{IsTable-filter}
use Rattle.rep_schema.proofs.FittingTests.{row_test}
use Rattle.rep_schema.proofs.PartFit.{RowFits-with_values, key_of-with_values}
use Rattle.rep_calls.specs.declared.call.Txn.{Txn}
use Rattle.snapshot_query.specs.declared.query.Query.{Query}
use Rattle.snapshot_query.specs.Queries.{matches}
use Rattle.txn_effects.specs.Transactions.{Failure, failing_at}
use Rattle.txn_effects.proofs.Results.{result_then-Ok}
use Rattle.txn_effects.proofs.TransactionEffects.{failing_at-Ok}
use Rattle.site_state.specs.declared.entry.Entry.{Entry}
use Rattle.site_state.specs.declared.entry.Entry.TheVariants.{Local, Done, Error, Executed, Dropped, Refreshed}
use Rattle.site_state.proofs.Waited.{and_both}
use Rattle.proc_state.specs.declared.procedure.Action.{Action}
use Rattle.proc_state.specs.declared.procedure.Action.TheVariants.{Put, Add, Drop}
use Rattle.proc_state.specs.declared.procedure.Procedure.{Procedure}
use Rattle.proc_state.specs.declared.call.ProcCall.{ProcCall}
use Rattle.proc_state.specs.Actions.{column_number, sum_at, can_rise, can_rise_where, row_raised, row_raised_where, after_put, after_drop, rows_after}
use Rattle.proc_state.specs.Calls.{TakesAmounts, ActsOn, IsProcedure, AreProcedures, values_fit, found_fits, call_fits, calls_fit, found_after, call_after, calls_after, tables_by}
use Rattle.proc_state.specs.Carriers.{calls_in, tables_after}
use Rattle.proc_state.specs.State.{tables_with, journal_tables}
use Rattle.proc_state.proofs.Carrying.{each_at_place, calls_fit-read}

-- ---- a column that takes amounts

amount_within : (columns : List Column) (i : ℕ) → TakesAmounts (slice_get columns i) → i < length columns
amount_within [] i takes = absurd takes
amount_within (c ∷ cs) zero takes = omega arith
amount_within (c ∷ cs) (suc i) takes = omega (arith, amount_within cs i takes)

amount_off_key : (o : Option Column) → TakesAmounts o → IfSome o (λ c. c.key ≡ false)
amount_off_key None takes = absurd takes
amount_off_key (Some c) takes = takes.1

amount_fits_there : (o : Option Column) (s : ℤ) → TakesAmounts o → is_in_range s ≡ true → RowFits (cons_option o []) (Num s ∷ [])
amount_fits_there None s takes within = absurd takes
amount_fits_there (Some c) s takes within = (row_test (c ∷ []) (Num s ∷ [])).0 (rw (takes.0, within) refl)

-- ---- a row that is raised

module _ (columns : List Column) (column : ℕ) (tests : Query) (amount : ℤ) (takes : TakesAmounts (slice_get columns column)) where
  -- keeps its key
  key_of-raised : (row : Cells) → key_of columns (row_raised_where tests column amount row) ≡ key_of columns row
  key_of-raised row = go (matches tests row)
    where
      go : (b : Bool) → key_of columns (cond b (row_raised column amount row) row) ≡ key_of columns row
      go true = key_of-with_values columns (column ∷ []) (Num (sum_at column amount row) ∷ []) row (amount_off_key (slice_get columns column) takes, tt)
      go false = refl

  -- and fits where it could rise
  RowFits-raised : (row : Cells) → can_rise_where tests column amount row ≡ true → RowFits columns row → RowFits columns (row_raised_where tests column amount row)
  RowFits-raised row can fits = go (matches tests row) can
    where
      go : (b : Bool) → (not b || can_rise column amount row) ≡ true → RowFits columns (cond b (row_raised column amount row) row)
      go true within = RowFits-with_values columns (column ∷ []) (Num (sum_at column amount row) ∷ []) row (amount_within columns column takes, tt)
          (amount_fits_there (slice_get columns column) (sum_at column amount row) takes within) fits
      go false within = fits

  below-raised : (row : Cells) (rows : Rows) → AllByRecursion (λ (y : Cells). row_cmp columns row y ≡ Less) rows
      → AllByRecursion (λ (y : Cells). row_cmp columns (row_raised_where tests column amount row) y ≡ Less) (map (row_raised_where tests column amount) rows)
  below-raised row [] below = tt
  below-raised row (y ∷ ys) below = (rw (key_of-raised row, key_of-raised y) below.0, below-raised row ys below.1)

  -- so rows that are raised rise in their order
  rising-raised : (rows : Rows) → IsRising (row_cmp columns) rows → IsRising (row_cmp columns) (map (row_raised_where tests column amount) rows)
  rising-raised [] rising = tt
  rising-raised (r ∷ rs) rising = (below-raised r rs rising.0, rising-raised rs rising.1)

  -- and fit where each of them could rise
  fit-raised : (rows : Rows) → list_all (can_rise_where tests column amount) rows ≡ true → AllByRecursion (RowFits columns) rows → AllByRecursion (RowFits columns) (map (row_raised_where tests column amount) rows)
  fit-raised [] can fit = tt
  fit-raised (r ∷ rs) can fit =
      let both = and_both (can_rise_where tests column amount r) (list_all (can_rise_where tests column amount) rs) can in
      (RowFits-raised r both.0 fit.0, fit-raised rs both.1 fit.1)

-- ---- a table after an action

module _ (schema : Schema) (table : ℕ) (unconstrained : constraints_of schema table ≡ []) where
  abbrev columns_here : List Column
  columns_here = columns_of schema table

  -- without secondary constraints each row is unique
  unique : (row : Cells) (rows : Rows) → IsUniqueRow schema table row rows
  unique row rows = record {
    unheld = λ c below.
        let none : length (constraints_of schema table) ≡ 0 = rw unconstrained refl in
        absurd (omega (arith, below, none));
  }

  all_unique : (ys rows : Rows) → AllByRecursion (λ (row : Cells). IsUniqueRow schema table row rows) ys
  all_unique [] rows = tt
  all_unique (y ∷ ys) rows = (unique y rows, all_unique ys rows)

  IsTable-raised : (column : ℕ) (tests : Query) (amount : ℤ) (rows : Rows) → TakesAmounts (slice_get columns_here column) → list_all (can_rise_where tests column amount) rows ≡ true → IsTable schema table rows
      → IsTable schema table (map (row_raised_where tests column amount) rows)
  IsTable-raised column tests amount rows takes can is = record {
    rising = rising-raised columns_here column tests amount takes rows is.rising;
    fit = fit-raised columns_here column tests amount takes rows can is.fit;
    apart = all_unique (map (row_raised_where tests column amount) rows) (map (row_raised_where tests column amount) rows);
  }

  IsTable-added : (column : ℕ) (tests : Query) (amount : ℤ) (rows later : Rows) → TakesAmounts (slice_get columns_here column) → IsTable schema table rows
      → (b : Bool) → list_all (can_rise_where tests column amount) rows ≡ b → cond b (Ok (map (row_raised_where tests column amount) rows)) (Err ValueRange) ≡ Ok later → IsTable schema table later
  IsTable-added column tests amount rows later takes is true can gives =
      let same : map (row_raised_where tests column amount) rows ≡ later = cc gives in
      subst (IsTable schema table) same (IsTable-raised column tests amount rows takes can is)
  IsTable-added column tests amount rows later takes is false can gives = absurd (cc gives)

  -- a table stays one after an action with values that fit it
  pub IsTable-rows_after : (action : Action) (values : Cells) (rows later : Rows) → ActsOn columns_here action → values_fit columns_here action values ≡ true → IsTable schema table rows
      → rows_after columns_here action values rows ≡ Ok later → IsTable schema table later
  IsTable-rows_after Put values rows later acts fits is gives =
      let same : after_put columns_here values rows ≡ later = cc gives in
      subst (IsTable schema table) same (IsTable-put schema table values rows ((row_test columns_here values).0 fits) (unique values rows) is)
  IsTable-rows_after (Add column tests) values rows later acts fits is gives =
      IsTable-added column tests (column_number 0 values) rows later acts.0 is (list_all (can_rise_where tests column (column_number 0 values)) rows) refl gives
  IsTable-rows_after (Drop tests) values rows later acts fits is gives =
      let same : after_drop tests rows ≡ later = cc gives in
      subst (IsTable schema table) same (IsTable-filter schema table (λ (row : Cells). not (matches tests row)) rows is)

-- ---- tables after calls

module _ (schema : Schema) (procedures : List Procedure) (procedures_are : AreProcedures schema procedures) where
  -- tables stay tables after a call that fits
  pub AreTables-call_after : (call : ProcCall) (tables later : List Rows) → call_fits schema procedures call ≡ true → AreTables schema tables → call_after schema procedures call tables ≡ Ok later
      → AreTables schema later
  AreTables-call_after call tables later fits are gives = go (slice_get procedures call.procedure) (each_at_place (IsProcedure schema) procedures call.procedure procedures_are) fits gives
    where
      go : (o : Option Procedure) → IfSome o (IsProcedure schema) → found_fits schema o call.values ≡ true → found_after schema o call.values tables ≡ Ok later → AreTables schema later
      go None is fit here = cc
      go (Some p) is fit here =
          let some = result_then-Ok (rows_after (columns_of schema p.table) p.action call.values (rows_of tables p.table)) (λ (rows : Rows). Ok (set tables p.table rows)) later here in
          let same : set tables p.table some.0 ≡ later = cc (some.2) in
          subst (AreTables schema) same (AreTables-set schema tables p.table some.0 are
          (IsTable-rows_after schema p.table is.unconstrained p.action call.values (rows_of tables p.table) some.0 is.acts fit (are.each p.table is.table) some.1))

  -- and after calls that fit
  pub AreTables-calls_after : (number : ℕ) (calls : List ProcCall) (tables later : List Rows) → calls_fit schema procedures calls ≡ true → AreTables schema tables
      → calls_after schema procedures number calls tables ≡ Ok later → AreTables schema later
  AreTables-calls_after number [] tables later fit are gives = let same : tables ≡ later = cc gives in subst (AreTables schema) same are
  AreTables-calls_after number (call ∷ calls) tables later fit are gives =
      let both = and_both (call_fits schema procedures call) (calls_fit schema procedures calls) fit in
      let some = result_then-Ok (failing_at number (call_after schema procedures call tables)) (calls_after schema procedures (number + 1) calls) later gives in
      AreTables-calls_after (number + 1) calls some.0 later both.1
      (AreTables-call_after call tables some.0 both.0 are (failing_at-Ok number (call_after schema procedures call tables) some.0 some.1)) some.2

  -- also where one of them fails
  pub AreTables-calls_left : (number : ℕ) (calls : List ProcCall) (tables : List Rows) → calls_fit schema procedures calls ≡ true → AreTables schema tables
      → AreTables schema (tables_by (calls_after schema procedures number calls tables) tables)
  AreTables-calls_left number calls tables fit are = go (calls_after schema procedures number calls tables) refl
    where
      go : (r : Result (List Rows) Failure) → calls_after schema procedures number calls tables ≡ r → AreTables schema (tables_by r tables)
      go (Ok later) gives = AreTables-calls_after number calls tables later fit are gives
      go (Err failure) gives = are

  -- and after a transaction
  pub AreTables-tables_after : (txn : Txn) (tables : List Rows) → AreTables schema tables → AreTables schema (tables_after schema procedures txn tables)
  AreTables-tables_after txn tables are = AreTables-calls_left 1 (calls_in schema procedures txn) tables (calls_fit-read schema procedures procedures_are txn.calls) are

  AreTables-tables_with : (e : Entry) (tables : List Rows) → AreTables schema tables → AreTables schema (tables_with schema procedures e tables)
  AreTables-tables_with (Local number txn) tables are = AreTables-tables_after txn tables are
  AreTables-tables_with (Done origin position onward txn) tables are = AreTables-tables_after txn tables are
  AreTables-tables_with (Error origin position call error txn) tables are = are
  AreTables-tables_with (Executed origin position onward txn) tables are = AreTables-tables_after txn tables are
  AreTables-tables_with (Dropped origin position) tables are = are
  AreTables-tables_with (Refreshed moment) tables are = are

  -- the tables after any journal are tables
  pub AreTables-journal_tables : (journal : List Entry) → AreTables schema (journal_tables schema procedures journal)
  AreTables-journal_tables [] = AreTables-empty schema
  AreTables-journal_tables (e ∷ es) = AreTables-tables_with e (journal_tables schema procedures es) (AreTables-journal_tables es)
