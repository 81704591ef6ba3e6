-- Calls on different tables may be made in either order, and so may transactions that share no token.
use Rattle.std.proofs.Common.{◌≡◌, ◌≢◌, ℕ, ◌+◌, List, [], ◌∷◌, map, set, Bool, true, false, pos, Some, None, Ok, Err, refl, sym, ap, ◌∙◌}
use Rattle.std.specs.Prelude.{◌&&◌, ◌==◌, Option, Result, IfSome, slice_get}
use Rattle.std.specs.List.{AllByRecursion, cons_option, list_any}
use Rattle.std.proofs.lemmas.Bool.Decides.{Decides-eqb}
use Rattle.std.proofs.lemmas.List.{get_or-set_other, set_comm}
use Rattle.rep_lists.proofs.Each.{each_then}
use Rattle.rep_values.specs.declared.value.Value.TheVariants.{Num}
use Rattle.rep_values.specs.declared.refusal.ApplyError.{ApplyError}
use Rattle.rep_schema.specs.declared.schema.Schema.{Schema}
use Rattle.rep_schema.specs.Tables.{Cells, Rows, columns_of, rows_of}
use Rattle.rep_schema.specs.Groups.{are_same}
use Rattle.rep_schema.proofs.ValuesAt.{are_same-Decides}
use Rattle.rep_calls.specs.declared.call.Call.{Call}
use Rattle.conflict_detect.specs.Fits.{table_of}
use Rattle.txn_effects.specs.Parts.{result_then}
use Rattle.txn_effects.specs.Transactions.{Failure, failing_at}
use Rattle.txn_effects.proofs.Results.{result_then-Ok}
use Rattle.txn_effects.proofs.TransactionEffects.{failing_at-Ok}
use Rattle.dependency_index.specs.Tokens.{is_same_token, has_token, share_token}
use Rattle.proc_state.specs.declared.procedure.Procedure.{Procedure}
use Rattle.proc_state.specs.declared.call.ProcCall.{ProcCall}
use Rattle.proc_state.specs.Actions.{rows_after}
use Rattle.proc_state.specs.Calls.{found_after, call_after, calls_after, tables_by}
use Rattle.proc_state.specs.Carriers.{call_in, calls_in, call_token}
use Rattle.proc_state.specs.Laws.{TokensStandForTables, failure_of, IndependentOnesEndAlike}
use Rattle.proc_state.proofs.Carrying.{both_pass, neither, read_from}

-- ---- results

-- what came out, changed; a failure stays
abbrev mapped : {A E : Type 0} → (A → A) → Result A E → Result A E
mapped change (Ok a) = Ok (change a)
mapped change (Err e) = Err e

mapped_then : {A E : Type 0} (change : A → A) (first : Result A E) (following : A → Result A E) → ((a : A) → following (change a) ≡ mapped change (following a))
    → result_then (mapped change first) following ≡ mapped change (result_then first following)
mapped_then change (Ok a) following each = each a
mapped_then change (Err e) following each = refl

failing_at-mapped : {A : Type 0} (change : A → A) (number : ℕ) (result : Result A ApplyError) → failing_at number (mapped change result) ≡ mapped change (failing_at number result)
failing_at-mapped change number (Ok a) = refl
failing_at-mapped change number (Err error) = refl

-- ---- a call, and a table that it isn't on

module _ (schema : Schema) (procedures : List Procedure) where
  -- a call isn't on a table
  abbrev pub IsOff : ℕ → ProcCall → Type 0
  IsOff table call = IfSome (slice_get procedures call.procedure) (λ (p : Procedure). p.table ≢ table)

  -- none of these calls is
  abbrev pub AreOff : ℕ → List ProcCall → Type 0
  AreOff table calls = AllByRecursion (IsOff table) calls

  module _ (table : ℕ) (rows : Rows) where
    -- other tables with these rows in the table's place
    abbrev with_rows : List Rows → List Rows
    with_rows tables = set tables table rows

    -- a call that isn't on the table does the same whatever its rows are
    call_after-with_rows : (call : ProcCall) (tables : List Rows) → IsOff table call → call_after schema procedures call (with_rows tables) ≡ mapped with_rows (call_after schema procedures call tables)
    call_after-with_rows call tables off = go (slice_get procedures call.procedure) off
      where
        by : (p : Procedure) → p.table ≢ table → (r : Result Rows ApplyError)
            → result_then r (λ (rs : Rows). Ok (set (with_rows tables) p.table rs)) ≡ mapped with_rows (result_then r (λ (rs : Rows). Ok (set tables p.table rs)))
        by p other (Ok rs) = ap Ok (set_comm tables table p.table rows rs (λ same. other (sym same)))
        by p other (Err error) = refl

        go : (o : Option Procedure) → IfSome o (λ (p : Procedure). p.table ≢ table) → found_after schema o call.values (with_rows tables) ≡ mapped with_rows (found_after schema o call.values tables)
        go None other = refl
        go (Some p) other = rw (get_or-set_other tables table p.table rows [] other)
            (by p other (rows_after (columns_of schema p.table) p.action call.values (rows_of tables p.table)))

    -- so do calls that aren't
    calls_after-with_rows : (number : ℕ) (calls : List ProcCall) (tables : List Rows) → AreOff table calls
        → calls_after schema procedures number calls (with_rows tables) ≡ mapped with_rows (calls_after schema procedures number calls tables)
    calls_after-with_rows number [] tables off = refl
    calls_after-with_rows number (call ∷ calls) tables off =
        rw (call_after-with_rows call tables off.0, failing_at-mapped with_rows number (call_after schema procedures call tables))
        (mapped_then with_rows (failing_at number (call_after schema procedures call tables)) (calls_after schema procedures (number + 1) calls)
        (λ later. calls_after-with_rows (number + 1) calls later off.1))

    -- and what they leave differs in that table alone
    left-with_rows : (number : ℕ) (calls : List ProcCall) (tables : List Rows) → AreOff table calls
        → tables_by (calls_after schema procedures number calls (with_rows tables)) (with_rows tables) ≡ with_rows (tables_by (calls_after schema procedures number calls tables) tables)
    left-with_rows number calls tables off = rw (calls_after-with_rows number calls tables off) (go (calls_after schema procedures number calls tables))
      where
        go : (r : Result (List Rows) Failure) → tables_by (mapped with_rows r) (with_rows tables) ≡ with_rows (tables_by r tables)
        go (Ok later) = refl
        go (Err failure) = refl

  -- calls that aren't on a table leave its rows
  rows_of-called : (table : ℕ) (call : ProcCall) (tables later : List Rows) → IsOff table call → call_after schema procedures call tables ≡ Ok later → rows_of later table ≡ rows_of tables table
  rows_of-called table call tables later off gives = go (slice_get procedures call.procedure) off gives
    where
      go : (o : Option Procedure) → IfSome o (λ (p : Procedure). p.table ≢ table) → found_after schema o call.values tables ≡ Ok later → rows_of later table ≡ rows_of tables table
      go None other here = let same : tables ≡ later = cc here in ap (λ (ts : List Rows). rows_of ts table) (sym same)
      go (Some p) other here =
          let some = result_then-Ok (rows_after (columns_of schema p.table) p.action call.values (rows_of tables p.table)) (λ (rs : Rows). Ok (set tables p.table rs)) later here in
          let same : set tables p.table some.0 ≡ later = cc (some.2) in
          ap (λ (ts : List Rows). rows_of ts table) (sym same) ∙ get_or-set_other tables p.table table some.0 [] (λ e. other (sym e))

  rows_of-calls : (table number : ℕ) (calls : List ProcCall) (tables later : List Rows) → AreOff table calls → calls_after schema procedures number calls tables ≡ Ok later
      → rows_of later table ≡ rows_of tables table
  rows_of-calls table number [] tables later off gives = let same : tables ≡ later = cc gives in ap (λ (ts : List Rows). rows_of ts table) (sym same)
  rows_of-calls table number (call ∷ calls) tables later off gives =
      let some = result_then-Ok (failing_at number (call_after schema procedures call tables)) (calls_after schema procedures (number + 1) calls) later gives in
      rows_of-calls table (number + 1) calls some.0 later off.1 some.2
      ∙ rows_of-called table call tables some.0 off.0 (failing_at-Ok number (call_after schema procedures call tables) some.0 some.1)

  rows_of-left : (table number : ℕ) (calls : List ProcCall) (tables : List Rows) → AreOff table calls → rows_of (tables_by (calls_after schema procedures number calls tables) tables) table ≡ rows_of tables table
  rows_of-left table number calls tables off = go (calls_after schema procedures number calls tables) refl
    where
      go : (r : Result (List Rows) Failure) → calls_after schema procedures number calls tables ≡ r → rows_of (tables_by r tables) table ≡ rows_of tables table
      go (Ok later) gives = rows_of-calls table number calls tables later off gives
      go (Err failure) gives = refl

  -- ---- calls behind others that are on other tables

  module _ (ones : List ProcCall) where
    -- the tables that these calls leave
    abbrev after_ones : List Rows → List Rows
    after_ones tables = tables_by (calls_after schema procedures 1 ones tables) tables

    -- none of them is on the table of a call
    abbrev IsApart : ProcCall → Type 0
    IsApart call = IfSome (slice_get procedures call.procedure) (λ (p : Procedure). AreOff p.table ones)

    -- a call behind them does what it does before them
    call_after-behind : (call : ProcCall) (tables : List Rows) → IsApart call → call_after schema procedures call (after_ones tables) ≡ mapped after_ones (call_after schema procedures call tables)
    call_after-behind call tables apart = go (slice_get procedures call.procedure) apart
      where
        by : (p : Procedure) → AreOff p.table ones → (r : Result Rows ApplyError)
            → result_then r (λ (rs : Rows). Ok (set (after_ones tables) p.table rs)) ≡ mapped after_ones (result_then r (λ (rs : Rows). Ok (set tables p.table rs)))
        by p off (Ok rs) = ap Ok (sym (left-with_rows p.table rs 1 ones tables off))
        by p off (Err error) = refl

        go : (o : Option Procedure) → IfSome o (λ (p : Procedure). AreOff p.table ones) → found_after schema o call.values (after_ones tables) ≡ mapped after_ones (found_after schema o call.values tables)
        go None off = refl
        go (Some p) off = rw (rows_of-left p.table 1 ones tables off) (by p off (rows_after (columns_of schema p.table) p.action call.values (rows_of tables p.table)))

    -- so do calls
    calls_after-behind : (number : ℕ) (calls : List ProcCall) (tables : List Rows) → AllByRecursion IsApart calls
        → calls_after schema procedures number calls (after_ones tables) ≡ mapped after_ones (calls_after schema procedures number calls tables)
    calls_after-behind number [] tables apart = refl
    calls_after-behind number (call ∷ calls) tables apart =
        rw (call_after-behind call tables apart.0, failing_at-mapped after_ones number (call_after schema procedures call tables))
        (mapped_then after_ones (failing_at number (call_after schema procedures call tables)) (calls_after schema procedures (number + 1) calls)
        (λ later. calls_after-behind (number + 1) calls later apart.1))

    -- either way round the same tables are left
    left-behind : (number : ℕ) (calls : List ProcCall) (tables : List Rows) → AllByRecursion IsApart calls
        → tables_by (calls_after schema procedures number calls (after_ones tables)) (after_ones tables) ≡ after_ones (tables_by (calls_after schema procedures number calls tables) tables)
    left-behind number calls tables apart = rw (calls_after-behind number calls tables apart) (go (calls_after schema procedures number calls tables))
      where
        go : (r : Result (List Rows) Failure) → tables_by (mapped after_ones r) (after_ones tables) ≡ after_ones (tables_by r tables)
        go (Ok later) = refl
        go (Err failure) = refl

    -- and the calls fail alike, if they do
    failure-behind : (number : ℕ) (calls : List ProcCall) (tables : List Rows) → AllByRecursion IsApart calls
        → failure_of (calls_after schema procedures number calls (after_ones tables)) ≡ failure_of (calls_after schema procedures number calls tables)
    failure-behind number calls tables apart = rw (calls_after-behind number calls tables apart) (go (calls_after schema procedures number calls tables))
      where
        go : (r : Result (List Rows) Failure) → failure_of (mapped after_ones r) ≡ failure_of r
        go (Ok later) = refl
        go (Err failure) = refl

-- ---- tokens and tables

-- the one key of a carrier
abbrev carrier_key : Cells
carrier_key = Num (pos 0) ∷ []

other_table : (table other : ℕ) → (table == other && are_same carrier_key carrier_key) ≡ false → table ≢ other
other_table table other off same =
    let own = both_pass (table == other) (are_same carrier_key carrier_key) ((Decides-eqb table other).1 same) ((are_same-Decides carrier_key carrier_key).1 refl) in
    absurd (cc (own, off))

-- a call isn't on the table of any of others
abbrev IsElsewhere : List Call → Call → Type 0
IsElsewhere others call = AllByRecursion (λ (other : Call). table_of call ≢ table_of other) others

elsewhere : (call : Call) (others : List Call) → has_token (map call_token others) (call_token call) ≡ false → IsElsewhere others call
elsewhere call [] off = tt
elsewhere call (other ∷ others) off =
    let none = neither (is_same_token (call_token call) (call_token other)) (has_token (map call_token others) (call_token call)) off in
    (other_table (table_of call) (table_of other) none.0, elsewhere call others none.1)

all_elsewhere : (calls others : List Call) → share_token (map call_token calls) (map call_token others) ≡ false → AllByRecursion (IsElsewhere others) calls
all_elsewhere [] others off = tt
all_elsewhere (call ∷ calls) others off =
    let none = neither (has_token (map call_token others) (call_token call)) (share_token (map call_token calls) (map call_token others)) off in
    (elsewhere call others none.0, all_elsewhere calls others none.1)

both_each : {X : Type 0} (P Q : X → Type 0) (xs : List X) → AllByRecursion P xs → AllByRecursion Q xs → AllByRecursion (λ x. P x × Q x) xs
both_each P Q [] all more = tt
both_each P Q (x ∷ xs) all more = ((all.0, more.0), both_each P Q xs all.1 more.1)

-- the same of the others: of each of them no call is on its table
no_call_on : (others : List Call) → AllByRecursion (λ (other : Call). AllByRecursion (λ (call : Call). table_of call ≢ table_of other) []) others
no_call_on [] = tt
no_call_on (other ∷ others) = (tt, no_call_on others)

turned_round : (calls others : List Call) → AllByRecursion (IsElsewhere others) calls → AllByRecursion (λ (other : Call). AllByRecursion (λ (call : Call). table_of call ≢ table_of other) calls) others
turned_round [] others all = no_call_on others
turned_round (call ∷ calls) others all = both_each (λ (other : Call). table_of call ≢ table_of other) (λ (other : Call). AllByRecursion (λ (c : Call). table_of c ≢ table_of other) calls) others
    all.0 (turned_round calls others all.1)

turned_each : (others : List Call) (call : Call) → IsElsewhere others call → AllByRecursion (λ (other : Call). table_of other ≢ table_of call) others
turned_each others call all = each_then (λ (other : Call). table_of call ≢ table_of other) (λ (other : Call). table_of other ≢ table_of call) (λ other off same. off (sym same)) others all

-- ---- transactions

module _ (schema : Schema) (procedures : List Procedure) where
  abbrev read_in : List Call → List ProcCall
  read_in calls = calls_in schema procedures (record { calls = calls })

  -- what is carried for other tables isn't on a table
  off_calls : (table : ℕ) (calls : List Call) → AllByRecursion (λ (call : Call). table_of call ≢ table) calls → AreOff schema procedures table (read_in calls)
  off_calls table [] off = tt
  off_calls table (call ∷ calls) off = go (call_in schema procedures call) refl (off_calls table calls off.1)
    where
      go : (o : Option ProcCall) → call_in schema procedures call ≡ o → AreOff schema procedures table (read_in calls) → AreOff schema procedures table (cons_option o (read_in calls))
      go None reads later = later
      go (Some read) reads later = let from = read_from schema procedures call read reads in (rw (from.there, from.table) off.0, later)

  apart_calls : (ones calls : List Call) → AllByRecursion (λ (call : Call). AllByRecursion (λ (one : Call). table_of one ≢ table_of call) ones) calls
      → AllByRecursion (IsApart schema procedures (read_in ones)) (read_in calls)
  apart_calls ones [] off = tt
  apart_calls ones (call ∷ calls) off = go (call_in schema procedures call) refl (apart_calls ones calls off.1)
    where
      go : (o : Option ProcCall) → call_in schema procedures call ≡ o → AllByRecursion (IsApart schema procedures (read_in ones)) (read_in calls)
          → AllByRecursion (IsApart schema procedures (read_in ones)) (cons_option o (read_in calls))
      go None reads later = later
      go (Some read) reads later =
          let from = read_from schema procedures call read reads in
          (rw (from.there, from.table) (off_calls (table_of call) ones off.0), later)

-- transactions that share no token end alike in either order
pub independent_ones_end_alike : IndependentOnesEndAlike
independent_ones_end_alike schema procedures one other tables off = record {
  left = left-behind schema procedures (calls_in schema procedures one) 1 (calls_in schema procedures other) tables others_apart;
  first = failure-behind schema procedures (calls_in schema procedures other) 1 (calls_in schema procedures one) tables ones_apart;
  second = failure-behind schema procedures (calls_in schema procedures one) 1 (calls_in schema procedures other) tables others_apart;
}
  where
    all : AllByRecursion (IsElsewhere other.calls) one.calls
    all = all_elsewhere one.calls other.calls off

    others_apart : AllByRecursion (IsApart schema procedures (calls_in schema procedures one)) (calls_in schema procedures other)
    others_apart = apart_calls schema procedures one.calls other.calls (turned_round one.calls other.calls all)

    ones_apart : AllByRecursion (IsApart schema procedures (calls_in schema procedures other)) (calls_in schema procedures one)
    ones_apart = apart_calls schema procedures other.calls one.calls
        (each_then (IsElsewhere other.calls) (λ (call : Call). AllByRecursion (λ (o : Call). table_of o ≢ table_of call) other.calls) (turned_each other.calls) one.calls all)

-- ---- what a token stands for

same_table : (table other : ℕ) → (table == other && are_same carrier_key carrier_key) ≡ (table == other)
same_table table other = go (table == other)
  where
    go : (b : Bool) → (b && are_same carrier_key carrier_key) ≡ b
    go true = (are_same-Decides carrier_key carrier_key).1 refl
    go false = refl

tokens_alike : (call : Call) (others : List Call) → has_token (map call_token others) (call_token call) ≡ list_any (λ (o : Call). table_of call == table_of o) others
tokens_alike call [] = refl
tokens_alike call (other ∷ others) = rw (same_table (table_of call) (table_of other), tokens_alike call others) refl

tokens_stand : (calls others : List Call) → share_token (map call_token calls) (map call_token others) ≡ list_any (λ (call : Call). list_any (λ (o : Call). table_of call == table_of o) others) calls
tokens_stand [] others = refl
tokens_stand (call ∷ calls) others = rw (tokens_alike call others, tokens_stand calls others) refl

-- two transactions share a token where both call on some table
pub tokens_stand_for_tables : TokensStandForTables
tokens_stand_for_tables txn other = tokens_stand txn.calls other.calls
