-- One call at two contents that agree on its tokens: it ends alike at the row that it names.
use Rattle.std.proofs.Common.{◌≡◌, ℕ, ◌<◌, List, [], length, get_or, Bool, true, false, cond, Some, None, Ok, Err, refl, sym, ap, ◌∙◌, arith}
use Rattle.std.specs.Prelude.{Option, Result, ◌&&◌, is_some, slice_get}
use Rattle.std.specs.List.{AllByRecursion}
use Rattle.std.proofs.lemmas.List.{length-map}
use Rattle.rep_values.specs.declared.name.SiteName.{SiteName}
use Rattle.rep_values.specs.declared.refusal.ApplyError.{ApplyError}
use Rattle.rep_values.specs.declared.refusal.ApplyError.TheVariants.{DeleteConflict}
use Rattle.rep_schema.specs.declared.schema.Schema.{Schema}
use Rattle.rep_schema.specs.declared.schema.TableEntry.{TableEntry}
use Rattle.rep_schema.specs.declared.check.Check.{Check}
use Rattle.rep_schema.specs.Tables.{Cells, columns_of, constraints_of, key_of, find_row, rows_of}
use Rattle.rep_schema.specs.Shape.{HasShape}
use Rattle.rep_schema.specs.Groups.{are_same}
use Rattle.rep_schema.specs.Checks.{failed_check}
use Rattle.rep_calls.specs.declared.call.Call.{Call}
use Rattle.rep_calls.specs.declared.call.Call.TheVariants.{Insert, Update, Delete}
use Rattle.conflict_detect.specs.Fits.{table_of, CallFits}
use Rattle.unique_resolve.specs.declared.settled.Settled.{Settled}
use Rattle.unique_resolve.specs.declared.settled.Settled.TheVariants.{Fits, Dropped, Conflict}
use Rattle.unique_resolve.specs.Numbers.{Numbers, AreCounters}
use Rattle.unique_resolve.specs.Settling.{key_methods_in, key_taken, Settlement, settlement_of}
use Rattle.txn_effects.specs.Parts.{settled_parts, result_then}
use Rattle.txn_effects.specs.Calls.{KeysStandAlone, row_named, RowEffect, checked_effect, effect_by, settled_effect, row_effect}
use Rattle.dependency_index.specs.declared.token.Token.{Token}
use Rattle.dependency_index.specs.declared.token.Token.TheVariants as token
use Rattle.dependency_index.specs.Tokens.{has_constraints, constrained_columns, touches_constraints, has_token}
use Rattle.txn_effects.specs.Contents.{Content, IsContent}
use Rattle.rep_laws.specs.Commuting.{AgreeOn, counters_at}
use Rattle.rep_laws.proofs.TokenTests.{Covers}
use Rattle.rep_laws.proofs.RowsAlike.{alike_from_finds}
use Rattle.rep_laws.proofs.SettledAlike.{TestsAlike, tests_alike, settled-alike, counters-alike}
use Rattle.rep_laws.proofs.SettledFree.{IsFree, settlement_of-free, free-none}
use Rattle.rep_laws.proofs.RowEffects.{free-settled_parts}

-- the row is the same after both, and so are a table's counters where they were before; or the error is
abbrev pub RowEndsAlike : ℕ → Content → Content → Result RowEffect ApplyError → Result RowEffect ApplyError → Type 0
RowEndsAlike table one other (Ok effect) (Ok last) = (effect.after ≡ last.after) × (counters_at one table ≡ counters_at other table → get_or effect.numbers table [] ≡ get_or last.numbers table [])
RowEndsAlike table one other (Ok effect) (Err error) = ⊥
RowEndsAlike table one other (Err error) (Ok effect) = ⊥
RowEndsAlike table one other (Err error) (Err last) = error ≡ last

-- a row is settled alike at both
record SettlesAlike (table : ℕ) (one other : Content) (settlement last : Settlement) : Type 0 where
  settled : settlement.settled ≡ last.settled
  counters : counters_at one table ≡ counters_at other table → get_or settlement.numbers table [] ≡ get_or last.numbers table []

-- so the effect of settling is alike: the checks look at the settled row alone
settled_effect-alike : (schema : Schema) (table : ℕ) (one other : Content) (settlement last : Settlement) (before : Option Cells) → SettlesAlike table one other settlement last
    → RowEndsAlike table one other (settled_effect schema table settlement before) (settled_effect schema table last before)
settled_effect-alike schema table one other settlement last before alike = rw alike.settled (go last.settled)
  where
    tested : (check : Option Check) (row : Cells) → RowEndsAlike table one other (checked_effect check row settlement.numbers) (checked_effect check row last.numbers)
    tested None row = (refl, alike.counters)
    tested (Some check) row = refl

    go : (settled : Settled) → RowEndsAlike table one other (effect_by schema table settled before settlement.numbers) (effect_by schema table settled before last.numbers)
    go (Fits row) = tested (failed_check schema table row) row
    go Dropped = (refl, alike.counters)
    go (Conflict name) = refl

-- there are counters for each table
counters_within : (schema : Schema) (numbers : Numbers) (table : ℕ) → AreCounters schema numbers → table < length schema.tables → table < length numbers
counters_within schema numbers table counted below =
    omega (arith, below, ap length counted, length-map numbers length, length-map schema.tables (λ (entry : TableEntry). length entry.constraints))

module _ (schema : Schema) (origin : SiteName) (tokens : List Token) (one other : Content) (is_one : IsContent schema one) (is_other : IsContent schema other) (agree : AgreeOn schema tokens one other) where
  -- the tests of constraints that are among the tokens answer alike at both
  tests_agree : (table : ℕ) → table < length schema.tables → has_constraints schema table ≡ true → has_token tokens (token.Unique table) ≡ true
      → AllByRecursion (TestsAlike (columns_of schema table) (rows_of one.tables table) (rows_of other.tables table)) (constraints_of schema table)
  tests_agree table below some on =
      tests_alike schema table (rows_of one.tables table) (rows_of other.tables table)
      (alike_from_finds (columns_of schema table) (constrained_columns schema table) (rows_of one.tables table) (rows_of other.tables table)
      (is_one.tables.each table below).rising (is_other.tables.each table below).rising
      (λ key. rw some at ((agree.constraints table on).0 key)))

  module _ (table : ℕ) (below : table < length schema.tables) (inserting : Bool) (row : Cells)
      (found : (inserting && is_some (find_row (columns_of schema table) (key_of (columns_of schema table) row) (rows_of one.tables table)))
      ≡ (inserting && is_some (find_row (columns_of schema table) (key_of (columns_of schema table) row) (rows_of other.tables table)))) where
    -- a row of a table whose constraints are among the tokens is settled alike
    settles_by_constraints : has_constraints schema table ≡ true → has_token tokens (token.Unique table) ≡ true
        → SettlesAlike table one other (settlement_of schema one.tables one.numbers origin table inserting row) (settlement_of schema other.tables other.numbers origin table inserting row)
    settles_by_constraints some on =
        let counters = (agree.constraints table on).1 in
        let tests = tests_agree table below some on in
        record {
          settled = settled-alike schema one.tables other.tables one.numbers other.numbers origin table inserting row found tests counters;
          counters = λ same. counters-alike schema one.tables other.tables one.numbers other.numbers origin table inserting row found tests counters
              (counters_within schema one.numbers table is_one.counters below) (counters_within schema other.numbers table is_other.counters below);
        }

    -- and so is one that is free at both
    settles_free : AllByRecursion (IsFree (columns_of schema table) (rows_of one.tables table) row) (constraints_of schema table)
        → AllByRecursion (IsFree (columns_of schema table) (rows_of other.tables table) row) (constraints_of schema table)
        → SettlesAlike table one other (settlement_of schema one.tables one.numbers origin table inserting row) (settlement_of schema other.tables other.numbers origin table inserting row)
    settles_free free last_free =
        let first = settlement_of-free schema one.tables one.numbers origin table inserting row free in
        let last = settlement_of-free schema other.tables other.numbers origin table inserting row last_free in
        record {
          settled = ap (λ (s : Settlement). s.settled) first
              ∙ ap (λ b. cond b (key_taken (key_methods_in (slice_get schema.tables table))) (Fits row)) found
              ∙ sym (ap (λ (s : Settlement). s.settled) last);
          counters = λ same. ap (λ (s : Settlement). get_or s.numbers table []) first ∙ same ∙ sym (ap (λ (s : Settlement). get_or s.numbers table []) last);
        }

    -- a table without constraints lets each row be free
    settles_where_touched : has_token tokens (token.Unique table) ≡ true
        → SettlesAlike table one other (settlement_of schema one.tables one.numbers origin table inserting row) (settlement_of schema other.tables other.numbers origin table inserting row)
    settles_where_touched on = go (has_constraints schema table) refl
      where
        go : (b : Bool) → has_constraints schema table ≡ b
            → SettlesAlike table one other (settlement_of schema one.tables one.numbers origin table inserting row) (settlement_of schema other.tables other.numbers origin table inserting row)
        go true some = settles_by_constraints some on
        go false none = settles_free (free-none schema table (rows_of one.tables table) row none) (free-none schema table (rows_of other.tables table) row none)

  module _ (shape : HasShape schema) (apart : KeysStandAlone schema) where
    -- a call that the tokens cover ends alike at the row that it names
    pub row_effect-alike : (call : Call) (before : Option Cells) → CallFits schema call → Covers schema tokens call → before ≡ row_named schema one.tables call → before ≡ row_named schema other.tables call
        → RowEndsAlike (table_of call) one other (row_effect schema one.tables one.numbers origin call before) (row_effect schema other.tables other.numbers origin call before)
    row_effect-alike (Insert table row) before fits covers was last_was = settled_effect-alike schema table one other _ _ before (go (has_constraints schema table) refl)
      where
        found : (true && is_some (find_row (columns_of schema table) (key_of (columns_of schema table) row) (rows_of one.tables table)))
            ≡ (true && is_some (find_row (columns_of schema table) (key_of (columns_of schema table) row) (rows_of other.tables table)))
        found = ap is_some (sym was ∙ last_was)

        go : (b : Bool) → has_constraints schema table ≡ b
            → SettlesAlike table one other (settlement_of schema one.tables one.numbers origin table true row) (settlement_of schema other.tables other.numbers origin table true row)
        go true some = settles_by_constraints table fits.table true row found some (covers.constraints some)
        go false none = settles_free table fits.table true row found (free-none schema table (rows_of one.tables table) row none) (free-none schema table (rows_of other.tables table) row none)
    row_effect-alike (Update table key parts) None fits covers was last_was = refl
    row_effect-alike (Update table key parts) (Some found) fits covers was last_was = parted (settled_parts schema table parts found) refl
      where
        settles : (row : Cells) → settled_parts schema table parts found ≡ Ok row → (b : Bool) → touches_constraints schema (Update table key parts) ≡ b
            → SettlesAlike table one other (settlement_of schema one.tables one.numbers origin table false row) (settlement_of schema other.tables other.numbers origin table false row)
        settles row gives true touches = settles_where_touched table fits.table false row refl (covers.constraints touches)
        settles row gives false plain =
            settles_free table fits.table false row refl
            (free-settled_parts schema one.tables one.numbers origin shape is_one.counters apart is_one.tables table key parts found row fits was plain gives)
            (free-settled_parts schema other.tables other.numbers origin shape is_other.counters apart is_other.tables table key parts found row fits last_was plain gives)

        parted : (settled : Result Cells ApplyError) → settled_parts schema table parts found ≡ settled
            → RowEndsAlike table one other
            (result_then settled (λ row. settled_effect schema table (settlement_of schema one.tables one.numbers origin table false row) (Some found)))
            (result_then settled (λ row. settled_effect schema table (settlement_of schema other.tables other.numbers origin table false row) (Some found)))
        parted (Ok row) gives = settled_effect-alike schema table one other _ _ (Some found) (settles row gives (touches_constraints schema (Update table key parts)) refl)
        parted (Err error) gives = refl
    row_effect-alike (Delete table row) None fits covers was last_was = refl
    row_effect-alike (Delete table row) (Some found) fits covers was last_was = go (are_same found row)
      where
        go : (b : Bool) → RowEndsAlike table one other (cond b (Ok (record { after = None; numbers = one.numbers })) (Err DeleteConflict)) (cond b (Ok (record { after = None; numbers = other.numbers })) (Err DeleteConflict))
        go true = (refl, λ same. same)
        go false = refl
