-- How a call on a convergent table can fail.
use Rattle.std.proofs.Common.{◌≡◌, ◌≢◌, ℕ, ◌<◌, Bool, true, false, cond, List, [], ◌∷◌, map, Some, None, Ok, Err, refl, sym, ap, ◌∙◌, subst, inl, inr, arith}
use mathlib.Core.Bool.{true≢false}
use Rattle.std.specs.Prelude.{Option, Result, ◌⊎◌, ◌&&◌, ◌||◌, not, int_lt, slice_get, is_some, ◌+ℤ◌}
use Rattle.std.specs.List.{AllByRecursion}
use Rattle.rep_values.specs.declared.name.SiteName.{SiteName}
use Rattle.rep_values.specs.declared.refusal.ApplyError.{ApplyError}
use Rattle.rep_values.specs.declared.refusal.ApplyError.TheVariants as error
use Rattle.rep_schema.specs.declared.schema.Schema.{Schema}
use Rattle.rep_schema.specs.declared.schema.TableEntry.{TableEntry}
use Rattle.rep_schema.specs.declared.check.Check.{Check}
use Rattle.rep_schema.specs.Tables.{Cells, Rows, columns_of, key_of, find_row, rows_of, RowFits, AreTables}
use Rattle.rep_schema.specs.Fitting.{is_in_range}
use Rattle.rep_schema.specs.Groups.{group_values, with_group_values}
use Rattle.rep_schema.specs.Putting.{changes_between}
use Rattle.rep_schema.specs.Shape.{key_name}
use Rattle.rep_schema.specs.Named.{group_name}
use Rattle.rep_schema.specs.Checks.{failed_check}
use Rattle.rep_schema.proofs.FoundRows.{found_row}
use Rattle.schema_rules.specs.declared.forms.Form.{Form}
use Rattle.schema_rules.specs.declared.forms.Form.TheVariants as form
use Rattle.schema_rules.specs.CheckRules.{is_unchecked}
use Rattle.schema_rules.proofs.SoundRules.{KeepsAllRules-unbroken}
use Rattle.rep_calls.specs.declared.call.Call.{Call}
use Rattle.rep_calls.specs.declared.call.Call.TheVariants.{Insert, Update, Delete}
use Rattle.rep_calls.specs.declared.call.Part.{Part}
use Rattle.conflict_detect.specs.Fits.{PartFits, CallFits, table_of}
use Rattle.conflict_detect.specs.Differing.{is_matched}
use Rattle.resolve_methods.specs.declared.decision.Decision.{Decision}
use Rattle.resolve_methods.specs.declared.decision.Decision.TheVariants.{TakeNew, TakeNumber, Keep, Undecided, Range}
use Rattle.resolve_methods.specs.Decide.{decision_of}
use Rattle.resolve_methods.specs.SequenceLaws.{one_group_number, group_number, move_of}
use Rattle.unique_resolve.specs.declared.settled.Settled.TheVariants.{Fits}
use Rattle.unique_resolve.specs.Numbers.{Numbers}
use Rattle.unique_resolve.specs.Settling.{key_taken, settlement_of}
use Rattle.txn_effects.specs.Parts.{result_then, values_by, settled_values, settled_part, settled_parts}
use Rattle.txn_effects.specs.Calls.{RowEffect, checked_effect, effect_by, settled_effect, row_named, row_effect}
use Rattle.txn_effects.proofs.PartEffects.{HasGroupValues-PartFits, RowFits-settled_part}
use Rattle.txn_effects.specs.Convergent.{convergent_in, is_convergent}
use Rattle.rep_laws.specs.Commuting.{IsSound}
use Rattle.rep_laws.proofs.SettledFree.{settlement_of-free}
use Rattle.rep_laws.specs.GroupForms.{form_at, PartKeepsForm, KeepsForms}
use Rattle.convergence_laws.specs.Collections.{Among}
use Rattle.convergence_laws.specs.Faults.{Tells, ConvergentCallsFailSo}
use Rattle.convergence_laws.proofs.GroupColumns.{Rise, Rise-increasing}
use Rattle.rep_laws.proofs.FormShapes.{passes, IsShaped-form_at}
use Rattle.convergence_laws.proofs.Moves.{DecisionLaws, latest_has_no_range}
use Rattle.convergence_laws.proofs.RowsCome.{part_apart}
use Rattle.rep_laws.proofs.ConvergentRows.{no_length, StandsAlone-convergent}

result_then-Err : {A B E : Type 0} (first : Result A E) (following : A → Result B E) (e : E) → result_then first following ≡ Err e → (first ≡ Err e) ⊎ ((a : A) × (first ≡ Ok a) × (following a ≡ Err e))
result_then-Err (Ok a) following e gives = inr (a, refl, gives)
result_then-Err (Err x) following e gives = let same : x ≡ e = cc in inl (ap (λ y. Err y) same)

-- a convergent table has no check
unchecked : (schema : Schema) → IsSound schema → (table : ℕ) → is_convergent schema table ≡ true → (row : Cells) → failed_check schema table row ≡ None
unchecked schema sound table convergent row = go (slice_get schema.tables table) refl convergent
  where
    tested : (c test : Bool) → c ≡ true → (not c || test) ≡ true → test ≡ true
    tested true test is holds = holds
    tested false test is holds = cc

    go : (entry : Option TableEntry) → slice_get schema.tables table ≡ entry → convergent_in entry ≡ true → failed_check schema table row ≡ None
    go None at is = cc
    go (Some entry) at is =
        let none = no_length entry.checks (tested entry.convergent (is_unchecked entry) is (passes (λ (t : TableEntry). not t.convergent || is_unchecked t) schema.tables table entry ((KeepsAllRules-unbroken schema).1 sound.unbroken).unchecked at)) in
        rw (at, none) refl

-- what is among parts whose groups are above one is of another group
above_differs : (group : ℕ) (parts : List Part) (part : Part) → AllByRecursion (λ g. group < g) (map (λ (p : Part). p.group) parts) → Among part parts → group ≢ part.group
above_differs group [] part above among = absurd among
above_differs group (p ∷ ps) part above (inl same) = differs (subst (λ (q : Part). group < q.group) same above.0)
  where
    differs : group < part.group → group ≢ part.group
    differs less = λ e. omega (arith, less, e)
above_differs group (p ∷ ps) part above (inr later) = above_differs group ps part above.1 later

module _ (schema : Schema) (sound : IsSound schema) (decides : DecisionLaws) (table : ℕ) (convergent : is_convergent schema table ≡ true) where
  -- a part fails over a row where it moves a sum out of the range of numbers, or where latest values tie
  abbrev PartTells : Part → Cells → ApplyError → Type 0
  PartTells part row e =
      ((e ≡ error.ValueRange) × (form_at schema table part.group ≡ Some form.Sum) × (is_in_range (group_number schema table part.group row +ℤ move_of part) ≡ false))
      ⊎ ((name : List ℕ) × (e ≡ error.UpdateConflict name) × (stamp : ℕ) × (site : ℕ) × (form_at schema table part.group ≡ Some (form.Latest stamp site)))

  module _ (part : Part) (row : Cells) (e : ApplyError) (part_fits : PartFits schema table part) (fits : RowFits (columns_of schema table) row) where
    abbrev left_by : Decision → Result Cells ApplyError
    left_by d = values_by d (group_name schema table part.group) part.new (group_values schema table part.group row)

    decided : (f : Form) → form_at schema table part.group ≡ Some f → left_by (decision_of schema table part row) ≡ Err e → PartTells part row e
    decided form.Sum has gives =
        let shape = IsShaped-form_at schema sound table part.group form.Sum has in
        let adds = decides.adds schema table shape.0 part row shape.1 (HasGroupValues-PartFits schema table part part_fits) fits in
        go (is_in_range (group_number schema table part.group row +ℤ move_of part)) refl (rw adds at gives)
      where
        go : (b : Bool) → is_in_range (group_number schema table part.group row +ℤ move_of part) ≡ b → left_by (cond b (TakeNumber (group_number schema table part.group row +ℤ move_of part)) Range) ≡ Err e
            → PartTells part row e
        go true at is = cc
        go false at is = inl (cc, has, at)
    decided (form.Greatest c) has gives =
        go (int_lt (group_number schema table part.group row) (one_group_number part.new))
        (rw (decides.greatest schema table c part row (IsShaped-form_at schema sound table part.group (form.Greatest c) has) (HasGroupValues-PartFits schema table part part_fits) fits) at gives)
      where
        go : (b : Bool) → left_by (cond b TakeNew Keep) ≡ Err e → PartTells part row e
        go true is = cc
        go false is = cc
    decided (form.Least c) has gives =
        go (int_lt (one_group_number part.new) (group_number schema table part.group row))
        (rw (decides.least schema table c part row (IsShaped-form_at schema sound table part.group (form.Least c) has) (HasGroupValues-PartFits schema table part part_fits) fits) at gives)
      where
        go : (b : Bool) → left_by (cond b TakeNew Keep) ≡ Err e → PartTells part row e
        go true is = cc
        go false is = cc
    decided (form.Latest stamp site) has gives = go (decision_of schema table part row) refl gives
      where
        go : (d : Decision) → decision_of schema table part row ≡ d → left_by d ≡ Err e → PartTells part row e
        go TakeNew at is = cc
        go (TakeNumber n) at is = cc
        go Keep at is = cc
        go Undecided at is = inr (group_name schema table part.group, cc, stamp, site, has)
        go Range at is = absurd (latest_has_no_range schema sound decides table part row part_fits fits stamp site has at)

    part_tells : PartKeepsForm schema table part → settled_part schema table part row ≡ Err e → PartTells part row e
    part_tells keeps gives = elim (result_then-Err (settled_values schema table part row) (λ values. Ok (with_group_values schema table part.group values row)) e gives) [
      | inl fails ↦ go (is_matched schema table row part) fails
      | inr done ↦ let wrong = done.2 in cc
    ]
      where
        go : (b : Bool) → cond b (Ok part.new) (left_by (decision_of schema table part row)) ≡ Err e → PartTells part row e
        go true is = cc
        go false is = decided keeps.kind keeps.has is

  -- what a part tells over the row that a part of another group left, it tells over the row before
  told_before : (first part : Part) (row after : Cells) (e : ApplyError) → PartFits schema table first → first.group ≢ part.group → settled_part schema table first row ≡ Ok after → PartTells part after e
      → PartTells part row e
  told_before first part row after e fits differ settles (inl range) =
      inl (range.0, range.1, subst (λ (values : Cells). is_in_range (one_group_number values +ℤ move_of part) ≡ false) (part_apart schema sound decides table part.group convergent form.Sum range.1 first row after fits differ settles) range.2)
  told_before first part row after e fits differ settles (inr tie) = inr tie

  -- so do the parts of an update, whose groups rise
  parts_tell : (parts : List Part) (row : Cells) (e : ApplyError) → AllByRecursion (PartFits schema table) parts → AllByRecursion (PartKeepsForm schema table) parts → Rise (map (λ (part : Part). part.group) parts)
      → RowFits (columns_of schema table) row → settled_parts schema table parts row ≡ Err e → (part : Part) × Among part parts × PartTells part row e
  parts_tell [] row e fit keep rise fits gives = cc
  parts_tell (part ∷ parts) row e fit keep rise fits gives = elim (result_then-Err (settled_part schema table part row) (settled_parts schema table parts) e gives) [
    | inl fails ↦ (part, inl refl, part_tells part row e fit.0 fits keep.0 fails)
    | inr done ↦
        let rest = parts_tell parts done.0 e fit.1 keep.1 rise.1 (RowFits-settled_part schema table sound.shape part row done.0 fit.0 fits done.1) done.2 in
        (rest.0, inr rest.1, told_before part rest.0 row done.0 e fit.0 (above_differs part.group parts rest.0 rise.0 rest.1) done.1 rest.2)
  ]

module _ (schema : Schema) (sound : IsSound schema) (decides : DecisionLaws) (tables : List Rows) (numbers : Numbers) (origin : SiteName) (are : AreTables schema tables) where
  no_check : (check : Option Check) (row : Cells) (e : ApplyError) → check ≡ None → checked_effect check row numbers ≡ Err e → ⊥
  no_check None row e none gives = absurd (cc)
  no_check (Some check) row e none gives = absurd (cc)

  -- a row that is settled alone fails only where its key is taken
  alone_fails : (table : ℕ) → is_convergent schema table ≡ true → (inserting : Bool) (row : Cells) (before : Option Cells) (e : ApplyError)
      → settled_effect schema table (settlement_of schema tables numbers origin table inserting row) before ≡ Err e
      → ((inserting && is_some (find_row (columns_of schema table) (key_of (columns_of schema table) row) (rows_of tables table))) ≡ true) × ((name : List ℕ) × (e ≡ error.UniqueConflict name))
  alone_fails table convergent inserting row before e gives =
      let alone = StandsAlone-convergent schema sound table convergent in
      go (inserting && is_some (find_row (columns_of schema table) (key_of (columns_of schema table) row) (rows_of tables table)))
      (rw (settlement_of-free schema tables numbers origin table inserting row (rw alone.constraints tt), alone.key_methods) at gives)
    where
      go : (b : Bool) → effect_by schema table (cond b (key_taken []) (Fits row)) before numbers ≡ Err e → (b ≡ true) × ((name : List ℕ) × (e ≡ error.UniqueConflict name))
      go true is = (refl, (key_name, cc))
      go false is = absurd (no_check (failed_check schema table row) row e (unchecked schema sound table convergent row) is)

  found_there : (o : Option Cells) → (true && is_some o) ≡ true → (row : Cells) × (o ≡ Some row)
  found_there None e = cc
  found_there (Some row) e = (row, refl)

  row_tells : (call : Call) (before : Option Cells) (e : ApplyError) → before ≡ row_named schema tables call → CallFits schema call → KeepsForms schema call → is_convergent schema (table_of call) ≡ true
      → row_effect schema tables numbers origin call before ≡ Err e → Tells schema call before e
  row_tells (Insert table row) before e was fits keeps convergent gives =
      let fails = alone_fails table convergent true row before e gives in
      let there = found_there (find_row (columns_of schema table) (key_of (columns_of schema table) row) (rows_of tables table)) fails.0 in
      subst (Tells schema (Insert table row) before) (sym fails.1.1) (refl, (there.0, was ∙ there.1))
  row_tells (Update table key parts) None e was fits keeps convergent gives = let is : error.NoRow ≡ e = cc in subst (Tells schema (Update table key parts) None) is refl
  row_tells (Update table key parts) (Some found) e was fits keeps convergent gives =
      elim (result_then-Err (settled_parts schema table parts found) (λ row. settled_effect schema table (settlement_of schema tables numbers origin table false row) (Some found)) e gives) [
        | inl fails ↦ by (parts_tell schema sound decides table convergent parts found e fits.content.parts_fit (keeps convergent) (Rise-increasing (map (λ (part : Part). part.group) parts) fits.content.rise)
            (found_row (columns_of schema table) key found (rows_of tables table) (sym was) (RowFits (columns_of schema table)) (are.each table fits.table).fit) fails)
        | inr done ↦ let wrong = (alone_fails table convergent false done.0 (Some found) e done.2).0 in cc
      ]
    where
      by : (part : Part) × Among part parts × PartTells schema sound decides table convergent part found e → Tells schema (Update table key parts) (Some found) e
      by told = elim told.2 [
        | inl range ↦ subst (Tells schema (Update table key parts) (Some found)) (sym range.0) (record { part = told.0; among = told.1; sum = range.1; row = found; there = refl; leaves = range.2 })
        | inr tie ↦ subst (Tells schema (Update table key parts) (Some found)) (sym tie.1) (record { part = told.0; among = told.1; stamp = tie.2; site = tie.3; latest = tie.4 })
      ]
  row_tells (Delete table row) before e was fits keeps convergent gives = absurd (true≢false (sym convergent ∙ keeps))

pub convergent_calls_fail_so : DecisionLaws → ConvergentCallsFailSo
convergent_calls_fail_so decides schema tables numbers origin call why sound are fits keeps convergent gives =
    elim (result_then-Err (row_effect schema tables numbers origin call (row_named schema tables call))
    (λ (x : RowEffect). Ok (record { changes = changes_between (table_of call) (row_named schema tables call) x.after; numbers = x.numbers })) why gives) [
      | inl fails ↦ row_tells schema sound decides tables numbers origin are call (row_named schema tables call) why refl fits keeps convergent fails
      | inr done ↦ let wrong = done.2 in cc
    ]
