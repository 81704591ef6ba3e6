-- An error of a transaction on convergent tables is excused: no latest values tie, no key is taken, and a row that is missing was never there.
use Rattle.std.proofs.Common.{◌≡◌, ℕ, ◌+◌, ◌≤◌, ◌==◌, Bool, true, false, cond, List, [], ◌∷◌, ◌++◌, map, Some, None, Ok, Err, refl, sym, ap, ◌∙◌, subst, inl, inr, arith, pos}
use mathlib.Core.Bool.{true≢false}
use Rattle.std.specs.Prelude.{Option, Result, ℤ, ◌⊎◌, ◌&&◌, ◌||◌, not, is_some, filter, slice_get, ◌-◌}
use Rattle.std.specs.List.{list_any}
use Rattle.std.proofs.lemmas.Bool.{eq-eqb}
use Rattle.rep_values.specs.declared.name.SiteName.{SiteName}
use Rattle.rep_values.specs.declared.refusal.ApplyError.{ApplyError}
use Rattle.rep_values.specs.declared.refusal.ApplyError.TheVariants as error
use Rattle.rep_values.specs.declared.value.Value.TheVariants.{Num, Words}
use Rattle.rep_schema.specs.declared.schema.Schema.{Schema}
use Rattle.rep_schema.specs.declared.check.Check.{Check}
use Rattle.rep_schema.specs.Tables.{Cells, Rows, columns_of, find_row, rows_of, RowFits, AreTables}
use Rattle.rep_schema.specs.Checks.{failed_check}
use Rattle.rep_schema.specs.Groups.{group_columns_of, values_at, are_same}
use Rattle.rep_schema.specs.Putting.{changes_between, after_changes}
use Rattle.rep_schema.proofs.FoundRows.{found_row}
use Rattle.rep_schema.proofs.ValuesAt.{are_same-Decides}
use Rattle.schema_rules.specs.declared.forms.Form.TheVariants as form
use Rattle.rep_calls.specs.declared.call.Part.{Part}
use Rattle.rep_calls.specs.declared.call.Call.{Call}
use Rattle.rep_calls.specs.declared.call.Call.TheVariants.{Insert, Update, Delete}
use Rattle.rep_calls.specs.declared.call.Txn.{Txn}
use Rattle.conflict_detect.specs.Fits.{CallFits, table_of}
use Rattle.unique_resolve.specs.declared.settled.Settled.{Settled}
use Rattle.unique_resolve.specs.declared.settled.Settled.TheVariants.{Fits, Dropped, Conflict}
use Rattle.unique_resolve.specs.Numbers.{Numbers}
use Rattle.unique_resolve.specs.Settling.{settlement_of}
use Rattle.resolve_methods.specs.Ranks.{number_of, site_level_of}
use Rattle.resolve_methods.specs.SequenceLaws.{number_or_zero, IsSameLevel}
use Rattle.txn_effects.specs.Parts.{result_then, settled_parts}
use Rattle.txn_effects.specs.Calls.{Effect, RowEffect, checked_effect, effect_by, settled_effect, row_named, row_effect, call_effect}
use Rattle.txn_effects.specs.Transactions.{Failure}
use Rattle.txn_effects.specs.Contents.{effect_on}
use Rattle.txn_effects.specs.Convergent.{is_convergent}
use Rattle.local_txn.specs.Laws.{StampsOfABlockRise}
use Rattle.site_state.specs.State.{SiteState}
use Rattle.site_state.specs.Contents.{content_of, tables_of, journal_content}
use Rattle.site_events.specs.Cluster.{Cluster, site_of}
use Rattle.site_events.specs.Events.{Event}
use Rattle.event_laws.specs.Fitting.{IsFitStart}
use Rattle.event_laws.specs.Waiting.{SitesLinkAsDeclared}
use Rattle.event_laws.specs.Beginning.{BaseRowsAreFilled, KeysBeginAlike}
use Rattle.rep_laws.specs.GroupForms.{form_at, value_of, KeepsForms}
use Rattle.convergence_laws.specs.Journals.{IsSoundTxn, AreMade}
use Rattle.convergence_laws.proofs.EventsKeepForms.{KeepsIn}
use Rattle.event_laws.proofs.Sites.{all_at_place}
use Rattle.convergence_laws.specs.Laws.{BlocksKeepForms}
use Rattle.convergence_laws.proofs.Moves.{DecisionLaws}
use Rattle.convergence_laws.proofs.RowsCome.{parts_move}
use Rattle.convergence_laws.proofs.CallsCome.{is_row-same, calls_come}
use Rattle.error_cause_laws.specs.Excuses.{NoRowIsMissing, RangeIsLeftBySum, is_on_convergent, is_row_tie_or_range, is_row_or_range, IsExcusedOn}
use Rattle.error_cause_laws.specs.Laws.{ErrorsAreExcused}
use Rattle.error_cause_laws.proofs.OneTimeWrites.{OneTimeWrite, writes_in, writes_in-append, signs_of}
use Rattle.error_cause_laws.proofs.WritingOnce.{IsDecided, DecidedBy}
use Rattle.error_cause_laws.proofs.Moving.{ComesFrom}
use Rattle.error_cause_laws.proofs.WritesStep.{IsWell}
use Rattle.rep_lists.specs.Counting.{count_where}
use Rattle.error_cause_laws.proofs.MissingRows.{missing_here}
use Rattle.error_cause_laws.proofs.LeftRanges.{fails_there, range_left_here}
use Rattle.error_cause_laws.proofs.Unmixed.{all_convergent}
use Rattle.error_cause_laws.proofs.Running.{sites_after, keeps, well_after, FailuresAreSo, failures_after}
use Rattle.error_cause_laws.proofs.Inserting.{Behind, behind, txn_sound, unmixed_sent, fails_convergent, made_once, not_there, made_behind, no_key_is_taken}
use Rattle.error_cause_laws.proofs.Values.{passing, Passes, passing_comes, any_counts, moved_from}
use Rattle.error_cause_laws.proofs.LatestWrites.{is_pair, pair_has, has_pair, latest_sign}
use Rattle.error_cause_laws.proofs.Levels.{one_text}
use Rattle.error_cause_laws.proofs.Named.{unnamed, is_whole, whole_is, levelled_is, sent_named, rows_named, base_carries}
use Rattle.error_cause_laws.proofs.Ties.{PartFails, part_fails, Ties, conflict_ties}

-- ---- the call that ties is an update

module _ (schema : Schema) (tables : List Rows) (numbers : Numbers) (origin : SiteName) (group : List ℕ) where
  no_check_conflicts : (check : Option Check) (row : Cells) (ns : Numbers) → checked_effect check row ns ≡ Err (error.UpdateConflict group) → ⊥
  no_check_conflicts None row ns e = cc
  no_check_conflicts (Some check) row ns e = cc

  settled_never_ties : (table : ℕ) (settled : Settled) (before : Option Cells) (ns : Numbers) → effect_by schema table settled before ns ≡ Err (error.UpdateConflict group) → ⊥
  settled_never_ties table (Fits row) before ns e = no_check_conflicts (failed_check schema table row) row ns e
  settled_never_ties table Dropped before ns e = cc
  settled_never_ties table (Conflict name) before ns e = cc

  -- the row that it names, and that its parts aren't settled
  record UpdateTies (table : ℕ) (key : Cells) (parts : List Part) : Type 0 where
    found : Cells
    there : find_row (columns_of schema table) key (rows_of tables table) ≡ Some found
    fails : settled_parts schema table parts found ≡ Err (error.UpdateConflict group)

  update_ties : (table : ℕ) (key : Cells) (parts : List Part) → call_effect schema tables numbers origin (Update table key parts) ≡ Err (error.UpdateConflict group) → UpdateTies table key parts
  update_ties table key parts gives = go (find_row (columns_of schema table) key (rows_of tables table)) refl (row_fails (row_effect schema tables numbers origin (Update table key parts) (row_named schema tables (Update table key parts))) gives)
    where
      row_fails : (r : Result RowEffect ApplyError) → result_then {B = Effect} r (λ (x : RowEffect). Ok (record { changes = changes_between table (row_named schema tables (Update table key parts)) x.after; numbers = x.numbers })) ≡ Err (error.UpdateConflict group)
          → r ≡ Err (error.UpdateConflict group)
      row_fails (Ok x) e = cc
      row_fails (Err y) e = let same : y ≡ error.UpdateConflict group = cc in ap (λ z. Err z) same

      parts_fail : (found : Cells) (r : Result Cells ApplyError) → settled_parts schema table parts found ≡ r
          → result_then {B = RowEffect} r (λ row. settled_effect schema table (settlement_of schema tables numbers origin table false row) (Some found)) ≡ Err (error.UpdateConflict group) → settled_parts schema table parts found ≡ Err (error.UpdateConflict group)
      parts_fail found (Err y) is e = let same : y ≡ error.UpdateConflict group = cc in is ∙ ap (λ z. Err z) same
      parts_fail found (Ok row) is e = absurd (settled_never_ties table (settlement_of schema tables numbers origin table false row).settled (Some found) (settlement_of schema tables numbers origin table false row).numbers e)

      go : (o : Option Cells) → find_row (columns_of schema table) key (rows_of tables table) ≡ o → row_effect schema tables numbers origin (Update table key parts) o ≡ Err (error.UpdateConflict group) → UpdateTies table key parts
      go None there e = cc
      go (Some found) there e = record { found = found; there = there; fails = parts_fail found (settled_parts schema table parts found) refl e }

  insert_never_ties : (table : ℕ) (row : Cells) → call_effect schema tables numbers origin (Insert table row) ≡ Err (error.UpdateConflict group) → ⊥
  insert_never_ties table row gives = go (row_effect schema tables numbers origin (Insert table row) (row_named schema tables (Insert table row))) refl gives
    where
      go : (r : Result RowEffect ApplyError) → row_effect schema tables numbers origin (Insert table row) (row_named schema tables (Insert table row)) ≡ r
          → result_then {B = Effect} r (λ (x : RowEffect). Ok (record { changes = changes_between table (row_named schema tables (Insert table row)) x.after; numbers = x.numbers })) ≡ Err (error.UpdateConflict group) → ⊥
      go (Ok x) is e = cc
      go (Err y) is e =
          let same : y ≡ error.UpdateConflict group = cc in
          settled_never_ties table (settlement_of schema tables numbers origin table true row).settled (row_named schema tables (Insert table row)) (settlement_of schema tables numbers origin table true row).numbers (is ∙ ap (λ z. Err z) same)

-- ---- parts of a group

abbrev new_of : Part → Cells
new_of part = part.new

-- those of an update, at one of them
split_parts : (test : Cells → Bool) (before after : List Part) (part : Part)
    → count_where test (map new_of (filter (λ (p : Part). p.group == part.group) (before ++ part ∷ after)))
    ≡ count_where test (map new_of (filter (λ (p : Part). p.group == part.group) before)) + (count_where test (part.new ∷ []) + count_where test (map new_of (filter (λ (p : Part). p.group == part.group) after)))
split_parts test [] after part = rw (eq-eqb part.group part.group refl) (go (test part.new) (count_where test (map new_of (filter (λ (p : Part). p.group == part.group) after))))
  where
    go : (b : Bool) (n : ℕ) → cond b (n + 1) n ≡ 0 + (cond b (0 + 1) 0 + n)
    go true n = omega arith
    go false n = omega arith
split_parts test (q ∷ before) after part = go (q.group == part.group) (test q.new) (split_parts test before after part)
  where
    go : (a b : Bool) → count_where test (map new_of (filter (λ (p : Part). p.group == part.group) (before ++ part ∷ after)))
        ≡ count_where test (map new_of (filter (λ (p : Part). p.group == part.group) before)) + (count_where test (part.new ∷ []) + count_where test (map new_of (filter (λ (p : Part). p.group == part.group) after)))
        → count_where test (map new_of (cond a (q ∷ filter (λ (p : Part). p.group == part.group) (before ++ part ∷ after)) (filter (λ (p : Part). p.group == part.group) (before ++ part ∷ after))))
        ≡ count_where test (map new_of (cond a (q ∷ filter (λ (p : Part). p.group == part.group) before) (filter (λ (p : Part). p.group == part.group) before)))
        + (count_where test (part.new ∷ []) + count_where test (map new_of (filter (λ (p : Part). p.group == part.group) after)))
    go true b e = by (test q.new) e
      where
        by : (c : Bool) → count_where test (map new_of (filter (λ (p : Part). p.group == part.group) (before ++ part ∷ after)))
            ≡ count_where test (map new_of (filter (λ (p : Part). p.group == part.group) before)) + (count_where test (part.new ∷ []) + count_where test (map new_of (filter (λ (p : Part). p.group == part.group) after)))
            → cond c (count_where test (map new_of (filter (λ (p : Part). p.group == part.group) (before ++ part ∷ after))) + 1) (count_where test (map new_of (filter (λ (p : Part). p.group == part.group) (before ++ part ∷ after))))
            ≡ cond c (count_where test (map new_of (filter (λ (p : Part). p.group == part.group) before)) + 1) (count_where test (map new_of (filter (λ (p : Part). p.group == part.group) before)))
            + (count_where test (part.new ∷ []) + count_where test (map new_of (filter (λ (p : Part). p.group == part.group) after)))
        by true e = omega (arith, e)
        by false e = e
    go false b e = e

one_counts : (test : Cells → Bool) (values : Cells) → test values ≡ true → count_where test (values ∷ []) ≡ 1
one_counts test values passes = rw passes (omega arith)

module _ (schema : Schema) (decides : DecisionLaws) (rises : StampsOfABlockRise) (blocks : BlocksKeepForms) (start : Cluster) (is : IsFitStart schema start) (meshed : SitesLinkAsDeclared schema start.sites)
    (filled : BaseRowsAreFilled schema start.sites) (events : List Event) (x o : SiteState) (position : ℕ) (txn : Txn) (failure : Failure)
    (x_found : site_of x.here.site (sites_after schema decides rises blocks start is meshed events) ≡ Some x) (master : x.here.is_master ≡ true)
    (comes : ComesFrom (sites_after schema decides rises blocks start is meshed events) x o position txn) (gives : effect_on schema o.here.site txn (content_of x) ≡ Err failure) where
  abbrev f : Behind schema decides rises blocks start is meshed events x o position txn failure x_found master comes gives
  f = behind schema decides rises blocks start is meshed events x o position txn failure x_found master comes gives

  well : IsWell schema x
  well = well_after schema decides rises blocks start is meshed events x.here.site x x_found

  abbrev tables : List Rows
  tables = after_changes schema f.effect.changes (tables_of x)

  -- ---- at a part of an update that ties

  module _ (table : ℕ) (key : Cells) (parts : List Part) (call_is : f.call ≡ Update table key parts) (convergent : is_convergent schema table ≡ true) (group : List ℕ)
      (found : Cells) (there : find_row (columns_of schema table) key (rows_of tables table) ≡ Some found) (found_fits : RowFits (columns_of schema table) found) (q : PartFails schema table parts found (error.UpdateConflict group))
      (at by : ℕ) (has : form_at schema table q.part.group ≡ Some (form.Latest at by)) where
    abbrev places : List ℕ
    places = group_columns_of schema table q.part.group

    abbrev now : Cells
    now = values_at places q.now

    abbrev mine : List Part → List Part
    mine ps = filter (λ (p : Part). p.group == q.part.group) ps

    module _ (test : Cells → Bool) where
      abbrev count : Call → ℕ
      count = passing schema is.sound decides table convergent key q.part.group at by has test

      abbrev made : ℕ
      made = writes_in count f.done

      abbrev earlier : ℕ
      earlier = count_where test (map new_of (mine q.before))

      abbrev own : ℕ
      own = count_where test (q.part.new ∷ [])

      abbrev later : ℕ
      later = count_where test (map new_of (mine q.after))

      abbrev PassesIn : List Rows → Type 0
      PassesIn ts = Passes schema is.sound decides table convergent key q.part.group at by has test (find_row (columns_of schema table) key (rows_of ts table))

      counted : count f.call ≡ 0 + (earlier + (own + later))
      counted = ap count call_is ∙ (rw (is_row-same table key table key refl refl) (ap (λ ps. 0 + count_where test (map new_of (mine ps))) q.whole)) ∙ ap (λ n. 0 + n) (split_parts test q.before q.after q.part)

      -- values that pass now were a row's, or were made on the way
      now_from : test now ≡ true → PassesIn (tables_of x) ⊎ (1 ≤ made + earlier)
      now_from passes = go (are_same (values_at places found) now) refl
          (moved_from schema is.sound decides table convergent key q.part.group at by has test (values_at places found) now (mine q.before)
          (parts_move schema is.sound decides table q.part.group convergent (form.Latest at by) has q.before found q.now q.before_fit q.before_keep found_fits q.settles))
        where
          row_came : PassesIn tables → PassesIn (tables_of x) ⊎ (1 ≤ made + earlier)
          row_came here = elim (passing_comes schema is.sound decides table convergent key q.part.group at by has test (find_row (columns_of schema table) key (rows_of (tables_of x) table)) (find_row (columns_of schema table) key (rows_of tables table)) f.done
              (calls_come schema is.sound decides table q.part.group convergent key 1 f.done (tables_of x) (content_of x).numbers o.here.site f.effect well.content.tables well.content.counters f.done_fit f.done_keep f.succeeds) here) [
                | inl was ↦ inl was
                | inr some ↦ inr (omega (arith, some))
              ]

          go : (b : Bool) → are_same (values_at places found) now ≡ b → (b || list_any (λ v. are_same v now) (map new_of (mine q.before))) ≡ true → PassesIn (tables_of x) ⊎ (1 ≤ made + earlier)
          go true same any = row_came (record { row = found; is = there; passes = ap test ((are_same-Decides (values_at places found) now).0 same) ∙ passes })
          go false other any = inr (let some = any_counts test are_same (λ a b e. (are_same-Decides a b).0 e) now (map new_of (mine q.before)) any passes in omega (arith, some))

    -- ---- both name a site, and have a stamp

    abbrev bad : Cells → Bool
    bad = unnamed schema decides rises blocks start is meshed filled table convergent key q.part.group at by has

    none_bad : made bad + (count bad f.call + writes_in (count bad) f.rest) ≡ 0
    none_bad = sym (ap (writes_in (count bad)) f.whole ∙ writes_in-append (count bad) f.done (f.call ∷ f.rest)) ∙ sent_named schema decides rises blocks start is meshed filled table convergent key q.part.group at by has events x o position txn comes

    off : (b : Bool) → (b ≡ true → ⊥) → b ≡ false
    off true never = absurd (never refl)
    off false never = refl

    new_good : bad q.part.new ≡ false
    new_good = off (bad q.part.new) (λ passes. let one = one_counts bad q.part.new passes in let all = counted bad in let none = none_bad in omega (arith, one, all, none))

    now_good : bad now ≡ false
    now_good = off (bad now) (λ passes. elim (now_from bad passes) [
      | inl was ↦ rows_named schema decides rises blocks start is meshed filled table convergent key q.part.group at by has events x.here.site x x_found master was
      | inr some ↦ let all = counted bad in let none = none_bad in omega (arith, some, all, none)
    ])

    -- what good values have
    record IsNamed (values : Cells) : Type 0 where
      stamp : ℕ
      stamped : value_of places values at ≡ Some (Num (pos stamp))
      text : List ℕ
      sited : value_of places values by ≡ Some (Words text)
      level : ℤ
      levelled : site_level_of schema (Some (Words text)) ≡ Some level

    named : (values : Cells) → bad values ≡ false → IsNamed values
    named values good = go (both (is_whole (value_of places values at)) (is_some (site_level_of schema (value_of places values by))) good)
      where
        both : (a b : Bool) → not (a && b) ≡ false → (a ≡ true) × (b ≡ true)
        both true true e = (refl, refl)
        both true false e = cc
        both false b e = cc

        some_level : (l : Option ℤ) → is_some l ≡ true → (z : ℤ) × (l ≡ Some z)
        some_level None e = cc
        some_level (Some z) e = (z, refl)

        go : (is_whole (value_of places values at) ≡ true) × (is_some (site_level_of schema (value_of places values by)) ≡ true) → IsNamed values
        go parts =
            let whole = whole_is (value_of places values at) parts.0 in
            let site = levelled_is schema (value_of places values by) parts.1 in
            let level = some_level (site_level_of schema (value_of places values by)) parts.1 in
            record { stamp = whole.0; stamped = whole.1; text = site.0; sited = site.1; level = level.0; levelled = ap (site_level_of schema) (sym site.1) ∙ level.1 }

    -- ---- and then they are one pair, which was made once

    module _ (tie : Ties schema is.sound table q.part q.now) (at_is : tie.at ≡ at) (by_is : tie.by ≡ by) where
      new : IsNamed q.part.new
      new = named q.part.new new_good

      old : IsNamed now
      old = named now now_good

      same_stamp : new.stamp ≡ old.stamp
      same_stamp = whole (new.stamp) (old.stamp) (sym (ap (λ v. number_or_zero (number_of v)) new.stamped) ∙ subst (λ c. number_or_zero (number_of (value_of places q.part.new c)) ≡ number_or_zero (number_of (value_of places now c))) at_is tie.stamps
          ∙ ap (λ v. number_or_zero (number_of v)) old.stamped)
        where
          whole : (n m : ℕ) → pos n ≡ pos m → n ≡ m
          whole n m e = cc e

      same_text : new.text ≡ old.text
      same_text = one_text schema is.sound table convergent new.text old.text new.level new.levelled (old.levelled ∙ ap (λ z. Some z) (sym levels))
        where
          both_levels : IsSameLevel (Some new.level) (Some old.level)
          both_levels = subst (λ l. IsSameLevel l (Some old.level)) (ap (site_level_of schema) new.sited ∙ new.levelled)
              (subst (λ l. IsSameLevel (site_level_of schema (value_of places q.part.new by)) l) (ap (site_level_of schema) old.sited ∙ old.levelled)
              (subst (λ c. IsSameLevel (site_level_of schema (value_of places q.part.new c)) (site_level_of schema (value_of places now c))) by_is tie.levels))

          levels : new.level ≡ old.level
          levels = both_levels

      abbrev owner : SiteName
      owner = record { 0 = old.text }

      abbrev pair : Cells → Bool
      pair = is_pair schema is.sound decides table convergent key q.part.group at by has old.stamp owner

      abbrev sign : OneTimeWrite schema
      sign = latest_sign schema is.sound decides table convergent key q.part.group at by has old.stamp owner rises

      now_pair : pair now ≡ true
      now_pair = has_pair schema is.sound decides table convergent key q.part.group at by has old.stamp owner now old.stamped old.sited

      new_pair : pair q.part.new ≡ true
      new_pair = has_pair schema is.sound decides table convergent key q.part.group at by has old.stamp owner q.part.new (new.stamped ∙ ap (λ n. Some (Num (pos n))) same_stamp) (new.sited ∙ ap (λ t. Some (Words t)) same_text)

      begins : (site : SiteName) (y : SiteState) → site_of site start.sites ≡ Some y → y.here.is_master ≡ true → PassesIn pair y.base → IsDecided schema sign start.sites
      begins site y y_found on passes = go (site_of sign.owner start.sites)
        where
          zero_stamp : old.stamp ≡ 0
          zero_stamp = same (sym (base_carries schema decides rises blocks start is meshed filled table convergent key q.part.group at by has site y y_found on passes.row passes.is).2 ∙ (pair_has schema is.sound decides table convergent key q.part.group at by has old.stamp owner (values_at places passes.row) passes.passes).0)
            where
              same : Some (Num (pos 0)) ≡ Some (Num (pos old.stamp)) → old.stamp ≡ 0
              same e = cc e

          go : (owner : Option SiteState) → DecidedBy schema sign start.sites owner
          go None = λ other z z_found z_on. zero_stamp
          go (Some z) = omega (arith, zero_stamp)

      pub no_tie : ⊥
      no_tie = elim (now_from pair now_pair) [
        | inl was ↦ not_there schema decides rises blocks start is meshed events x o position txn failure x_found master comes gives sign begins (omega (arith, total, all, one)) was
        | inr some ↦ omega (arith, total, all, one, once, some)
      ]
        where
          total : signs_of sign.count txn ≡ made pair + (count pair f.call + writes_in (count pair) f.rest)
          total = made_behind schema decides rises blocks start is meshed events x o position txn failure x_found master comes gives sign begins

          all : count pair f.call ≡ 0 + (earlier pair + (own pair + later pair))
          all = counted pair

          one : own pair ≡ 1
          one = one_counts pair q.part.new new_pair

          once : signs_of sign.count txn ≤ 1
          once = made_once schema decides rises blocks start is meshed events x o position txn failure x_found master comes gives sign begins

  -- ---- so no transaction on convergent tables ties

  pub never_ties : is_on_convergent schema txn ≡ true → (group : List ℕ) → failure.error ≡ error.UpdateConflict group → ⊥
  never_ties on group ties = go f.call refl
    where
      convergent : is_convergent schema (table_of f.call) ≡ true
      convergent = fails_convergent schema decides rises blocks start is meshed events x o position txn failure x_found master comes gives on

      fails : call_effect schema tables f.effect.numbers o.here.site f.call ≡ Err (error.UpdateConflict group)
      fails = f.fails ∙ ap (λ e. Err e) ties

      updates : (table : ℕ) (key : Cells) (parts : List Part) → f.call ≡ Update table key parts → ⊥
      updates table key parts call_is =
          let fits : CallFits schema (Update table key parts) = subst (CallFits schema) call_is f.fits in
          let keeps : KeepsForms schema (Update table key parts) = subst (KeepsForms schema) call_is f.keeps in
          let here : is_convergent schema table ≡ true = ap (λ (c : Call). is_convergent schema (table_of c)) (sym call_is) ∙ convergent in
          let u = update_ties schema tables f.effect.numbers o.here.site group table key parts (ap (call_effect schema tables f.effect.numbers o.here.site) (sym call_is) ∙ fails) in
          let row_fits : RowFits (columns_of schema table) u.found = found_row (columns_of schema table) key u.found (rows_of tables table) u.there (RowFits (columns_of schema table)) (f.are.each table fits.table).fit in
          let q = part_fails schema is.sound table parts u.found (error.UpdateConflict group) fits.content.parts_fit (keeps here) row_fits u.fails in
          let tie = conflict_ties schema is.sound table decides q.part q.now group q.part_fits q.now_fits q.part_keeps q.fails in
          no_tie table key parts call_is here group u.found u.there row_fits q tie.at tie.by tie.has tie refl refl

      go : (call : Call) → f.call ≡ call → ⊥
      go (Insert table row) call_is = insert_never_ties schema tables f.effect.numbers o.here.site group table row (ap (call_effect schema tables f.effect.numbers o.here.site) (sym call_is) ∙ fails)
      go (Update table key parts) call_is = updates table key parts call_is
      go (Delete table row) call_is =
          true≢false (sym convergent ∙ ap (λ (c : Call). is_convergent schema (table_of c)) call_is ∙ subst (KeepsForms schema) call_is f.keeps)

-- ---- every error

errors_excused : (schema : Schema) (decides : DecisionLaws) (rises : StampsOfABlockRise) (blocks : BlocksKeepForms) (start : Cluster) (is : IsFitStart schema start) (meshed : SitesLinkAsDeclared schema start.sites) → KeysBeginAlike schema start.sites
    → FailuresAreSo schema decides rises blocks start is meshed (IsExcusedOn schema)
errors_excused schema decides rises blocks start is meshed alike events x o position txn failure x_found master comes gives on = record {
  kind = go failure.error refl (no_key_is_taken schema decides rises blocks start is meshed events x o position txn failure x_found master comes gives alike.shared on).kind;
  call = failing.0;
  there = failing.1;
  missing = λ no_row. missing no_row failing.0 failing.1 (each failing.0 failing.1);
  leaves = λ range. left range failing.0 failing.1 (each failing.0 failing.1);
}
  where
    go : (why : ApplyError) → failure.error ≡ why → is_row_tie_or_range why ≡ true → is_row_or_range why ≡ true
    go error.NoRow at kind = refl
    go error.DeleteConflict at kind = cc
    go (error.UpdateConflict group) at kind = absurd (never_ties schema decides rises blocks start is meshed alike.filled events x o position txn failure x_found master comes gives on group at)
    go (error.UniqueConflict constraint) at kind = cc
    go error.ValueRange at kind = refl
    go (error.CheckFailed check) at kind = cc

    keep : KeepsIn schema x
    keep = keeps schema decides rises blocks start is meshed events x.here.site x x_found

    are : AreTables schema x.base
    are = subst (λ (s : Schema). AreTables s x.base) keep.same (keep.keeps.base master)

    made : AreMade schema x.here.site x.base x.journal
    made = subst (λ (s : Schema). AreMade s x.here.site x.base x.journal) keep.same (keep.keeps.made master)

    sound_txn : IsSoundTxn schema txn
    sound_txn = txn_sound schema decides rises blocks start is meshed events x o position txn failure x_found master comes gives

    here : effect_on schema o.here.site txn (journal_content schema x.here.site x.base x.journal) ≡ Err failure
    here = subst (λ (s : Schema). effect_on schema o.here.site txn (journal_content s x.here.site x.base x.journal) ≡ Err failure) keep.same gives

    failing : (call : Call) × (slice_get txn.calls (failure.call - 1) ≡ Some call)
    failing = fails_there schema is.sound decides x.here.site x.base x.journal are made o.here.site txn sound_txn failure here

    missing : NoRowIsMissing schema x.base x.journal failure.call failure.error txn
    missing = missing_here schema is.sound decides x.here.site x.base x.journal are made o.here.site txn sound_txn failure here

    left : RangeIsLeftBySum schema x.base x.journal failure.call failure.error txn
    left = range_left_here schema is.sound decides x.here.site x.base x.journal are made o.here.site txn sound_txn failure here

    each : (call : Call) → slice_get txn.calls (failure.call - 1) ≡ Some call → is_convergent schema (table_of call) ≡ true
    each call found = all_at_place (λ (c : Call). is_convergent schema (table_of c) ≡ true) txn.calls (failure.call - 1) call
        (all_convergent schema txn (unmixed_sent schema decides rises blocks start is meshed events x o position txn comes) on) found

pub errors_are_excused : DecisionLaws → StampsOfABlockRise → BlocksKeepForms → ErrorsAreExcused
errors_are_excused decides rises blocks schema start events is meshed alike site x found master =
    failures_after schema decides rises blocks start is meshed (IsExcusedOn schema) (errors_excused schema decides rises blocks start is meshed alike) events site x found master
