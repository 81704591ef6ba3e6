-- A statement as it is gone through: what its steps find, and what comes of it.
use Rattle.std.proofs.Common.{◌≡◌, ◌≢◌, inl, inr, ℕ, ◌+◌, ◌≤◌, Bool, true, false, List, [], ◌∷◌, length, refl, sym, ap, ◌∙◌, subst, arith}
use Rattle.std.specs.Prelude.{Option, Some, None, cond, ◌&&◌, not, is_some, slice_index, ◌==◌}
use Rattle.std.specs.List.{find, list_all}
use Rattle.std.proofs.lemmas.Bool.{and_parts, and_right, or_parts, both_ways}
use Rattle.std.proofs.lemmas.Bool.Decides.{eqb_tells}
use Rattle.rep_values.specs.Number.{IsKeyLen, IsRowLen}
use Rattle.rep_values.specs.declared.value.Value.{Value}
use Rattle.rep_values.specs.declared.literal.Literal.{Literal}
use Rattle.rep_values.specs.declared.name.SiteName.{SiteName}
use Rattle.rep_values.specs.declared.refusal.Refusal.{Refusal}
use Rattle.rep_values.specs.declared.refusal.Refusal.TheVariants as refusal
use Rattle.rep_values.specs.RefusalSteps.{refused, or_then, first_refusal}
use Rattle.rep_values.proofs.RefusalSteps.{or_then-None, refused-None}
use Rattle.rep_schema.specs.declared.schema.Schema.{Schema}
use Rattle.rep_schema.specs.declared.schema.Column.{Column}
use Rattle.rep_schema.specs.declared.change.Change.{Change}
use Rattle.rep_schema.specs.Tables.{Cells, Rows, columns_of, key_of, key_count, key_columns, find_row, take_row, rows_of, RowFits, IsUniqueRow}
use Rattle.rep_schema.specs.Kinds.{value_in_range, row_in_range, is_filled}
use Rattle.rep_schema.specs.Changes.{row_like, after_change_in}
use Rattle.rep_schema.specs.Putting.{changes_between}
use Rattle.rep_schema.proofs.FoundRows.{found_row, key_of-found}
use Rattle.rep_schema.proofs.RowFit.{length-fits}
use Rattle.rep_schema.proofs.Shapes.{length-columns_of}
use Rattle.rep_calls.specs.declared.statement.Set.{Set}
use Rattle.txn_effects.specs.Calls.{KeysStandAlone}
use Rattle.local_txn.specs.declared.progress.BlockProgress.{BlockProgress}
use Rattle.txn_effects.specs.declared.local.Here.{Here}
use Rattle.txn_effects.specs.Literals.{literal_fits, literals_fit, key_literals_fit, values_of}
use Rattle.txn_effects.specs.Sets.{names_columns, names_one_twice, takes_set, is_about, sets_fit, sets_filled, value_by, row_with}
use Rattle.txn_effects.specs.ByColumn.{AreSets, names_refusal, takes_each, fills_some, row_by, row_where_in_range}
use Rattle.txn_effects.specs.declared.row_made.RowMade.{RowMade}
use Rattle.txn_effects.specs.Filled.{Filling, filled_from, value_filled, everywhere, is_modified, bound_from, next_stamp, made_with, written_columns, row_written}
use Rattle.txn_effects.specs.Stamps.{capped}
use Rattle.txn_effects.specs.Convergent.{barred, own_key_step, rule_step}
use Rattle.txn_effects.specs.Statements.{BlockState, row_at, insert_made, update_made, insert_in, update_in, delete_in, row_steps, there, new_row_steps, insert_steps, changed_row_steps, update_steps, delete_steps}
use Rattle.local_txn.specs.Running.{inserted_capped, change_steps, ChangesTo, order_steps, AreInOrder, block_state_of, progress_after, RunsAs, StatementStopsAs}
use Rattle.txn_effects.specs.NewRows.{CanRun, FitsButForRange}
use Rattle.local_txn.proofs.LiteralWalk.{length-row_written}
use Rattle.local_txn.proofs.SetWalk.{row_by-sets, takes_each-sets}
use Rattle.local_txn.proofs.NamedSets.{fills_some-sets}
use Rattle.txn_effects.proofs.KindRows.{are_of-RowFits}
use Rattle.local_txn.proofs.StampedRows.{row_in_range-capped, made_with-capped}
use Rattle.local_txn.proofs.StampedKeys.{new_row_steps-inserted}
use Rattle.txn_effects.proofs.NewRows.{row_steps-out, IsAccepted, accepted_row, RowFits-accepted, IsUniqueRow-accepted}
use Rattle.local_txn.proofs.ModifiedRows.{length-row_with}
use Rattle.txn_effects.proofs.StatementRows.{FitsButForRange-written, FitsButForRange-set, key_of-set}

or_then-last : (o : Option Refusal) → or_then o None ≡ o
or_then-last None = refl
or_then-last (Some why) = refl

-- what is there
pub there_is : {X : Type 0} (o : Option X) → is_some o ≡ true → (x : X) × (o ≡ Some x)
there_is None e = cc
there_is (Some x) e = (x, refl)

gone_is : {X : Type 0} (o : Option X) → is_some o ≡ false → o ≡ None
gone_is None e = refl
gone_is (Some x) e = cc

-- a table's room, where no other table's changed
pub room_kept : (old new : List ℕ) (table t : ℕ) → slice_index old table ≤ slice_index new table → ((other : ℕ) → other ≢ table → slice_index new other ≡ slice_index old other)
    → slice_index old t ≤ slice_index new t + cond (t == table) 1 0
room_kept old new table t here others = elim (eqb_tells t table) [
  | inl same ↦ rw (same.0, same.1) (omega (arith, here))
  | inr other ↦ rw (other.0, others t other.1) (omega arith)
]

-- there are as many literals as columns that they fit
pub length-literals_fit : (schema : Schema) (columns : List Column) (literals : List Literal) → literals_fit schema columns literals ≡ true → length columns ≡ length literals
length-literals_fit schema [] [] fits = refl
length-literals_fit schema [] (l ∷ ls) fits = cc
length-literals_fit schema (c ∷ cs) [] fits = cc
length-literals_fit schema (c ∷ cs) (l ∷ ls) fits =
    let rest = length-literals_fit schema cs ls (and_parts (literal_fits schema c l) (literals_fit schema cs ls) fits).1 in omega (arith, rest)

length-key_columns : (columns : List Column) → length (key_columns columns) ≡ key_count columns
length-key_columns [] = refl
length-key_columns (c ∷ cs) = go c.key (length-key_columns cs)
  where
    go : (b : Bool) → length (key_columns cs) ≡ key_count cs → length (cond b (c ∷ key_columns cs) (key_columns cs)) ≡ cond b (key_count cs + 1) (key_count cs)
    go true rest = omega (arith, rest)
    go false rest = rest

key_count-length : (columns : List Column) → key_count columns ≤ length columns
key_count-length [] = omega arith
key_count-length (c ∷ cs) = go c.key (key_count-length cs)
  where
    go : (b : Bool) → key_count cs ≤ length cs → cond b (key_count cs + 1) (key_count cs) ≤ length (c ∷ cs)
    go true rest = omega (arith, rest)
    go false rest = omega (arith, rest)

-- taking a row away by a key takes the row that has it
pub made_in-found : (columns : List Column) (key before : Cells) (rows : Rows) → find_row columns key rows ≡ Some before → after_change_in columns (Some before) None rows ≡ take_row columns key rows
made_in-found columns key before rows there = ap (λ k. take_row columns k rows) (key_of-found columns key before rows there)

-- a table with a key has columns, and not too many
pub IsRowLen-able : (schema : Schema) (tables : List Rows) (table : ℕ) → CanRun schema tables table → IsRowLen (length (columns_of schema table))
IsRowLen-able schema tables table able =
    let few = length-columns_of schema able.shape table in
    (omega (arith, able.keyed.0, key_count-length (columns_of schema table)), few)

-- literals that fit a key are as many as it has columns
pub IsKeyLen-fits : (schema : Schema) (tables : List Rows) (table : ℕ) → CanRun schema tables table → (key : List Literal) → key_literals_fit schema (columns_of schema table) key ≡ true → IsKeyLen (length key)
IsKeyLen-fits schema tables table able key fits =
    let long = length-literals_fit schema (key_columns (columns_of schema table)) key fits in
    subst IsKeyLen (sym (length-key_columns (columns_of schema table)) ∙ long) able.keyed

-- a row is refused for the same reason with a stamp that is not in range and with the capped one
row_steps-capped : (schema : Schema) (tables : List Rows) (table : ℕ) (columns : List Column) (site : SiteName) (last : ℕ) (chosen : ℕ → Bool) (stamp : ℕ) (row : Cells) → length columns ≡ length row
    → first_refusal (row_steps schema tables table (made_with columns site last chosen (capped stamp) row).row) ≡ first_refusal (row_steps schema tables table (made_with columns site last chosen stamp row).row)
row_steps-capped schema tables table columns site last chosen stamp row long = go (row_in_range (made_with columns site last chosen (capped stamp) row).row) refl
  where
    go : (b : Bool) → row_in_range (made_with columns site last chosen (capped stamp) row).row ≡ b
        → first_refusal (row_steps schema tables table (made_with columns site last chosen (capped stamp) row).row) ≡ first_refusal (row_steps schema tables table (made_with columns site last chosen stamp row).row)
    go true range = ap (λ made. first_refusal (row_steps schema tables table made.row)) (made_with-capped columns site last chosen stamp row long range)
    go false out =
        let beyond : row_in_range (made_with columns site last chosen stamp row).row ≡ false = sym (row_in_range-capped columns site last chosen stamp row) ∙ out in
        row_steps-out schema tables table (made_with columns site last chosen (capped stamp) row).row out ∙ sym (row_steps-out schema tables table (made_with columns site last chosen stamp row).row beyond)

-- a row that sets take out of range is so with its filled columns filled in
out_of_range-filled : (filling : Filling) (chosen : ℕ → Bool) (n : ℕ) (columns : List Column) (found : List (Option Set)) (row : Cells) → fills_some columns found ≡ false → row_in_range row ≡ true
    → row_in_range (row_by found row) ≡ false → row_in_range (filled_from filling chosen n columns (row_by found row)) ≡ false
out_of_range-filled filling chosen n [] found row none range out = out
out_of_range-filled filling chosen n (c ∷ cs) [] row none range out = absurd (both_ways (row_in_range row) out range)
out_of_range-filled filling chosen n (c ∷ cs) (s ∷ ss) [] none range out = cc
out_of_range-filled filling chosen n (c ∷ cs) (s ∷ ss) (v ∷ vs) none range out =
    let parts = and_parts (value_in_range v) (row_in_range vs) range in
    let first = or_parts (is_filled c && is_some s) (fills_some cs ss) none in
    go s (value_in_range (value_by s v)) refl first.0 parts.0 out (λ later. out_of_range-filled filling chosen (n + 1) cs ss vs first.1 parts.1 later)
  where
    rest : Cells
    rest = filled_from filling chosen (n + 1) cs (row_by ss vs)

    unfilled : (w : Value) → is_filled c ≡ false → value_filled filling (chosen n) c w ≡ w
    unfilled w plain = rw (and_right (chosen n) (is_filled c) plain) refl

    go : (o : Option Set) (b : Bool) → value_in_range (value_by o v) ≡ b → (is_filled c && is_some o) ≡ false → value_in_range v ≡ true
        → (value_in_range (value_by o v) && row_in_range (row_by ss vs)) ≡ false
        → (row_in_range (row_by ss vs) ≡ false → row_in_range (filled_from filling chosen (n + 1) cs (row_by ss vs)) ≡ false)
        → (value_in_range (value_filled filling (chosen n) c (value_by o v)) && row_in_range (filled_from filling chosen (n + 1) cs (row_by ss vs))) ≡ false
    go None false here plain there out later = absurd (both_ways (value_in_range v) here there)
    go (Some set) false here plain there out later = rw (unfilled (value_by (Some set) v) (not_both (is_filled c) plain), here) refl
      where
        not_both : (a : Bool) → (a && true) ≡ false → a ≡ false
        not_both true e = cc
        not_both false e = refl
    go o true here plain there out later = and_right (value_in_range (value_filled filling (chosen n) c (value_by o v))) (row_in_range (filled_from filling chosen (n + 1) cs (row_by ss vs))) (later (rw here at out))

and_true : (a : Bool) → (a && true) ≡ a
and_true true = refl
and_true false = refl

-- a row whose changed values are in range
pub set_row-Some : (wanted row : Cells) → row_where_in_range wanted ≡ Some row → (row ≡ wanted) × (row_in_range wanted ≡ true)
set_row-Some wanted row is = go (row_in_range wanted) refl is
  where
    go : (b : Bool) → row_in_range wanted ≡ b → cond b (Some wanted) None ≡ Some row → (row ≡ wanted) × (row_in_range wanted ≡ true)
    go true range e = (cc, range)
    go false range e = cc

-- and one with a value that isn't
pub set_row-None : (wanted : Cells) → row_where_in_range wanted ≡ None → row_in_range wanted ≡ false
set_row-None wanted is = go (row_in_range wanted) refl is
  where
    go : (b : Bool) → row_in_range wanted ≡ b → cond b (Some wanted) None ≡ None → row_in_range wanted ≡ false
    go true range e = cc
    go false range e = range

-- the steps of an update that look at the statement alone
module _ (schema : Schema) (table : ℕ) (key : List Literal) (sets : List Set) where
  -- a name is unknown, or a column is named twice
  pub order_names : (why : Refusal) → names_refusal (columns_of schema table) sets ≡ Some why → first_refusal (order_steps schema table key sets) ≡ Some why
  order_names why refuses = go (names_columns (columns_of schema table) sets) (names_one_twice sets) refl refuses
    where
      all : Bool
      all = list_all (λ c. takes_set c (find (is_about c.name) sets)) (columns_of schema table)

      go : (known twice : Bool) → names_one_twice sets ≡ twice → or_then (refused (not known) refusal.UnknownName) (or_then (refused twice refusal.RowShape) None) ≡ Some why
          → or_then (refused (not known) refusal.UnknownName) (or_then (refused (not (key_literals_fit schema (columns_of schema table) key && sets_fit (columns_of schema table) sets)) refusal.RowShape)
          (or_then (refused (sets_filled (columns_of schema table) sets) refusal.FilledBySite) None)) ≡ Some why
      go false twice is e = e
      go true true is e =
          let unfit : sets_fit (columns_of schema table) sets ≡ false = rw is (and_right (list_all (λ c. takes_set c (find (is_about c.name) sets)) (columns_of schema table)) false refl) in
          rw (unfit, and_right (key_literals_fit schema (columns_of schema table) key) false refl) e
      go true false is e = cc

  module _ (found : List (Option Set)) (are : AreSets (columns_of schema table) sets found) where
    takes_are : sets_fit (columns_of schema table) sets ≡ takes_each (columns_of schema table) found
    takes_are = rw (are.once, and_true (list_all (λ c. takes_set c (find (is_about c.name) sets)) (columns_of schema table))) (sym (rw are.each (takes_each-sets sets (columns_of schema table))))

    fills_are : sets_filled (columns_of schema table) sets ≡ fills_some (columns_of schema table) found
    fills_are = sym (rw are.each (fills_some-sets sets (columns_of schema table)))

    pub order_RowShape : (key_literals_fit schema (columns_of schema table) key && takes_each (columns_of schema table) found) ≡ false → first_refusal (order_steps schema table key sets) ≡ Some refusal.RowShape
    order_RowShape unfit = rw (are.known, takes_are, unfit) refl

    module _ (fits : (key_literals_fit schema (columns_of schema table) key && takes_each (columns_of schema table) found) ≡ true) where
      pub order_FilledBySite : fills_some (columns_of schema table) found ≡ true → first_refusal (order_steps schema table key sets) ≡ Some refusal.FilledBySite
      order_FilledBySite fills = rw (are.known, takes_are, fits, fills_are, fills) refl

      pub AreInOrder-found : fills_some (columns_of schema table) found ≡ false → AreInOrder schema table key sets found
      AreInOrder-found unfilled = record { are = are; fits = rw takes_are fits; unfilled = fills_are ∙ unfilled }

-- such a step refuses the update
pub update_order : (schema : Schema) (here : Here) (standing : BlockState) (table : ℕ) (key : List Literal) (sets : List Set) (why : Refusal) → first_refusal (order_steps schema table key sets) ≡ Some why
    → first_refusal (update_steps schema here standing table key sets) ≡ Some why
update_order schema here standing table key sets why refuses =
    go (refused (not (names_columns (columns_of schema table) sets)) refusal.UnknownName) (refused (not (key_literals_fit schema (columns_of schema table) key && sets_fit (columns_of schema table) sets)) refusal.RowShape)
    (refused (sets_filled (columns_of schema table) sets) refusal.FilledBySite) refuses
  where
    go : (a b c : Option Refusal) → or_then a (or_then b (or_then c None)) ≡ Some why
        → or_then a (or_then b (or_then c (first_refusal (there (row_at schema standing.tables table (values_of key)) (changed_row_steps schema here standing table sets))))) ≡ Some why
    go (Some x) b c e = e
    go None (Some y) c e = e
    go None None (Some z) e = e
    go None None None e = cc

module _ (schema : Schema) (footing : BlockProgress) (tables : List Rows) (table : ℕ) (able : CanRun schema tables table) where
  abbrev columns : List Column
  columns = columns_of schema table

  abbrev standing : BlockState
  standing = block_state_of footing tables

  -- an insert whose literals fit
  module _ (values : List Literal) (shape : literals_fit schema (written_columns columns) values ≡ true) where
    abbrev written : Cells
    written = row_written columns (values_of values)

    abbrev made_new : RowMade
    made_new = inserted_capped columns footing.here.site footing.stamps written

    pub length-written : length columns ≡ length written
    length-written = sym (length-row_written columns values (length-literals_fit schema (written_columns columns) values shape))

    pub IsKindly-inserted : FitsButForRange schema table made_new.row
    IsKindly-inserted = FitsButForRange-written schema table values (record { stamp = capped (next_stamp footing.stamps 0); site = footing.here.site }) everywhere shape

    -- its new row is refused as it is
    pub insert_refusal : first_refusal (new_row_steps schema footing.here standing table made_new.row) ≡ first_refusal (insert_steps schema footing.here standing table values)
    insert_refusal = new_row_steps-inserted schema footing.here standing table (able.are.each table able.of_table) written length-written ∙ rw shape refl

    -- a new row that isn't refused
    module _ (none : first_refusal (new_row_steps schema footing.here standing table made_new.row) ≡ None) where
      parts : (row_at schema tables table (key_of columns made_new.row) ≡ None) × IsAccepted schema tables table made_new.row
      parts =
          let taken = or_then-None (refused (is_some (row_at schema tables table (key_of columns made_new.row))) refusal.KeyTaken) _ none in
          let bars = or_then-None (barred schema footing.side table (not footing.here.is_master)) _ taken.1 in
          let own = or_then-None (own_key_step schema footing.here table made_new.row) (first_refusal (row_steps schema tables table made_new.row)) bars.1 in
          (gone_is (row_at schema tables table (key_of columns made_new.row)) (refused-None _ refusal.KeyTaken taken.0), accepted_row schema tables table made_new.row own.1)

      pub RowFits-inserted : RowFits columns made_new.row
      RowFits-inserted = RowFits-accepted schema tables table made_new.row IsKindly-inserted parts.1

      pub IsUniqueRow-inserted : IsUniqueRow schema table made_new.row (rows_of tables table)
      IsUniqueRow-inserted = IsUniqueRow-accepted schema tables table made_new.row (able.are.each table able.of_table) IsKindly-inserted parts.1

      same : made_new ≡ insert_made schema footing.here footing.stamps table values
      same = made_with-capped columns footing.here.site footing.stamps.last everywhere (next_stamp footing.stamps 0) written length-written parts.1.range

      pub RunsAs-inserted : (change : Change) → change ≡ record { table = table; before = row_like columns made_new.row (rows_of tables table); after = Some made_new.row }
          → RunsAs schema table (first_refusal (insert_steps schema footing.here standing table values)) (insert_in schema footing.here standing table values) (change ∷ []) footing (progress_after schema table made_new.last footing)
      RunsAs-inserted change is = record {
        accepted = sym insert_refusal ∙ none;
        changes = subst (λ (made : RowMade). change ∷ [] ≡ changes_between table (row_at schema tables table (key_of columns made.row)) (Some made.row)) same (rw parts.0 (ap (λ c. c ∷ []) (is ∙ rw parts.0 refl)));
        footing = ap (λ (made : RowMade). progress_after schema table made.last footing) same;
      }

  -- an update whose key and sets are in order
  module _ (key : List Literal) (sets : List Set) (found : List (Option Set)) (order : AreInOrder schema table key sets found) where
    pub IsKeyLen-key : IsKeyLen (length key)
    IsKeyLen-key = IsKeyLen-fits schema tables table able key (and_parts (key_literals_fit schema columns key) (sets_fit columns sets) order.fits).0

    update_there : first_refusal (update_steps schema footing.here standing table key sets) ≡ first_refusal (there (row_at schema tables table (values_of key)) (changed_row_steps schema footing.here standing table sets))
    update_there = rw (order.are.known, order.fits, order.unfilled) refl

    pub update_NoRow : row_at schema tables table (values_of key) ≡ None → first_refusal (update_steps schema footing.here standing table key sets) ≡ Some refusal.NoRow
    update_NoRow gone = update_there ∙ rw gone refl

    module _ (before : Cells) (is_there : row_at schema tables table (values_of key) ≡ Some before) where
      pub before_fits : RowFits columns before
      before_fits = found_row columns (values_of key) before (rows_of tables table) is_there (RowFits columns) (able.are.each table able.of_table).fit

      by_sets : row_by found before ≡ row_with sets columns before
      by_sets = rw order.are.each (row_by-sets sets columns before)

      unfilled : fills_some columns found ≡ false
      unfilled = rw order.are.each (fills_some-sets sets columns ∙ order.unfilled)

      abbrev made_by : RowMade
      made_by = update_made schema footing.here footing.stamps table sets before

      abbrev changed : List (Option Refusal)
      changed = changed_row_steps schema footing.here standing table sets before

      update_changed : first_refusal (update_steps schema footing.here standing table key sets) ≡ first_refusal changed
      update_changed = update_there ∙ rw is_there refl

      -- a step up to the ranges of what is set refuses
      pub update_refused : (why : Refusal) → StatementStopsAs (first_refusal (change_steps schema footing.side table before (row_by found before))) why
          → StatementStopsAs (first_refusal (update_steps schema footing.here standing table key sets)) why
      update_refused why (inl memory) = inl memory
      update_refused why (inr refuses) =
          inr (update_changed ∙ go (barred schema footing.side table false) (rule_step schema table before (row_with sets columns before)) (row_in_range (row_with sets columns before)) refl (rw by_sets at refuses))
        where
          out : row_in_range (row_with sets columns before) ≡ false → first_refusal (row_steps schema tables table made_by.row) ≡ Some refusal.ValueRange
          out beyond =
              let range = (are_of-RowFits columns before before_fits).1 in
              let filled = out_of_range-filled (record { stamp = next_stamp footing.stamps (bound_from (is_modified schema table before (row_with sets columns before)) 0 columns before); site = footing.here.site })
              (is_modified schema table before (row_with sets columns before)) 0 columns found before unfilled range (rw by_sets beyond) in
              row_steps-out schema tables table made_by.row (rw by_sets at filled)

          go : (bars rule : Option Refusal) (b : Bool) → row_in_range (row_with sets columns before) ≡ b → or_then bars (or_then rule (or_then (refused (not b) refusal.ValueRange) None)) ≡ Some why
              → or_then bars (or_then rule (first_refusal (row_steps schema tables table made_by.row))) ≡ Some why
          go (Some bar) rule b range e = e
          go None (Some broken) b range e = e
          go None None true range e = cc
          go None None false range e = out range ∙ e

      -- the row that it makes
      module _ (made : RowMade) (change_to : ChangesTo schema footing table before (row_by found before) made) where
        passed : (barred schema footing.side table false ≡ None) × (rule_step schema table before (row_with sets columns before) ≡ None)
        passed =
            let bars = or_then-None (barred schema footing.side table false) _ (rw by_sets at change_to.accepted) in
            let rule = or_then-None (rule_step schema table before (row_with sets columns before)) _ bars.1 in
            (bars.0, rule.0)

        long : length columns ≡ length (row_with sets columns before)
        long = length-fits columns before before_fits ∙ sym (length-row_with sets columns before (length-fits columns before before_fits))

        abbrev modified : ℕ → Bool
        modified = is_modified schema table before (row_with sets columns before)

        abbrev stamp : ℕ
        stamp = next_stamp footing.stamps (bound_from modified 0 columns before)

        is_made : made ≡ made_with columns footing.here.site footing.stamps.last modified (capped stamp) (row_with sets columns before)
        is_made = rw by_sets at change_to.gives

        pub IsKindly-made : FitsButForRange schema table made.row
        IsKindly-made = rw is_made (FitsButForRange-set schema table sets before (record { stamp = capped stamp; site = footing.here.site }) modified
            (and_parts (key_literals_fit schema columns key) (sets_fit columns sets) order.fits).1 before_fits)

        update_row_steps : first_refusal (update_steps schema footing.here standing table key sets) ≡ first_refusal (row_steps schema tables table made.row)
        update_row_steps =
            update_changed ∙ rw (passed.0, passed.1) (sym (subst (λ (one : RowMade). first_refusal (row_steps schema tables table one.row) ≡ first_refusal (row_steps schema tables table made_by.row)) (sym is_made)
            (row_steps-capped schema tables table columns footing.here.site footing.stamps.last modified stamp (row_with sets columns before) long)))

        pub update_row_refused : (why : Refusal) → first_refusal (row_steps schema tables table made.row) ≡ Some why → first_refusal (update_steps schema footing.here standing table key sets) ≡ Some why
        update_row_refused why refuses = update_row_steps ∙ refuses

        -- it has the key of the row that was there
        pub row_like-made : KeysStandAlone schema → row_like columns made.row (rows_of tables table) ≡ Some before
        row_like-made apart =
            let own : key_of columns before ≡ values_of key = key_of-found columns (values_of key) before (rows_of tables table) is_there in
            let kept = key_of-set schema table apart able.of_table sets before before (row_with sets columns before) (record { stamp = capped stamp; site = footing.here.site })
            (and_parts (key_literals_fit schema columns key) (sets_fit columns sets) order.fits).1 in
            rw is_made (ap (λ k. find_row columns k (rows_of tables table)) (kept ∙ own)) ∙ is_there

        module _ (none : first_refusal (row_steps schema tables table made.row) ≡ None) where
          accepted : IsAccepted schema tables table made.row
          accepted = accepted_row schema tables table made.row none

          pub RowFits-made : RowFits columns made.row
          RowFits-made = RowFits-accepted schema tables table made.row IsKindly-made accepted

          pub IsUniqueRow-made : IsUniqueRow schema table made.row (rows_of tables table)
          IsUniqueRow-made = IsUniqueRow-accepted schema tables table made.row (able.are.each table able.of_table) IsKindly-made accepted

          same_made : made ≡ made_by
          same_made = is_made ∙ made_with-capped columns footing.here.site footing.stamps.last modified stamp (row_with sets columns before) long (rw is_made at accepted.range)

          pub RunsAs-updated : (changes : List Change) → changes ≡ changes_between table (Some before) (Some made.row)
              → RunsAs schema table (first_refusal (update_steps schema footing.here standing table key sets)) (update_in schema footing.here standing table key sets) changes footing (progress_after schema table made.last footing)
          RunsAs-updated changes are = record {
            accepted = update_row_steps ∙ none;
            changes = rw is_there (subst (λ (one : RowMade). changes ≡ changes_between table (Some before) (Some one.row)) same_made are);
            footing = rw is_there (ap (λ (one : RowMade). progress_after schema table one.last footing) same_made);
          }

  -- a delete whose key fits
  module _ (key : List Literal) (fits : key_literals_fit schema columns key ≡ true) where
    pub delete_NoRow : row_at schema tables table (values_of key) ≡ None → first_refusal (delete_steps schema standing table key) ≡ Some refusal.NoRow
    delete_NoRow gone = rw (fits, gone) refl

    module _ (row : Cells) (is_there : row_at schema tables table (values_of key) ≡ Some row) where
      pub delete_refusal : first_refusal (delete_steps schema standing table key) ≡ barred schema footing.side table true
      delete_refusal = rw (fits, is_there) (or_then-last (barred schema footing.side table true))

      pub RunsAs-deleted : barred schema footing.side table true ≡ None → (change : Change) → change ≡ record { table = table; before = Some row; after = None }
          → RunsAs schema table (first_refusal (delete_steps schema standing table key)) (delete_in schema standing table key) (change ∷ []) footing (progress_after schema table footing.stamps.last footing)
      RunsAs-deleted none change is = record {
        accepted = delete_refusal ∙ none;
        changes = rw is_there (ap (λ c. c ∷ []) is);
        footing = refl;
      }
