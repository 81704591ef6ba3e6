-- The transaction that a block of statements makes keeps the forms of groups.
use Rattle.std.proofs.Common.{◌≡◌, ℕ, zero, suc, ◌+◌, ◌<◌, Bool, true, false, cond, List, [], ◌∷◌, ◌++◌, length, map, Some, None, Ok, Err, refl, sym, ◌∙◌, subst}
use Rattle.std.specs.Prelude.{Option, Result, ◌&&◌, ◌||◌, not, nat_le, is_some, slice_get}
use Rattle.std.specs.Option.{option_map}
use Rattle.std.specs.List.{AllByRecursion, find}
use Rattle.rep_values.specs.declared.literal.Literal.{Literal}
use Rattle.rep_values.specs.declared.name.TableName.{TableName}
use Rattle.rep_values.specs.declared.refusal.Refusal.{Refusal}
use Rattle.rep_values.specs.declared.refusal.Refusal.TheVariants as refusal
use Rattle.rep_values.specs.declared.refusal.Limit.TheVariants as limit
use Rattle.rep_values.specs.RefusalSteps.{refused, first_refusal}
use Rattle.rep_values.proofs.RefusalSteps.{or_then-None, refused-None}
use Rattle.rep_schema.specs.declared.schema.Schema.{Schema}
use Rattle.rep_schema.specs.declared.schema.Column.{Column}
use Rattle.rep_schema.specs.declared.schema.Group.{Group}
use Rattle.rep_schema.specs.declared.schema.Kind.{Kind}
use Rattle.rep_schema.specs.declared.schema.Kind.TheVariants as kind
use Rattle.rep_schema.specs.declared.change.Change.{Change}
use Rattle.rep_schema.specs.Tables.{Cells, Rows, columns_of, key_of, rows_of, RowFits, AreTables}
use Rattle.rep_schema.specs.Groups.{groups_of}
use Rattle.rep_schema.specs.Kinds.{is_number, is_stamp, is_site_kind, has_kind}
use Rattle.rep_schema.specs.Named.{is_table, table_place}
use Rattle.rep_schema.specs.Putting.{is_unchanged, changes_between, after_changes}
use Rattle.rep_schema.proofs.FoundRows.{found_row}
use Rattle.schema_rules.specs.declared.forms.Form.{Form}
use Rattle.schema_rules.specs.declared.forms.Form.TheVariants as form
use Rattle.schema_rules.specs.Forms.{form_of}
use Rattle.rep_calls.specs.declared.statement.Statement.{Statement}
use Rattle.rep_calls.specs.declared.statement.Statement.TheVariants.{Insert, Update, Delete}
use Rattle.rep_calls.specs.declared.statement.Set.{Set}
use Rattle.conflict_detect.specs.ChangeCalls.{call_of}
use Rattle.txn_effects.specs.declared.local.Here.{Here}
use Rattle.txn_effects.specs.declared.local.Stamps.{Stamps}
use Rattle.txn_effects.specs.declared.local.LocalStop.{LocalStop}
use Rattle.txn_effects.specs.Held.{statement_table, held_table}
use Rattle.txn_effects.specs.Literals.{literals_fit, key_literals_fit, values_of}
use Rattle.txn_effects.specs.Sets.{names_columns, sets_fit, sets_filled, row_with}
use Rattle.txn_effects.specs.Filled.{Filling, filling_value, filled_from, written_columns, is_modified, bound_from, next_stamp}
use Rattle.txn_effects.specs.Convergent.{is_convergent, barred, breaks, broken_group, rule_step}
use Rattle.txn_effects.specs.Statements.{BlockState, row_at, insert_made, update_made, update_outcome, outcome_in, outcome_changes, row_steps, there, new_row_steps, changed_row_steps, steps_in, statement_refusal, statement_changes, changes_at, block_state_at, block_state_after}
use Rattle.txn_effects.specs.NewRows.{CanRun}
use Rattle.txn_effects.specs.Locals.{BlockEffect, unless_refused, block_effect_behind, statements_effect, block_beginning, local_effect, most_statements, stop_at}
use Rattle.local_txn.specs.Laws.{StampsOfABlockRise}
use Rattle.txn_effects.proofs.StatementEffects.{IsAllowed, IsAllowed-statement, place-held, refusal-held, changes-held}
use Rattle.txn_effects.proofs.StatementsApplied.{place_within, IsApplied-one}
use Rattle.rep_laws.specs.Commuting.{IsSound}
use Rattle.rep_laws.proofs.SoundSchemas.{HasKeys-sound, KeysStandAlone-sound}
use Rattle.rep_laws.specs.GroupForms.{form_at, KeepsForms}
use Rattle.convergence_laws.specs.Laws.{BlocksKeepForms}
use Rattle.rep_laws.proofs.FormShapes.{form_at-named, IsOfKind-form_at}
use Rattle.convergence_laws.proofs.OwnChanges.{DoesNotLose, IsProperUpdate, IsProperIn, IsProper, FillsSome, each_fills, own_change_keeps}

-- ---- a column that isn't filled

unfilled : (k : Kind) (key : Bool) → is_number k ≡ true → (is_stamp k || (is_site_kind k && not key)) ≡ false
unfilled kind.Number key e = refl
unfilled kind.Words key e = cc
unfilled kind.Date key e = cc
unfilled kind.Stamp key e = cc
unfilled kind.Site key e = cc

-- a NUMBER is as it was set
kept_at : (filling : Filling) (chosen : ℕ → Bool) (n : ℕ) (columns : List Column) (row : Cells) (k : ℕ) → has_kind is_number columns k ≡ true → slice_get (filled_from filling chosen n columns row) k ≡ slice_get row k
kept_at filling chosen n [] row k number = cc
kept_at filling chosen n (d ∷ cs) [] k number = refl
kept_at filling chosen n (d ∷ cs) (v ∷ vs) zero number = rw (unfilled d.kind d.key number) (go (chosen n))
  where
    go : (b : Bool) → Some (cond (b && false) (filling_value filling d) v) ≡ Some v
    go true = refl
    go false = refl
kept_at filling chosen n (d ∷ cs) (v ∷ vs) (suc k) number = kept_at filling chosen (n + 1) cs vs k number

-- ---- the rule of convergent tables

find_none : {X : Type 0} (test : X → Bool) (xs : List X) (i : ℕ) (x : X) → find test xs ≡ None → slice_get xs i ≡ Some x → test x ≡ false
find_none test [] i x none there = cc
find_none test (y ∷ ys) i x none there = go (test y) refl none i there (λ k later at. find_none test ys k x later at)
  where
    go : (b : Bool) → test y ≡ b → cond b (Some y) (find test ys) ≡ None → (i : ℕ) → slice_get (y ∷ ys) i ≡ Some x → ((k : ℕ) → find test ys ≡ None → slice_get ys k ≡ Some x → test x ≡ false) → test x ≡ false
    go true is e i there later = cc
    go false is e zero there later = let same : y ≡ x = cc in rw (← same) is
    go false is e (suc i) there later = later i e there

no_option : {X Y : Type 0} (f : X → Y) (o : Option X) → option_map f o ≡ None → o ≡ None
no_option f None e = refl
no_option f (Some x) e = cc

-- a change that keeps the rule loses no number
rule_keeps : (schema : Schema) (table : ℕ) (before after : Cells) → is_convergent schema table ≡ true → rule_step schema table before after ≡ None → IsSound schema
    → (group : ℕ) (f : Form) → form_at schema table group ≡ Some f → DoesNotLose f before after
rule_keeps schema table before after convergent none sound group f has =
    let named = form_at-named schema sound table group f has in
    let unbroken : broken_group schema table before after ≡ None = no_option (λ (g : Group). refusal.RuleBroken g.name) (broken_group schema table before after) (rw convergent at none) in
    let formed : form_of (columns_of schema table) named.0 ≡ Some f = rw named.1 at has in
    let each = find_none (λ (g : Group). breaks (form_of (columns_of schema table) g) before after) (groups_of schema table) group named.0 unbroken named.1 in
    go f (rw formed at each)
  where
    go : (f : Form) → breaks (Some f) before after ≡ false → DoesNotLose f before after
    go form.Sum e = tt
    go (form.Greatest c) e = e
    go (form.Least c) e = e
    go (form.Latest stamp site) e = tt

-- nor does the row with its columns filled in
filled_keeps : (schema : Schema) (table group : ℕ) (f : Form) → IsSound schema → form_at schema table group ≡ Some f → (filling : Filling) (chosen : ℕ → Bool) (before after : Cells)
    → DoesNotLose f before after → DoesNotLose f before (filled_from filling chosen 0 (columns_of schema table) after)
filled_keeps schema table group form.Sum sound has filling chosen before after keeps = tt
filled_keeps schema table group (form.Greatest c) sound has filling chosen before after keeps =
    rw (kept_at filling chosen 0 (columns_of schema table) after c (IsOfKind-form_at schema sound table group (form.Greatest c) has)) keeps
filled_keeps schema table group (form.Least c) sound has filling chosen before after keeps =
    rw (kept_at filling chosen 0 (columns_of schema table) after c (IsOfKind-form_at schema sound table group (form.Least c) has)) keeps
filled_keeps schema table group (form.Latest stamp site) sound has filling chosen before after keeps = tt

module _ (schema : Schema) (sound : IsSound schema) (here : Here) where
  abbrev AllProper : List Change → Type 0
  AllProper changes = AllByRecursion (IsProper schema) changes

  one_change : (table : ℕ) (before after : Option Cells) → (is_convergent schema table ≡ true → IsProperIn schema table before after) → AllProper (changes_between table before after)
  one_change table before after proper = go (is_unchanged before after)
    where
      go : (b : Bool) → AllProper (cond b [] (record { table = table; before = before; after = after } ∷ []))
      go true = tt
      go false = (proper, tt)

  -- ---- one statement on its table

  module _ (standing : BlockState) (table : ℕ) (able : CanRun schema standing.tables table) where
    proper_update : (name : TableName) (key : List Literal) (sets : List Set) → first_refusal (steps_in schema here standing table (Update name key sets)) ≡ None → (found : Cells)
        → row_at schema standing.tables table (values_of key) ≡ Some found → is_convergent schema table ≡ true
        → IsProperUpdate schema table found (update_made schema here standing.stamps table sets found).row
    proper_update name key sets none found at convergent =
        let columns = columns_of schema table in
        let names = or_then-None (refused (not (names_columns columns sets)) refusal.UnknownName) _ none in
        let shape = or_then-None (refused (not (key_literals_fit schema columns key && sets_fit columns sets)) refusal.RowShape) _ names.1 in
        let written = or_then-None (refused (sets_filled columns sets) refusal.FilledBySite) (first_refusal (there (row_at schema standing.tables table (values_of key)) (changed_row_steps schema here standing table sets))) shape.1 in
        let steps : first_refusal (changed_row_steps schema here standing table sets found) ≡ None = rw at at written.1 in
        let bars = or_then-None (barred schema standing.side table false) _ steps in
        let rule = or_then-None (rule_step schema table found (row_with sets columns found)) (first_refusal (row_steps schema standing.tables table (update_made schema here standing.stamps table sets found).row)) bars.1 in
        let allowed : IsAllowed schema table standing.tables (Some found) (Some (update_made schema here standing.stamps table sets found).row) =
        subst (λ o. IsAllowed schema table standing.tables (update_outcome standing.stamps.last (update_made schema here standing.stamps table sets) o).before (update_outcome standing.stamps.last (update_made schema here standing.stamps table sets) o).after) at
        (IsAllowed-statement schema here standing table able (KeysStandAlone-sound schema sound.unbroken) (Update name key sets) none) in
        record {
          before_fits = found_row columns (values_of key) found (rows_of standing.tables table) at (RowFits columns) (able.are.each table able.of_table).fit;
          after_fits = allowed.change.fits;
          keeps = λ group f has. filled_keeps schema table group f sound has
              (record { stamp = next_stamp standing.stamps (bound_from (is_modified schema table found (row_with sets columns found)) 0 columns found); site = here.site })
              (is_modified schema table found (row_with sets columns found)) found (row_with sets columns found)
              (rule_keeps schema table found (row_with sets columns found) convergent rule.0 sound group f has);
        }

    gone : (o : Option Cells) → is_some o ≡ false → o ≡ None
    gone None e = refl
    gone (Some row) e = cc

    statement_proper : (statement : Statement) → first_refusal (steps_in schema here standing table statement) ≡ None → AllProper (outcome_changes table (outcome_in schema here standing table statement))
    statement_proper (Insert name values) none =
        let row = (insert_made schema here standing.stamps table values).row in
        let first = or_then-None (refused (not (literals_fit schema (written_columns (columns_of schema table)) values)) refusal.RowShape) (first_refusal (new_row_steps schema here standing table row)) none in
        let taken = or_then-None (refused (is_some (row_at schema standing.tables table (key_of (columns_of schema table) row))) refusal.KeyTaken) _ first.1 in
        let free = gone (row_at schema standing.tables table (key_of (columns_of schema table) row)) (refused-None _ refusal.KeyTaken taken.0) in
        one_change table (row_at schema standing.tables table (key_of (columns_of schema table) row)) (Some row) (λ convergent. rw free tt)
    statement_proper (Update name key sets) none = go (row_at schema standing.tables table (values_of key)) refl
      where
        go : (o : Option Cells) → row_at schema standing.tables table (values_of key) ≡ o → AllProper (outcome_changes table (update_outcome standing.stamps.last (update_made schema here standing.stamps table sets) o))
        go None at = one_change table None None (λ convergent. tt)
        go (Some found) at = one_change table (Some found) (Some (update_made schema here standing.stamps table sets found).row) (λ convergent. proper_update name key sets none found at convergent)
    statement_proper (Delete name key) none = go (row_at schema standing.tables table (values_of key)) (or_then-None (refused (not (key_literals_fit schema (columns_of schema table) key)) refusal.RowShape) _ none).1
      where
        go : (o : Option Cells) → first_refusal (there o (λ row. barred schema standing.side table true ∷ [])) ≡ None → AllProper (outcome_changes table (record { before = o; after = None; last = standing.stamps.last }))
        go None e = one_change table None None (λ convergent. tt)
        go (Some row) e = one_change table (Some row) None (λ convergent.
            let bars = (or_then-None (barred schema standing.side table true) None e).0 in
            let wrong = rw convergent at (refused-None _ refusal.Barred bars) in
            cc)

  -- ---- one statement, and a block

  each_append : (changes others : List Change) → AllProper changes → AllProper others → AllProper (changes ++ others)
  each_append [] others first rest = rest
  each_append (c ∷ cs) others first rest = (first.0, each_append cs others first.1 rest)

  proper_one : (standing : BlockState) (statement : Statement) → AreTables schema standing.tables → statement_refusal schema here standing statement ≡ None → AllProper (statement_changes schema here standing statement)
  proper_one standing statement are none = go (held_table schema here statement) refl
    where
      go : (place : Option ℕ) → held_table schema here statement ≡ place → AllProper (statement_changes schema here standing statement)
      go None nowhere = let refuses = rw nowhere at none in cc
      go (Some table) held =
          let below : table < length schema.tables = place_within (is_table (statement_table statement)) schema.tables table (place-held here (table_place schema (statement_table statement)) table held) in
          let able : CanRun schema standing.tables table = record { shape = sound.shape; keyed = HasKeys-sound schema sound.unbroken sound.shape table below; are = are; of_table = below } in
          rw (changes-held schema here standing statement table held) (statement_proper standing table able statement (sym (refusal-held schema here standing statement table held) ∙ none))

  tables-standing_after : (standing : BlockState) (statement : Statement) → (block_state_after schema here standing statement).tables ≡ after_changes schema (statement_changes schema here standing statement) standing.tables
  tables-standing_after standing statement = go (table_place schema (statement_table statement))
    where
      go : (place : Option ℕ) → (block_state_at schema here standing place statement).tables ≡ after_changes schema (changes_at schema here standing place statement) standing.tables
      go None = refl
      go (Some table) = refl

  statements_proper : (statements : List Statement) (number : ℕ) (standing : BlockState) (block : BlockEffect) → AreTables schema standing.tables → statements_effect schema here number statements standing ≡ Ok block → AllProper block.changes
  statements_proper [] number standing block are gives =
      let none : record { changes = []; stamps = standing.stamps } ≡ block = cc in
      subst (λ (b : BlockEffect). AllProper b.changes) none tt
  statements_proper (s ∷ ss) number standing block are gives =
      go (statement_refusal schema here standing s) refl (statements_effect schema here (number + 1) ss (block_state_after schema here standing s)) refl gives
      (λ later are_later gives_later. statements_proper ss (number + 1) (block_state_after schema here standing s) later are_later gives_later)
    where
      go : (refusal : Option Refusal) → statement_refusal schema here standing s ≡ refusal
          → (rest : Result BlockEffect LocalStop) → statements_effect schema here (number + 1) ss (block_state_after schema here standing s) ≡ rest
          → unless_refused refusal number (block_effect_behind (statement_changes schema here standing s) rest) ≡ Ok block
          → ((later : BlockEffect) → AreTables schema (block_state_after schema here standing s).tables → statements_effect schema here (number + 1) ss (block_state_after schema here standing s) ≡ Ok later → AllProper later.changes)
          → AllProper block.changes
      go (Some why) refuses rest is e more = cc
      go None none (Err stop) is e more = cc
      go None none (Ok later) is e more =
          let applied = IsApplied-one schema here sound.shape (HasKeys-sound schema sound.unbroken sound.shape) (KeysStandAlone-sound schema sound.unbroken) standing s are none in
          let rest = more later (subst (AreTables schema) (sym (tables-standing_after standing s)) applied.are) is in
          let same : record { changes = statement_changes schema here standing s ++ later.changes; stamps = later.stamps } ≡ block = cc in
          subst (λ (b : BlockEffect). AllProper b.changes) same (each_append (statement_changes schema here standing s) later.changes (proper_one standing s are none) rest)

  block_proper : (stamps : Stamps) (statements : List Statement) (tables : List Rows) (block : BlockEffect) → AreTables schema tables → local_effect schema here stamps statements tables ≡ Ok block → AllProper block.changes
  block_proper stamps statements tables block are gives = go (nat_le (length statements) most_statements) gives
    where
      go : (b : Bool) → cond b (statements_effect schema here 1 statements (block_beginning stamps tables)) (stop_at (most_statements + 1) (refusal.LimitReached limit.Statements)) ≡ Ok block → AllProper block.changes
      go true e = statements_proper statements 1 (block_beginning stamps tables) block are e
      go false e = cc

  both_keep : (changes : List Change) → AllProper changes → AllByRecursion (FillsSome schema here.site) changes → AllByRecursion (KeepsForms schema) (map (call_of schema) changes)
  both_keep [] proper fills = tt
  both_keep (c ∷ cs) proper fills = (own_change_keeps schema sound here.site c proper.0 fills.0, both_keep cs proper.1 fills.1)

pub blocks_keep_forms : StampsOfABlockRise → BlocksKeepForms
blocks_keep_forms stamps_rise schema here stamps statements tables block sound are gives =
    let rises = stamps_rise schema here stamps statements tables block sound.shape are gives in
    both_keep schema sound here block.changes (block_proper schema sound here stamps statements tables block are gives)
    (each_fills schema here.site stamps.last block.stamps.last block.changes rises.rise)
