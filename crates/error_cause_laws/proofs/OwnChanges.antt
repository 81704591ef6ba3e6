-- What a site's own block changes: all of it on one side of the tables, and a new row of a convergent table at a master alone,
-- with the master's name in front of its key.
use Rattle.std.proofs.Common.{◌≡◌, ℕ, ◌+◌, Bool, true, false, cond, List, [], ◌∷◌, ◌++◌, Some, None, Ok, Err, refl, sym, ap, ◌∙◌, subst}
use Rattle.std.specs.Prelude.{Option, Result, ◌&&◌, ◌||◌, not, nat_le, is_some, length}
use Rattle.std.specs.List.{AllByRecursion}
use Rattle.rep_values.specs.declared.refusal.Refusal.{Refusal}
use Rattle.rep_values.specs.declared.refusal.Refusal.TheVariants as refusal
use Rattle.rep_values.specs.declared.refusal.Limit.TheVariants as limit
use Rattle.rep_values.specs.declared.value.Value.TheVariants.{Words}
use Rattle.rep_values.specs.RefusalSteps.{refused, first_refusal}
use Rattle.rep_values.proofs.RefusalSteps.{or_then-None, refused-None}
use Rattle.rep_schema.specs.declared.schema.Schema.{Schema}
use Rattle.rep_schema.specs.declared.change.Change.{Change}
use Rattle.rep_schema.specs.Tables.{Cells, Rows, columns_of, key_of}
use Rattle.rep_schema.specs.Named.{table_place}
use Rattle.rep_schema.specs.Putting.{is_unchanged, changes_between}
use Rattle.rep_calls.specs.declared.statement.Statement.{Statement}
use Rattle.rep_calls.specs.declared.statement.Statement.TheVariants.{Insert, Update, Delete}
use Rattle.txn_effects.specs.declared.local.Here.{Here}
use Rattle.txn_effects.specs.declared.local.Stamps.{Stamps}
use Rattle.txn_effects.specs.declared.local.LocalStop.{LocalStop}
use Rattle.txn_effects.specs.declared.side.Side.{Side}
use Rattle.txn_effects.specs.declared.side.Side.TheVariants as which
use Rattle.txn_effects.specs.Held.{statement_table, held_table}
use Rattle.txn_effects.specs.Literals.{literals_fit, key_literals_fit, values_of}
use Rattle.txn_effects.specs.Sets.{names_columns, sets_fit, sets_filled}
use Rattle.txn_effects.specs.Filled.{written_columns}
use Rattle.txn_effects.specs.Convergent.{is_convergent, side_of, is_other, mixes, barred, begins_with, own_key_step}
use Rattle.txn_effects.specs.Statements.{BlockState, row_at, insert_made, update_made, update_outcome, outcome_in, outcome_changes, row_steps, there, new_row_steps, changed_row_steps, steps_in, statement_refusal, statement_changes, block_state_after}
use Rattle.txn_effects.specs.Locals.{BlockEffect, unless_refused, block_effect_behind, statements_effect, block_beginning, local_effect, most_statements, stop_at}
use Rattle.txn_effects.proofs.StatementEffects.{place-held, refusal-held, changes-held}

-- a change on one side of the tables; a new row of a convergent table is a master's, with its name in front of the key
pub record IsOwnChange (schema : Schema) (here : Here) (side : Side) (change : Change) : Type 0 where
  pub on_side : side_of schema change.table ≡ side
  pub own : is_convergent schema change.table ≡ true → (row : Cells) → change.before ≡ None → change.after ≡ Some row
      → (here.is_master ≡ true) × (begins_with (Words here.site.0) (key_of (columns_of schema change.table) row) ≡ true)

module _ (schema : Schema) (here : Here) where
  abbrev pub AreOwn : Side → List Change → Type 0
  AreOwn side changes = AllByRecursion (IsOwnChange schema here side) changes

  or_left : (a b : Bool) → (a || b) ≡ false → a ≡ false
  or_left true b e = cc
  or_left false b e = refl

  or_right : (a b : Bool) → (a || b) ≡ false → b ≡ false
  or_right true b e = cc
  or_right false b e = e

  one_change : (side : Side) (table : ℕ) (before after : Option Cells) → IsOwnChange schema here side (record { table = table; before = before; after = after }) → AreOwn side (changes_between table before after)
  one_change side table before after is = go (is_unchanged before after)
    where
      go : (b : Bool) → AreOwn side (cond b [] (record { table = table; before = before; after = after } ∷ []))
      go true = tt
      go false = (is, tt)

  -- a statement that isn't barred doesn't mix
  unmixed : (standing : BlockState) (table : ℕ) (bars : Bool) → barred schema standing.side table bars ≡ None → mixes standing.side (side_of schema table) ≡ false
  unmixed standing table bars none = or_right (is_convergent schema table && bars) (mixes standing.side (side_of schema table)) (refused-None _ refusal.Barred none)

  module _ (standing : BlockState) (table : ℕ) where
    abbrev OnItsSide : List Change → Type 0
    OnItsSide changes = AreOwn (side_of schema table) changes × (mixes standing.side (side_of schema table) ≡ false)

    update_own : (before : Cells) (after : Option Cells) → AreOwn (side_of schema table) (changes_between table (Some before) after)
    update_own before after = one_change (side_of schema table) table (Some before) after (record { on_side = refl; own = λ convergent row none is. absurd (cc none) })

    statement_own : (statement : Statement) → first_refusal (steps_in schema here standing table statement) ≡ None → OnItsSide (outcome_changes table (outcome_in schema here standing table statement))
    statement_own (Insert name values) none =
        let row : Cells = (insert_made schema here standing.stamps table values).row in
        let first = or_then-None (refused (not (literals_fit schema (written_columns (columns_of schema table)) values)) refusal.RowShape) (first_refusal (new_row_steps schema here standing table row)) none in
        let taken = or_then-None (refused (is_some (row_at schema standing.tables table (key_of (columns_of schema table) row))) refusal.KeyTaken) _ first.1 in
        let bars = or_then-None (barred schema standing.side table (not here.is_master)) _ taken.1 in
        let key = or_then-None (own_key_step schema here table row) (first_refusal (row_steps schema standing.tables table row)) bars.1 in (
          one_change (side_of schema table) table (row_at schema standing.tables table (key_of (columns_of schema table) row)) (Some row) (record {
            on_side = refl;
            own = λ convergent other before after.
                let same : row ≡ other = cc after in
                let off_site : (is_convergent schema table && not (begins_with (Words here.site.0) (key_of (columns_of schema table) row))) ≡ false = refused-None _ refusal.KeyNotOwn key.0 in
                let off_master : (is_convergent schema table && not here.is_master) ≡ false = or_left (is_convergent schema table && not here.is_master) (mixes standing.side (side_of schema table)) (refused-None _ refusal.Barred bars.0) in
                (on here.is_master (rw convergent at off_master), rw (← same) (on (begins_with (Words here.site.0) (key_of (columns_of schema table) row)) (rw convergent at off_site)));
          }),
          unmixed standing table (not here.is_master) bars.0,
        )
      where
        on : (b : Bool) → not b ≡ false → b ≡ true
        on true e = refl
        on false e = cc
    statement_own (Update name key sets) none =
        let names = or_then-None (refused (not (names_columns (columns_of schema table) sets)) refusal.UnknownName) _ none in
        let shape = or_then-None (refused (not (key_literals_fit schema (columns_of schema table) key && sets_fit (columns_of schema table) sets)) refusal.RowShape) _ names.1 in
        let written = or_then-None (refused (sets_filled (columns_of schema table) sets) refusal.FilledBySite) (first_refusal (there (row_at schema standing.tables table (values_of key)) (changed_row_steps schema here standing table sets))) shape.1 in
        go (row_at schema standing.tables table (values_of key)) written.1
      where
        go : (o : Option Cells) → first_refusal (there o (changed_row_steps schema here standing table sets)) ≡ None
            → OnItsSide (outcome_changes table (update_outcome standing.stamps.last (update_made schema here standing.stamps table sets) o))
        go None e = cc
        go (Some found) e =
            let bars = or_then-None (barred schema standing.side table false) _ e in
            (update_own found (Some (update_made schema here standing.stamps table sets found).row), unmixed standing table false bars.0)
    statement_own (Delete name key) none = go (row_at schema standing.tables table (values_of key)) (or_then-None (refused (not (key_literals_fit schema (columns_of schema table) key)) refusal.RowShape) _ none).1
      where
        go : (o : Option Cells) → first_refusal (there o (λ row. barred schema standing.side table true ∷ [])) ≡ None → OnItsSide (outcome_changes table (record { before = o; after = None; last = standing.stamps.last }))
        go None e = cc
        go (Some row) e =
            let bars = or_then-None (barred schema standing.side table true) None e in
            (update_own row None, unmixed standing table true bars.0)

  -- ---- one statement, and a block

  each_append : (side : Side) (changes others : List Change) → AreOwn side changes → AreOwn side others → AreOwn side (changes ++ others)
  each_append side [] others first rest = rest
  each_append side (c ∷ cs) others first rest = (first.0, each_append side cs others first.1 rest)

  -- what a statement does: its changes are on the side on which the block stands then
  record Does (standing : BlockState) (statement : Statement) : Type 0 where
    side : Side
    own : AreOwn side (statement_changes schema here standing statement)
    unmixed_with : mixes standing.side side ≡ false
    after : (block_state_after schema here standing statement).side ≡ Some side

  statement_does : (standing : BlockState) (statement : Statement) → statement_refusal schema here standing statement ≡ None → Does standing statement
  statement_does standing statement none = go (held_table schema here statement) refl
    where
      go : (place : Option ℕ) → held_table schema here statement ≡ place → Does standing statement
      go None nowhere = let refuses = rw nowhere at none in cc
      go (Some table) held =
          let own = statement_own standing table statement (sym (refusal-held schema here standing statement table held) ∙ none) in
          let place : table_place schema (statement_table statement) ≡ Some table = place-held here (table_place schema (statement_table statement)) table held in
          record {
            side = side_of schema table;
            own = rw (changes-held schema here standing statement table held) own.0;
            unmixed_with = own.1;
            after = rw place refl;
          }

  same_side : (one other : Side) → is_other one other ≡ false → one ≡ other
  same_side which.Convergent which.Convergent e = refl
  same_side which.Convergent which.Ordinary e = cc
  same_side which.Ordinary which.Convergent e = cc
  same_side which.Ordinary which.Ordinary e = refl

  -- on the side on which a block stands already
  statements_own : (side : Side) (statements : List Statement) (number : ℕ) (standing : BlockState) (block : BlockEffect) → standing.side ≡ Some side → statements_effect schema here number statements standing ≡ Ok block
      → AreOwn side block.changes
  statements_own side [] number standing block at gives =
      let none : record { changes = []; stamps = standing.stamps } ≡ block = cc in
      subst (λ (b : BlockEffect). AreOwn side b.changes) none tt
  statements_own side (s ∷ ss) number standing block at gives =
      go (statement_refusal schema here standing s) refl (statements_effect schema here (number + 1) ss (block_state_after schema here standing s)) refl gives
      (λ later stands is. statements_own side ss (number + 1) (block_state_after schema here standing s) later stands is)
    where
      go : (r : Option Refusal) → statement_refusal schema here standing s ≡ r → (rest : Result BlockEffect LocalStop) → statements_effect schema here (number + 1) ss (block_state_after schema here standing s) ≡ rest
          → unless_refused r number (block_effect_behind (statement_changes schema here standing s) rest) ≡ Ok block
          → ((later : BlockEffect) → (block_state_after schema here standing s).side ≡ Some side → statements_effect schema here (number + 1) ss (block_state_after schema here standing s) ≡ Ok later → AreOwn side later.changes)
          → AreOwn side block.changes
      go (Some why) refuses rest is e more = cc
      go None none (Err stop) is e more = cc
      go None none (Ok later) is e more =
          let does = statement_does standing s none in
          let one : side ≡ does.side = same_side side does.side (subst (λ o. mixes o does.side ≡ false) at does.unmixed_with) in
          let same : record { changes = statement_changes schema here standing s ++ later.changes; stamps = later.stamps } ≡ block = cc in
          subst (λ (b : BlockEffect). AreOwn side b.changes) same
          (each_append side (statement_changes schema here standing s) later.changes (rw one does.own) (more later (does.after ∙ ap (λ o. Some o) (sym one)) is))

  -- on the side of the first statement
  block_own_from : (statements : List Statement) (number : ℕ) (standing : BlockState) (block : BlockEffect) → statements_effect schema here number statements standing ≡ Ok block
      → (side : Side) × AreOwn side block.changes
  block_own_from [] number standing block gives =
      let none : record { changes = []; stamps = standing.stamps } ≡ block = cc in
      (which.Convergent, subst (λ (b : BlockEffect). AreOwn which.Convergent b.changes) none tt)
  block_own_from (s ∷ ss) number standing block gives = go (statement_refusal schema here standing s) refl (statements_effect schema here (number + 1) ss (block_state_after schema here standing s)) refl gives
    where
      go : (r : Option Refusal) → statement_refusal schema here standing s ≡ r → (rest : Result BlockEffect LocalStop) → statements_effect schema here (number + 1) ss (block_state_after schema here standing s) ≡ rest
          → unless_refused r number (block_effect_behind (statement_changes schema here standing s) rest) ≡ Ok block → (side : Side) × AreOwn side block.changes
      go (Some why) refuses rest is e = cc
      go None none (Err stop) is e = cc
      go None none (Ok later) is e =
          let does = statement_does standing s none in
          let same : record { changes = statement_changes schema here standing s ++ later.changes; stamps = later.stamps } ≡ block = cc in (
            does.side,
            subst (λ (b : BlockEffect). AreOwn does.side b.changes) same
                (each_append does.side (statement_changes schema here standing s) later.changes does.own (statements_own does.side ss (number + 1) (block_state_after schema here standing s) later does.after is)),
          )

  pub block_changes_own : (stamps : Stamps) (statements : List Statement) (tables : List Rows) (block : BlockEffect) → local_effect schema here stamps statements tables ≡ Ok block → (side : Side) × AreOwn side block.changes
  block_changes_own stamps statements tables block gives = go (nat_le (length statements) most_statements) gives
    where
      go : (b : Bool) → cond b (statements_effect schema here 1 statements (block_beginning stamps tables)) (stop_at (most_statements + 1) (refusal.LimitReached limit.Statements)) ≡ Ok block → (side : Side) × AreOwn side block.changes
      go true e = block_own_from statements 1 (block_beginning stamps tables) block e
      go false e = cc
