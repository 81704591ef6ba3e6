-- A block changes at most as many rows as it has statements.
use Rattle.std.proofs.Common.{◌≡◌, ℕ, suc, ◌+◌, ◌≤◌, List, [], ◌∷◌, ◌++◌, length, length-append, Bool, true, false, cond, Some, None, Ok, Err, refl, arith, subst}
use Rattle.std.specs.Prelude.{Option, Result, nat_le}
use Rattle.std.proofs.lemmas.Bool.Decides.{nat_tests}
use Rattle.rep_values.specs.declared.refusal.Refusal.{Refusal}
use Rattle.rep_values.specs.declared.refusal.Refusal.TheVariants as refusal
use Rattle.rep_values.specs.declared.refusal.Limit.TheVariants as limit
use Rattle.rep_schema.specs.declared.schema.Schema.{Schema}
use Rattle.rep_schema.specs.declared.change.Change.{Change}
use Rattle.rep_schema.specs.Tables.{Cells, Rows}
use Rattle.rep_schema.specs.Putting.{is_unchanged, changes_between}
use Rattle.rep_calls.specs.declared.statement.Statement.{Statement}
use Rattle.txn_effects.specs.declared.local.Here.{Here}
use Rattle.txn_effects.specs.declared.local.Stamps.{Stamps}
use Rattle.txn_effects.specs.declared.local.LocalStop.{LocalStop}
use Rattle.txn_effects.specs.Held.{statement_table}
use Rattle.txn_effects.specs.Statements.{BlockState, outcome_in, statement_refusal, statement_changes, block_state_after, changes_at}
use Rattle.txn_effects.specs.Locals.{BlockEffect, unless_refused, block_effect_behind, statements_effect, block_beginning, stop_at, most_statements, local_effect}
use Rattle.rep_schema.specs.Named.{table_place}

-- a row changes once at most
few_between : (table : ℕ) (before after : Option Cells) → length (changes_between table before after) ≤ 1
few_between table before after = go (is_unchanged before after)
  where
    change : Change
    change = record { table = table; before = before; after = after }

    go : (b : Bool) → length (cond b [] (change ∷ [])) ≤ 1
    go true = omega arith
    go false = omega arith

module _ (schema : Schema) (here : Here) where
  few_by_one : (standing : BlockState) (statement : Statement) → length (statement_changes schema here standing statement) ≤ 1
  few_by_one standing statement = go (table_place schema (statement_table statement))
    where
      go : (place : Option ℕ) → length (changes_at schema here standing place statement) ≤ 1
      go None = omega arith
      go (Some table) = few_between table (outcome_in schema here standing table statement).before (outcome_in schema here standing table statement).after

  few_by_each : (number : ℕ) (statements : List Statement) (standing : BlockState) (block : BlockEffect) → statements_effect schema here number statements standing ≡ Ok block → length block.changes ≤ length statements
  few_by_each number [] standing block is =
      let same : record { changes = []; stamps = standing.stamps } ≡ block = cc is in
      subst (λ (b : BlockEffect). length b.changes ≤ 0) same (omega arith)
  few_by_each number (s ∷ ss) standing block is =
      go (statement_refusal schema here standing s) (statements_effect schema here (number + 1) ss (block_state_after schema here standing s)) (few_by_each (number + 1) ss (block_state_after schema here standing s)) is
    where
      changes : List Change
      changes = statement_changes schema here standing s

      go : (refused : Option Refusal) (later : Result BlockEffect LocalStop) → ((b : BlockEffect) → later ≡ Ok b → length b.changes ≤ length ss) → unless_refused refused number (block_effect_behind changes later) ≡ Ok block
          → length block.changes ≤ suc (length ss)
      go (Some why) later few is = absurd (cc is)
      go None (Err stop) few is = absurd (cc is)
      go None (Ok b) few is =
          let same : record { changes = changes ++ b.changes; stamps = b.stamps } ≡ block = cc is in
          subst (λ (b : BlockEffect). length b.changes ≤ suc (length ss)) same (omega (arith, length-append changes b.changes, few b refl, few_by_one standing s))

  -- a block has at most 1,000 statements, and changes at most as many rows
  pub few_by_block : (stamps : Stamps) (statements : List Statement) (tables : List Rows) (block : BlockEffect) → local_effect schema here stamps statements tables ≡ Ok block → (length block.changes ≤ length statements) × (length statements ≤ 1000)
  few_by_block stamps statements tables block is = go (nat_le (length statements) most_statements) refl is
    where
      go : (b : Bool) → nat_le (length statements) most_statements ≡ b
          → cond b (statements_effect schema here 1 statements (block_beginning stamps tables)) (stop_at (most_statements + 1) (refusal.LimitReached limit.Statements)) ≡ Ok block → (length block.changes ≤ length statements) × (length statements ≤ 1000)
      go true at is = (few_by_each 1 statements (block_beginning stamps tables) block is, grind (arith, nat_tests, at))
      go false at is = absurd (cc is)
