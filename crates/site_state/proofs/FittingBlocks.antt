-- What a block does leads from tables to tables, and its transaction does the same.
use Rattle.std.proofs.Common.{◌≡◌, ℕ, ◌+◌, List, [], ◌∷◌, ◌++◌, length, Bool, true, false, cond, Some, None, Ok, Err, refl, sym, subst}
use Rattle.std.specs.Prelude.{Option, Result, nat_le}
use Rattle.rep_values.specs.declared.name.SiteName.{SiteName}
use Rattle.rep_values.specs.declared.refusal.Refusal.{Refusal}
use Rattle.rep_values.specs.declared.refusal.Refusal.TheVariants as refusal
use Rattle.rep_values.specs.declared.refusal.Limit.TheVariants as limit
use Rattle.rep_schema.specs.declared.schema.Schema.{Schema}
use Rattle.rep_schema.specs.Tables.{Rows, AreTables}
use Rattle.rep_schema.specs.Putting.{after_changes}
use Rattle.rep_calls.specs.declared.call.Txn.{Txn}
use Rattle.rep_calls.specs.declared.statement.Statement.{Statement}
use Rattle.conflict_detect.specs.Fits.{TxnFits}
use Rattle.conflict_detect.proofs.LedCalls.{ChangeFits-led, CallFits-led}
use Rattle.unique_resolve.specs.Numbers.{first_numbers}
use Rattle.unique_resolve.proofs.Settlements.{AreCounters-first}
use Rattle.txn_effects.specs.Calls.{Effect}
use Rattle.txn_effects.specs.Transactions.{Failure, tables_by, numbers_by}
use Rattle.txn_effects.specs.Contents.{Content, effect_on, content_after, IsContent}
use Rattle.txn_effects.specs.Laws.{IsApplied}
use Rattle.txn_effects.proofs.TransactionEffects.{IsApplied-none, IsApplied-then, IsApplied-txn_effect}
use Rattle.txn_effects.proofs.OwnCalls.{calls_effect-own}
use Rattle.txn_effects.specs.declared.local.Here.{Here}
use Rattle.txn_effects.specs.declared.local.LocalStop.{LocalStop}
use Rattle.txn_effects.specs.declared.local.Stamps.{Stamps}
use Rattle.txn_effects.specs.Held.{statement_table}
use Rattle.txn_effects.specs.Statements.{BlockState, statement_refusal, statement_changes, changes_at, block_state_at, block_state_after}
use Rattle.txn_effects.specs.Locals.{BlockEffect, stop_at, unless_refused, block_effect_behind, statements_effect, block_beginning, local_effect, most_statements}
use Rattle.txn_effects.proofs.StatementEffects.{effect_with}
use Rattle.txn_effects.proofs.StatementsApplied.{IsApplied-one}
use Rattle.rep_schema.specs.Named.{table_place}
use Rattle.site_state.specs.Contents.{txn_of, changes_by}
use Rattle.site_state.specs.Fits.{SchemaIsKeyed}

module _ (schema : Schema) (keyed : SchemaIsKeyed schema) where
  -- ---- a transaction that fits

  -- leaves tables and counters
  pub IsContent-content_after : (origin : SiteName) (txn : Txn) (c : Content) → IsContent schema c → TxnFits schema txn → IsContent schema (content_after schema origin txn c)
  IsContent-content_after origin txn c is fits = go (effect_on schema origin txn c) refl
    where
      go : (r : Result Effect Failure) → effect_on schema origin txn c ≡ r → IsContent schema (record { tables = tables_by schema r c.tables; numbers = numbers_by r c.numbers })
      go (Ok effect) gives =
          let applied = IsApplied-txn_effect schema origin txn c.tables c.numbers effect
          (record { shape = keyed.shape; keys = keyed.keys; apart = keyed.apart; are = is.tables; counters = is.counters; fits = fits }) gives in
          record { tables = applied.are; counters = applied.counters }
      go (Err failure) gives = record { tables = is.tables; counters = is.counters }

  -- changes that lead from tables on make a transaction that fits
  pub TxnFits-led : (tables : List Rows) (effect : Effect) → AreTables schema tables → IsApplied schema tables effect → TxnFits schema (txn_of schema effect.changes)
  TxnFits-led tables effect are applied =
      record { calls = CallFits-led schema effect.changes keyed.shape (ChangeFits-led schema effect.changes tables (after_changes schema effect.changes tables) are applied.leads applied.differ) }

  -- so what is sent onward fits
  pub TxnFits-changes_by : (origin : SiteName) (txn : Txn) (c : Content) → IsContent schema c → TxnFits schema txn → TxnFits schema (txn_of schema (changes_by (effect_on schema origin txn c)))
  TxnFits-changes_by origin txn c is fits = go (effect_on schema origin txn c) refl
    where
      go : (r : Result Effect Failure) → effect_on schema origin txn c ≡ r → TxnFits schema (txn_of schema (changes_by r))
      go (Ok effect) gives = TxnFits-led c.tables effect is.tables (IsApplied-txn_effect schema origin txn c.tables c.numbers effect
          (record { shape = keyed.shape; keys = keyed.keys; apart = keyed.apart; are = is.tables; counters = is.counters; fits = fits }) gives)
      go (Err failure) gives = record { calls = tt }

  -- ---- a block

  module _ (here : Here) where
    -- a statement makes its changes
    pub tables-standing_after : (standing : BlockState) (statement : Statement) → (block_state_after schema here standing statement).tables ≡ after_changes schema (statement_changes schema here standing statement) standing.tables
    tables-standing_after standing statement = go (table_place schema (statement_table statement))
      where
        go : (place : Option ℕ) → (block_state_at schema here standing place statement).tables ≡ after_changes schema (changes_at schema here standing place statement) standing.tables
        go None = refl
        go (Some table) = refl

    statements_applied : (statements : List Statement) (number : ℕ) (standing : BlockState) (block : BlockEffect) → AreTables schema standing.tables → statements_effect schema here number statements standing ≡ Ok block
        → IsApplied schema standing.tables (effect_with schema block.changes)
    statements_applied [] number standing block are gives =
        let none : record { changes = []; stamps = standing.stamps } ≡ block = cc gives in
        subst (λ (b : BlockEffect). IsApplied schema standing.tables (effect_with schema b.changes)) none (IsApplied-none schema standing.tables (first_numbers schema) are (AreCounters-first schema))
    statements_applied (s ∷ ss) number standing block are gives =
        go (statement_refusal schema here standing s) refl (statements_effect schema here (number + 1) ss (block_state_after schema here standing s)) refl gives
        (λ later are_later gives_later. statements_applied ss (number + 1) (block_state_after schema here standing s) later are_later gives_later)
      where
        go : (refused : Option Refusal) → statement_refusal schema here standing s ≡ refused
            → (rest : Result BlockEffect LocalStop) → statements_effect schema here (number + 1) ss (block_state_after schema here standing s) ≡ rest
            → unless_refused refused number (block_effect_behind (statement_changes schema here standing s) rest) ≡ Ok block
            → ((later : BlockEffect) → AreTables schema (block_state_after schema here standing s).tables → statements_effect schema here (number + 1) ss (block_state_after schema here standing s) ≡ Ok later
            → IsApplied schema (block_state_after schema here standing s).tables (effect_with schema later.changes))
            → IsApplied schema standing.tables (effect_with schema block.changes)
        go (Some why) none rest is gives more = absurd (cc gives)
        go None none (Err stop) is gives more = absurd (cc gives)
        go None none (Ok later) is gives more =
            let one : IsApplied schema standing.tables (effect_with schema (statement_changes schema here standing s)) = IsApplied-one schema here keyed.shape keyed.keys keyed.apart standing s are none in
            let made = tables-standing_after standing s in
            let rest : IsApplied schema (block_state_after schema here standing s).tables (effect_with schema later.changes) = more later (subst (AreTables schema) (sym made) one.are) is in
            let same : record { changes = statement_changes schema here standing s ++ later.changes; stamps = later.stamps } ≡ block = cc gives in
            subst (λ (b : BlockEffect). IsApplied schema standing.tables (effect_with schema b.changes)) same
            (IsApplied-then schema standing.tables (effect_with schema (statement_changes schema here standing s)) (effect_with schema later.changes) one
            (subst (λ (ts : List Rows). IsApplied schema ts (effect_with schema later.changes)) made rest))

    -- a block leads by its changes from the tables before it to tables
    pub block_applied : (stamps : Stamps) (statements : List Statement) (tables : List Rows) (block : BlockEffect) → AreTables schema tables → local_effect schema here stamps statements tables ≡ Ok block
        → IsApplied schema tables (effect_with schema block.changes)
    block_applied stamps statements tables block are gives = go (nat_le (length statements) most_statements) gives
      where
        go : (b : Bool) → cond b (statements_effect schema here 1 statements (block_beginning stamps tables)) (stop_at (most_statements + 1) (refusal.LimitReached limit.Statements)) ≡ Ok block
            → IsApplied schema tables (effect_with schema block.changes)
        go true gives = statements_applied statements 1 (block_beginning stamps tables) block are gives
        go false gives = absurd (cc gives)

  -- its transaction, applied to the same tables, makes these changes
  pub block_own : (here : Here) (stamps : Stamps) (statements : List Statement) (c : Content) (block : BlockEffect) → IsContent schema c → local_effect schema here stamps statements c.tables ≡ Ok block
      → effect_on schema here.site (txn_of schema block.changes) c ≡ Ok (record { changes = block.changes; numbers = c.numbers })
  block_own here stamps statements c block is gives =
      let applied = block_applied here stamps statements c.tables block is.tables gives in
      calls_effect-own schema here.site c.numbers 1 block.changes c.tables (after_changes schema block.changes c.tables) keyed.shape is.tables applied.leads applied.differ applied.checked
