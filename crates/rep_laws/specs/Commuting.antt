-- What a transaction's tokens stand for, and when two transactions may be applied in either order.
use Rattle.std.specs.Prelude.{◌≡◌, ℕ, true, false, cond, List, [], Option, None, Result, Ok, Err, option_map, slice_index_or}
use Rattle.rep_values.specs.declared.name.SiteName.{SiteName}
use Rattle.rep_values.specs.declared.value.Value.{Value}
use Rattle.rep_schema.specs.declared.schema.Schema.{Schema}
use Rattle.rep_schema.specs.Shape.{HasShape}
use Rattle.rep_schema.specs.Tables.{Cells, columns_of, find_row, rows_of, picked}
use Rattle.schema_rules.specs.Rules.{broken_rule}
use Rattle.rep_calls.specs.declared.call.Txn.{Txn}
use Rattle.conflict_detect.specs.Fits.{TxnFits}
use Rattle.txn_effects.specs.Contents.{Content, effect_on, content_after, IsContent}
use Rattle.txn_effects.specs.Calls.{Effect}
use Rattle.txn_effects.specs.Transactions.{Failure}
use Rattle.dependency_index.specs.declared.token.Token.{Token}
use Rattle.dependency_index.specs.declared.token.Token.TheVariants as token
use Rattle.dependency_index.specs.Tokens.{has_constraints, constrained_columns, txn_tokens, has_token, AreIndependent}

-- a schema that breaks no rule
pub record IsSound (schema : Schema) : Type 0 where
  pub shape : HasShape schema
  pub unbroken : broken_rule schema ≡ None

-- the row of a table that has a key, if there is one
abbrev pub row_at : Schema → Content → ℕ → Cells → Option Cells
row_at schema content table key = find_row (columns_of schema table) key (rows_of content.tables table)

-- what the row of a table that has a key has in the columns of secondary constraints, if there is such a row; none where
-- the table has no constraint
abbrev pub constrained_at : Schema → Content → ℕ → Cells → Option (List (Option Value))
constrained_at schema content table key = cond (has_constraints schema table)
    (option_map (picked (constrained_columns schema table)) (row_at schema content table key)) None

-- the counters of a table
abbrev pub counters_at : Content → ℕ → List ℕ
counters_at content table = slice_index_or content.numbers table []

-- two contents have the same row, or lack it, at each key that is among the tokens
abbrev pub AgreeOnRows : Schema → List Token → Content → Content → Type 0
AgreeOnRows schema tokens one other = (table : ℕ) (key : Cells) → has_token tokens (token.Key table key) ≡ true
    → row_at schema one table key ≡ row_at schema other table key

-- two contents agree in each table whose constraints are among the tokens: the same keys, each with the same values in
-- the columns of the constraints, and the same counters
abbrev pub AgreeOnConstraints : Schema → List Token → Content → Content → Type 0
AgreeOnConstraints schema tokens one other = (table : ℕ) → has_token tokens (token.Unique table) ≡ true
    → ((key : Cells) → constrained_at schema one table key ≡ constrained_at schema other table key)
    × (counters_at one table ≡ counters_at other table)

-- two contents agree on what tokens stand for
pub record AgreeOn (schema : Schema) (tokens : List Token) (one other : Content) : Type 0 where
  pub rows : AgreeOnRows schema tokens one other
  pub constraints : AgreeOnConstraints schema tokens one other

-- two contents agree on all but what tokens stand for
pub record AgreeOff (schema : Schema) (tokens : List Token) (one other : Content) : Type 0 where
  pub rows : (table : ℕ) (key : Cells) → has_token tokens (token.Key table key) ≡ false → row_at schema one table key ≡ row_at schema other table key
  pub constraints : (table : ℕ) → has_token tokens (token.Unique table) ≡ false
      → ((key : Cells) → constrained_at schema one table key ≡ constrained_at schema other table key)
      × (counters_at one table ≡ counters_at other table)

-- the same changes, or the same failing call and error
abbrev pub EndAlike : Result Effect Failure → Result Effect Failure → Type 0
EndAlike (Ok effect) (Ok other) = effect.changes ≡ other.changes
EndAlike (Ok effect) (Err failure) = ⊥
EndAlike (Err failure) (Ok effect) = ⊥
EndAlike (Err failure) (Err other) = failure ≡ other

-- what a transaction does where two contents agree on its tokens: it ends alike, the contents agree on the tokens
-- afterwards, and on all else each is as it was
pub record TouchesItsTokens (schema : Schema) (origin : SiteName) (txn : Txn) (one other : Content) : Type 0 where
  pub end : EndAlike (effect_on schema origin txn one) (effect_on schema origin txn other)
  pub own : AgreeOn schema (txn_tokens schema txn) (content_after schema origin txn one) (content_after schema origin txn other)
  pub others : AgreeOff schema (txn_tokens schema txn) (content_after schema origin txn one) one

abbrev pub TransactionsTouchTheirTokens : Type 0
TransactionsTouchTheirTokens = (schema : Schema) (origin : SiteName) (txn : Txn) (one other : Content)
    → IsSound schema → TxnFits schema txn → IsContent schema one → IsContent schema other
    → AgreeOn schema (txn_tokens schema txn) one other
    → TouchesItsTokens schema origin txn one other

-- what two transactions do in either order
pub record Commute (schema : Schema) (origin other_origin : SiteName) (txn other : Txn) (content : Content) : Type 0 where
  pub same : content_after schema other_origin other (content_after schema origin txn content)
      ≡ content_after schema origin txn (content_after schema other_origin other content)
  pub first : EndAlike (effect_on schema origin txn content) (effect_on schema origin txn (content_after schema other_origin other content))
  pub second : EndAlike (effect_on schema other_origin other content) (effect_on schema other_origin other (content_after schema origin txn content))

abbrev pub IndependentTransactionsCommute : Type 0
IndependentTransactionsCommute = (schema : Schema) (origin other_origin : SiteName) (txn other : Txn) (content : Content)
    → IsSound schema → TxnFits schema txn → TxnFits schema other → IsContent schema content
    → AreIndependent schema txn other
    → Commute schema origin other_origin txn other content
