-- What contracts see of a transaction with copies of the rows that it names.
use Rattle.std.specs.Prelude.{◌≡◌, ℕ, ◌≤◌, false, length}
use Rattle.std.specs.List.{list_any}
use Rattle.rep_values.specs.declared.name.SiteName.{SiteName}
use Rattle.rep_schema.specs.declared.schema.Schema.{Schema}
use Rattle.rep_calls.specs.declared.call.Txn.{Txn}
use Rattle.conflict_detect.specs.Fits.{TxnFits}
use Rattle.txn_effects.specs.Contents.{Content, IsContent}
use Rattle.dependency_index.specs.Tokens.{txn_tokens, is_unique_token}
use Rattle.rep_laws.specs.Commuting.{IsSound, AgreeOn}

-- a transaction, whose it is, and the rows and counters that it is evaluated on
pub record WorkState : Type 0 where
  pub origin : SiteName
  pub position : ℕ
  pub txn : Txn
  pub schema : Schema
  pub content : Content

-- a transaction of 1,000 calls at most that fits a sound schema and touches no constraint of a table
pub record CanStandAlone (schema : Schema) (txn : Txn) : Type 0 where
  pub sound : IsSound schema
  pub fits : TxnFits schema txn
  pub few : length txn.calls ≤ 1000
  pub plain : list_any is_unique_token (txn_tokens schema txn) ≡ false

-- tables and counters of the schema agree with the work's on what the transaction's tokens stand for
pub record Supports (work : WorkState) (content : Content) : Type 0 where
  pub is : IsContent work.schema content
  pub agree : AgreeOn work.schema (txn_tokens work.schema work.txn) content work.content
