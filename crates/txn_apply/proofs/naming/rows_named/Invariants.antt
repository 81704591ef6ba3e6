-- Copying call by call.
use Rattle.std.proofs.Common.{◌≡◌, ℕ, ◌⊎◌, true, drop}
use Rattle.std.specs.Prelude.{flat_map}
use Rattle.std.specs.List.{AllByRecursion}
use Rattle.rep_schema.specs.Tables.{Cells}
use Rattle.conflict_detect.specs.Fits.{CallFits}
use Rattle.dependency_index.specs.declared.token.Token.TheVariants as token
use Rattle.dependency_index.specs.Tokens.{call_tokens, txn_tokens, has_token}
use Rattle.txn_apply.specs.Naming.{AreSomeOf, HaveAlike}
use Rattle.txn_apply.proofs.naming.rows_named.Given as goal

-- a key among the tokens is alike already, or it is one of the calls to come
abbrev pub invariant-loop-call : goal.invariant-loop-call
invariant-loop-call g l =
    let schema = g.R.RowStore.schema l.store in
    let whole = g.R.RowStore.tables l.store in
    record {
      same : l.tables.schema ≡ schema;
      some : AreSomeOf schema whole l.tables.tables;
      fit : AllByRecursion (CallFits schema) (drop l.call-index l.call-items);
      alike : (table : ℕ) (key : Cells) → has_token (txn_tokens schema l.txn) (token.Key table key) ≡ true
          → HaveAlike schema whole l.tables.tables table key ⊎ (has_token (flat_map (call_tokens schema) (drop l.call-index l.call-items)) (token.Key table key) ≡ true);
    }
