-- Testing call by call.
use Rattle.std.proofs.Common.{◌≡◌, drop}
use Rattle.std.specs.Prelude.{flat_map}
use Rattle.std.specs.List.{list_any, AllByRecursion}
use Rattle.conflict_detect.specs.Fits.{CallFits}
use Rattle.dependency_index.specs.Tokens.{call_tokens, txn_tokens, is_unique_token}
use Rattle.dependency_index.proofs.touched.has_unique_token.Given as goal

-- what is left decides, and the calls to come fit
abbrev pub invariant-loop-call : goal.invariant-loop-call
invariant-loop-call l = record {
  whole : list_any is_unique_token (txn_tokens l.schema l.txn) ≡ list_any is_unique_token (flat_map (call_tokens l.schema) (drop l.call-index l.call-items));
  fit : AllByRecursion (CallFits l.schema) (drop l.call-index l.call-items);
}
