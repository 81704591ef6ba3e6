-- Gathering tokens call by call.
use Rattle.std.proofs.Common.{◌≡◌, ◌++◌, drop}
use Rattle.std.specs.Prelude.{flat_map}
use Rattle.std.specs.List.{AllByRecursion}
use Rattle.conflict_detect.specs.Fits.{CallFits}
use Rattle.dependency_index.specs.Tokens.{call_tokens, txn_tokens}
use Rattle.dependency_index.proofs.touched.tokens_of.Given as goal

-- the tokens gathered and those to come are all, and the calls to come fit
abbrev pub invariant-loop-call : goal.invariant-loop-call
invariant-loop-call l = record {
  whole : l.list ++ flat_map (call_tokens l.schema) (drop l.call-index l.call-items) ≡ txn_tokens l.schema l.txn;
  fit : AllByRecursion (CallFits l.schema) (drop l.call-index l.call-items);
}
