-- Looking for two columns of one name.
use Rattle.std.proofs.Common.{◌≡◌, drop}
use Rattle.rep_declare.specs.Refusals.{share_a_name}
use Rattle.rep_declare.proofs.refusals.share_a_name.Given as goal

-- none of those of the front has the name of one behind it
abbrev pub invariant-loop-i : goal.invariant-loop-i
invariant-loop-i l = record {
  rest : share_a_name (drop l.i l.columns) ≡ share_a_name l.columns;
}
