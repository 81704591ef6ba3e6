-- Looking for two columns of one name.
use Rattle.std.proofs.Common.{◌≡◌, drop}
use Rattle.rep_declare.specs.Refusals.{share_a_name}
use Rattle.world.proofs.procedures.share_a_name.Given as goal

-- none of those of the front has the name of one behind it
abbrev pub invariant-loop-place : goal.invariant-loop-place
invariant-loop-place l = record {
  rest : share_a_name (drop l.place l.columns) ≡ share_a_name l.columns;
}
