-- Looking for two sites of one level.
use Rattle.std.proofs.Common.{◌≡◌, drop}
use Rattle.schema_rules.specs.ConvergentRules.{share_a_level}
use Rattle.schema_rules.proofs.convergent_rules.share_a_level.Given as goal

-- none of those of the front has the level of one behind it
abbrev pub invariant-loop-i : goal.invariant-loop-i
invariant-loop-i l = record {
  rest : share_a_level (drop l.i l.sites) ≡ share_a_level l.sites;
}
