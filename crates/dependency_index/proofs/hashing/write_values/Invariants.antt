-- Writing value by value.
use Rattle.std.proofs.Common.{◌≡◌, drop}
use Rattle.std.specs.Prelude.{flat_map, fold}
use Rattle.dependency_index.specs.SameTokens.{value_writes}
use Rattle.dependency_index.proofs.hashing.write_values.Given as goal

-- what is written and what is left make the whole
abbrev pub invariant-loop-value : goal.invariant-loop-value
invariant-loop-value g l = fold g.H.Hasher.write l.state (flat_map value_writes (drop l.value-index l.values)) ≡ fold g.H.Hasher.write l.initial.state (flat_map value_writes l.values)
