-- The parts so far and those of the groups to come are all.
use Rattle.std.proofs.Common.{◌≡◌, ◌++◌, drop}
use Rattle.std.specs.Prelude.{flat_map, option_to_list}
use Rattle.rep_schema.specs.declared.schema.Group.{Group}
use Rattle.schema_advice.specs.Broken.{group_part, group_parts}
use Rattle.schema_advice.proofs.broken.add_group_parts.Given as goal

abbrev pub invariant-loop-group : goal.invariant-loop-group
invariant-loop-group l =
    l.found.items ++ flat_map (λ (group : Group). option_to_list (group_part l.schema l.table group)) (drop l.group-index l.groups)
    ≡ l.fn.found.items ++ group_parts l.schema l.table
