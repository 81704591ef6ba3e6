-- Looking for a shadow column.
use Rattle.std.proofs.Common.{◌≡◌, drop}
use Rattle.rep_schema.specs.Groups.{shadow_from}
use Rattle.schema_rules.proofs.convergent_rules.has_no_shadow.Given as goal

-- the shadow columns are those to come
abbrev pub invariant-loop-i : goal.invariant-loop-i
invariant-loop-i l = record {
  rest : shadow_from l.groups l.i (drop l.i l.columns) ≡ shadow_from l.groups 0 l.columns;
}
