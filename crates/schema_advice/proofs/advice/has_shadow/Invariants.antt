-- Looking for a column in no group.
use Rattle.std.proofs.Common.{◌≡◌, drop}
use Rattle.rep_schema.specs.Groups.{shadow_from}
use Rattle.schema_advice.proofs.advice.has_shadow.Given as goal

-- those in no group are to come
abbrev pub invariant-loop-place : goal.invariant-loop-place
invariant-loop-place l = shadow_from l.groups l.place (drop l.place l.columns) ≡ shadow_from l.groups 0 l.columns
