use Rattle.std.proofs.Common.{inl, inr, subst, sym, arith}
use Rattle.std.specs.Prelude.{Contains}
use Rattle.std.proofs.lemmas.Bool.{eqb-true, lt-ltb, eq-eqb}
use Rattle.rep_schema.specs.Groups.{group_numbers_of}
use Rattle.rep_schema.proofs.Coverage.{Contains-named, Contains-shadow, group_number_cases}
use Rattle.conflict_detect.proofs.fitting.is_group_of.Goals as goal

-- a named group
pub returns-then-group-groups_of : goal.returns-then-group-groups_of
returns-then-group-groups_of c = (
  λ yes. Contains-named c.args.schema.now c.args.table c.args.group (rw c.groups_of.ensures at c.if-group-groups_of.true),
  λ is. lt-ltb _ _ c.if-group-groups_of.true,
)

-- the shadow group, or none
pub returns-else-group-groups_of : goal.returns-else-group-groups_of
returns-else-group-groups_of c = (
  λ yes. subst (Contains (group_numbers_of c.args.schema.now c.args.table)) (sym (eqb-true _ _ yes)) (Contains-shadow c.args.schema.now c.args.table),
  λ is. elim (group_number_cases c.args.schema.now c.args.table c.args.group is) [
    | inl named ↦ let past = rw c.groups_of.ensures at c.if-group-groups_of.false in absurd (omega (arith, named, past))
    | inr shadow ↦ eq-eqb _ _ shadow
  ],
)
