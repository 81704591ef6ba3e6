use Rattle.std.proofs.Common.{◌<◌, ◌≤◌, length, sym, ◌∙◌, arith}
use Rattle.std.proofs.lemmas.List.{length_push}
use Rattle.rep_schema.specs.Groups.{groups_of, differ_in}
use Rattle.rep_schema.proofs.GroupShapes.{length-groups_of}
use Rattle.conflict_detect.proofs.Gathered.{range-pass, range-fail}
use Rattle.conflict_detect.proofs.detection.differing_groups.Goals as goal
use Rattle.conflict_detect.proofs.detection.differing_groups.Goals.{then-differ_in, else-differ_in}

-- there are at most 32 named groups
pub overflow_cast-named : goal.overflow_cast-named
overflow_cast-named c = rw c.groups_of.ensures (omega (arith, length-groups_of c.args.schema.now c.requires.shape c.args.table))

pub add-requires : goal.add-requires
add-requires c =
    let below : c.loop-group.group < length (groups_of c.args.schema.now c.args.table) = rw (← c.groups_of.ensures) c.loop-group-test.true in
    omega (arith, below, c.loop-group.invariant.few, length-groups_of c.args.schema.now c.requires.shape c.args.table)

pub add-requires-then-differ_in-2 : goal.add-requires-then-differ_in-2
add-requires-then-differ_in-2 c =
    let within : c.loop-group.group ≤ length (groups_of c.args.schema.now c.args.table) = rw (← c.groups_of.ensures) c.loop-group.auto.group-end in
    omega (arith, within, c.loop-group.invariant.few, length-groups_of c.args.schema.now c.requires.shape c.args.table)

pub loop-group-preserved : goal.loop-group-preserved
loop-group-preserved c = elim c.if-differ_in.branch [
  | then-differ_in w ↦
      let differs = sym c.differ_in.ensures ∙ w.if-differ_in.true in
      record {
        few = rw (w.groups-is, w.add.ensures) (omega (arith, length_push c.loop-group.groups c.loop-group.group, c.loop-group.invariant.few));
        so_far = w.groups-is ∙ w.add.ensures ∙ range-pass (differ_in c.args.schema.now c.args.table c.args.a.now c.args.b.now) c.loop-group.groups c.loop-group.group c.loop-group.invariant.so_far differs;
      }
  | else-differ_in w ↦
      let same = sym c.differ_in.ensures ∙ w.if-differ_in.false in
      record {
        few = rw w.groups-is (omega (arith, c.loop-group.invariant.few));
        so_far = w.groups-is ∙ range-fail (differ_in c.args.schema.now c.args.table c.args.a.now c.args.b.now) c.loop-group.groups c.loop-group.group c.loop-group.invariant.so_far same;
      }
]
