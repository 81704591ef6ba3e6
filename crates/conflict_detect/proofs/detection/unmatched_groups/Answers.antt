use Rattle.std.proofs.Common.{sym, ◌∙◌, arith}
use Rattle.std.proofs.lemmas.List.{length_push}
use Rattle.conflict_detect.proofs.Gathered.{unmatched-more, unmatched-same}
use Rattle.conflict_detect.proofs.detection.unmatched_groups.Goals as goal
use Rattle.conflict_detect.proofs.detection.unmatched_groups.Goals.{then-not-is_matched, else-not-is_matched}

pub loop-part-preserved : goal.loop-part-preserved
loop-part-preserved c = elim c.if-not-is_matched.branch [
  | then-not-is_matched w ↦
      let unmatched = sym c.is_matched.ensures ∙ w.if-not-is_matched.true in
      record {
        few = rw (w.groups-is, w.add.ensures) (omega (arith, length_push c.loop-part.groups c.part-item.result.group, c.loop-part.invariant.few));
        so_far = w.groups-is ∙ w.add.ensures ∙ unmatched-more _ _ _ c.args.parts.now c.loop-part.part-index c.part-item.result c.loop-part-test.true c.part-item.is c.loop-part.groups c.loop-part.invariant.so_far unmatched;
      }
  | else-not-is_matched w ↦
      let matched = sym c.is_matched.ensures ∙ w.if-not-is_matched.false in
      record {
        few = rw w.groups-is (omega (arith, c.loop-part.invariant.few));
        so_far = w.groups-is ∙ unmatched-same _ _ _ c.args.parts.now c.loop-part.part-index c.part-item.result c.loop-part-test.true c.part-item.is c.loop-part.groups c.loop-part.invariant.so_far matched;
      }
]
