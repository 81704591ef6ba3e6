use Rattle.std.proofs.Common.{◌≡◌, ◌+◌, ◌++◌, drop, ◌∙◌, ap, sym, append_assoc}
use Rattle.std.specs.List.{flat_map}
use Rattle.rep_lists.proofs.Places.{drop_from_place}
use Rattle.report_text.specs.Sheet.{spaced}
use Rattle.report_text.specs.Calls.{part_words}
use Rattle.report_text.proofs.Printing.{spaced_append}
use Rattle.report_text.proofs.calls.add_parts.Goals as goal

pub loop-part-preserved : goal.loop-part-preserved
loop-part-preserved c =
    let words = part_words c.args.schema.now c.args.table in
    let part = c.part-item.result in
    let rest = drop (c.loop-part.part-index + 1) c.args.parts.now in
    let next = drop_from_place c.args.parts.now c.loop-part.part-index part c.loop-part-test.true c.part-item.is in
    let front = c.loop-part.invariant.front in
    let more : c.add_part.new.lines.bytes ≡ c.loop-part.lines.bytes ++ spaced (words part) = c.in_ok-add_part.ensures.ok in
    record {
      text =
          ap (λ b. b ++ spaced (flat_map words rest)) more ∙ append_assoc c.loop-part.lines.bytes (spaced (words part)) (spaced (flat_map words rest))
          ∙ ap (λ s. c.loop-part.lines.bytes ++ s) (sym (spaced_append (words part) (flat_map words rest)))
          ∙ ap (λ ps. c.loop-part.lines.bytes ++ spaced (flat_map words ps)) (sym next) ∙ c.loop-part.invariant.text;
      front =
          (front.0 ++ spaced (words part), more ∙ ap (λ b. b ++ spaced (words part)) front.1 ∙ append_assoc c.args.lines.now.bytes front.0 (spaced (words part)));
    }
