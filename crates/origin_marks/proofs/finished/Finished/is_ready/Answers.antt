use Rattle.std.proofs.Common.{◌≡◌, false, sym, ◌∙◌}
use Rattle.origin_marks.specs.Marks.{finished}
use Rattle.origin_marks.proofs.Marks.{same_mark}
use Rattle.origin_marks.proofs.finished.Finished.is_ready.Goals as goal

-- the mark that was read is the one mark
pub returns-then-not-is_finished : goal.returns-then-not-is_finished
returns-then-not-is_finished c = λ mark is_mark.
    let same = same_mark _ _ _ is_mark c.low_water.ensures in
    let unfinished : finished c.args.self.now c.args.position ≡ false = sym c.is_finished.ensures ∙ c.if-not-is_finished.true in
    rw (same, unfinished)
