-- A line that ends the run is the last that is told.
use Rattle.std.proofs.Common.{◌≤◌, sym, ap, ◌∙◌, arith}
use Rattle.run_words.specs.Telling.{is_end}
use Rattle.run_words.proofs.RunLemmas.{ends_prints}
use Rattle.run_words.proofs.script.explain_lines.Goals as goal

pub returns-in-Ends-clause-told : goal.returns-in-Ends-clause-told
returns-in-Ends-clause-told c =
    ends_prints c.loop-left.explainer c.loop-left.number c.loop-left.left.now c.split_line.result.0.now c.split_line.result.1.now c.loop-left.told c.take_line.new.told
    (omega (arith, c.if-number-gt-MOST_LINES.false)) c.split_line.ensures.line (sym (ap is_end c.in-Ends.is) ∙ c.in_ok-take_line.ensures.next) c.in_ok-take_line.ensures.told
    ∙ c.loop-left.invariant.prints
