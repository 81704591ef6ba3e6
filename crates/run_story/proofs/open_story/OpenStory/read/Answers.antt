-- A run that ended before its script.
use Rattle.std.proofs.Common.{◌+◌, sym, ◌∙◌, drop, get_or}
use Rattle.std.proofs.lemmas.List.{drop_more}
use Rattle.run_story.specs.Telling.{words_of}
use Rattle.run_story.proofs.Scripts.{stopped_early}
use Rattle.run_story.proofs.open_story.OpenStory.read.Goals as goal

pub returns-then-is_ended-clause-lines : goal.returns-then-is_ended-clause-lines
returns-then-is_ended-clause-lines g c =
    stopped_early c.args.script.now c.take.new.self.lines (words_of c.loop-byte.self.lines) c.loop-byte.line.items (drop c.loop-byte.byte-index c.args.script.now)
    (drop (c.loop-byte.byte-index + 1) c.args.script.now) (get_or c.args.script.now c.loop-byte.byte-index 0) c.loop-byte.invariant.0
    (drop_more c.args.script.now c.loop-byte.byte-index 0 c.loop-byte-test.true) c.if-byte-ne10.false (rw (c.deref.ensures.value) at c.in_ok-take.ensures.lines)
    (sym c.is_ended.ensures ∙ c.if-is_ended.true)
