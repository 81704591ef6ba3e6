-- The line is told, and the engine's run of the lines goes on with it.
use Rattle.std.proofs.Common.{ℕ, ◌+◌, subst, ◌∙◌}
use Rattle.run_story.specs.Running.{stand_of, LineGoes}
use Rattle.run_story.proofs.Sound.{sound_behind}
use Rattle.run_story.proofs.open_story.OpenStory.take.Goals as goal

pub returns-clause-sound : goal.returns-clause-sound
returns-clause-sound g c =
    let old = c.self.inside.follower in
    let answer = c.in_ok-answer.answer in
    sound_behind old c.run_next.new.self c.self.inside.lines.items c.push.new.self.items c.in_ok-line.line c.args.words.now answer.outcome answer.entries.items (rw (← c.self.view_is) at c.requires.sound)
    (rw (← c.self.view_is) at c.requires.going)
    (subst (λ (n : ℕ). LineGoes (n + 1) c.args.words.now answer.outcome (stand_of old) (stand_of c.run_next.new.self)) (c.len-before.ensures ∙ c.self.inside.lines.ok.0) c.in_ok-answer.ensures.goes)
    c.in_ok-answer.ensures.known c.in_ok-answer.ensures.free c.in_ok-answer.ensures.keeps c.in_ok-line.ensures.words c.in_ok-line.ensures.outcome c.in_ok-line.ensures.entries c.in_ok-push.ensures.items
