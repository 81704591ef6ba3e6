-- A script of which nothing was read is sound.
use Rattle.run_story.proofs.Sound.{sound_at_start}
use Rattle.run_story.proofs.open_story.OpenStory.make.Goals as goal

pub returns-clause-sound : goal.returns-clause-sound
returns-clause-sound c =
    sound_at_start c.in_ok-make.field-0 c.new.result.items c.in_ok-make.ensures.lanes c.in_ok-make.ensures.free c.in_ok-make.ensures.stands c.new.ensures.items
