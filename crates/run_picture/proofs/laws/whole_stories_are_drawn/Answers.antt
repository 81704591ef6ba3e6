use Rattle.run_picture.proofs.Journals.{whole_stories_are_drawn}
use Rattle.run_picture.proofs.laws.whole_stories_are_drawn.Goals as goal

pub returns : goal.returns
returns c = whole_stories_are_drawn
