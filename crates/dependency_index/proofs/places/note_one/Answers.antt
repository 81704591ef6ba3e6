use Rattle.std.proofs.Common.{◌∙◌}
use Rattle.dependency_index.proofs.LastPositions.{last_of-place, Notes-one}
use Rattle.dependency_index.proofs.places.note_one.Goals as goal

pub returns-clause-before : goal.returns-clause-before
returns-clause-before c =
    c.put_at.ensures.before ∙ rw c.in-Ok.ensures.index (last_of-place c.args.token.now c.args.tokens.now.keys c.args.last.now.items c.requires.within)

pub returns-clause-notes : goal.returns-clause-notes
returns-clause-notes c =
    rw (c.put_at.ensures.after, c.in-Ok.ensures.index, c.in-Ok.ensures.keys) (Notes-one c.args.token.now c.args.position c.args.tokens.now.keys c.args.last.now.items c.requires.within)
