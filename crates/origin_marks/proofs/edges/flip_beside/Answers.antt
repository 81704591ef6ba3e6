use Rattle.std.proofs.Common.{◌≡◌, ◌-◌, ◌==◌, true, get_or, ◌∙◌}
use Rattle.std.specs.Prelude.{nat_lt, ◌||◌}
use Rattle.origin_marks.proofs.Flips.{flipped_free, falling_flipped}
use Rattle.origin_marks.proofs.edges.flip_beside.Goals as goal

pub flip-requires-in_default-clause-falling : goal.flip-requires-in_default-clause-falling
flip-requires-in_default-clause-falling c = rw c.flip.ensures.edges (falling_flipped _ _ c.requires.falling)

-- the next number isn't an edge
pub returns-in-Ok-clause-edges : goal.returns-in-Ok-clause-edges
returns-in-Ok-clause-edges c =
    let there = rw c.as_slice.ensures at c.in-Ok.ensures.found in
    let free : (c.in-Ok.place == 0 || nat_lt c.args.position (get_or c.args.edges.now.items (c.in-Ok.place - 1) 0)) ≡ true = cc in
    c.replace.ensures.items ∙ flipped_free _ _ _ c.requires.falling there free
