use Rattle.resolve_methods.proofs.ranks.level_among.Goals as goal

pub returns-in-Some : goal.returns-in-Some
returns-in-Some c = rw (c.level_found.ensures, c.level_for.ensures, c.as_slice.ensures, c.in-Some.is)
