use Rattle.resolve_methods.proofs.ranks.level_of_named.Goals as goal

pub returns-in-Words : goal.returns-in-Words
returns-in-Words c = rw (c.in-Words.is, c.site_found.ensures, c.site_named.ensures, c.as_slice.ensures)
