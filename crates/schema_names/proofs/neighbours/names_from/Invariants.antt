-- Gathering the names of those that a site sends to.
use Rattle.std.proofs.Common.{◌≡◌, ◌++◌, drop, filter}
use Rattle.rep_schema.specs.Sites.{sends_to, names_of}
use Rattle.schema_names.proofs.neighbours.names_from.Given as goal

-- the names so far, and those of the sites to come
abbrev pub invariant-loop-to : goal.invariant-loop-to
invariant-loop-to l = names_of (filter (sends_to l.from) l.sites) ≡ l.names ++ names_of (filter (sends_to l.from) (drop l.to-index l.sites))
