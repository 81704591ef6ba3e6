-- Gathering the names of those that send to a site.
use Rattle.std.proofs.Common.{◌≡◌, ◌++◌, drop, filter}
use Rattle.rep_schema.specs.Sites.{sends_to, names_of}
use Rattle.schema_names.proofs.neighbours.names_to.Given as goal

-- the names so far, and those of the sites to come
abbrev pub invariant-loop-from : goal.invariant-loop-from
invariant-loop-from l = names_of (filter (λ s. sends_to s l.to) l.sites) ≡ l.names ++ names_of (filter (λ s. sends_to s l.to) (drop l.from-index l.sites))
