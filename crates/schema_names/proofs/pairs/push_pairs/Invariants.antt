-- Adding the pairs of a site.
use Rattle.std.proofs.Common.{◌≡◌, ◌++◌, drop, map, filter}
use Rattle.rep_schema.specs.Sites.{are_linked}
use Rattle.schema_names.proofs.pairs.push_pairs.Given as goal

-- the pairs so far, and those with the sites to come
abbrev pub invariant-loop-other : goal.invariant-loop-other
invariant-loop-other l = l.fn.pairs.items ++ map (λ other. (l.one.name, other.name)) (filter (are_linked l.one) l.sites)
    ≡ l.pairs.items ++ map (λ other. (l.one.name, other.name)) (filter (are_linked l.one) (drop l.other-index l.sites))
