-- Gathering the pairs of all sites.
use Rattle.std.specs.Prelude.{flat_map}
use Rattle.std.proofs.Common.{◌≡◌, ◌++◌, drop, map, filter}
use Rattle.rep_schema.specs.Sites.{are_linked, linked_pairs}
use Rattle.schema_names.proofs.pairs.linked_pairs.Given as goal

-- the pairs so far, and those of the sites to come
abbrev pub invariant-loop-one : goal.invariant-loop-one
invariant-loop-one l = linked_pairs l.sites ≡ l.pairs.items ++ flat_map (λ a. map (λ b. (a.name, b.name)) (filter (are_linked a) l.sites)) (drop l.one-index l.sites)
