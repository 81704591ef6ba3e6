-- Gathering the names of the other sites.
use Rattle.std.proofs.Common.{◌≡◌, ◌++◌, drop, filter, not}
use Rattle.rep_schema.specs.Sites.{names_of}
use Rattle.rep_values.specs.SiteNames.{is_same_site}
use Rattle.proc_cases.proofs.declared.names_but.Given as goal

-- the names so far, and those of the sites to come
abbrev pub invariant-loop-entry : goal.invariant-loop-entry
invariant-loop-entry l = filter (λ n. not (is_same_site n l.name)) (names_of l.sites) ≡ l.names.items ++ filter (λ n. not (is_same_site n l.name)) (names_of (drop l.entry-index l.sites))
