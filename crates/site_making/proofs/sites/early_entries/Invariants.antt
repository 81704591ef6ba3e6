-- Gathering the entries of the sites that are there from the start.
use Rattle.std.proofs.Common.{◌≡◌, ◌++◌, drop, filter}
use Rattle.world_state.specs.Making.{is_early}
use Rattle.site_making.proofs.sites.early_entries.Given as goal

-- the entries so far, and those among the ones to come
abbrev pub invariant-loop-entry : goal.invariant-loop-entry
invariant-loop-entry l = filter (is_early l.schema) l.entries ≡ l.early ++ filter (is_early l.schema) (drop l.entry-index l.entries)
