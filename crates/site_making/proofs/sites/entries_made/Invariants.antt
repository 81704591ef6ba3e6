-- Making site after site.
use Rattle.std.proofs.Common.{◌≡◌, ◌++◌, drop, map}
use Rattle.world_state.specs.Making.{entry_made}
use Rattle.site_making.proofs.sites.entries_made.Given as goal

-- the sites so far, and those of the entries to come
abbrev pub invariant-loop-entry : goal.invariant-loop-entry
invariant-loop-entry l = map (entry_made l.filled.schema l.filled.tables l.snapshots) l.entries
    ≡ l.made.items ++ map (entry_made l.filled.schema l.filled.tables l.snapshots) (drop l.entry-index l.entries)
