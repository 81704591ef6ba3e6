-- Making site after site.
use Rattle.std.proofs.Common.{◌≡◌, ◌++◌, drop, map}
use Rattle.world_state.specs.Procs.{proc_made}
use Rattle.site_making.proofs.procs.procs_made.Given as goal

-- the sites so far, and those of the names to come
abbrev pub invariant-loop-name : goal.invariant-loop-name
invariant-loop-name l = map (proc_made l.schema l.procedures l.masters) l.masters ≡ l.made.items ++ map (proc_made l.schema l.procedures l.masters) (drop l.name-index l.masters)
