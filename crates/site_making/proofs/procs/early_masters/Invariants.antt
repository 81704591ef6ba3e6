-- Gathering the names of the masters that are there from the start.
use Rattle.std.proofs.Common.{◌≡◌, ◌++◌, drop, filter}
use Rattle.rep_schema.specs.Shape.{is_early_master}
use Rattle.rep_schema.specs.Sites.{names_of}
use Rattle.site_making.proofs.procs.early_masters.Given as goal

-- the names so far, and those among the entries to come
abbrev pub invariant-loop-entry : goal.invariant-loop-entry
invariant-loop-entry l = names_of (filter is_early_master l.entries) ≡ l.names ++ names_of (filter is_early_master (drop l.entry-index l.entries))
