-- All have keys where those from the place on do.
use Rattle.std.proofs.Common.{drop}
use Rattle.std.specs.Prelude.{◌↔◌}
use Rattle.std.specs.List.{AllByRecursion}
use Rattle.rep_schema.specs.Tables.{IsKeyed}
use Rattle.stream_cases.proofs.tokens.are_keyed.Given as goal

abbrev pub invariant-loop-entry : goal.invariant-loop-entry
invariant-loop-entry l = AllByRecursion (λ entry. IsKeyed entry.columns) l.tables ↔ AllByRecursion (λ entry. IsKeyed entry.columns) (drop l.entry-index l.tables)
