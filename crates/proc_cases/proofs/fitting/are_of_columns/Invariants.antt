-- All tests are of columns where those from the place on are.
use Rattle.std.proofs.Common.{◌<◌, drop, length}
use Rattle.std.specs.List.{AllByRecursion}
use Rattle.proc_cases.proofs.fitting.are_of_columns.Given as goal

abbrev pub invariant-loop-test : goal.invariant-loop-test
invariant-loop-test l = AllByRecursion (λ test. test.column < length l.columns) (drop l.test-index l.tests) → AllByRecursion (λ test. test.column < length l.columns) l.tests
