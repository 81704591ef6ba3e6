-- Making tests one by one.
use Rattle.std.proofs.Common.{◌≡◌, ◌++◌, drop, map}
use Rattle.world_state.specs.Declaring.{test_of}
use Rattle.world.proofs.testing.tests_of.Given as goal

-- those so far, and those of the words to come
abbrev pub invariant-loop-test : goal.invariant-loop-test
invariant-loop-test l = l.tests ++ map (test_of l.columns) (drop l.test-index l.words) ≡ map (test_of l.columns) l.words
