-- What a contract sees of the sources and sinks in memory.
use Rattle.std.specs.Prelude.{◌≡◌, ℕ, List, Contains, Result}
use Rattle.rep_io.specs.Faults.{count_up, CountsFailure}

-- a sink: the bytes that it took, how many more need no memory, and how often it failed
pub record Collected : Type 0 where
  pub bytes : List ℕ
  pub room : ℕ
  pub faults : ℕ

-- which calls fail, counted from 1, how many bytes a call moves at most, how many calls came, and how many failed
pub record Plan : Type 0 where
  pub failing : List ℕ
  pub most : ℕ
  pub calls : ℕ
  pub faults : ℕ

-- the next call is one of those that fail
abbrev pub FailsNext : Plan → Type 0
FailsNext plan = Contains plan.failing (count_up plan.calls)

-- one more call came, and it is counted where it failed
pub record Counts {T E : Type 0} (old new : Plan) (result : Result T E) : Type 0 where
  pub failing : new.failing ≡ old.failing
  pub most : new.most ≡ old.most
  pub calls : new.calls ≡ count_up old.calls
  pub faults : CountsFailure old.faults new.faults result

-- a source that fails by a plan: the bytes that are left
pub record FailingLeft : Type 0 where
  pub bytes : List ℕ
  pub plan : Plan

-- a sink that fails by a plan: the bytes that it took, and how many more need no memory
pub record FailingTaken : Type 0 where
  pub bytes : List ℕ
  pub room : ℕ
  pub plan : Plan
