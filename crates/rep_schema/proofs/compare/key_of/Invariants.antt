-- Gathering a row's key.
use Rattle.std.proofs.Common.{◌≡◌, ◌++◌}
use Rattle.rep_schema.specs.Tables.{key_of}
use Rattle.rep_schema.proofs.KeyWalk.{key_from}
use Rattle.rep_schema.proofs.compare.key_of.Given as goal

-- the values gathered and those to come are the key
abbrev pub invariant-loop-i : goal.invariant-loop-i
invariant-loop-i l = l.key ++ key_from l.columns l.row l.i ≡ key_of l.columns l.row
