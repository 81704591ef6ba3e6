-- How often threads came in.
use Rattle.std.specs.Prelude.{ℕ, List, replicate}

-- so many entries, of each of which nothing is told
abbrev pub entries : ℕ → List (Unit {0})
entries count = replicate count tt
