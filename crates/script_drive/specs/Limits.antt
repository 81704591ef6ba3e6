-- Limits on the lines of a script.
use Rattle.std.specs.Prelude.{ℕ, List, length, if◌then◌else◌, nat_lt}
use Rattle.script_drive.specs.Runs.{Stepped, halts}

-- a line that is one too many breaks rule 2, one that is too long rule 1, and any other is under its own step
unfoldable pub limited : {W : Type 0} → ℕ → ℕ → (ℕ → ℕ → List ℕ) → (W → ℕ → List ℕ → Stepped W) → W → ℕ → List ℕ → Stepped W
limited most_lines most_bytes refusal step w n line =
    if nat_lt most_lines n then halts w (refusal n 2)
    else if nat_lt most_bytes (length line) then halts w (refusal n 1) else step w n line
