-- The lines of a script.
use Rattle.std.specs.Prelude.{ℕ, List, []}
use Rattle.script_drive.specs.Lines.{lines_after}

-- the lines of a script; a last one without an end counts where it isn't empty
abbrev pub lines_of : List ℕ → List (List ℕ)
lines_of script = lines_after [] script
