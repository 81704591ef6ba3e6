-- What the lines of a script do, by what those within the limits do.
use Rattle.std.specs.Prelude.{◌≡◌, ℕ, List}
use Rattle.script_drive.specs.Runs.{Stepped, goes, halts}
use Rattle.script_drive.specs.Limits.{limited}
use Rattle.report_text.specs.Texts.{malformed_text}
use Rattle.script_lex.specs.declared.stop.LineStop.{LineStop}
use Rattle.script_lex.specs.declared.stop.LineStop.TheVariants.{Rule, Memory}

-- a script has at most so many lines
abbrev pub most_lines : ℕ
most_lines = 200000

-- a line has at most so many bytes before its end
abbrev pub most_bytes : ℕ
most_bytes = 1024

-- a read asks for at most so many bytes
abbrev pub most_piece : ℕ
most_piece = 4096

-- a script is within these limits, and a line that breaks a rule is told of
abbrev pub line_step : {W : Type 0} → (W → ℕ → List ℕ → Stepped W) → W → ℕ → List ℕ → Stepped W
line_step step = limited most_lines most_bytes malformed_text step

-- a line that was stopped by a rule is one that ends the run, and changes nothing
abbrev pub StopsBy : {W : Type 0} → Stepped W → W → ℕ → LineStop → Type 0
StopsBy stepped old number (Rule rule) = stepped ≡ halts old (malformed_text number rule)
StopsBy stepped old number Memory = Unit {0}

-- what a line does may depend on choices that are made only as it runs; a state allows those that agree with what was chosen so far
module _ {W C : Type 0} (step : C → W → ℕ → List ℕ → Stepped W) (allowed : W → C → Type 0) where
  -- all choices that are allowed behind the line were so before it, and by each of them the line goes on so
  abbrev pub GoesBy : W → ℕ → List ℕ → W → List ℕ → Type 0
  GoesBy old number line new prints = (choices : C) → allowed new choices → allowed old choices × (step choices old number line ≡ goes new prints)

  -- by all choices that are allowed before the line it was stopped so
  abbrev pub StopsAnyway : W → ℕ → List ℕ → LineStop → Type 0
  StopsAnyway old number line stop = (choices : C) → allowed old choices → StopsBy (step choices old number line) old number stop
