-- Laws of lines, and of what they print.
use Rattle.std.specs.Prelude.{◌≡◌, ℕ, ◌<◌, ◌≤◌, Bool, List, [], ◌++◌, length, true, All}
use Rattle.script_drive.specs.Lines.{whole_lines, pending, lines_after, joined_lines, IsUnbroken}
use Rattle.script_drive.specs.Runs.{Stepped, halts, printed, is_stopped, state_after, last_state}
use Rattle.script_drive.specs.Limits.{limited}
use Rattle.script_drive.specs.Fed.{Begins, RunState, Fed, prints_from, stops_from}
use Rattle.script_drive.specs.Told.{ReadsToStop, ReportsRead}

-- the lines, each with its end, and the bytes without an end are the bytes, and no line has an end within
pub record LinesJoin (bytes : List ℕ) : Type 0 where
  pub all : joined_lines (whole_lines [] bytes) ++ pending [] bytes ≡ bytes
  pub lines : All IsUnbroken (whole_lines [] bytes)
  pub rest : IsUnbroken (pending [] bytes)

-- bytes have no other lines
pub record LinesAreThese (lines : List (List ℕ)) (rest : List ℕ) : Type 0 where
  pub whole : whole_lines [] (joined_lines lines ++ rest) ≡ lines
  pub last : pending [] (joined_lines lines ++ rest) ≡ rest

-- lines that come in two pieces are the lines of both together
abbrev pub LinesOfPieces : List ℕ → List ℕ → List ℕ → Type 0
LinesOfPieces front first second = lines_after front (first ++ second) ≡ whole_lines front first ++ lines_after (pending front first) second

module _ {W : Type 0} (step : W → ℕ → List ℕ → Stepped W) where
  -- what the whole lines of a front print is a front of what is printed of all
  abbrev pub FrontIsPrinted : W → ℕ → List ℕ → List ℕ → Type 0
  FrontIsPrinted w n read rest = Begins (printed step w n (whole_lines [] read)) (printed step w n (lines_after [] (read ++ rest)))

  -- where a line ends the run, nothing behind it is printed
  abbrev pub StopIsLast : W → ℕ → List (List ℕ) → List (List ℕ) → Type 0
  StopIsLast w n lines more = is_stopped step w n lines ≡ true
      → (printed step w n (lines ++ more) ≡ printed step w n lines) × (is_stopped step w n (lines ++ more) ≡ true)

  -- what is still to be printed depends on where the run stands alone
  abbrev pub GoesOn : RunState W → List ℕ → List ℕ → RunState W → List ℕ → Type 0
  GoesOn old bytes out new rest = Fed step old bytes out new
      → (prints_from step old (bytes ++ rest) ≡ out ++ prints_from step new rest) × (stops_from step old (bytes ++ rest) ≡ stops_from step new rest)

  -- no step leaves the states of which it holds
  abbrev pub StepsKeep : (W → Bool) → Type 0
  StepsKeep holds = (w : W) (n : ℕ) (line : List ℕ) → holds w ≡ true → holds (step w n line).state ≡ true

  -- what every step keeps holds behind any lines, at the end of any run, and wherever a run stands that was fed bytes
  pub record HoldsThroughout (holds : W → Bool) : Type 0 where
    pub behind : (w : W) (n : ℕ) (lines : List (List ℕ)) → holds w ≡ true → holds (state_after step w n lines) ≡ true
    pub end : (w : W) (n : ℕ) (lines : List (List ℕ)) → holds w ≡ true → holds (last_state step w n lines) ≡ true
    pub fed : (old : RunState W) (bytes out : List ℕ) (new : RunState W) → Fed step old bytes out new → holds old.state ≡ true → holds new.state ≡ true

  -- a line of `read` ends the run: no read behind these bytes is told to have failed, and where the run was ended early, fewer bytes
  -- were read behind them than a piece has
  pub record StopEndsReading (start : W) (most : ℕ) (read more left written : List ℕ) : Type 0 where
    pub fault : ReportsRead step start ((read ++ more) ++ left) left written → ⊥
    pub stop : ReadsToStop step start most ((read ++ more) ++ left) left → length more < most

  -- the limits are tested in this order, and a line within them is under its own step
  pub record LimitsComeFirst (most_lines most_bytes : ℕ) (refusal : ℕ → ℕ → List ℕ) (w : W) (n : ℕ) (line : List ℕ) : Type 0 where
    pub many : most_lines < n → limited most_lines most_bytes refusal step w n line ≡ halts w (refusal n 2)
    pub long : n ≤ most_lines → most_bytes < length line → limited most_lines most_bytes refusal step w n line ≡ halts w (refusal n 1)
    pub within : n ≤ most_lines → length line ≤ most_bytes → limited most_lines most_bytes refusal step w n line ≡ step w n line
