-- What is told of a run of a script: what was written, and what was left unread.
use Rattle.std.specs.Prelude.{◌≡◌, ◌≤◌, ℕ, List, [], ◌++◌, length, Bool, true, false, Some}
use Rattle.std.specs.declared.option.Option.{Option}
use Rattle.script_drive.specs.Lines.{whole_lines}
use Rattle.script_drive.specs.Runs.{Stepped, printed, is_stopped}
use Rattle.script_drive.specs.Fed.{Begins, run_beginning, prints_from, stops_from}

-- where the source and the sink tell their bytes, `told` holds of what was there to read, what of it is left, and
-- what was written
abbrev pub Tells : (List ℕ → List ℕ → List ℕ → Type 0) → Option (List ℕ) → Option (List ℕ) → Option (List ℕ) → Option (List ℕ) → Type 0
Tells told left left' taken taken' = (script earlier : List ℕ) → left ≡ Some script → taken ≡ Some earlier
    → (rest written : List ℕ) × (left' ≡ Some rest) × (taken' ≡ Some (earlier ++ written)) × told script rest written

module _ {W : Type 0} (step : W → ℕ → List ℕ → Stepped W) (start : W) where
  -- what a script prints
  abbrev pub report : List ℕ → List ℕ
  report script = prints_from step (run_beginning start) script

  -- a line of the script ends the run
  abbrev pub is_ended_early : List ℕ → Bool
  is_ended_early script = stops_from step (run_beginning start) script

  -- no whole line of these bytes ends the run
  abbrev pub IsRunning : List ℕ → Type 0
  IsRunning read = is_stopped step start 1 (whole_lines [] read) ≡ false

  -- what was read: bytes of which no line ends the run, and behind them a last piece of at most so many
  abbrev pub ReadsToStop : ℕ → List ℕ → List ℕ → Type 0
  ReadsToStop most script left = (read last : List ℕ) × (script ≡ (read ++ last) ++ left) × (length last ≤ most) × IsRunning read

  -- all was read, no line ended the run, and the whole report was written
  abbrev pub ReportsAll : List ℕ → List ℕ → List ℕ → Type 0
  ReportsAll script left written = (left ≡ []) × (written ≡ report script) × (is_ended_early script ≡ false)

  -- a line ended the run, nothing was read behind the piece that ends it, and the whole report was written
  abbrev pub ReportsStop : ℕ → List ℕ → List ℕ → List ℕ → Type 0
  ReportsStop most script left written = (written ≡ report script) × (is_ended_early script ≡ true) × ReadsToStop most script left

  -- a front of the report was written, and nothing was read behind the piece in which the run ended
  abbrev pub ReportsFront : ℕ → List ℕ → List ℕ → List ℕ → Type 0
  ReportsFront most script left written = Begins written (report script) × ReadsToStop most script left

  -- that front is what the whole lines read so far print, of which none ended the run
  abbrev pub ReportsRead : List ℕ → List ℕ → List ℕ → Type 0
  ReportsRead script left written = Begins written (report script)
      × ((read : List ℕ) × (script ≡ read ++ left) × (written ≡ printed step start 1 (whole_lines [] read)) × IsRunning read)
