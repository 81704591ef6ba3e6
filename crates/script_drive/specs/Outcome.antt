-- What the status of a run tells of the bytes that it read and wrote.
use Rattle.std.specs.Prelude.{◌≡◌, ℕ, List, [], Some}
use Rattle.std.specs.declared.option.Option.{Option}
use Rattle.script_drive.specs.Lines.{lines_after}
use Rattle.script_drive.specs.Runs.{Stepped}
use Rattle.script_drive.specs.Fed.{Reaches}
use Rattle.script_drive.specs.Told.{Tells, ReportsAll, ReportsStop, ReportsFront, ReportsRead}
use Rattle.script_drive.specs.LineBytes.{line_step, most_piece}
use Rattle.script_drive.specs.Prompt.{Asked, ReadsPromptly}
use Rattle.script_drive.specs.declared.status.Status.{Status}
use Rattle.script_drive.specs.declared.status.Status.TheVariants.{Done, Malformed, ReadFault, WriteFault, Memory, Usage}

-- of the script that was there to read, what of it is left, and what was written; a script that runs isn't Usage
abbrev pub Told : {W : Type 0} → (W → ℕ → List ℕ → Stepped W) → W → Status → List ℕ → List ℕ → List ℕ → Type 0
Told step start Done script left written = ReportsAll step start script left written
Told step start Malformed script left written = ReportsStop step start most_piece script left written
Told step start ReadFault script left written = ReportsRead step start script left written
Told step start WriteFault script left written = ReportsFront step start most_piece script left written
Told step start Memory script left written = ReportsFront step start most_piece script left written
Told step start Usage script left written = ⊥

-- what is told of a run by one step that came to the state w: of the bytes, of w, and of the reads
pub record Ran {W : Type 0} (step : W → ℕ → List ℕ → Stepped W) (start w : W) (status : Status) (left left' taken taken' : Option (List ℕ)) (reads reads' : Option (List Asked)) : Type 0 where
  pub told : Tells (Told step start status) left left' taken taken'
  pub reached : (script : List ℕ) → left ≡ Some script → Reaches step start 1 (lines_after [] script) w
  pub prompt : ReadsPromptly step start status reads reads' left taken

-- the run came to a state of which `known` holds, and by all choices that this state allows, this is told of it; the bytes and the
-- reads stand under one state, so that whoever picks the choices has picked them for both
abbrev pub RanBy : {W C : Type 0} → (C → W → ℕ → List ℕ → Stepped W) → (W → C → Type 0) → (W → Type 0) → W → Status
    → Option (List ℕ) → Option (List ℕ) → Option (List ℕ) → Option (List ℕ) → Option (List Asked) → Option (List Asked) → Type 0
RanBy step allowed known start status left left' taken taken' reads reads' =
    (w : _) × known w × ((choices : _) → allowed w choices → Ran (line_step (step choices)) start w status left left' taken taken' reads reads')
