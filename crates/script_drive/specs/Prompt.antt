-- The reads of a run: whether what lines print is written before more of a script is asked for, and what comes behind a failure.
use Rattle.std.specs.Prelude.{◌≡◌, ℕ, List, [], ◌∷◌, ◌++◌, Bool, true, false, Some, All}
use Rattle.std.specs.declared.option.Option.{Option}
use Rattle.script_drive.specs.Lines.{whole_lines}
use Rattle.script_drive.specs.Runs.{Stepped, printed}
use Rattle.script_drive.specs.Told.{IsRunning}
use Rattle.script_drive.specs.declared.status.Status.{Status}
use Rattle.script_drive.specs.declared.status.Status.TheVariants.{Done, Malformed, ReadFault, WriteFault, Memory, Usage}

-- a read that was asked for: what was left to read then, and what had been written, where these are told, and whether it failed
pub record Asked : Type 0 where
  pub left : Option (List ℕ)
  pub written : Option (List ℕ)
  pub failed : Bool

-- where the reads are told afterwards, they were told before, and this one is the next of them
abbrev pub AsksNext : Option (List Asked) → Option (List Asked) → Asked → Type 0
AsksNext before after asked = (all : List Asked) → after ≡ Some all → (reads : List Asked) × (before ≡ Some reads) × (all ≡ reads ++ asked ∷ [])

-- it gave bytes, or told that none are left
abbrev pub IsAnswered : Asked → Type 0
IsAnswered asked = asked.failed ≡ false

-- of a run that ended with a read fault the last read failed, and no other did; of any other run none failed
abbrev pub FaultIsLast : Status → List Asked → Type 0
FaultIsLast ReadFault reads = (front : List Asked) × (last : Asked) × (reads ≡ front ++ last ∷ []) × All IsAnswered front × (last.failed ≡ true)
FaultIsLast Done reads = All IsAnswered reads
FaultIsLast Malformed reads = All IsAnswered reads
FaultIsLast WriteFault reads = All IsAnswered reads
FaultIsLast Memory reads = All IsAnswered reads
FaultIsLast Usage reads = All IsAnswered reads

-- where the reads and the bytes are told, `told` holds of the script that there was to read, what had been written before, and
-- the reads that were added
abbrev pub TellsReads : (List ℕ → List ℕ → List Asked → Type 0) → Option (List Asked) → Option (List Asked) → Option (List ℕ) → Option (List ℕ) → Type 0
TellsReads told before after left taken = (all : List Asked) (script earlier : List ℕ) → after ≡ Some all → left ≡ Some script → taken ≡ Some earlier
    → (reads further : List Asked) × (before ≡ Some reads) × (all ≡ reads ++ further) × told script earlier further

module _ {W : Type 0} (step : W → ℕ → List ℕ → Stepped W) (start : W) where
  -- none of the whole lines that were read by then ended the run, and behind `earlier` all that they print had been written, and
  -- nothing else
  abbrev pub IsPrompt : List ℕ → List ℕ → Asked → Type 0
  IsPrompt script earlier asked = (read rest : List ℕ) × (script ≡ read ++ rest) × (asked.left ≡ Some rest)
      × (asked.written ≡ Some (earlier ++ printed step start 1 (whole_lines [] read))) × IsRunning step start read

  -- each further read was prompt, and was answered
  abbrev pub ReadsSoFar : Option (List Asked) → Option (List Asked) → Option (List ℕ) → Option (List ℕ) → Type 0
  ReadsSoFar before after left taken = TellsReads (λ script earlier further. All (IsPrompt script earlier) further × All IsAnswered further) before after left taken

  -- each further read was prompt, and none came behind one that failed
  abbrev pub ReadsPromptly : Status → Option (List Asked) → Option (List Asked) → Option (List ℕ) → Option (List ℕ) → Type 0
  ReadsPromptly status before after left taken = TellsReads (λ script earlier further. All (IsPrompt script earlier) further × FaultIsLast status further) before after left taken
