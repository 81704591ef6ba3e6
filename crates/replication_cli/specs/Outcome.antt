-- How a storm ends, and what its status tells of the bytes that it wrote.
use Rattle.std.specs.Prelude.{◌≡◌, ◌⊎◌, ℕ, List, ◌++◌, Option, Some}
use Rattle.script_drive.specs.Fed.{Begins}
use Rattle.script_drive.specs.declared.status.Status.{Status}
use Rattle.script_drive.specs.declared.status.Status.TheVariants.{Done, Malformed, ReadFault, WriteFault, Memory, Usage}

-- the whole text was written, or a front of it; a storm reads nothing
abbrev pub Writes : Status → List ℕ → List ℕ → Type 0
Writes Done text written = written ≡ text
Writes Malformed text written = ⊥
Writes ReadFault text written = ⊥
Writes WriteFault text written = Begins written text
Writes Memory text written = Begins written text
Writes Usage text written = ⊥

-- where the sink tells its bytes, it took those that the status tells of
abbrev pub TellsOf : Status → List ℕ → Option (List ℕ) → Option (List ℕ) → Type 0
TellsOf status text before after = (earlier : List ℕ) → before ≡ Some earlier
    → (written : List ℕ) × (after ≡ Some (earlier ++ written)) × Writes status text written

-- the ways in which a storm ends: it is done, the sink failed, or there was no memory
abbrev pub StormEnds : Status → Type 0
StormEnds status = (status ≡ Done) ⊎ ((status ≡ WriteFault) ⊎ (status ≡ Memory))
