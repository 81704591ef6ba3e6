-- How a run ends before its script does.
use Rattle.std.specs.Prelude.{◌≡◌, ℕ, ◌+◌, ◌*◌, ◌≤◌, List, [], length, false, Result, IfErr}
use Rattle.std.specs.declared.option.Option.{Option}
use Rattle.std.specs.Io.KnownBytes.{Appends}
use Rattle.rep_io.specs.Faults.{Rose}
use Rattle.rep_io.specs.Transfer.{TakesFront}
use Rattle.script_drive.specs.Runs.{Stepped, state_after}
use Rattle.script_drive.specs.Lines.{lines_after}
use Rattle.script_drive.specs.Fed.{RunState, prints_from, stops_from, FedInto, EndsStoppedInto, EndsShortInto, ReachesFrom}
use Rattle.script_drive.specs.declared.status.Status.{Status}
use Rattle.script_drive.specs.declared.status.Status.TheVariants as status
use Rattle.script_drive.specs.LineBytes.{most_bytes, line_step}
use Rattle.script_drive.specs.declared.run.Halt.{Halt}
use Rattle.script_drive.specs.declared.run.Halt.TheVariants.{Malformed, WriteFault, Memory}

-- the status of a run that ended so
abbrev pub status_of : Halt → Status
status_of Malformed = status.Malformed
status_of WriteFault = status.WriteFault
status_of Memory = status.Memory

-- what the sink took of a line that tells of a broken rule
abbrev pub RefusesInto : Option (List ℕ) → Option (List ℕ) → List ℕ → Halt → Type 0
RefusesInto before after text Malformed = Appends before after text
RefusesInto before after text WriteFault = TakesFront before after text
RefusesInto before after text Memory = Appends before after []

-- what the sink took by then: all up to the malformed line, or a front of what is printed
abbrev pub HaltsInto : {W : Type 0} → (W → ℕ → List ℕ → Stepped W) → Option (List ℕ) → Option (List ℕ) → Halt → RunState W → List ℕ → Type 0
HaltsInto step before after Malformed old bytes = EndsStoppedInto step before after old bytes
HaltsInto step before after WriteFault old bytes = EndsShortInto step before after old bytes
HaltsInto step before after Memory old bytes = EndsShortInto step before after old bytes

-- no more bytes come: the last line was run where it isn't empty, no line ended the run, and w is the state behind it
abbrev pub FinishesInto : {W : Type 0} → (W → ℕ → List ℕ → Stepped W) → Option (List ℕ) → Option (List ℕ) → RunState W → W → Type 0
FinishesInto step before after old w = (out : List ℕ) × Appends before after out × (out ≡ prints_from step old []) × (stops_from step old [] ≡ false)
    × (w ≡ state_after step old.state old.number (lines_after old.line []))

-- the run came to the state w within the bytes, and halted
pub record HaltsAt {W : Type 0} (step : W → ℕ → List ℕ → Stepped W) (before after : Option (List ℕ)) (halt : Halt) (old : RunState W) (bytes : List ℕ) (w : W) : Type 0 where
  pub into : HaltsInto step before after halt old bytes
  pub reached : ReachesFrom step old bytes w

-- the same, by all choices that the state to which the run came allows: the one before allowed them too, so that what holds
-- of two pieces by the choices behind the second holds of both together
module _ {W C : Type 0} (step : C → W → ℕ → List ℕ → Stepped W) (allowed : W → C → Type 0) where
  abbrev pub FeedsBy : Option (List ℕ) → Option (List ℕ) → RunState W → List ℕ → RunState W → Type 0
  FeedsBy before after old bytes new =
      (choices : C) → allowed new.state choices → allowed old.state choices × FedInto (line_step (step choices)) before after old bytes new

  abbrev pub FinishesBy : Option (List ℕ) → Option (List ℕ) → RunState W → W → Type 0
  FinishesBy before after old w =
      (choices : C) → allowed w choices → allowed old.state choices × FinishesInto (line_step (step choices)) before after old w

  -- where it halted, `known` holds of that state
  abbrev pub HaltsBy : (W → Type 0) → Option (List ℕ) → Option (List ℕ) → Halt → RunState W → List ℕ → Type 0
  HaltsBy known before after halt old bytes = (w : W) × known w
      × ((choices : C) → allowed w choices → allowed old.state choices × HaltsAt (line_step (step choices)) before after halt old bytes w)

-- a write fault comes only where the sink's count rose
pub record HasWriteCause {T : Type 0} (before now : ℕ) (result : Result T Halt) : Type 0 where
  pub later : before ≤ now
  pub failed : IfErr result (λ halt. halt ≡ WriteFault → Rose before now)

-- how far a run is, in bytes, where each line has as many as it may
abbrev pub progress : {W : Type 0} → RunState W → ℕ
progress at = (most_bytes + 1) * at.number + length at.line
