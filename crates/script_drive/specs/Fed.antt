-- A run that gets its bytes piece by piece.
use Rattle.std.specs.Prelude.{◌≡◌, ℕ, ◌+◌, List, [], ◌++◌, length, Bool, true, false}
use Rattle.std.specs.declared.option.Option.{Option}
use Rattle.std.specs.Io.KnownBytes.{Appends}
use Rattle.script_drive.specs.Lines.{whole_lines, pending, lines_after}
use Rattle.script_drive.specs.Runs.{Stepped, printed, is_stopped, state_after}

-- written begins whole
abbrev pub Begins : List ℕ → List ℕ → Type 0
Begins written whole = (rest : List ℕ) × (whole ≡ written ++ rest)

-- where a run stands: its state, the number of the line that comes, and the bytes of it so far
pub record RunState (W : Type 0) : Type 0 where
  pub state : W
  pub number : ℕ
  pub line : List ℕ

-- nothing was read yet
abbrev pub run_beginning : {W : Type 0} → W → RunState W
run_beginning w = record { state = w; number = 1; line = [] }

module _ {W : Type 0} (step : W → ℕ → List ℕ → Stepped W) where
  -- what a run prints from there, where these are the last bytes
  abbrev pub prints_from : RunState W → List ℕ → List ℕ
  prints_from at bytes = printed step at.state at.number (lines_after at.line bytes)

  -- a line ends it, where these are the last bytes
  abbrev pub stops_from : RunState W → List ℕ → Bool
  stops_from at bytes = is_stopped step at.state at.number (lines_after at.line bytes)

  -- where it stands after these bytes, of which no line ends it
  abbrev pub standing_after : RunState W → List ℕ → RunState W
  standing_after at bytes = record {
    state = state_after step at.state at.number (whole_lines at.line bytes);
    number = at.number + length (whole_lines at.line bytes);
    line = pending at.line bytes;
  }

  -- all whole lines of the bytes were run, and `out` is what they print
  pub record Fed (old : RunState W) (bytes out : List ℕ) (new : RunState W) : Type 0 where
    pub running : is_stopped step old.state old.number (whole_lines old.line bytes) ≡ false
    pub prints : out ≡ printed step old.state old.number (whole_lines old.line bytes)
    pub after : new ≡ standing_after old bytes

  -- a line of the bytes ends the run, and `out` is what is printed, whatever follows them
  abbrev pub EndsStopped : RunState W → List ℕ → List ℕ → Type 0
  EndsStopped old bytes out = (rest : List ℕ) → (out ≡ prints_from old (bytes ++ rest)) × (stops_from old (bytes ++ rest) ≡ true)

  -- `out` begins what is printed, whatever follows the bytes
  abbrev pub EndsShort : RunState W → List ℕ → List ℕ → Type 0
  EndsShort old bytes out = (rest : List ℕ) → Begins out (prints_from old (bytes ++ rest))

  -- the same three, where a sink took what was printed
  abbrev pub FedInto : Option (List ℕ) → Option (List ℕ) → RunState W → List ℕ → RunState W → Type 0
  FedInto before after old bytes new = (out : List ℕ) × Appends before after out × Fed old bytes out new

  abbrev pub EndsStoppedInto : Option (List ℕ) → Option (List ℕ) → RunState W → List ℕ → Type 0
  EndsStoppedInto before after old bytes = (out : List ℕ) × Appends before after out × EndsStopped old bytes out

  abbrev pub EndsShortInto : Option (List ℕ) → Option (List ℕ) → RunState W → List ℕ → Type 0
  EndsShortInto before after old bytes = (out : List ℕ) × Appends before after out × EndsShort old bytes out

  -- a run of the lines comes to a state: it is the one behind some of the first lines, none of which ends the run
  abbrev pub Reaches : W → ℕ → List (List ℕ) → W → Type 0
  Reaches w n lines w' = (front more : List (List ℕ)) × (lines ≡ front ++ more) × (is_stopped step w n front ≡ false) × (w' ≡ state_after step w n front)

  -- so does a run that goes on from where it stands, whatever follows these bytes
  abbrev pub ReachesFrom : RunState W → List ℕ → W → Type 0
  ReachesFrom old bytes w' = (rest : List ℕ) → Reaches old.state old.number (lines_after old.line (bytes ++ rest)) w'
