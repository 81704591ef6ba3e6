-- What every step of a run keeps holds of all its states.
use Rattle.std.proofs.Common.{◌≡◌, ℕ, ◌+◌, Bool, true, List, [], ◌∷◌}
use Rattle.script_drive.specs.Runs.{Stepped, state_after}
use Rattle.script_drive.specs.Fed.{RunState, Fed}
use Rattle.script_drive.specs.Lines.{whole_lines}
use Rattle.script_drive.specs.Laws.{StepsKeep, HoldsThroughout}
use Rattle.script_drive.proofs.ReachLemmas.{holds_at_end}

module _ {W : Type 0} (step : W → ℕ → List ℕ → Stepped W) (holds : W → Bool) (keep : StepsKeep step holds) where
  holds_behind : (w : W) (n : ℕ) (lines : List (List ℕ)) → holds w ≡ true → holds (state_after step w n lines) ≡ true
  holds_behind w n [] holding = holding
  holds_behind w n (line ∷ lines) holding = holds_behind (step w n line).state (n + 1) lines (keep w n line holding)

  holds_fed : (old : RunState W) (bytes out : List ℕ) (new : RunState W) → Fed step old bytes out new → holds old.state ≡ true → holds new.state ≡ true
  holds_fed old bytes out new fed holding = rw fed.after (holds_behind old.state old.number (whole_lines old.line bytes) holding)

  -- what the steps keep holds throughout
  pub HoldsThroughout-kept : HoldsThroughout step holds
  HoldsThroughout-kept = record { behind = holds_behind; end = holds_at_end step (λ w. holds w ≡ true) keep; fed = holds_fed }
