-- From how a run ended to what its status tells.
use Rattle.std.proofs.Common.{◌≡◌, ◌≢◌, ◌≤◌, ℕ, List, [], ◌∷◌, ◌++◌, length, Some, sym, ap, ◌∙◌, subst}
use Rattle.std.specs.declared.option.Option.{Option}
use Rattle.std.specs.Io.KnownBytes.{Consumes, IsAtEnd}
use Rattle.script_drive.specs.Lines.{newline, lines_after}
use Rattle.script_drive.specs.Runs.{Stepped}
use Rattle.script_drive.specs.Fed.{RunState, run_beginning, FedInto, Reaches, ReachesFrom}
use Rattle.script_drive.specs.Told.{Tells, IsRunning}
use Rattle.script_drive.proofs.ToldLemmas.{at_end, tells_stop, tells_front, tells_stop_last, tells_front_last}
use Rattle.script_drive.specs.LineBytes.{most_piece}
use Rattle.script_drive.specs.Halts.{HaltsInto, status_of}
use Rattle.script_drive.specs.Outcome.{Told}
use Rattle.script_drive.specs.declared.run.Halt.{Halt}
use Rattle.script_drive.specs.declared.run.Halt.TheVariants.{Malformed, WriteFault, Memory}
use Rattle.script_drive.proofs.PromptLemmas.{left_is_told}

module _ {W : Type 0} (step : W → ℕ → List ℕ → Stepped W) (start : W) where
  -- the run ended within these bytes, in the last piece of them
  pub told_halt : (halt : Halt) (l l' k k' : Option (List ℕ)) (read last : List ℕ) → Consumes l l' (read ++ last) → length last ≤ most_piece → IsRunning step start read
      → HaltsInto step k k' halt (run_beginning start) (read ++ last) → Tells (Told step start (status_of halt)) l l' k k'
  told_halt Malformed l l' k k' read last took few running halted = tells_stop step start most_piece l l' k k' read last took few running halted
  told_halt WriteFault l l' k k' read last took few running halted = tells_front step start most_piece l l' k k' read last took few running halted
  told_halt Memory l l' k k' read last took few running halted = tells_front step start most_piece l l' k k' read last took few running halted

  -- all was read, and the run ended within the last line
  pub told_halt_last : (halt : Halt) (l l' k k' k'' : Option (List ℕ)) (read : List ℕ) (at : RunState W) → Consumes l l' read → IsAtEnd l' → FedInto step k k' (run_beginning start) read at
      → HaltsInto step k' k'' halt at (newline ∷ []) → at.line ≢ [] → Tells (Told step start (status_of halt)) l l' k k''
  told_halt_last Malformed l l' k k' k'' read at took end ran halted some = tells_stop_last step start most_piece l l' k k' k'' read at took end ran halted some
  told_halt_last WriteFault l l' k k' k'' read at took end ran halted some = tells_front_last step start most_piece l l' k k' k'' read at took end ran halted some
  told_halt_last Memory l l' k k' k'' read at took end ran halted some = tells_front_last step start most_piece l l' k k' k'' read at took end ran halted some

  -- the state that it came to by then is one that the script leads to
  pub reached_within : (l l' : Option (List ℕ)) (read : List ℕ) (w : W) → Consumes l l' read → ReachesFrom step (run_beginning start) read w
      → (script : List ℕ) → l ≡ Some script → Reaches step start 1 (lines_after [] script) w
  reached_within l l' read w took reach script is =
      let rest = left_is_told l l' script read is took in
      subst (λ s. Reaches step start 1 (lines_after [] s) w) (sym rest.1) (reach rest.0)

  -- the same of one that it came to when all had been read
  pub reached_at_end : (l l' : Option (List ℕ)) (read : List ℕ) (w : W) → Consumes l l' read → IsAtEnd l' → Reaches step start 1 (lines_after [] (read ++ [])) w
      → (script : List ℕ) → l ≡ Some script → Reaches step start 1 (lines_after [] script) w
  reached_at_end l l' read w took end reach script is =
      let rest = left_is_told l l' script read is took in
      let all : script ≡ read ++ [] = rest.1 ∙ ap (λ r. read ++ r) (at_end l' rest.0 end rest.2) in
      subst (λ s. Reaches step start 1 (lines_after [] s) w) (sym all) reach
