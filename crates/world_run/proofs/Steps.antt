-- The step of a line, by what its command does.
use Rattle.std.proofs.Common.{◌≡◌, ℕ, List, Some, None, false, refl, ap, inl, inr}
use Rattle.std.specs.Prelude.{◌⊎◌, Option, Ok}
use Rattle.rep_values.specs.declared.refusal.Refusal.{Refusal}
use Rattle.script_drive.specs.Runs.{goes}
use Rattle.report_text.specs.Refusals.{is_memory, refused_text}
use Rattle.script_lex.specs.declared.stop.LineStop.{LineStop}
use Rattle.script_lex.specs.declared.stop.LineStop.TheVariants.{Rule, Memory}
use Rattle.script_lex.specs.Stop.{Fails}
use Rattle.script_parse.specs.declared.command.Command.{Command}
use Rattle.script_parse.specs.Parsed.{parsed}
use Rattle.world_state.specs.declared.refused.Refused.{Refused}
use Rattle.world.specs.declared.answer.Answer.{Answer}
use Rattle.world.specs.Texts.{told_text}
use Rattle.world_state.specs.World.{WorldState}
use Rattle.world_state.specs.Refusals.{world_refusal}
use Rattle.world_state.specs.Steps.{world_refused, step_by, told_by}
use Rattle.world.specs.Doing.{IsDone, IsOutOfMemory, IsRefused}
use Rattle.script_drive.specs.LineBytes.{StopsBy}
use Rattle.world_run.specs.Scripts.{script_step}

-- a line that was done
pub script_step-done : (w w' : WorldState) (number : ℕ) (line : List ℕ) (answer : Answer) (c : Command) → parsed line ≡ Ok c → IsDone number c w w' answer → script_step w number line ≡ goes w' answer.lines.bytes
unfolding script_step
script_step-done w w' number line answer c read done = rw (read, done.passes, done.world, done.text) refl

-- a line that was refused
pub script_step-refused : (w w' : WorldState) (number : ℕ) (line : List ℕ) (c : Command) (r : Refused) → parsed line ≡ Ok c → IsRefused number c w w' r
    → script_step w number line ≡ goes w' (refused_text r.line r.refusal)
unfolding script_step
script_step-refused w w' number line c r read refused = rw (read, refused.world) (go (world_refusal c w) refused.told)
  where
    go : (o : Option Refusal) → told_by o number c w ≡ Some r → goes (step_by o number c w) (told_text (told_by o number c w) c w) ≡ goes (world_refused c w) (refused_text r.line r.refusal)
    go None told = absurd (cc told)
    go (Some why) told = ap (λ (o : Option Refused). goes (world_refused c w) (told_text o c w)) told

-- a line of which it was told that it was refused: it wasn't for want of memory
pub script_step-told : (w w' : WorldState) (number : ℕ) (line : List ℕ) (c : Command) (r : Refused) → parsed line ≡ Ok c → is_memory r.refusal ≡ false
    → IsOutOfMemory number c w w' r ⊎ IsRefused number c w w' r → script_step w number line ≡ goes w' (refused_text r.line r.refusal)
script_step-told w w' number line c r read told (inl short) = let memory = rw short.memory at told in absurd (cc memory)
script_step-told w w' number line c r read told (inr refused) = script_step-refused w w' number line c r read refused

-- a line that gives no command
pub script_step-broken : (Wants : Type 0) (w : WorldState) (number : ℕ) (line : List ℕ) (stop : LineStop) → Fails Wants stop (parsed line) → StopsBy (script_step w number line) w number stop
unfolding script_step
script_step-broken Wants w number line (Rule rule) broken = rw broken refl
script_step-broken Wants w number line Memory broken = tt
