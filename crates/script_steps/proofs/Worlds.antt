-- What a step leaves of the schema, and what is told of it.
use Rattle.std.proofs.Common.{◌≡◌, ℕ, List, Some, None, false, refl, sym, ap, inl, inr, ◌∙◌}
use Rattle.std.specs.Prelude.{◌⊎◌, Option, Result, Ok, Err}
use Rattle.rep_values.specs.declared.refusal.Refusal.{Refusal}
use Rattle.report_text.specs.Refusals.{is_memory, refused_text}
use Rattle.report_text.specs.Texts.{malformed_text}
use Rattle.script_parse.specs.declared.command.Command.{Command}
use Rattle.script_parse.specs.Parsed.{parsed}
use Rattle.world_state.specs.declared.refused.Refused.{Refused}
use Rattle.world_state.specs.World.{WorldState}
use Rattle.world_state.specs.Refusals.{world_refusal}
use Rattle.world_state.specs.Steps.{world_refused, world_step, step_by, step_refused, told_by}
use Rattle.world_run.specs.Scripts.{script_step, stepped_by}
use Rattle.world.specs.declared.answer.Answer.{Answer}
use Rattle.world.specs.Doing.{IsDone, IsOutOfMemory, IsRefused}
use Rattle.world.specs.Texts.{told_text, line_text}
use Rattle.script_steps.specs.Saying.{world_past, prints_at}

-- a line that was done
pub world_step-done : (number : ℕ) (c : Command) (w w' : WorldState) (answer : Answer) → IsDone number c w w' answer → w' ≡ world_step number c w
world_step-done number c w w' answer done = done.world ∙ sym (ap (λ (o : Option Refusal). step_by o number c w) done.passes)

pub step_refused-done : (number : ℕ) (c : Command) (w w' : WorldState) (answer : Answer) → IsDone number c w w' answer → None ≡ step_refused number c w
step_refused-done number c w w' answer done = sym (ap (λ (o : Option Refusal). told_by o number c w) done.passes)

-- a line that was refused
pub world_step-refused : (number : ℕ) (c : Command) (w w' : WorldState) (r : Refused) → IsRefused number c w w' r → w' ≡ world_step number c w
world_step-refused number c w w' r refused = refused.world ∙ go (world_refusal c w) refused.told
  where
    go : (o : Option Refusal) → told_by o number c w ≡ Some r → world_refused c w ≡ step_by o number c w
    go None told = absurd (cc told)
    go (Some why) told = refl

-- a line of which it was told that it was refused: it wasn't for want of memory
pub world_step-told : (number : ℕ) (c : Command) (w w' : WorldState) (r : Refused) → is_memory r.refusal ≡ false → IsOutOfMemory number c w w' r ⊎ IsRefused number c w w' r → w' ≡ world_step number c w
world_step-told number c w w' r told (inl short) = let memory = rw short.memory at told in absurd (cc memory)
world_step-told number c w w' r told (inr refused) = world_step-refused number c w w' r refused

pub step_refused-told : (number : ℕ) (c : Command) (w w' : WorldState) (r : Refused) → is_memory r.refusal ≡ false → IsOutOfMemory number c w w' r ⊎ IsRefused number c w w' r → Some r ≡ step_refused number c w
step_refused-told number c w w' r told (inl short) = let memory = rw short.memory at told in absurd (cc memory)
step_refused-told number c w w' r told (inr refused) = sym refused.told

-- what each of them prints
pub line_text-done : (number : ℕ) (c : Command) (w w' : WorldState) (answer : Answer) → IsDone number c w w' answer → answer.lines.bytes ≡ line_text number c w
line_text-done number c w w' answer done = done.text ∙ sym (ap (λ (o : Option Refusal). told_text (told_by o number c w) c w) done.passes)

pub line_text-told : (number : ℕ) (c : Command) (w w' : WorldState) (r : Refused) → is_memory r.refusal ≡ false → IsOutOfMemory number c w w' r ⊎ IsRefused number c w w' r → refused_text r.line r.refusal ≡ line_text number c w
line_text-told number c w w' r told (inl short) = let memory = rw short.memory at told in absurd (cc memory)
line_text-told number c w w' r told (inr refused) = sym (ap (λ (o : Option Refused). told_text o c w) refused.told)

-- the world behind a line that is a command, and behind one that is none
pub world_past-command : (w : WorldState) (number : ℕ) (line : List ℕ) (c : Command) → parsed line ≡ Ok c → world_step number c w ≡ world_past w number line
unfolding script_step
world_past-command w number line c read = sym (ap (λ (r : Result Command ℕ). (stepped_by w number r).state) read)

pub world_past-malformed : (w : WorldState) (number : ℕ) (line : List ℕ) (rule : ℕ) → parsed line ≡ Err rule → w ≡ world_past w number line
unfolding script_step
world_past-malformed w number line rule read = sym (ap (λ (r : Result Command ℕ). (stepped_by w number r).state) read)

-- what such a line prints, and what is said of it
pub prints_at-command : (w : WorldState) (number : ℕ) (line : List ℕ) (c : Command) → parsed line ≡ Ok c → line_text number c w ≡ prints_at w number line
unfolding script_step
prints_at-command w number line c read = sym (ap (λ (r : Result Command ℕ). (stepped_by w number r).prints) read)

pub prints_at-malformed : (w : WorldState) (number : ℕ) (line : List ℕ) (rule : ℕ) → parsed line ≡ Err rule → malformed_text number rule ≡ prints_at w number line
unfolding script_step
prints_at-malformed w number line rule read = sym (ap (λ (r : Result Command ℕ). (stepped_by w number r).prints) read)

pub ruleset past_facts = (world_past-command, world_past-malformed, prints_at-command, prints_at-malformed)
