-- What a command does to a storm that is being run.
use Rattle.std.proofs.Common.{◌≡◌, ℕ, ◌+◌, Some, None, false, refl, sym, ap, inl, inr, add-zero, add-one}
use Rattle.std.specs.Prelude.{◌⊎◌, Option}
use Rattle.rep_values.specs.declared.refusal.Refusal.{Refusal}
use Rattle.report_text.specs.Refusals.{is_memory, refused_text}
use Rattle.script_parse.specs.declared.command.Command.{Command}
use Rattle.world_state.specs.declared.refused.Refused.{Refused}
use Rattle.world_state.specs.World.{WorldState}
use Rattle.world_state.specs.Refusals.{world_refusal}
use Rattle.world_state.specs.Steps.{world_step, step_by, told_by}
use Rattle.world.specs.declared.answer.Answer.{Answer}
use Rattle.world.specs.Texts.{line_text, told_text}
use Rattle.world.specs.Doing.{IsDone, IsOutOfMemory, IsRefused}
use Rattle.replication_cli.specs.declared.tally.Tally.{Tally}
use Rattle.replication_cli.specs.Tallies.{with_refusal, with_text}
use Rattle.replication_cli.specs.Runs.{Running, with_command}

-- what is told of a refused command is counted as one
refusal_told : (t : Tally) (number : ℕ) (why : Refusal) → is_memory why ≡ false → with_text t (refused_text number why) ≡ with_refusal t
refusal_told t number why told = rw told (simp add-zero refl)

step_refused-step : (number : ℕ) (c : Command) (w w' : WorldState) (why : Refused) → IsRefused number c w w' why
    → (world_step number c w ≡ w') × (line_text number c w ≡ refused_text why.line why.refusal)
step_refused-step number c w w' why refused = go (world_refusal c w) refused.told
  where
    go : (o : Option Refusal) → told_by o number c w ≡ Some why
        → (step_by o number c w ≡ w') × (told_text (told_by o number c w) c w ≡ refused_text why.line why.refusal)
    go None met = absurd (cc met)
    go (Some known) met = (sym refused.world, ap (λ (o : Option Refused). told_text o c w) met)

-- a command that was done, and what it printed is counted
pub with_command-done : (r : Running) (w : WorldState) (t : Tally) (answer : Answer) (c : Command) → IsDone r.number c r.world w answer → t ≡ with_text r.tally answer.lines.bytes
    → record { world = w; number = r.number + 1; tally = t } ≡ with_command r c
with_command-done r w t answer c done counted = rw (counted, done.world, done.text, add-one, done.passes) refl

-- a command that was refused, and not for want of memory, is counted as refused
pub with_command-refused : (r : Running) (w : WorldState) (t : Tally) (c : Command) (why : Refused) → is_memory why.refusal ≡ false → IsRefused r.number c r.world w why
    → t ≡ with_refusal r.tally → record { world = w; number = r.number + 1; tally = t } ≡ with_command r c
with_command-refused r w t c why told refused counted =
    let step = step_refused-step r.number c r.world w why refused in
    rw (step.0, step.1, refusal_told r.tally why.line why.refusal told, counted, add-one) refl

-- a command of which it was told that it was refused, and not for want of memory
pub with_command-told : (r : Running) (w : WorldState) (t : Tally) (c : Command) (why : Refused) → is_memory why.refusal ≡ false
    → IsOutOfMemory r.number c r.world w why ⊎ IsRefused r.number c r.world w why → t ≡ with_refusal r.tally
    → record { world = w; number = r.number + 1; tally = t } ≡ with_command r c
with_command-told r w t c why told (inl short) counted = let memory = rw short.memory at told in absurd (cc memory)
with_command-told r w t c why told (inr refused) counted = with_command-refused r w t c why told refused counted
