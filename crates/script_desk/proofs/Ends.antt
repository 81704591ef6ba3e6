-- How a run ends that found errors, or none.
use Rattle.std.proofs.Common.{◌≡◌, ◌≢◌, ℕ, List, [], ◌∷◌, map, refl, sym, ◌∙◌, inl, inr}
use Rattle.std.specs.Prelude.{Option, if◌then◌else◌}
use Rattle.script_drive.specs.declared.status.Status.{Status}
use Rattle.script_drive.specs.declared.status.Status.TheVariants as status
use Rattle.script_steps.specs.declared.answer.Answer.{Answer}
use Rattle.script_lint.specs.declared.error.ErrorFound.{ErrorFound}
use Rattle.script_lint.specs.Adding.{answer_of}
use Rattle.script_lint.specs.Checking.{script_checked}
use Rattle.script_drive.specs.LineBytes.{line_step}
use Rattle.script_drive.specs.Told.{is_ended_early}
use Rattle.world_state.specs.World.{first_world}
use Rattle.world_run.specs.Scripts.{script_step}
use Rattle.run_words.specs.declared.explainer.Next.{Next}
use Rattle.run_words.specs.declared.explainer.Next.TheVariants as next
use Rattle.run_words.specs.Telling.{is_end}
use Rattle.script_desk.specs.Ends.{ReadsAll, EndsRun, LintEnds, RunEnds, SaysOfAll}

-- no error was found
none_said : (errors : List ErrorFound) (answers : List Answer) → map answer_of errors ≡ answers → errors ≡ [] → answers ≡ []
none_said [] answers is none = sym is
none_said (error ∷ errors) answers is none = absurd cc

-- some were
some_said : (errors : List ErrorFound) (answers : List Answer) → map answer_of errors ≡ answers → errors ≢ [] → answers ≢ []
some_said [] answers is some none = some cc
some_said (error ∷ errors) answers is some none = let nothing : map answer_of (error ∷ errors) ≡ [] = is ∙ none in absurd cc

-- a script in which these were found ends so
pub lint_ends : (script : List ℕ) (errors : List ErrorFound) (ended : Status) → map answer_of errors ≡ (script_checked script).answers → (ended ≡ status.Done → errors ≡ [])
    → (ended ≢ status.Done → (ended ≡ status.Malformed) × (errors ≢ [])) → LintEnds script ended
lint_ends script errors status.Done is done error = none_said errors (script_checked script).answers is (done refl)
lint_ends script errors status.Malformed is done error = some_said errors (script_checked script).answers is (error (λ e. cc)).1
lint_ends script errors status.ReadFault is done error = let no = (error (λ e. cc)).0 in cc
lint_ends script errors status.WriteFault is done error = let no = (error (λ e. cc)).0 in cc
lint_ends script errors status.Memory is done error = let no = (error (λ e. cc)).0 in cc
lint_ends script errors status.Usage is done error = let no = (error (λ e. cc)).0 in cc

-- such a status isn't one of a fault
pub lint_ends_run : (script : List ℕ) (ended : Status) → LintEnds script ended → EndsRun ended
lint_ends_run script status.Done ends = inl refl
lint_ends_run script status.Malformed ends = inr refl
lint_ends_run script status.ReadFault ends = absurd ends
lint_ends_run script status.WriteFault ends = absurd ends
lint_ends_run script status.Memory ends = absurd ends
lint_ends_run script status.Usage ends = absurd ends

-- a run that went on to the end, or not, ends so
pub run_ends : (script : List ℕ) (next : Next) (ended : Status) → is_end next ≡ is_ended_early (line_step script_step) first_world script
    → ended ≡ (if is_end next then status.Malformed else status.Done) → RunEnds script ended
run_ends script next.GoesOn ended is so = rw so (sym is)
run_ends script next.Ends ended is so = rw so (sym is)

-- such a status isn't one of a fault either
pub run_ends_run : (script : List ℕ) (ended : Status) → RunEnds script ended → EndsRun ended
run_ends_run script status.Done ends = inl refl
run_ends_run script status.Malformed ends = inr refl
run_ends_run script status.ReadFault ends = absurd ends
run_ends_run script status.WriteFault ends = absurd ends
run_ends_run script status.Memory ends = absurd ends
run_ends_run script status.Usage ends = absurd ends

-- all was read
pub says_of_all : (Says : List ℕ → Status → Type 0) (before after : Option (List ℕ)) (script : List ℕ) (ended : Status) → ReadsAll before after script → Says script ended → SaysOfAll Says before after ended
says_of_all Says before after script status.Done reads says = (script, reads, says)
says_of_all Says before after script status.Malformed reads says = (script, reads, says)
says_of_all Says before after script status.ReadFault reads says = tt
says_of_all Says before after script status.WriteFault reads says = tt
says_of_all Says before after script status.Memory reads says = tt
says_of_all Says before after script status.Usage reads says = tt

pub ruleset end_facts = (lint_ends, lint_ends_run, run_ends, run_ends_run, says_of_all)
