use Rattle.std.proofs.Common.{All, Some, ap}
use Rattle.script_drive.specs.LineBytes.{line_step}
use Rattle.script_drive.specs.Prompt.{IsPrompt, FaultIsLast}
use Rattle.drive_cases.specs.Repeats.{repeat_step}
use Rattle.drive_cases.proofs.NoteLemmas.{notes_are_told}
use Rattle.drive_cases.proofs.runs.noted_run.Goals as goal

pub returns-then-reader-clause-prompt : goal.returns-then-reader-clause-prompt
returns-then-reader-clause-prompt c =
    let reader = c.repeat_through-status.new.reader in
    (notes_are_told (λ script earlier further. All (IsPrompt (line_step repeat_step) 33 script earlier) further × FaultIsLast c.repeat_through-status.result further)
    c.args.script.now c.new.result.items reader.notes.items reader.whole _ _ c.repeat_through-status.ensures.prompt c.new.ensures.items c.if-reader.true
    (ap Some c.in_ok-source.ensures) (ap Some c.make-sink.ensures.empty)).0

pub returns-then-reader-clause-last : goal.returns-then-reader-clause-last
returns-then-reader-clause-last c =
    let reader = c.repeat_through-status.new.reader in
    (notes_are_told (λ script earlier further. All (IsPrompt (line_step repeat_step) 33 script earlier) further × FaultIsLast c.repeat_through-status.result further)
    c.args.script.now c.new.result.items reader.notes.items reader.whole _ _ c.repeat_through-status.ensures.prompt c.new.ensures.items c.if-reader.true
    (ap Some c.in_ok-source.ensures) (ap Some c.make-sink.ensures.empty)).1
