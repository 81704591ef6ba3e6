-- The run begins at the first world, and its lines have no choice.
use Rattle.std.proofs.KnownBytes.{Appends-nil, Consumes-nil}
use Rattle.script_drive.proofs.ToldLemmas.{tells_nothing}
use Rattle.script_drive.specs.LineBytes.{line_step, most_piece}
use Rattle.script_drive.proofs.PromptLemmas.{prompt_first}
use Rattle.world_state.specs.World.{first_world}
use Rattle.world_run.specs.Scripts.{script_step}
use Rattle.world_run.proofs.Choices.{ran_from_first}
use Rattle.world_run.proofs.Completeness.{runs_to_its_end}
use Rattle.world_run.proofs.run.run_by.Goals as goal

pub returns-in_default-clause-told : goal.returns-in_default-clause-told
returns-in_default-clause-told g c =
    let left = g.R.Reader.left c.args.source.now in
    let taken = g.K.Sink.taken c.args.sink.now in
    tells_nothing (line_step script_step) first_world most_piece left taken (Consumes-nil left) (Appends-nil taken)

pub returns-in_default-clause-prompt : goal.returns-in_default-clause-prompt
returns-in_default-clause-prompt g c =
    prompt_first (line_step script_step) first_world (g.R.Reader.reads c.args.reader.now) (g.R.Reader.left c.args.source.now) (g.K.Sink.taken c.args.sink.now)

pub returns-in_default-clause-worlds : goal.returns-in_default-clause-worlds
returns-in_default-clause-worlds g c script n is = c.reported_worlds_hold.ensures.lines script n

pub returns-clause-told : goal.returns-clause-told
returns-clause-told g c = (ran_from_first _ _ _ _ _ _ _ _ c.in-Ok.ensures c.drive.ensures.told).1.told

pub returns-clause-prompt : goal.returns-clause-prompt
returns-clause-prompt g c = (ran_from_first _ _ _ _ _ _ _ _ c.in-Ok.ensures c.drive.ensures.told).1.prompt

pub returns-clause-complete : goal.returns-clause-complete
returns-clause-complete g c =
    let left = g.R.Reader.left in
    let taken = g.K.Sink.taken in
    runs_to_its_end (left c.args.source.now) (left c.drive.new.source) (taken c.args.sink.now) (taken c.drive.new.sink)
    (g.R.Reader.faults c.args.source.now) (g.R.Reader.faults c.drive.new.source) (g.K.Sink.faults c.args.sink.now) (g.K.Sink.faults c.drive.new.sink) c.drive.result
    (ran_from_first _ _ _ _ _ _ _ _ c.in-Ok.ensures c.drive.ensures.told).1.told c.drive.ensures.read c.drive.ensures.write c.drive.ensures.ran

pub returns-clause-worlds : goal.returns-clause-worlds
returns-clause-worlds g c script n is = c.reported_worlds_hold.ensures.lines script n
