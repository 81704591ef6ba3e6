-- The run begins at the first world, and picks turns that are full.
use Rattle.std.proofs.Common.{subst}
use Rattle.std.proofs.KnownBytes.{Appends-nil, Consumes-nil}
use Rattle.script_drive.proofs.ToldLemmas.{tells_nothing}
use Rattle.script_drive.specs.LineBytes.{line_step, most_piece}
use Rattle.script_drive.specs.Outcome.{RanBy}
use Rattle.script_drive.proofs.PromptLemmas.{prompt_first}
use Rattle.world_run.specs.LiveScripts.{LiveState, live_start, live_step, allowed, known}
use Rattle.world_run.proofs.LiveFull.{some_full, runs_fully, reports_fully}
use Rattle.world_run.proofs.LiveCompleteness.{live_runs_to_its_end}
use Rattle.world_run.proofs.live_run.run_by.Goals as goal

pub returns-in_default-clause-told : goal.returns-in_default-clause-told
returns-in_default-clause-told g c script is =
    let left = g.R.Reader.left c.args.source.now in
    let taken = g.K.Sink.taken c.args.sink.now in
    let full = some_full c.args.json script in (
      full.0,
      full.1,
      tells_nothing (line_step (live_step full.0)) (live_start c.args.json) most_piece left taken (Consumes-nil left) (Appends-nil taken),
      prompt_first (line_step (live_step full.0)) (live_start c.args.json) (g.R.Reader.reads c.args.reader.now) left taken,
    )

pub returns-clause-told : goal.returns-clause-told
returns-clause-told g c =
    let left = g.R.Reader.left in
    let taken = g.K.Sink.taken in
    let reads = g.R.Reader.reads in
    runs_fully c.args.json c.drive.result (left c.args.source.now) (left c.drive.new.source) (taken c.args.sink.now) (taken c.drive.new.sink) (reads c.args.reader.now) (reads c.drive.new.reader)
    (subst (λ (s : LiveState). RanBy live_step allowed known s c.drive.result (left c.args.source.now) (left c.drive.new.source) (taken c.args.sink.now) (taken c.drive.new.sink) (reads c.args.reader.now) (reads c.drive.new.reader))
    c.in-Ok.ensures c.drive.ensures.told)

pub returns-clause-complete : goal.returns-clause-complete
returns-clause-complete g c =
    let left = g.R.Reader.left in
    let taken = g.K.Sink.taken in
    let reads = g.R.Reader.reads in
    live_runs_to_its_end c.args.json (left c.args.source.now) (left c.drive.new.source) (taken c.args.sink.now) (taken c.drive.new.sink)
    (g.R.Reader.faults c.args.source.now) (g.R.Reader.faults c.drive.new.source) (g.K.Sink.faults c.args.sink.now) (g.K.Sink.faults c.drive.new.sink) c.drive.result
    (reports_fully c.args.json c.drive.result (left c.args.source.now) (left c.drive.new.source) (taken c.args.sink.now) (taken c.drive.new.sink) (reads c.args.reader.now) (reads c.drive.new.reader)
    (returns-clause-told g c)) c.drive.ensures.read c.drive.ensures.write c.drive.ensures.ran

pub returns-in_default-clause-worlds : goal.returns-in_default-clause-worlds
returns-in_default-clause-worlds g c json turns script n is = c.live_worlds_hold.ensures.lines json turns script n

pub returns-clause-worlds : goal.returns-clause-worlds
returns-clause-worlds g c json turns script n is = c.live_worlds_hold.ensures.lines json turns script n
