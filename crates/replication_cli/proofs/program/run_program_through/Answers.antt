-- There was no memory for the words: nothing was read or written.
use Rattle.std.proofs.Common.{◌≡◌, Bool, Some, sym, subst, ◌∙◌}
use Rattle.std.proofs.KnownBytes.{Appends-nil, Consumes-nil}
use Rattle.script_drive.proofs.ToldLemmas.{tells_nothing}
use Rattle.script_drive.specs.LineBytes.{line_step, most_piece}
use Rattle.script_drive.proofs.PromptLemmas.{prompt_first}
use Rattle.world_state.specs.World.{first_world}
use Rattle.world_run.specs.Scripts.{script_step}
use Rattle.world_run.specs.LiveScripts.{live_start, live_step, RunsFully}
use Rattle.command_line.specs.declared.words.Asked.TheVariants as asked
use Rattle.replication_cli.proofs.AskedLive.{live_same}
use Rattle.replication_cli.proofs.program.run_program_through.Goals as goal

pub returns-in_default-clause-told : goal.returns-in_default-clause-told
returns-in_default-clause-told g c appliers asked =
    let left = g.R.Reader.left c.args.source.now in
    let taken = g.K.Sink.taken c.args.sink.now in
    tells_nothing (line_step script_step) first_world most_piece left taken (Consumes-nil left) (Appends-nil taken)

pub returns-in_default-clause-prompt : goal.returns-in_default-clause-prompt
returns-in_default-clause-prompt g c appliers asked =
    prompt_first (line_step script_step) first_world (g.R.Reader.reads c.args.reader.now) (g.R.Reader.left c.args.source.now) (g.K.Sink.taken c.args.sink.now)

pub returns-in_default-clause-worlds : goal.returns-in_default-clause-worlds
returns-in_default-clause-worlds g c appliers asked script n is = c.reported_worlds_hold.ensures.lines script n

pub returns-in_default-clause-live : goal.returns-in_default-clause-live
returns-in_default-clause-live g c json asked script is =
    let left = g.R.Reader.left c.args.source.now in
    let taken = g.K.Sink.taken c.args.sink.now in
    let full = c.scripts_have_full_turns.ensures json script in (
      full.0,
      full.1,
      tells_nothing (line_step (live_step full.0)) (live_start json) most_piece left taken (Consumes-nil left) (Appends-nil taken),
      prompt_first (line_step (live_step full.0)) (live_start json) (g.R.Reader.reads c.args.reader.now) left taken,
    )

pub returns-in_default-clause-live_worlds : goal.returns-in_default-clause-live_worlds
returns-in_default-clause-live_worlds g c json asked any turns script n is = c.live_worlds_hold.ensures.lines any turns script n

pub returns-in-Some-Live-clause-live : goal.returns-in-Some-Live-clause-live
returns-in-Some-Live-clause-live g c json asks =
    let left = g.R.Reader.left in
    let taken = g.K.Sink.taken in
    let reads = g.R.Reader.reads in
    let there : c.in-Ok.asked ≡ Some (asked.Live json) = c.in-Ok.ensures.value ∙ asks in
    let form : asked.Live json ≡ asked.Live c.in-Some-Live.json = rw there at c.in-Some-Live.field-0-is in
    subst
    (λ (j : Bool). RunsFully j c.run_live_through.result (left c.args.source.now) (left c.run_live_through.new.source) (taken c.args.sink.now) (taken c.run_live_through.new.sink)
    (reads c.args.reader.now) (reads c.run_live_through.new.reader))
    (live_same c.in-Some-Live.json json (sym form)) c.run_live_through.ensures.told
