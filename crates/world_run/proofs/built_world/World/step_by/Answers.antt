-- What came of a line, and what holds of the world that it leaves.
use Rattle.world_state.specs.World.{WorldState}
use Rattle.world_laws.proofs.ProceduresHold.{procedures_hold_of}
use Rattle.world.specs.Doing.{Does, AnswersPrecheck}
use Rattle.world.proofs.BuiltWorlds.{lines_keep_built}
use Rattle.world_laws.proofs.Scripts.{of_script_holds}
use Rattle.world_laws.proofs.SnapshotScripts.{snapshots_hold_of}
use Rattle.world_laws.proofs.AlikeWorlds.{of_snapshots}
use Rattle.world_run.specs.Reporting.{PushLeavesNothingReady, PushLeavesNoCallsReady, RefreshShowsTheQuery, JoinTakesOver}
use Rattle.world_run.proofs.Stepping.{ready-done, called-done, refreshed-done, joined-done}
use Rattle.world_run.proofs.Lent.{as_seen, built_within, kept_free, still_free}
use Rattle.world_run.proofs.built_world.World.step_by.Goals as goal

pub run_or_refuse-requires-clause-built : goal.run_or_refuse-requires-clause-built
run_or_refuse-requires-clause-built g c = built_within c.self.inside.lent c.self.inside.parts c.args.self.now c.self.view_is c.requires.free c.self.invariant.0

pub invariant_of-self : goal.invariant_of-self
invariant_of-self g c =
    let built = built_within c.self.inside.lent c.self.inside.parts c.args.self.now c.self.view_is c.requires.free c.self.invariant.0 in
    kept_free c.self.inside.lent c.self.inside.parts c.args.self.now c.self.view_is c.requires.free c.run_or_refuse.new.parts
    (lines_keep_built c.args.line c.args.command.now c.self.inside.parts c.run_or_refuse.new.parts c.run_or_refuse.result c.requires.named c.run_or_refuse.ensures.does built)

pub returns-clause-free : goal.returns-clause-free
returns-clause-free g c = still_free c.self.inside.lent c.self.inside.parts c.args.self.now c.self.view_is c.requires.free

pub returns-clause-does : goal.returns-clause-does
returns-clause-does g c =
    as_seen c.self.inside.lent c.self.inside.parts c.args.self.now c.self.view_is c.requires.free (λ (old new : WorldState). Does c.args.line c.args.command.now old new c.run_or_refuse.result)
    c.run_or_refuse.new.parts c.run_or_refuse.ensures.does

pub returns-clause-known : goal.returns-clause-known
returns-clause-known g c =
    as_seen c.self.inside.lent c.self.inside.parts c.args.self.now c.self.view_is c.requires.free (λ (old new : WorldState). AnswersPrecheck c.args.line c.args.command.now old c.run_or_refuse.result)
    c.run_or_refuse.new.parts c.run_or_refuse.ensures.known

pub returns-clause-pushed : goal.returns-clause-pushed
returns-clause-pushed g c =
    let built = built_within c.self.inside.lent c.self.inside.parts c.args.self.now c.self.view_is c.requires.free c.self.invariant.0 in
    as_seen c.self.inside.lent c.self.inside.parts c.args.self.now c.self.view_is c.requires.free (λ (old new : WorldState). PushLeavesNothingReady c.args.command.now new c.run_or_refuse.result)
    c.run_or_refuse.new.parts (ready-done c.args.line c.args.command.now c.self.inside.parts c.run_or_refuse.new.parts c.run_or_refuse.result built c.run_or_refuse.ensures.does)

pub returns-clause-calls_pushed : goal.returns-clause-calls_pushed
returns-clause-calls_pushed g c =
    let built = built_within c.self.inside.lent c.self.inside.parts c.args.self.now c.self.view_is c.requires.free c.self.invariant.0 in
    as_seen c.self.inside.lent c.self.inside.parts c.args.self.now c.self.view_is c.requires.free (λ (old new : WorldState). PushLeavesNoCallsReady c.args.command.now new c.run_or_refuse.result)
    c.run_or_refuse.new.parts (called-done c.args.line c.args.command.now c.self.inside.parts c.run_or_refuse.new.parts c.run_or_refuse.result built c.run_or_refuse.ensures.does)

pub returns-clause-refreshed : goal.returns-clause-refreshed
returns-clause-refreshed g c =
    let built = built_within c.self.inside.lent c.self.inside.parts c.args.self.now c.self.view_is c.requires.free c.self.invariant.0 in
    as_seen c.self.inside.lent c.self.inside.parts c.args.self.now c.self.view_is c.requires.free (λ (old new : WorldState). RefreshShowsTheQuery c.args.command.now old new c.run_or_refuse.result)
    c.run_or_refuse.new.parts (refreshed-done c.args.line c.args.command.now c.self.inside.parts c.run_or_refuse.new.parts c.run_or_refuse.result built c.run_or_refuse.ensures.does)

pub returns-clause-joined : goal.returns-clause-joined
returns-clause-joined g c =
    let built = built_within c.self.inside.lent c.self.inside.parts c.args.self.now c.self.view_is c.requires.free c.self.invariant.0 in
    as_seen c.self.inside.lent c.self.inside.parts c.args.self.now c.self.view_is c.requires.free (λ (old new : WorldState). JoinTakesOver c.args.command.now old new c.run_or_refuse.result)
    c.run_or_refuse.new.parts (joined-done c.args.line c.args.command.now c.self.inside.parts c.run_or_refuse.new.parts c.run_or_refuse.result built c.run_or_refuse.ensures.does)

pub returns-clause-laws : goal.returns-clause-laws
returns-clause-laws g c =
    let built = built_within c.self.inside.lent c.self.inside.parts c.args.self.now c.self.view_is c.requires.free c.self.invariant.0 in
    of_script_holds _ (kept_free c.self.inside.lent c.self.inside.parts c.args.self.now c.self.view_is c.requires.free c.run_or_refuse.new.parts
    (lines_keep_built c.args.line c.args.command.now c.self.inside.parts c.run_or_refuse.new.parts c.run_or_refuse.result c.requires.named c.run_or_refuse.ensures.does built)).0.of_script

pub returns-clause-snapshots : goal.returns-clause-snapshots
returns-clause-snapshots g c =
    let built = built_within c.self.inside.lent c.self.inside.parts c.args.self.now c.self.view_is c.requires.free c.self.invariant.0 in
    snapshots_hold_of _ (of_snapshots _ (kept_free c.self.inside.lent c.self.inside.parts c.args.self.now c.self.view_is c.requires.free c.run_or_refuse.new.parts
    (lines_keep_built c.args.line c.args.command.now c.self.inside.parts c.run_or_refuse.new.parts c.run_or_refuse.result c.requires.named c.run_or_refuse.ensures.does built)).0.of_convergence)

pub returns-clause-convergence : goal.returns-clause-convergence
returns-clause-convergence g c =
    let built = built_within c.self.inside.lent c.self.inside.parts c.args.self.now c.self.view_is c.requires.free c.self.invariant.0 in
    c.convergence_holds.ensures.kept _ (kept_free c.self.inside.lent c.self.inside.parts c.args.self.now c.self.view_is c.requires.free c.run_or_refuse.new.parts
    (lines_keep_built c.args.line c.args.command.now c.self.inside.parts c.run_or_refuse.new.parts c.run_or_refuse.result c.requires.named c.run_or_refuse.ensures.does built)).0.of_convergence

pub returns-clause-procedures : goal.returns-clause-procedures
returns-clause-procedures g c =
    let built = built_within c.self.inside.lent c.self.inside.parts c.args.self.now c.self.view_is c.requires.free c.self.invariant.0 in
    procedures_hold_of _ (kept_free c.self.inside.lent c.self.inside.parts c.args.self.now c.self.view_is c.requires.free c.run_or_refuse.new.parts
    (lines_keep_built c.args.line c.args.command.now c.self.inside.parts c.run_or_refuse.new.parts c.run_or_refuse.result c.requires.named c.run_or_refuse.ensures.does built)).0.procs
