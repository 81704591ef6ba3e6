-- The site at the place that is found is the one of the name.
use Rattle.std.proofs.Common.{sym, ap, ◌∙◌}
use Rattle.world_state.specs.CallBlocks.{are_others}
use Rattle.world.proofs.ProcPlaces.{proc_of-procs}
use Rattle.world.proofs.procs.Procs.are_others.Goals as goal

pub returns : goal.returns
returns c =
    let there = proc_of-procs _ _ _ _ _ _ c.self.view_is c.deref.ensures.value c.in-Some.ensures c.index.ensures in
    c.has_others.ensures ∙ ap (are_others c.args.names.now) (sym there)
