-- The site at the place that is found is the one of the name.
use Rattle.std.proofs.Common.{sym, ap, ◌∙◌}
use Rattle.rep_schema.specs.Sites.{is_among}
use Rattle.world_state.specs.ProcRefusals.{is_other}
use Rattle.world.proofs.ProcPlaces.{proc_of-procs}
use Rattle.world.proofs.procs.Procs.are_two_masters.Goals as goal

pub returns : goal.returns
returns c =
    let there = proc_of-procs _ _ _ _ _ _ c.self.view_is c.deref.ensures.value c.in-Some.ensures c.index.ensures in
    c.is_among.ensures ∙ ap (λ names. is_among names c.args.b.now) c.masters.ensures ∙ ap (is_other c.args.b.now) (sym there)
