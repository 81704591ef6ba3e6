use Rattle.std.proofs.Common.{sym, ap, ◌∙◌}
use Rattle.std.proofs.lemmas.Result.{on_ok_weaker}
use Rattle.proc_state.specs.Packets.{proc_accept}
use Rattle.world_state.specs.Procs.{proc_of}
use Rattle.world.proofs.ProcPlaces.{at_proc-written}
use Rattle.world.proofs.ProcSites.{at_proc-none}
use Rattle.world_calls.proofs.deliver.accept_at.Goals as goal

pub returns-in_default-clause-ok : goal.returns-in_default-clause-ok
returns-in_default-clause-ok c =
    sym (at_proc-none c.args.to.now (proc_accept c.args.sealed.now) c.args.sites.now.items (ap (proc_of c.args.to.now) (sym c.deref.ensures.value) ∙ c.in_default.ensures))

pub returns-clause-ok : goal.returns-clause-ok
returns-clause-ok c =
    on_ok_weaker c.accept.result (at_proc-written _ _ _ _ _ c.deref.ensures.value c.in-Some.ensures c.index_mut.ensures.value (proc_accept c.args.sealed.now) c.accept.new.site)
    c.accept.ensures.ok
