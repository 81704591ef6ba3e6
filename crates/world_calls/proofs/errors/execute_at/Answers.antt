-- The site at the place that is found is the one of the name.
use Rattle.std.proofs.Common.{◌≡◌, ℕ, Some, sym, ap, ◌∙◌, inl, inr}
use Rattle.std.specs.Prelude.{◌⊎◌, Option}
use Rattle.std.proofs.lemmas.Result.{on_ok_weaker, on_err_weaker, IfErr-weaker}
use Rattle.rep_values.specs.declared.name.SiteName.{SiteName}
use Rattle.rep_values.specs.declared.refusal.Refusal.{Refusal}
use Rattle.rep_values.specs.declared.refusal.Refusal.TheVariants as refusal
use Rattle.proc_state.specs.State.{ProcState}
use Rattle.proc_state.specs.Errors.{proc_execute, proc_execute_refusal}
use Rattle.world_state.specs.Procs.{Procs, proc_of}
use Rattle.world.proofs.ProcPlaces.{proc_of-procs, procs-written, procs-unwritten}
use Rattle.world.proofs.ProcSites.{at_proc-none}
use Rattle.world_calls.specs.Sending.{execute_stop}
use Rattle.world_calls.proofs.errors.execute_at.Goals as goal

-- what hinders the site that is there hinders the execution
refused_there : (origin : SiteName) (position : ℕ) (o : Option ProcState) (x : ProcState) (why : Refusal) → o ≡ Some x
    → (why ≡ refusal.Memory) ⊎ (proc_execute_refusal origin position x ≡ Some why) → (why ≡ refusal.Memory) ⊎ (execute_stop origin position o ≡ Some why)
refused_there origin position o x why there (inl memory) = inl memory
refused_there origin position o x why there (inr stops) = inr (ap (execute_stop origin position) there ∙ stops)

pub returns-in_default-clause-ok : goal.returns-in_default-clause-ok
returns-in_default-clause-ok c =
    let p = c.args.procs.now in
    ap (λ sites. record p { sites = sites })
    (sym (at_proc-none c.args.site.now (proc_execute c.args.origin.now c.args.position) p.sites
    (ap (proc_of c.args.site.now) (sym (c.deref.ensures.value ∙ ap (λ (q : Procs). q.sites) c.procs.view_is)) ∙ c.in_default.ensures)))

pub returns-in_default-clause-executes : goal.returns-in_default-clause-executes
returns-in_default-clause-executes c =
    ap (execute_stop c.args.origin.now c.args.position) (ap (proc_of c.args.site.now) (sym (c.deref.ensures.value ∙ ap (λ (q : Procs). q.sites) c.procs.view_is)) ∙ c.in_default.ensures)

pub returns-clause-ok : goal.returns-clause-ok
returns-clause-ok c =
    on_ok_weaker c.execute_error.result
    (procs-written _ _ _ _ _ _ c.procs.view_is c.deref.ensures.value c.in-Some.ensures c.index_mut.ensures.value (proc_execute c.args.origin.now c.args.position) c.execute_error.new.self) c.execute_error.ensures.ok

pub returns-clause-executes : goal.returns-clause-executes
returns-clause-executes c =
    let there = proc_of-procs _ _ _ _ _ _ c.procs.view_is c.deref.ensures.value c.in-Some.ensures c.index_mut.ensures.value in
    on_ok_weaker c.execute_error.result (λ executes. ap (execute_stop c.args.origin.now c.args.position) there ∙ executes) c.execute_error.ensures.executes

pub returns-clause-err : goal.returns-clause-err
returns-clause-err c =
    let there = proc_of-procs _ _ _ _ _ _ c.procs.view_is c.deref.ensures.value c.in-Some.ensures c.index_mut.ensures.value in
    IfErr-weaker c.execute_error.result _ _ (λ why stops. refused_there c.args.origin.now c.args.position _ _ why there stops) c.execute_error.ensures.err

pub returns-clause-kept : goal.returns-clause-kept
returns-clause-kept c =
    on_err_weaker c.execute_error.result
    (procs-unwritten _ _ _ _ _ _ c.procs.view_is c.deref.ensures.value c.in-Some.ensures c.index_mut.ensures.value c.execute_error.new.self) c.execute_error.ensures.kept
