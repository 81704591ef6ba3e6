-- The sites of masters, one after another.
use Rattle.std.proofs.Common.{◌≡◌, ◌+◌, List, ◌++◌, map, drop, sym, ap, ◌∙◌}
use Rattle.std.proofs.lemmas.List.{append-nil, drop_all}
use Rattle.rep_values.specs.declared.name.SiteName.{SiteName}
use Rattle.proc_state.specs.State.{ProcState}
use Rattle.world_state.specs.Procs.{proc_made}
use Rattle.site_making.proofs.MappedMore.{mapped_more}
use Rattle.site_making.proofs.procs.procs_made.Goals as goal

pub loop-name-preserved : goal.loop-name-preserved
loop-name-preserved c =
    let site_of : SiteName → ProcState = proc_made c.args.schema.now c.args.procedures.now c.args.masters.now in
    let masters = c.args.masters.now in
    let more = mapped_more site_of masters c.loop-name.made.items c.loop-name.name-index c.name-item.result c.in_ok-proc_made.field-0 c.loop-name-test.true c.name-item.is c.in_ok-proc_made.ensures c.loop-name.invariant in
    more ∙ ap (λ (xs : List ProcState). xs ++ map site_of (drop (c.loop-name.name-index + 1) masters)) (sym {A = List ProcState} c.in_ok-push.ensures.items)

pub returns : goal.returns
returns c =
    let site_of : SiteName → ProcState = proc_made c.args.schema.now c.args.procedures.now c.args.masters.now in
    sym (append-nil c.loop-name.made.items) ∙ ap (λ (names : List SiteName). c.loop-name.made.items ++ map site_of names) (sym (drop_all c.loop-name.name-index c.args.masters.now c.loop-name-test.false))
    ∙ sym c.loop-name.invariant
