-- The copies are of the schema and the procedures, and the other masters are distinct.
use Rattle.std.proofs.Common.{◌≡◌, List, sym, ap, ◌∙◌, subst}
use Rattle.rep_values.specs.declared.name.SiteName.{SiteName}
use Rattle.rep_schema.specs.declared.schema.Schema.{Schema}
use Rattle.rep_schema.specs.Shape.{AreDistinct}
use Rattle.site_events.specs.Events.{without}
use Rattle.site_state.specs.Fits.{SchemaIsKeyed}
use Rattle.proc_state.specs.declared.procedure.Procedure.{Procedure}
use Rattle.proc_state.specs.Calls.{AreProcedures}
use Rattle.proc_state.specs.State.{new_proc}
use Rattle.site_making.proofs.EarlyMasters.{without_distinct}
use Rattle.site_making.proofs.procs.proc_made.Goals as goal

pub make-requires-clause-keyed : goal.make-requires-clause-keyed
make-requires-clause-keyed c = subst SchemaIsKeyed (sym c.in_ok-own.ensures) c.requires.keyed

pub make-requires-clause-procedures : goal.make-requires-clause-procedures
make-requires-clause-procedures c =
    subst (λ (s : Schema). AreProcedures s c.in_ok-its.its) (sym c.in_ok-own.ensures)
    (subst (λ (ps : List Procedure). AreProcedures c.args.schema.now ps) (sym c.in_ok-its.ensures) c.requires.procedures)

pub make-requires-clause-distinct : goal.make-requires-clause-distinct
make-requires-clause-distinct c =
    subst AreDistinct (sym (c.as_slice.ensures ∙ c.in_ok-others.ensures)) (without_distinct c.args.name.now c.args.masters.now c.requires.distinct)

pub returns : goal.returns
returns c =
    let schema = c.args.schema.now in
    let others : c.as_slice.result.now ≡ without c.args.name.now c.args.masters.now = c.as_slice.ensures ∙ c.in_ok-others.ensures in
    c.in_ok-made.ensures
    ∙ ap (λ (s : Schema). new_proc s c.in_ok-its.its c.args.name.now c.as_slice.result.now) c.in_ok-own.ensures
    ∙ ap (λ (ps : List Procedure). new_proc schema ps c.args.name.now c.as_slice.result.now) c.in_ok-its.ensures
    ∙ ap (λ (names : List SiteName). new_proc schema c.args.procedures.now c.args.name.now names) others
