-- The masters that are there from the start are distinct.
use Rattle.std.proofs.Common.{◌≡◌, List, map, sym, ap, ◌∙◌, subst}
use Rattle.std.specs.Prelude.{filter}
use Rattle.rep_values.specs.declared.name.SiteName.{SiteName}
use Rattle.rep_schema.specs.declared.schema.Schema.{Schema}
use Rattle.rep_schema.specs.declared.schema.SiteEntry.{SiteEntry}
use Rattle.rep_schema.specs.Shape.{AreDistinct, is_early_master}
use Rattle.rep_schema.specs.Sites.{names_of}
use Rattle.site_state.specs.Fits.{SchemaIsKeyed}
use Rattle.proc_state.specs.Calls.{AreProcedures}
use Rattle.world_state.specs.Procs.{proc_schema, early_masters, proc_made}
use Rattle.site_making.proofs.EarlyMasters.{filtered_distinct}
use Rattle.site_making.proofs.procs.make_proc_sites.Goals as goal

pub procs_made-requires-clause-keyed : goal.procs_made-requires-clause-keyed
procs_made-requires-clause-keyed c = subst SchemaIsKeyed (sym c.in_ok-own.ensures) c.requires.keyed

pub procs_made-requires-clause-procedures : goal.procs_made-requires-clause-procedures
procs_made-requires-clause-procedures c = subst (λ (s : Schema). AreProcedures s c.args.procedures.now) (sym c.in_ok-own.ensures) c.requires.procedures

pub procs_made-requires-clause-distinct : goal.procs_made-requires-clause-distinct
procs_made-requires-clause-distinct c =
    let early : c.as_slice-2.result.now ≡ early_masters c.args.schema.now
    = c.as_slice-2.ensures ∙ c.in_ok-masters.ensures ∙ ap (λ (es : List SiteEntry). names_of (filter is_early_master es)) c.as_slice.ensures in
    subst AreDistinct (sym early) (filtered_distinct is_early_master c.args.schema.now.sites c.requires.keyed.shape.site_names)

pub returns : goal.returns
returns c =
    let schema = c.args.schema.now in
    let early : c.as_slice-2.result.now ≡ early_masters schema
    = c.as_slice-2.ensures ∙ c.in_ok-masters.ensures ∙ ap (λ (es : List SiteEntry). names_of (filter is_early_master es)) c.as_slice.ensures in
    c.in_ok-sites.ensures
    ∙ ap (λ (s : Schema). map (proc_made s c.args.procedures.now c.as_slice-2.result.now) c.as_slice-2.result.now) c.in_ok-own.ensures
    ∙ ap (λ (names : List SiteName). map (proc_made (proc_schema schema c.args.tables.now) c.args.procedures.now names) names) early
