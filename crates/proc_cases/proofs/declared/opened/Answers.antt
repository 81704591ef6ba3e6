-- The names of the other sites are distinct, as those of all sites are.
use Rattle.std.proofs.Common.{◌≡◌, not, filter, List, sym, ap, subst, ◌∙◌}
use Rattle.rep_values.specs.declared.name.SiteName.{SiteName}
use Rattle.rep_schema.specs.declared.schema.SiteEntry.{SiteEntry}
use Rattle.rep_schema.specs.Shape.{AreDistinct}
use Rattle.rep_schema.specs.Sites.{names_of}
use Rattle.rep_values.specs.SiteNames.{is_same_site}
use Rattle.proc_cases.proofs.Others.{others_are_distinct}
use Rattle.proc_cases.proofs.declared.opened.Goals as goal

pub make-requires-clause-distinct : goal.make-requires-clause-distinct
make-requires-clause-distinct c =
    let others = λ (sites : List SiteEntry). filter (λ (n : SiteName). not (is_same_site n c.args.name)) (names_of sites) in
    let are : c.deref.result.now ≡ others c.args.schema.now.sites = c.deref.ensures.value ∙ c.in_ok-others.ensures ∙ ap others c.as_slice.ensures in
    subst AreDistinct (sym are) (others_are_distinct c.args.schema.now c.args.name c.requires.keyed)
