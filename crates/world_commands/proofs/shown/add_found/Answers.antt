-- The site at the place that is found is the one of the name.
use Rattle.std.proofs.Common.{◌≡◌, ◌++◌, None, Option, append-nil, sym, ap, ◌∙◌}
use Rattle.site_state.specs.State.{SiteState}
use Rattle.site_events.specs.Cluster.{site_of}
use Rattle.world_state.specs.World.{WorldState}
use Rattle.world.specs.Texts.{shown_found}
use Rattle.world.proofs.Written.{site_of-world}
use Rattle.world_commands.proofs.shown.add_found.Goals as goal

pub returns-in_default : goal.returns-in_default
returns-in_default c =
    let w = c.args.parts.now in
    let old = c.args.lines.now.bytes in
    let none : site_of c.args.name.now w.sites ≡ None = ap (site_of c.args.name.now) (sym (c.deref.ensures.value ∙ ap (λ (v : WorldState). v.sites) c.parts.view_is)) ∙ c.in_default.ensures in
    sym (append-nil old) ∙ ap (λ (o : Option SiteState). old ++ shown_found c.args.what c.args.name.now o w) (sym none)

pub returns : goal.returns
returns c =
    let w = c.args.parts.now in
    let there = site_of-world _ _ _ _ _ _ c.parts.view_is c.deref.ensures.value c.in-Some.ensures c.index-site.ensures in
    c.in_ok-add_shown.ensures ∙ ap (λ (o : Option SiteState). c.args.lines.now.bytes ++ shown_found c.args.what c.args.name.now o w) (sym there)
