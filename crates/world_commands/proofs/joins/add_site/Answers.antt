-- Those that were there stand first.
use Rattle.std.proofs.Common.{◌≡◌, List, ◌++◌, length, map, take, drop, ap, ◌∙◌}
use Rattle.site_state.specs.State.{SiteState}
use Rattle.site_state.specs.Joining.{site_open}
use Rattle.world_commands.proofs.OpenedSites.{changed_before}
use Rattle.world_commands.proofs.joins.add_site.Goals as goal

pub returns-clause-ok : goal.returns-clause-ok
returns-clause-ok c =
    let opens : SiteState → SiteState = site_open c.args.site.now in
    let old = c.args.sites.now in
    let count = c.len-count.result in
    let all : count ≡ length old.items = c.len-count.ensures ∙ old.ok.0 in
    c.open_first.ensures ∙ ap (λ (xs : List SiteState). map opens (take count xs) ++ drop count xs) c.in_ok-push.ensures.items ∙ changed_before opens c.args.made old.items count all
