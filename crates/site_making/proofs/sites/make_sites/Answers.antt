-- The filled copy has the schema of the store.
use Rattle.std.proofs.Common.{◌≡◌, List, subst}
use Rattle.std.specs.Prelude.{IfOk}
use Rattle.site_state.specs.State.{SiteState}
use Rattle.world_state.specs.Making.{rows_made}
use Rattle.site_making.proofs.EarlySites.{same_sites}
use Rattle.site_making.proofs.sites.make_sites.Goals as goal

pub returns : goal.returns
returns c =
    let schema = c.args.store.now.schema in
    subst (λ (states : List SiteState). IfOk c.early_sites.result (λ sites. sites.items ≡ states))
    (same_sites schema c.in_ok-filled.filled.schema (rows_made schema c.args.store.now.tables) c.in_ok-filled.filled.tables c.args.snapshots.now c.in_ok-filled.ensures.schema c.in_ok-filled.ensures.tables)
    c.early_sites.ensures
