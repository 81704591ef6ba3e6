-- The entries that are kept are those of the sites that are there from the start.
use Rattle.std.proofs.Common.{◌≡◌, List, subst}
use Rattle.std.specs.Prelude.{IfOk}
use Rattle.site_state.specs.State.{SiteState}
use Rattle.site_making.proofs.EarlySites.{kept_found, kept_made}
use Rattle.site_making.proofs.sites.early_sites.Goals as goal

pub entries_made-requires-clause-entries : goal.entries_made-requires-clause-entries
entries_made-requires-clause-entries c =
    kept_found c.args.filled.now.schema c.schema-schema.result.now c.as_slice-entries.result.now c.in_ok-early.early c.as_slice-kept.result.now
    c.schema-schema.ensures.value c.as_slice-entries.ensures c.in_ok-early.ensures c.as_slice-kept.ensures c.requires.keyed.shape

pub returns : goal.returns
returns c =
    subst (λ (states : List SiteState). IfOk c.entries_made.result (λ made. made.items ≡ states))
    (kept_made c.args.filled.now.schema c.schema-schema.result.now c.as_slice-entries.result.now c.in_ok-early.early c.as_slice-kept.result.now
    c.schema-schema.ensures.value c.as_slice-entries.ensures c.in_ok-early.ensures c.as_slice-kept.ensures c.args.filled.now.tables c.args.snapshots.now)
    c.entries_made.ensures
