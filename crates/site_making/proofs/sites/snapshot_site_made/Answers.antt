use Rattle.std.proofs.Common.{◌≡◌, List, sym, ◌∙◌, subst}
use Rattle.rep_schema.specs.declared.schema.Schema.{Schema}
use Rattle.snapshot_query.specs.declared.snapshot.Snapshot.{Snapshot}
use Rattle.site_state.specs.Fits.{AreWithin}
use Rattle.site_making.proofs.EarlySites.{AreWithin-snapshots_at}
use Rattle.site_making.proofs.sites.snapshot_site_made.Goals as goal

pub new_site-requires-clause-within : goal.new_site-requires-clause-within
new_site-requires-clause-within c =
    let schema = c.args.filled.now.schema in
    let own : c.show_each.new.store.schema ≡ schema = c.show_each.ensures.schema ∙ c.in_ok-store.ensures.schema ∙ c.in_ok-copy.ensures ∙ c.schema.ensures.value in
    subst (λ (s : Schema). AreWithin s c.in_ok-shown.shown) (sym own)
    (subst (λ (ss : List Snapshot). AreWithin schema ss) (sym c.in_ok-shown.ensures.made) (AreWithin-snapshots_at schema c.args.site c.args.snapshots.now c.requires.within))
