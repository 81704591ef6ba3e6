use Rattle.std.proofs.Common.{◌≡◌, List, Bool, None, ap, ◌∙◌, subst}
use Rattle.std.specs.Prelude.{IfOk}
use Rattle.rep_schema.specs.declared.schema.Schema.{Schema}
use Rattle.rep_schema.specs.Tables.{Rows}
use Rattle.txn_effects.specs.declared.local.Here.{Here}
use Rattle.snapshot_query.specs.declared.snapshot.Snapshot.{Snapshot}
use Rattle.site_state.specs.State.{SiteState}
use Rattle.site_state.specs.Making.{master_here, new_site}
use Rattle.world_state.specs.Making.{logged_at, site_made}
use Rattle.site_making.proofs.sites.master_made.Goals as goal

pub returns : goal.returns
returns c =
    let schema = c.args.filled.now.schema in
    let own : c.in_ok-store.store.schema ≡ schema = c.in_ok-store.ensures.schema in
    let seen : c.schema.result.now ≡ schema = c.schema.ensures.value ∙ own in
    let seen_again : c.schema-2.result.now ≡ schema = c.schema-2.ensures.value ∙ own in
    let here : c.master_here-here.result ≡ master_here schema c.args.site = c.master_here-here.ensures ∙ ap (λ (s : Schema). master_here s c.args.site) seen in
    let logged : c.in_ok-logged.logged ≡ logged_at schema c.args.snapshots.now c.args.site =
    c.in_ok-logged.ensures ∙ ap (λ (s : Schema). logged_at s c.args.snapshots.now c.args.site) seen_again in
    subst (λ (state : SiteState). IfOk c.new_site.result (λ made. made ≡ state))
    (
    ap (λ (s : Schema). new_site s c.master_here-here.result c.in_ok-logged.logged c.new.result c.in_ok-store.store.tables) own
    ∙ ap (λ (h : Here). new_site schema h c.in_ok-logged.logged c.new.result c.in_ok-store.store.tables) here
    ∙ ap (λ (l : List Bool). new_site schema (master_here schema c.args.site) l c.new.result c.in_ok-store.store.tables) logged
    ∙ ap (λ (ss : List Snapshot). new_site schema (master_here schema c.args.site) (logged_at schema c.args.snapshots.now c.args.site) ss c.in_ok-store.store.tables) c.new.ensures
    ∙ ap (λ (rs : List Rows). site_made schema rs c.args.snapshots.now c.args.site None) c.in_ok-store.ensures.tables
    )
    c.new_site.ensures
