-- The sites of entries, one after another.
use Rattle.std.proofs.Common.{◌≡◌, ◌+◌, List, ◌++◌, map, drop, sym, ap, ◌∙◌}
use Rattle.std.proofs.lemmas.List.{append-nil, drop_all}
use Rattle.rep_schema.specs.declared.schema.SiteEntry.{SiteEntry}
use Rattle.site_state.specs.State.{SiteState}
use Rattle.world_state.specs.Making.{entry_made}
use Rattle.site_making.specs.Entries.{IsEntryOf}
use Rattle.site_making.proofs.MappedMore.{mapped_more}
use Rattle.site_making.proofs.EarlySites.{of_place}
use Rattle.site_making.proofs.sites.entries_made.Goals as goal

pub entry_made-requires-clause-entry : goal.entry_made-requires-clause-entry
entry_made-requires-clause-entry c =
    of_place (IsEntryOf c.args.filled.now.schema) c.args.entries.now c.loop-entry.entry-index c.entry-item.result c.requires.entries c.loop-entry-test.true c.entry-item.is

pub loop-entry-preserved : goal.loop-entry-preserved
loop-entry-preserved c =
    let site_of : SiteEntry → SiteState = entry_made c.args.filled.now.schema c.args.filled.now.tables c.args.snapshots.now in
    let entries = c.args.entries.now in
    let more = mapped_more site_of entries c.loop-entry.made.items c.loop-entry.entry-index c.entry-item.result c.in_ok-entry_made.field-0 c.loop-entry-test.true c.entry-item.is c.in_ok-entry_made.ensures c.loop-entry.invariant in
    more ∙ ap (λ (xs : List SiteState). xs ++ map site_of (drop (c.loop-entry.entry-index + 1) entries)) (sym {A = List SiteState} c.in_ok-push.ensures.items)

pub returns : goal.returns
returns c =
    let site_of : SiteEntry → SiteState = entry_made c.args.filled.now.schema c.args.filled.now.tables c.args.snapshots.now in
    sym (append-nil c.loop-entry.made.items) ∙ ap (λ (es : List SiteEntry). c.loop-entry.made.items ++ map site_of es) (sym (drop_all c.loop-entry.entry-index c.args.entries.now c.loop-entry-test.false))
    ∙ sym c.loop-entry.invariant
