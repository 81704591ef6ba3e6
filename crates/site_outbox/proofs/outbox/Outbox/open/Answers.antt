use Rattle.std.proofs.Common.{◌≡◌, ◌++◌, length, map, take, drop, sym, ◌∙◌}
use Rattle.std.proofs.lemmas.List.{length-map}
use Rattle.rep_lists.proofs.InPlace.{written_back}
use Rattle.site_outbox.specs.DestinationEntries.{destination_entry_opened}
use Rattle.site_outbox.proofs.Opening.{with_marks-opened, IsOutbox-opened, Keeps-opened}
use Rattle.site_outbox.proofs.outbox.Outbox.open.Goals as goal

-- the outlets are those of which one is opened
all : (c : goal.After-self-1) → take c.self.inside.outlets.len (c.open_each.new.outlets ++ drop (length c.open_each.new.outlets) c.self.inside.outlets.items)
    ≡ map (destination_entry_opened c.args.site.now c.self.inside.count) c.self.inside.outlets.items
all c =
    let items = c.self.inside.outlets.items in
    let is = rw c.deref_mut.ensures.value at c.open_each.ensures in
    rw is (written_back (map (destination_entry_opened c.args.site.now c.self.inside.count) items) _ c.self.inside.outlets.len (length-map items (destination_entry_opened c.args.site.now c.self.inside.count) ∙ sym c.self.inside.outlets.ok.0))

pub invariant_of-self : goal.invariant_of-self
invariant_of-self c =
    let inside = c.self.inside in
    let empty = rw (← c.self.view_is) at c.requires.empty in
    rw (all c)
    (IsOutbox-opened inside.outlets.items inside.queue.marks inside.queue.deferred inside.index.streams inside.count inside.purged c.args.site.now empty c.self.invariant)

pub returns-clause-destinations : goal.returns-clause-destinations
returns-clause-destinations c =
    let inside = c.self.inside in
    rw (← c.self.view_is, all c, c.self.invariant.counted) (with_marks-opened c.args.site.now inside.count inside.outlets.items inside.queue.marks c.self.invariant.apart)

pub returns-clause-keeps : goal.returns-clause-keeps
returns-clause-keeps c =
    let inside = c.self.inside in
    rw (← c.self.view_is, all c, with_marks-opened c.args.site.now inside.count inside.outlets.items inside.queue.marks c.self.invariant.apart)
    (λ schema pasts txns keeps. Keeps-opened schema pasts txns c.args.site.now inside.count _ inside.purged inside.queue.deferred inside.index.streams c.self.invariant.counted keeps)
