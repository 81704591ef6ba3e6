use Rattle.std.proofs.Common.{[], sym, ◌∙◌}
use mathlib.Core.Bool.{false≢true}
use Rattle.std.proofs.lemmas.List.{get_or-map}
use Rattle.rep_lists.proofs.Each.{each_at}
use Rattle.page_tables.specs.Index.{UniqueSlots}
use Rattle.page_tables.specs.Stored.{IsIndexOf}
use Rattle.page_tables.proofs.InRows.{none_held, one_held, not_held}
use Rattle.page_tables.proofs.indexed_rows.IndexedRows.holds.Goals as goal

-- the index is one of the rows
pub find-requires : goal.find-requires
find-requires c =
    let kept = c.args.self.now in
    let is = each_at (IsIndexOf kept.slots kept.order) kept.indexes.items c.args.constraint c.index.result.now c.requires.constraint c.requires.stored.indexed in
    rw (c.rows-rows.ensures, c.index.ensures) is.rising

pub returns-in-Some : goal.returns-in-Some
returns-in-Some c =
    let kept = c.args.self.now in
    let is = each_at (IsIndexOf kept.slots kept.order) kept.indexes.items c.args.constraint c.index.result.now c.requires.constraint c.requires.stored.indexed in
    let found = rw (c.rows-rows.ensures, c.index.ensures) at (sym c.find.ensures ∙ c.in-Some.is) in
    let places = get_or-map (λ (index : UniqueSlots). index.columns) kept.indexes.items c.args.constraint c.index.result.now [] c.requires.constraint in
    let same = rw (c.row_in.ensures, c.rows-rows.ensures) at c.have_one_key.ensures in
    rw places (not_held c.have_one_key.result same (one_held c.args.columns.now kept.slots.rows kept.order.items _ _ _ is c.args.row.now c.in-Some.slot found))

pub returns-in-None : goal.returns-in-None
returns-in-None c =
    let kept = c.args.self.now in
    let is = each_at (IsIndexOf kept.slots kept.order) kept.indexes.items c.args.constraint c.index.result.now c.requires.constraint c.requires.stored.indexed in
    let none = rw (c.rows-rows.ensures, c.index.ensures) at (sym c.find.ensures ∙ c.in-None.is) in
    let places = get_or-map (λ (index : UniqueSlots). index.columns) kept.indexes.items c.args.constraint c.index.result.now [] c.requires.constraint in
    rw places (λ t. absurd (false≢true t), λ any. absurd (none_held c.args.columns.now kept.slots.rows kept.order.items _ _ _ is c.args.row.now none any))
