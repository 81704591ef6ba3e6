use Rattle.std.proofs.Common.{◌<◌, length, option_copied, ap, ◌∙◌, arith}
use Rattle.rep_lists.proofs.Each.{each_at}
use Rattle.rep_lists.proofs.InPlace.{unchanged_yet, changed_more}
use Rattle.page_tables.specs.Index.{UniqueSlots, listed, CanList}
use Rattle.page_tables.proofs.unique_index.list.Goals as goal

pub list_one-requires : goal.list_one-requires
list_one-requires c =
    let entry = c.args.indexes.now.items in
    let within : c.loop-place.place < length entry = omega arith in
    rw (c.index_mut.ensures.value, c.loop-place.invariant.changed, unchanged_yet (listed c.args.rows.now c.args.slot (option_copied c.args.before)) entry c.loop-place.place c.index_mut.result.now within)
    (each_at (CanList c.args.rows.now c.args.slot (option_copied c.args.before)) entry c.loop-place.place c.index_mut.result.now within c.requires)

pub loop-place-preserved : goal.loop-place-preserved
loop-place-preserved c =
    let entry = c.args.indexes.now.items in
    let within : c.loop-place.place < length entry = omega arith in
    let changed : UniqueSlots → UniqueSlots = listed c.args.rows.now c.args.slot (option_copied c.args.before) in
    record {
      changed = changed_more changed entry c.loop-place.indexes.items c.loop-place.place c.index_mut.result.now c.list_one.new.index within c.loop-place.invariant.changed (c.list_one.ensures ∙ ap changed c.index_mut.ensures.value);
      number = c.loop-place.invariant.number;
    }
