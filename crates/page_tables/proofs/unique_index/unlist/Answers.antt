use Rattle.std.proofs.Common.{◌<◌, length, option_copied, ap, ◌∙◌, arith}
use Rattle.rep_lists.proofs.Each.{each_at}
use Rattle.rep_lists.proofs.InPlace.{unchanged_yet, changed_more}
use Rattle.page_tables.specs.Index.{UniqueSlots, unlisted, RisesIn}
use Rattle.page_tables.proofs.unique_index.unlist.Goals as goal

pub unlist_one-requires : goal.unlist_one-requires
unlist_one-requires c =
    let entry = c.args.indexes.now.items in
    let within : c.loop-place.place < length entry = omega arith in
    rw (c.index_mut.ensures.value, c.loop-place.invariant.changed, unchanged_yet (unlisted c.args.rows.now c.args.slot (option_copied c.args.after)) entry c.loop-place.place c.index_mut.result.now within)
    (each_at (RisesIn c.args.rows.now) entry c.loop-place.place c.index_mut.result.now within c.requires)

pub loop-place-preserved : goal.loop-place-preserved
loop-place-preserved c =
    let entry = c.args.indexes.now.items in
    let within : c.loop-place.place < length entry = omega arith in
    let changed : UniqueSlots → UniqueSlots = unlisted c.args.rows.now c.args.slot (option_copied c.args.after) in
    record {
      changed = changed_more changed entry c.loop-place.indexes.items c.loop-place.place c.index_mut.result.now c.unlist_one.new.index within c.loop-place.invariant.changed (c.unlist_one.ensures ∙ ap changed c.index_mut.ensures.value);
      number = c.loop-place.invariant.number;
    }
