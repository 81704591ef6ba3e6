use Rattle.std.proofs.Common.{rules, ◌<◌, ◌≤◌, length, subst, arith}
use Rattle.rep_lists.proofs.Each.{each_at}
use Rattle.page_tables.specs.Index.{UniqueSlots, IsRoomier}
use Rattle.page_tables.proofs.RoomyIndexes.{roomier_self, roomier_set, each_roomier, each_taken, length_roomier}
use Rattle.page_tables.proofs.indexed_rows.reserve_each.Goals as goal

pub loop-place-init : goal.loop-place-init
loop-place-init c = record { roomier = roomier_self c.args.indexes.now.items; done = tt }

-- an index that had room enough is never short of memory
pub returns-in_err-reserve-clause-succeeds : goal.returns-in_err-reserve-clause-succeeds
returns-in_err-reserve-clause-succeeds c = λ all.
    let entry = c.args.indexes.now.items in
    let now = c.loop-place.indexes.items in
    let long = length_roomier entry now c.loop-place.invariant.roomier in
    let within : c.loop-place.place < length now = omega (arith, long) in
    let enough = each_at (λ (index : UniqueSlots). c.args.most ≤ index.most) now c.loop-place.place c.index_mut.result.now within (each_roomier c.args.most entry now c.loop-place.invariant.roomier all) in
    let ok = c.reserve.ensures.succeeds (rw (← c.index_mut.ensures.value) at enough) in
    search rules

pub returns-in_err-reserve-clause-kept : goal.returns-in_err-reserve-clause-kept
returns-in_err-reserve-clause-kept c =
    let entry = c.args.indexes.now.items in
    let now = c.loop-place.indexes.items in
    let long = length_roomier entry now c.loop-place.invariant.roomier in
    let within : c.loop-place.place < length now = omega (arith, long) in
    let is = subst (λ (index : UniqueSlots). IsRoomier index c.reserve.new.self) c.index_mut.ensures.value (record { columns = c.reserve.ensures.columns; items = c.reserve.ensures.items; most = c.reserve.ensures.kept }) in
    roomier_set entry now c.loop-place.place c.index_mut.result.now c.reserve.new.self within c.loop-place.invariant.roomier is

pub loop-place-preserved : goal.loop-place-preserved
loop-place-preserved c =
    let entry = c.args.indexes.now.items in
    let now = c.loop-place.indexes.items in
    let long = length_roomier entry now c.loop-place.invariant.roomier in
    let within : c.loop-place.place < length now = omega (arith, long) in
    let is = subst (λ (index : UniqueSlots). IsRoomier index c.reserve.new.self) c.index_mut.ensures.value (record { columns = c.reserve.ensures.columns; items = c.reserve.ensures.items; most = c.reserve.ensures.kept }) in
    record {
      roomier = roomier_set entry now c.loop-place.place c.index_mut.result.now c.reserve.new.self within c.loop-place.invariant.roomier is;
      done = each_taken (λ (index : UniqueSlots). c.args.most ≤ index.most) now c.loop-place.place c.reserve.new.self within c.in_ok-reserve.ensures.ok c.loop-place.invariant.done;
    }
