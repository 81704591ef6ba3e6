use Rattle.std.proofs.Common.{rules, ◌≤◌, refl, arith}
use Rattle.std.specs.Prelude.{min}
use Rattle.std.specs.List.{AllByRecursion}
use Rattle.page_tables.specs.Index.{UniqueSlots}
use Rattle.page_tables.proofs.RoomyIndexes.{roomier_self, room_roomier, stored_roomier, columns_roomier, least_from}
use Rattle.page_tables.proofs.PutRows.{room_each, on_ok}
use Rattle.page_tables.proofs.indexed_rows.IndexedRows.reserve.Goals as goal

pub returns-in_err-reserve-clause-succeeds : goal.returns-in_err-reserve-clause-succeeds
returns-in_err-reserve-clause-succeeds c =
    let kept = c.args.self.now in
    λ enough. (let ok = c.reserve.ensures.succeeds (room_each c.args.most kept.slots kept.order kept.indexes.items enough).0 in search rules)

pub returns-in_err-reserve-clause-kept : goal.returns-in_err-reserve-clause-kept
returns-in_err-reserve-clause-kept c =
    let kept = c.args.self.now in
    room_roomier kept.slots c.reserve.new.self kept.order kept.order c.reserve.ensures.rows c.reserve.ensures.free c.reserve.ensures.kept refl (omega arith) kept.indexes.items kept.indexes.items (roomier_self kept.indexes.items)

pub returns-in_err-reserve-clause-stored : goal.returns-in_err-reserve-clause-stored
returns-in_err-reserve-clause-stored c =
    let kept = c.args.self.now in
    stored_roomier kept.slots c.reserve.new.self kept.order kept.order c.reserve.ensures.rows c.reserve.ensures.free c.reserve.ensures.kept refl (omega arith) kept.indexes.items kept.indexes.items (roomier_self kept.indexes.items) c.reserve.ensures.few c.requires

pub returns-in_err-reserve-2-clause-succeeds : goal.returns-in_err-reserve-2-clause-succeeds
returns-in_err-reserve-2-clause-succeeds c =
    let kept = c.args.self.now in
    λ enough. (let ok = c.reserve-2.ensures.succeeds (room_each c.args.most kept.slots kept.order kept.indexes.items enough).1 in search rules)

pub returns-in_err-reserve-2-clause-kept : goal.returns-in_err-reserve-2-clause-kept
returns-in_err-reserve-2-clause-kept c =
    let kept = c.args.self.now in
    room_roomier kept.slots c.reserve.new.self kept.order c.reserve-2.new.self c.reserve.ensures.rows c.reserve.ensures.free c.reserve.ensures.kept c.reserve-2.ensures.items c.reserve-2.ensures.kept kept.indexes.items kept.indexes.items (roomier_self kept.indexes.items)

pub returns-in_err-reserve-2-clause-stored : goal.returns-in_err-reserve-2-clause-stored
returns-in_err-reserve-2-clause-stored c =
    let kept = c.args.self.now in
    stored_roomier kept.slots c.reserve.new.self kept.order c.reserve-2.new.self c.reserve.ensures.rows c.reserve.ensures.free c.reserve.ensures.kept c.reserve-2.ensures.items c.reserve-2.ensures.kept kept.indexes.items kept.indexes.items (roomier_self kept.indexes.items) c.reserve.ensures.few c.requires

pub returns-clause-ok : goal.returns-clause-ok
returns-clause-ok c =
    let kept = c.args.self.now in
    let slots = c.in_ok-reserve.ensures.ok in
    let order = c.in_ok-reserve-2.ensures.ok in
    let least : c.args.most ≤ min c.reserve.new.self.most c.reserve-2.new.self.most = omega (arith, slots, order) in
    on_ok {P = AllByRecursion (λ (index : UniqueSlots). c.args.most ≤ index.most) c.reserve_each.new.indexes.items} c.reserve_each.result (λ all. least_from c.args.most (min c.reserve.new.self.most c.reserve-2.new.self.most) c.reserve_each.new.indexes.items least all) c.reserve_each.ensures.ok

pub returns-clause-succeeds : goal.returns-clause-succeeds
returns-clause-succeeds c =
    let kept = c.args.self.now in
    λ enough. c.reserve_each.ensures.succeeds (room_each c.args.most kept.slots kept.order kept.indexes.items enough).2

pub returns-clause-kept : goal.returns-clause-kept
returns-clause-kept c =
    let kept = c.args.self.now in
    room_roomier kept.slots c.reserve.new.self kept.order c.reserve-2.new.self c.reserve.ensures.rows c.reserve.ensures.free c.reserve.ensures.kept c.reserve-2.ensures.items c.reserve-2.ensures.kept kept.indexes.items c.reserve_each.new.indexes.items c.reserve_each.ensures.kept

pub returns-clause-columns : goal.returns-clause-columns
returns-clause-columns c =
    let kept = c.args.self.now in
    columns_roomier kept.indexes.items c.reserve_each.new.indexes.items c.reserve_each.ensures.kept

pub returns-clause-stored : goal.returns-clause-stored
returns-clause-stored c =
    let kept = c.args.self.now in
    stored_roomier kept.slots c.reserve.new.self kept.order c.reserve-2.new.self c.reserve.ensures.rows c.reserve.ensures.free c.reserve.ensures.kept c.reserve-2.ensures.items c.reserve-2.ensures.kept kept.indexes.items c.reserve_each.new.indexes.items c.reserve_each.ensures.kept c.reserve.ensures.few c.requires
