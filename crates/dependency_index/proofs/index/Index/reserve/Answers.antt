-- Room for a transaction's tokens.
use Rattle.std.proofs.Common.{◌≡◌, ◌+◌, ◌++◌, List, length, map, take, drop, sym, ap, ◌∙◌}
use Rattle.std.proofs.lemmas.List.{length-map}
use Rattle.rep_lists.proofs.InPlace.{written_back}
use Rattle.indexmap.specs.IndexSet.{spare}
use Rattle.dependency_index.specs.Columns.{Lodged, columns_of, noted_streams, rooms, with_room, promised}
use Rattle.dependency_index.proofs.FoundStreams.{IsNoted-kept, noted_to-kept, sites-kept, room_for-each}
use Rattle.dependency_index.proofs.NotedColumns.{kept-promised, room-promised, columns_of-promised, IsIndex-promised, IsIndex-reserved}
use Rattle.dependency_index.proofs.index.Index.reserve.Goals as goal

-- as many streams as hold the same
same_length : (ms ls : List Lodged) → columns_of ms ≡ columns_of ls → length ms ≡ length ls
same_length ms ls same = sym (length-map ms (λ (l : Lodged). l.column)) ∙ ap length same ∙ length-map ls (λ (l : Lodged). l.column)

pub invariant_of-self-in_err-reserve_each : goal.invariant_of-self-in_err-reserve_each
invariant_of-self-in_err-reserve_each c =
    let streams = c.self.inside.streams in
    let long : length c.reserve_each.new.streams ≡ streams.len = same_length c.reserve_each.new.streams c.deref_mut.result.now c.reserve_each.ensures.columns ∙ c.deref_mut.ensures.len in
    let columns = rw c.deref_mut.ensures.value at c.reserve_each.ensures.columns in
    let capacity = rw c.deref_mut.ensures.value at c.reserve_each.ensures.capacity in
    rw (written_back c.reserve_each.new.streams _ streams.len long, c.reserve.ensures.keys)
    (IsIndex-reserved c.self.inside.tokens.keys (spare c.self.inside.tokens) (spare c.reserve.new.self) streams.items c.reserve_each.new.streams c.self.invariant c.reserve.ensures.room.0 columns capacity)

-- the streams after both steps
all : (c : goal.After-self-2-1) → take c.self.inside.streams.len (c.promise_each.new.streams ++ drop (length c.promise_each.new.streams)
    (take c.self.inside.streams.len (c.reserve_each.new.streams ++ drop (length c.reserve_each.new.streams) c.self.inside.streams.items)))
    ≡ map (promised (length c.args.tokens.now.list)) c.reserve_each.new.streams
all c =
    let streams = c.self.inside.streams in
    let taken = c.reserve_each.new.streams in
    let size = length c.args.tokens.now.list in
    let long : length taken ≡ streams.len = same_length taken c.deref_mut.result.now c.reserve_each.ensures.columns ∙ c.deref_mut.ensures.len in
    let given = rw (c.len-size.ensures, c.deref_mut-2.ensures.value, written_back taken _ streams.len long) at c.promise_each.ensures in
    written_back c.promise_each.new.streams _ streams.len (ap length given ∙ length-map taken (promised size) ∙ long) ∙ given

columns : (c : goal.After-self-2-1) → columns_of c.reserve_each.new.streams ≡ columns_of c.self.inside.streams.items
columns c = rw c.deref_mut.ensures.value at c.reserve_each.ensures.columns

-- how a contract sees them
seen : (c : goal.After-self-2-1) → noted_streams c.reserve.new.self.keys (columns_of (map (promised (length c.args.tokens.now.list)) c.reserve_each.new.streams))
    ≡ noted_streams c.self.inside.tokens.keys (map (with_room (length c.args.tokens.now.list)) (columns_of c.self.inside.streams.items))
seen c =
    let size = length c.args.tokens.now.list in
    rw c.reserve.ensures.keys (ap (noted_streams c.self.inside.tokens.keys) (columns_of-promised size c.reserve_each.new.streams ∙ ap (map (with_room size)) (columns c)))

pub invariant_of-self-2 : goal.invariant_of-self-2
invariant_of-self-2 c =
    let tokens = c.self.inside.tokens.keys in
    let streams = c.self.inside.streams.items in
    let size = length c.args.tokens.now.list in
    let sum : c.in_ok-rooms.rooms ≡ rooms (map (with_room size) (columns_of streams)) = rw (c.len-size.ensures, c.deref.ensures.value) at c.in_ok-rooms.ensures in
    let places : c.in_ok-places.places ≡ length tokens + rooms (map (with_room size) (columns_of streams)) =
    c.in_ok-places.ensures ∙ ap (λ n. n + c.in_ok-rooms.rooms) (c.len.ensures.len ∙ ap length c.reserve.ensures.keys) ∙ ap (λ n. length tokens + n) sum in
    rw (all c, c.reserve.ensures.keys)
    (IsIndex-promised tokens (spare c.self.inside.tokens) (spare c.reserve.new.self) size streams c.reserve_each.new.streams c.self.invariant (columns c) (rw sum at c.in_ok-reserve.ensures.ok) (rw places at c.in_ok-reserve_each.ensures.ok))

pub returns-clause-ok : goal.returns-clause-ok
returns-clause-ok c =
    let tokens = c.self.inside.tokens.keys in
    let before = columns_of c.self.inside.streams.items in
    let size = length c.args.tokens.now.list in
    rw (all c, seen c, ← c.self.view_is) (λ site is. room_for-each size site (noted_streams tokens before) (noted_streams tokens (map (with_room size) before)) (kept-promised tokens size before) (room-promised tokens size before) is)

pub returns-clause-noted : goal.returns-clause-noted
returns-clause-noted c =
    let tokens = c.self.inside.tokens.keys in
    let before = columns_of c.self.inside.streams.items in
    let size = length c.args.tokens.now.list in
    rw (all c, seen c, ← c.self.view_is) (λ site stream is. IsNoted-kept (noted_streams tokens before) (noted_streams tokens (map (with_room size) before)) site stream (kept-promised tokens size before) is)

pub returns-clause-room : goal.returns-clause-room
returns-clause-room c =
    let tokens = c.self.inside.tokens.keys in
    let before = columns_of c.self.inside.streams.items in
    let size = length c.args.tokens.now.list in
    rw (all c, seen c, ← c.self.view_is) (λ site. (noted_to-kept site (noted_streams tokens before) (noted_streams tokens (map (with_room size) before)) (kept-promised tokens size before)).room)

pub returns-clause-destinations : goal.returns-clause-destinations
returns-clause-destinations c =
    let tokens = c.self.inside.tokens.keys in
    let before = columns_of c.self.inside.streams.items in
    let size = length c.args.tokens.now.list in
    rw (all c, seen c, ← c.self.view_is) (sites-kept (noted_streams tokens before) (noted_streams tokens (map (with_room size) before)) (kept-promised tokens size before))
