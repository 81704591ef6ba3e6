-- Noting a transaction.
use Rattle.std.proofs.Common.{◌≡◌, length, set, sym, ap, ◌∙◌, arith}
use Rattle.std.specs.Prelude.{◌≢◌}
use Rattle.indexmap.specs.IndexSet.{spare}
use Rattle.rep_values.specs.declared.name.SiteName.{SiteName}
use Rattle.dependency_index.specs.Dependencies.{noted_to, room_in}
use Rattle.dependency_index.specs.Columns.{columns_of, noted_streams}
use Rattle.dependency_index.proofs.FirstStreams.{noted_to-none, IsNoted-found}
use Rattle.dependency_index.proofs.NotedColumns.{position-noted, IsIndex-noted}
use Rattle.dependency_index.proofs.NotedNext.{first_within, CanNote, can_note, IsStep, before, after, others, destinations, dependency, longer}
use Rattle.dependency_index.proofs.index.Index.note.Goals as goal

-- the destination has a place
pub unreachable-requires : goal.unreachable-requires
unreachable-requires c =
    let none = sym (position-noted c.args.to.now c.self.inside.tokens.keys c.self.inside.streams.items) ∙ rw c.deref.ensures.value at (sym c.place_to.ensures ∙ c.in_default.is) in
    (rw (← c.self.view_is) at c.requires.destination) (noted_to-none c.args.to.now (noted_streams c.self.inside.tokens.keys (columns_of c.self.inside.streams.items)) none)

-- its stream has room
can : (c : goal.After-as_slice) → CanNote c.self.inside.tokens.keys (spare c.self.inside.tokens) c.index_mut-stream.result.now (length c.args.tokens.now.list)
can c =
    let room = rw (← c.self.view_is) at c.requires.room in
    can_note c.args.to.now c.self.inside.tokens.keys (spare c.self.inside.tokens) (length c.args.tokens.now.list) c.self.inside.streams.items c.in-Some.place c.index_mut-stream.result.now c.self.invariant
    (record { found = rw c.deref.ensures.value at c.in-Some.ensures; is = c.index_mut-stream.ensures.value }) room

pub note-requires-clause-room : goal.note-requires-clause-room
note-requires-clause-room c = rw c.as_slice.ensures (can c).room

pub note-requires-clause-spare : goal.note-requires-clause-spare
note-requires-clause-spare c = rw c.as_slice.ensures (can c).spare

pub note-requires-clause-within : goal.note-requires-clause-within
note-requires-clause-within c = (can c).within

pub note-requires-clause-places : goal.note-requires-clause-places
note-requires-clause-places c = rw c.as_slice.ensures (can c).places

-- the step that was made
step : (c : goal.After-self-1) → IsStep c.args.to.now c.args.tokens.now.list c.args.position c.self.inside.tokens.keys c.note.new.tokens.keys c.self.inside.streams.items c.in-Some.place c.index_mut-stream.result.now c.note.new.self
step c = record {
  first = record { found = rw c.deref.ensures.value at c.in-Some.ensures; is = c.index_mut-stream.ensures.value };
  distinct = c.self.invariant.distinct;
  later_distinct = c.note.ensures.distinct;
  within = c.self.invariant.within;
  notes = rw c.as_slice.ensures at c.note.ensures.notes;
  site = c.note.ensures.site;
  count = c.note.ensures.count;
}

pub invariant_of-self : goal.invariant_of-self
invariant_of-self c =
    let room = rw c.as_slice.ensures at c.note.ensures.room in
    let less = rw c.as_slice.ensures at c.note.ensures.spare in
    let first = (step c).first in
    IsIndex-noted c.self.inside.tokens.keys c.note.new.tokens.keys (spare c.self.inside.tokens) (spare c.note.new.tokens) c.args.position c.self.inside.streams.items c.in-Some.place c.index_mut-stream.result.now c.note.new.self
    c.args.tokens.now.list c.self.invariant (first_within c.args.to.now c.self.inside.streams.items c.in-Some.place c.index_mut-stream.result.now first) first.is (step c).notes room c.note.ensures.capacity less c.note.ensures.distinct

pub returns-clause-dependency : goal.returns-clause-dependency
returns-clause-dependency c =
    let behind = rw (← c.self.view_is) at c.requires.position in
    let greatest = rw c.as_slice.ensures at c.note.ensures.greatest in
    rw (← c.self.view_is) (dependency c.args.to.now c.args.tokens.now.list c.args.position c.self.inside.tokens.keys c.note.new.tokens.keys c.self.inside.streams.items c.in-Some.place c.index_mut-stream.result.now c.note.new.self (step c)
    c.note.result behind greatest)

pub returns-clause-noted : goal.returns-clause-noted
returns-clause-noted c =
    let behind = rw (← c.self.view_is) at c.requires.position in
    rw (← c.self.view_is) (longer c.args.to.now c.args.tokens.now.list c.args.position c.self.inside.tokens.keys c.note.new.tokens.keys c.self.inside.streams.items c.in-Some.place c.index_mut-stream.result.now c.note.new.self (step c) behind)

-- for another site the same stream is found
same : (c : goal.After-self-1) → (site : SiteName) → c.args.to.now ≢ site → noted_to site (noted_streams c.note.new.tokens.keys (columns_of (set c.self.inside.streams.items c.in-Some.place c.note.new.self)))
    ≡ noted_to site (noted_streams c.self.inside.tokens.keys (columns_of c.self.inside.streams.items))
same c = others c.args.to.now c.args.tokens.now.list c.args.position c.self.inside.tokens.keys c.note.new.tokens.keys c.self.inside.streams.items c.in-Some.place c.index_mut-stream.result.now c.note.new.self (step c)

pub returns-clause-others : goal.returns-clause-others
returns-clause-others c = rw (← c.self.view_is) (λ site stream other is. IsNoted-found _ _ site stream (same c site other) is)

pub returns-clause-other_room : goal.returns-clause-other_room
returns-clause-other_room c = rw (← c.self.view_is) (λ site other. ap room_in (same c site other))

pub returns-clause-room : goal.returns-clause-room
returns-clause-room c =
    let room = rw c.as_slice.ensures at c.note.ensures.room in
    let old_found = before c.args.to.now c.args.tokens.now.list c.args.position c.self.inside.tokens.keys c.note.new.tokens.keys c.self.inside.streams.items c.in-Some.place c.index_mut-stream.result.now c.note.new.self (step c) in
    let new_found = after c.args.to.now c.args.tokens.now.list c.args.position c.self.inside.tokens.keys c.note.new.tokens.keys c.self.inside.streams.items c.in-Some.place c.index_mut-stream.result.now c.note.new.self (step c) in
    rw (← c.self.view_is, old_found, new_found) (omega (arith, room))

pub returns-clause-destinations : goal.returns-clause-destinations
returns-clause-destinations c =
    rw (← c.self.view_is) (destinations c.args.to.now c.args.tokens.now.list c.args.position c.self.inside.tokens.keys c.note.new.tokens.keys c.self.inside.streams.items c.in-Some.place c.index_mut-stream.result.now c.note.new.self (step c))
