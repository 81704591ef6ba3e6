use Rattle.std.proofs.Common.{ap, ◌∙◌}
use Rattle.change_logs.specs.RoomyNotes.{RoomySnapshot}
use Rattle.change_logs.specs.Noted.{without_query}
use Rattle.change_logs.proofs.Lending.{at_place-set, least_room-set}
use Rattle.change_logs.proofs.notes.Notes.lend_snapshot.Goals as goal

pub returns-clause-snapshots : goal.returns-clause-snapshots
returns-clause-snapshots c =
    let changed = c.lend.ensures.snapshot ∙ ap (λ (w : RoomySnapshot). without_query w.snapshot) c.index_mut.ensures.value in
    rw (← c.self.view_is) (at_place-set without_query c.self.inside.watched.items c.args.place c.index_mut.result.now c.lend.new.self changed)

pub returns-clause-room : goal.returns-clause-room
returns-clause-room c =
    let same = c.lend.ensures.spare ∙ ap (λ (w : RoomySnapshot). w.spare) c.index_mut.ensures.value in
    rw (← c.self.view_is) (least_room-set c.self.inside.logs.items c.self.inside.watched.items c.args.place c.index_mut.result.now c.lend.new.self same)
