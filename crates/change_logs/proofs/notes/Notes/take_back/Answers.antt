use Rattle.std.proofs.Common.{ap, ◌∙◌}
use Rattle.change_logs.specs.RoomyNotes.{RoomySnapshot}
use Rattle.change_logs.specs.Noted.{with_query}
use Rattle.change_logs.proofs.Lending.{at_place-set, least_room-set}
use Rattle.change_logs.proofs.notes.Notes.take_back.Goals as goal

pub returns-clause-snapshots : goal.returns-clause-snapshots
returns-clause-snapshots c =
    let changed = c.take_back.ensures.snapshot ∙ ap (λ (w : RoomySnapshot). (with_query c.args.lent.query) w.snapshot) c.index_mut.ensures.value in
    rw (← c.self.view_is) (at_place-set (with_query c.args.lent.query) c.self.inside.watched.items c.args.place c.index_mut.result.now c.take_back.new.self changed)

pub returns-clause-room : goal.returns-clause-room
returns-clause-room c =
    let same = c.take_back.ensures.spare ∙ ap (λ (w : RoomySnapshot). w.spare) c.index_mut.ensures.value in
    rw (← c.self.view_is) (least_room-set c.self.inside.logs.items c.self.inside.watched.items c.args.place c.index_mut.result.now c.take_back.new.self same)
