use Rattle.std.proofs.Common.{inl, inr, arith}
use Rattle.std.proofs.lemmas.Bool.{cases_eq}
use Rattle.rep_schema.proofs.RowFit.{length-key_of}
use Rattle.rep_schema.proofs.TakingBack.{put_back_fits, put_back_unique, put_back_room, put_back_takes, taken_fits}
use Rattle.rep_schema.proofs.change.undo_one.Goals as goal

pub put-requires-clause-fits : goal.put-requires-clause-fits
put-requires-clause-fits g c = put_back_fits _ c.args.change _ c.requires.led c.in-Some-default.row c.in-Some-default.is-0

pub put-requires-clause-unique : goal.put-requires-clause-unique
put-requires-clause-unique g c = put_back_unique _ c.args.change _ c.requires.led c.in-Some-default.row c.in-Some-default.is-0

pub put-requires-clause-room : goal.put-requires-clause-room
put-requires-clause-room g c = put_back_room _ c.args.change _ c.requires.led c.in-Some-default.row c.in-Some-default.is-0 _ c.requires.room

pub key_of-key-requires : goal.key_of-key-requires
key_of-key-requires g c =
    let fits = taken_fits _ c.args.change _ c.requires.led c.in-None-Some.row c.in-None-Some.is-1 in
    rw (c.columns_of.ensures, c.schema.ensures.value, c.values.ensures.value, length-key_of _ _ fits) c.requires.led.lead.0.keyed

-- at the change's own table and at the others
pub returns-in-Some-default-clause-room : goal.returns-in-Some-default-clause-room
returns-in-Some-default-clause-room g c = λ t. elim (cases_eq t c.args.change.table) [
  | inl here ↦ rw here (put_back_takes _ c.args.change _ c.requires.led c.in-Some-default.row c.in-Some-default.is-0 _ _ c.put.result c.put.ensures.replaced c.put.ensures.room_added c.put.ensures.room_replaced)
  | inr other ↦ rw (c.put.ensures.others t other) (omega arith)
]
