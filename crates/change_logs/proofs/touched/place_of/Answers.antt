use Rattle.change_logs.proofs.RisingNotes.{put_found, put_absent}
use Rattle.change_logs.proofs.touched.place_of.Goals as goal

pub returns-then-rising-clause-found : goal.returns-then-rising-clause-found
returns-then-rising-clause-found c = put_found c.args.key.now c.args.keys.now.items c.search.result c.search.ensures.found

pub returns-then-rising-clause-absent : goal.returns-then-rising-clause-absent
returns-then-rising-clause-absent c = put_absent c.args.key.now c.args.keys.now.items c.search.result c.search.ensures.absent
