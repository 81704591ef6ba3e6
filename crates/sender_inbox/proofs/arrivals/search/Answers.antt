use Rattle.std.proofs.Common.{sym}
use Rattle.origin_marks.proofs.Counts.{cmp_equal, cmp_greater}
use Rattle.sender_inbox.proofs.LastPlaces.{gap_behind, there_at_last}
use Rattle.sender_inbox.proofs.arrivals.search.Goals as goal

-- behind the last one
pub returns-in-Greater-clause-absent : goal.returns-in-Greater-clause-absent
returns-in-Greater-clause-absent c =
    let l = c.in-Some.last.now in
    gap_behind c.args.arrived.now c.requires l (sym c.in-Some.ensures.value) c.args.position (cmp_greater c.args.position l.position (sym c.in-Greater.ensures))

-- the last one
pub returns-in-Equal-clause-found : goal.returns-in-Equal-clause-found
returns-in-Equal-clause-found c =
    let l = c.in-Some.last.now in
    there_at_last c.args.arrived.now c.requires l (sym c.in-Some.ensures.value) c.args.position (cmp_equal c.args.position l.position (sym c.in-Equal.ensures))
