use Rattle.std.proofs.Common.{sym, ◌∙◌}
use Rattle.rep_schema.proofs.RowFit.{length-fits}
use Rattle.conflict_detect.proofs.FewParts.{length-UpdateFits}
use Rattle.conflict_detect.proofs.detection.groups_unlike.Goals as goal

pub unmatched_groups-requires-clause-few : goal.unmatched_groups-requires-clause-few
unmatched_groups-requires-clause-few c =
    let fits = rw c.in-Update.is at c.requires.fits.content in
    rw c.as_slice.ensures (length-UpdateFits _ _ _ _ c.requires.shape fits)

-- both rows fit the table
pub differing_groups-requires-clause-long : goal.differing_groups-requires-clause-long
differing_groups-requires-clause-long c =
    let old = rw c.in-Delete.is at c.requires.fits.content in
    let row = rw c.in-Delete.is at c.requires.row in
    rw c.values.ensures.value (sym (length-fits _ _ row) ∙ length-fits _ _ old)
