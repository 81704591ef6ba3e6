use Rattle.proc_calls.proofs.Carried.{IsRowLen-fits, some_is}
use Rattle.proc_calls.proofs.applying.put_values.Goals as goal

-- the values of a row that fits are a row
pub unreachable-requires : goal.unreachable-requires
unreachable-requires g c =
    let is = c.in_ok-row.ensures.variant.1 (IsRowLen-fits _ _ _ c.requires.keyed c.requires.table c.requires.fits) in
    some_is _ is c.in_default.not-Some
