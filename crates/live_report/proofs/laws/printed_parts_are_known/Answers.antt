-- The law of printed parts.
use Rattle.live_report.proofs.KnownParts.{printed_parts_are_known}
use Rattle.live_report.proofs.laws.printed_parts_are_known.Goals as goal

pub returns : goal.returns
returns c = printed_parts_are_known
