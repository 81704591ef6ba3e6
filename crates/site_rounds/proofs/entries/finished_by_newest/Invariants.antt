-- The newest entries, so many, are counted.
use Rattle.std.proofs.Common.{◌≡◌, take}
use Rattle.site_rounds.specs.Parts.{finished_in}
use Rattle.site_rounds.proofs.entries.finished_by_newest.Given as goal

abbrev pub invariant-loop-behind : goal.invariant-loop-behind
invariant-loop-behind g l = l.finished ≡ finished_in (take l.behind (g.J.Journalled.told_of l.site).journal)
