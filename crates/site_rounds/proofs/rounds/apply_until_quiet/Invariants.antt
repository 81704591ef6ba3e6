-- Rounds from here on lead where all rounds lead.
use Rattle.std.proofs.Common.{◌≡◌}
use Rattle.site_state.specs.Rounds.{site_rounds, site_until_quiet}
use Rattle.site_rounds.specs.Parts.{Passes}
use Rattle.site_rounds.proofs.rounds.apply_until_quiet.Given as goal

abbrev pub invariant-loop : goal.invariant-loop
invariant-loop g l = record {
  left : site_rounds l.site ≡ site_until_quiet l.origin l.fn.site;
  passes : Passes l.fn.site l.site l.count;
}
