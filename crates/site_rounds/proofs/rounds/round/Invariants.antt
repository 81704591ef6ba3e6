-- The senders before the place had their turn.
use Rattle.std.proofs.Common.{◌≡◌, drop, false}
use Rattle.site_state.specs.Rounds.{round, sender_names}
use Rattle.site_rounds.specs.Parts.{Passes}
use Rattle.site_rounds.proofs.Quiet.{any_ready}
use Rattle.site_rounds.proofs.rounds.round.Given as goal

-- the turns of the others lead to the round, and as long as there was no pass nothing was ready
abbrev pub invariant-loop-place : goal.invariant-loop-place
invariant-loop-place g l = record {
  left : round (drop l.place (sender_names l.fn.site.senders)) l.site ≡ round (sender_names l.fn.site.senders) l.fn.site;
  none :
      l.passed.some ≡ false
      → (l.site ≡ l.fn.site) × (any_ready (drop l.place (sender_names l.fn.site.senders)) l.fn.site ≡ any_ready (sender_names l.fn.site.senders) l.fn.site);
  passes : Passes l.fn.site l.site l.passed.count;
}
