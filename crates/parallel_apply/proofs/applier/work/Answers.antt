use Rattle.std.proofs.Common.{◌∙◌, ◌≡◌, Some}
use Rattle.std.specs.Prelude.{Option, IfSome}
use denote.Exit.{no}
use denote.Param.Send.{param_send, arg_send}
use Rattle.parallel_apply.proofs.Crossing.{crew_send}
use Rattle.parallel_apply.specs.declared.claim.Claim.{Claim}
use Rattle.parallel_apply.proofs.applier.work.Goals as goal

-- what was claimed, as one knows it who knows the opening
known_claim : {X : Type 0} (P : X → Claim → Type 0) (known : Option X) (x : X) (found : Option Claim) (claim : Claim) → known ≡ Some x → found ≡ Some claim → IfSome known (λ o. IfSome found (P o)) → P x claim
known_claim P known x found claim is same holds = rw (is, same) at holds

pub enter-turn-requires-send-T : goal.enter-turn-requires-send-T
enter-turn-requires-send-T g c κs within = param_send 0 _ (arg_send _ no _ (crew_send _ g.R.RowStore c.type_bounds.send-R))

pub leave-pass-requires-send-T : goal.leave-pass-requires-send-T
leave-pass-requires-send-T g c κs within = param_send 0 _ (arg_send _ no _ (crew_send _ g.R.RowStore c.type_bounds.send-R))

pub enter-turn-requires-in-loop-send-T : goal.enter-turn-requires-in-loop-send-T
enter-turn-requires-in-loop-send-T g c κs within = param_send 0 _ (arg_send _ no _ (crew_send _ g.R.RowStore c.type_bounds.send-R))

pub leave-pass-requires-in-loop-send-T : goal.leave-pass-requires-in-loop-send-T
leave-pass-requires-in-loop-send-T g c κs within = param_send 0 _ (arg_send _ no _ (crew_send _ g.R.RowStore c.type_bounds.send-R))

pub loop-init : goal.loop-init
loop-init g c =
    let told = c.leave-pass.ensures.opening ∙ c.enter-turn.ensures.kept_opening ∙ c.enter-turn.ensures.opening in
    (c.leave-pass.ensures.gate, rw (told, c.leave-pass.ensures.seen, ← c.claim-claim.ensures.opened, ← c.claim-claim.ensures.origin) c.claim-claim.ensures.claim)

pub go_on-claim-requires-clause-earlier : goal.go_on-claim-requires-clause-earlier
go_on-claim-requires-clause-earlier g c κs within =
    let seen = c.enter-turn-in-loop.ensures.seen in
    record {
      turns = _;
      later = seen.0;
      began = seen.1;
      claim = _;
      is = known_claim _ _ _ _ _ c.enter-turn-in-loop.ensures.opening c.in-Some-claim.is c.loop.invariant.1;
      position = c.in-Ok.ensures.position;
      outcome = c.in-Ok.ensures.outcome;
    }

pub loop-preserved : goal.loop-preserved
loop-preserved g c =
    let told = c.leave-pass-in-loop.ensures.opening ∙ c.enter-turn-in-loop.ensures.kept_opening ∙ c.enter-turn-in-loop.ensures.opening in
    (c.leave-pass-in-loop.ensures.gate, rw (told, c.leave-pass-in-loop.ensures.seen, ← c.go_on-claim.ensures.opened, ← c.go_on-claim.ensures.origin) c.go_on-claim.ensures.claim)
