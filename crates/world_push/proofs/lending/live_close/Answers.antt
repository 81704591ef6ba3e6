-- Those that reach the master are linked to it.
use Rattle.std.proofs.Common.{List, sym, ◌∙◌, subst}
use Rattle.rep_values.specs.declared.name.SiteName.{SiteName}
use Rattle.world_push.specs.Lending.{reaching, AreLinkedTo}
use Rattle.world_push.proofs.PartlyPushed.{push_none_in_part}
use Rattle.world_push.proofs.LiveParts.{running_behind}
use Rattle.world_push.proofs.OneAfterAnother.{reaching_linked}
use Rattle.world_push.proofs.lending.live_close.Goals as goal

pub returns-in_err-names-clause-part : goal.returns-in_err-names-clause-part
returns-in_err-names-clause-part c = push_none_in_part (reaching c.args.name.now c.args.parts.now) c.args.name.now c.args.parts.now

pub return_mark_each-requires : goal.return_mark_each-requires
return_mark_each-requires c =
    subst (λ (names : List SiteName). AreLinkedTo names c.args.name.now c.args.parts.now) (sym (c.as_slice.ensures ∙ c.in_ok-names.ensures))
    (reaching_linked c.args.name.now c.args.parts.now c.requires.built (running_behind c.args.parts.now.phase c.requires.running))
