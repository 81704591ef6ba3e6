-- Those that reach the master are linked to it.
use Rattle.std.proofs.Common.{List, sym, ◌∙◌, subst}
use Rattle.std.specs.Prelude.{Result, Ok, Err, OnErr}
use Rattle.rep_values.specs.declared.name.SiteName.{SiteName}
use Rattle.world_push.specs.Lending.{reaching, AreLinkedTo}
use Rattle.world_push.proofs.PartlyPushed.{push_none_in_part}
use Rattle.world_push.proofs.LiveParts.{lent_behind}
use Rattle.world_push.proofs.OneAfterAnother.{reaching_linked}
use Rattle.world_push.proofs.lending.live_open.Goals as goal

on_any_err : {X Y : Type 0} (P : Type 0) (r : Result X Y) → P → OnErr r P
on_any_err P (Ok x) is = tt
on_any_err P (Err y) is = is

pub returns-in_err-names-clause-err : goal.returns-in_err-names-clause-err
returns-in_err-names-clause-err c = on_any_err _ c.from_residual.result (push_none_in_part (reaching c.args.name.now c.args.parts.now) c.args.name.now c.args.parts.now)

pub send_and_deliver_each-requires : goal.send_and_deliver_each-requires
send_and_deliver_each-requires c =
    subst (λ (names : List SiteName). AreLinkedTo names c.args.name.now c.args.parts.now) (sym (c.as_slice.ensures ∙ c.in_ok-names.ensures))
    (reaching_linked c.args.name.now c.args.parts.now c.requires.built (lent_behind c.args.name.now c.args.parts.now c.requires.passes))
