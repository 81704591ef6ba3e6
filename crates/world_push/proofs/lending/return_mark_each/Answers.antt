-- One site after another.
use Rattle.std.proofs.Common.{List, refl, sym, ap, ◌∙◌, subst}
use Rattle.std.proofs.lemmas.List.{drop_all}
use Rattle.rep_values.specs.declared.name.SiteName.{SiteName}
use Rattle.world_push.specs.Lending.{answered_to, PushEachInPart}
use Rattle.world_push.proofs.PartlyPushed.{push_none_in_part}
use Rattle.world_push.proofs.OneAfterAnother.{next_among, answered_next, parts_next, linked_next}
use Rattle.world_push.proofs.lending.return_mark_each.Goals as goal

pub loop-to-init : goal.loop-to-init
loop-to-init c = record { left = refl; part = λ y parts. parts; linked = c.requires }

pub return_mark-requires : goal.return_mark-requires
return_mark-requires c = (c.loop-to.invariant.linked c.to-item.result (next_among c.args.names.now c.args.name.now c.loop-to.to-index c.to-item.result c.loop-to-test.true c.to-item.is)).1

pub returns-in_err-return_mark-clause-part : goal.returns-in_err-return_mark-clause-part
returns-in_err-return_mark-clause-part c =
    parts_next c.args.names.now c.args.name.now c.loop-to.to-index c.to-item.result c.loop-to-test.true c.to-item.is c.args.parts.now c.loop-to.parts _ c.return_mark.ensures.part c.loop-to.invariant.part
    _ (push_none_in_part _ c.args.name.now _)

pub loop-to-preserved : goal.loop-to-preserved
loop-to-preserved c = record {
  left = answered_next c.args.names.now c.args.name.now c.loop-to.to-index c.to-item.result c.loop-to-test.true c.to-item.is c.loop-to.parts _ _ c.in_ok-return_mark.ensures.ok c.loop-to.invariant.left;
  part = parts_next c.args.names.now c.args.name.now c.loop-to.to-index c.to-item.result c.loop-to-test.true c.to-item.is c.args.parts.now c.loop-to.parts _ c.return_mark.ensures.part c.loop-to.invariant.part;
  linked = linked_next c.args.names.now c.args.name.now c.loop-to.to-index c.to-item.result c.loop-to-test.true c.to-item.is c.loop-to.parts _ c.return_mark.ensures.part c.loop-to.invariant.linked;
}

pub returns-clause-ok : goal.returns-clause-ok
returns-clause-ok c =
    sym (ap (λ (ns : List SiteName). answered_to ns c.args.name.now c.loop-to.parts) (drop_all c.loop-to.to-index c.args.names.now c.loop-to-test.false)) ∙ c.loop-to.invariant.left

pub returns-clause-part : goal.returns-clause-part
returns-clause-part c =
    c.loop-to.invariant.part c.loop-to.parts
    (subst (λ (ns : List SiteName). PushEachInPart ns c.args.name.now c.loop-to.parts c.loop-to.parts) (sym (drop_all c.loop-to.to-index c.args.names.now c.loop-to-test.false)) refl)
