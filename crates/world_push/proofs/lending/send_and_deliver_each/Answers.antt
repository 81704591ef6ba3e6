-- One site after another.
use Rattle.std.proofs.Common.{List, refl, sym, ap, ◌∙◌, subst}
use Rattle.std.proofs.lemmas.List.{drop_all}
use Rattle.rep_values.specs.declared.name.SiteName.{SiteName}
use Rattle.world_push.specs.Lending.{brought_from, PushEachInPart}
use Rattle.world_push.proofs.PartlyPushed.{push_none_in_part}
use Rattle.world_push.proofs.OneAfterAnother.{next_among, brought_next, parts_next, linked_next}
use Rattle.world_push.proofs.lending.send_and_deliver_each.Goals as goal

pub loop-from-init : goal.loop-from-init
loop-from-init c = record { left = refl; part = λ y parts. parts; linked = c.requires }

pub send_and_deliver-requires : goal.send_and_deliver-requires
send_and_deliver-requires c = (c.loop-from.invariant.linked c.from-item.result (next_among c.args.names.now c.args.name.now c.loop-from.from-index c.from-item.result c.loop-from-test.true c.from-item.is)).0

pub returns-in_err-send_and_deliver-clause-part : goal.returns-in_err-send_and_deliver-clause-part
returns-in_err-send_and_deliver-clause-part c =
    parts_next c.args.names.now c.args.name.now c.loop-from.from-index c.from-item.result c.loop-from-test.true c.from-item.is c.args.parts.now c.loop-from.parts _ c.send_and_deliver.ensures.part c.loop-from.invariant.part
    _ (push_none_in_part _ c.args.name.now _)

pub loop-from-preserved : goal.loop-from-preserved
loop-from-preserved c = record {
  left = brought_next c.args.names.now c.args.name.now c.loop-from.from-index c.from-item.result c.loop-from-test.true c.from-item.is c.loop-from.parts _ _ c.in_ok-send_and_deliver.ensures.ok c.loop-from.invariant.left;
  part = parts_next c.args.names.now c.args.name.now c.loop-from.from-index c.from-item.result c.loop-from-test.true c.from-item.is c.args.parts.now c.loop-from.parts _ c.send_and_deliver.ensures.part c.loop-from.invariant.part;
  linked = linked_next c.args.names.now c.args.name.now c.loop-from.from-index c.from-item.result c.loop-from-test.true c.from-item.is c.loop-from.parts _ c.send_and_deliver.ensures.part c.loop-from.invariant.linked;
}

pub returns-clause-ok : goal.returns-clause-ok
returns-clause-ok c =
    sym (ap (λ (ns : List SiteName). brought_from ns c.args.name.now c.loop-from.parts) (drop_all c.loop-from.from-index c.args.names.now c.loop-from-test.false)) ∙ c.loop-from.invariant.left

pub returns-clause-part : goal.returns-clause-part
returns-clause-part c =
    c.loop-from.invariant.part c.loop-from.parts
    (subst (λ (ns : List SiteName). PushEachInPart ns c.args.name.now c.loop-from.parts c.loop-from.parts) (sym (drop_all c.loop-from.from-index c.args.names.now c.loop-from-test.false)) refl)
