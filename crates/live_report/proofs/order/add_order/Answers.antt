-- The compact text, and the end of the line.
use Rattle.std.proofs.Common.{◌≡◌, [], ◌∷◌, ◌++◌, ap, ◌∙◌, append_assoc}
use Rattle.serde_json.specs.View.{view}
use Rattle.serde_json.specs.Written.{has_float, compact_text}
use Rattle.live_report.specs.PartTexts.{part_data}
use Rattle.live_report.proofs.Pieces.{part_has_no_float}
use Rattle.live_report.proofs.order.add_order.Goals as goal

pub returns : goal.returns
returns c =
    let part = part_data c.args.site.now c.args.turns.now in
    let old = c.args.lines.now.bytes in
    let is : view c.in_ok-part.part ≡ part = c.in_ok-part.ensures in
    let text : c.in_ok-to_vec.field-0.items ≡ compact_text part =
    c.in_ok-to_vec.ensures.text (ap has_float is ∙ part_has_no_float c.args.site.now c.args.turns.now) ∙ ap compact_text is in
    c.in_ok-add-2.ensures.ok ∙ ap (λ bs. bs ++ 10 ∷ []) (c.in_ok-add.ensures.ok ∙ ap (λ bs. old ++ bs) (c.deref.ensures.value ∙ text)) ∙ append_assoc old (compact_text part) (10 ∷ [])
