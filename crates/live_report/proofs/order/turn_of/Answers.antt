-- The line of the turn without its end.
use Rattle.std.proofs.Common.{◌≡◌, [], ◌∷◌, ◌++◌, ap, ◌∙◌}
use Rattle.std.proofs.lemmas.Result.{IfOk-weaker}
use Rattle.serde_json.specs.Data.{string}
use Rattle.live_report.specs.PartTexts.{turn_text, turn_line}
use Rattle.live_report.proofs.Pieces.{without_end}
use Rattle.live_report.proofs.order.turn_of.Goals as goal

pub returns : goal.returns
returns c =
    let turn = c.args.turn.now in
    let bytes : c.bytes-bytes.result.now ≡ turn_text turn ++ 10 ∷ [] =
    c.bytes-bytes.ensures ∙ c.put_turn.ensures.bytes ∙ ap (λ bs. bs ++ turn_line turn) (c.in_ok-reserve.ensures.bytes ∙ c.make-lines.ensures) in
    IfOk-weaker c.text_of.result _ _ (λ value is. is ∙ ap string (without_end c.bytes-bytes.result.now (turn_text turn) bytes)) c.text_of.ensures
