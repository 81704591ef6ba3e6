use Rattle.std.proofs.Common.{◌≡◌, ◌∷◌, [], ◌++◌, map, ◌∙◌, ap, append_assoc}
use Rattle.std.specs.Prelude.{codes}
use Rattle.std.specs.Fmt.{decimal}
use Rattle.report_text.specs.Texts.{value_text}
use Rattle.report_text.specs.Sheet.{spaced}
use Rattle.report_text.proofs.Printing.{put_behind}
use Rattle.report_text.proofs.shown.add_logged_key.Goals as goal

pub returns-clause-ok : goal.returns-clause-ok
returns-clause-ok c =
    let bytes = c.args.lines.now.bytes in
    let values = map value_text c.args.key.now in
    let moment = codes "moment" ∷ decimal c.args.moment ∷ [] in
    let start : c.put.new.self.bytes ≡ bytes ++ codes "key" = c.put.ensures.bytes ∙ ap (λ b. b ++ codes "key") c.in_ok-reserve.ensures.bytes in
    let first = c.put_values.ensures.text.bytes ∙ ap (λ vs. c.put.new.self.bytes ++ spaced (map value_text vs)) c.values.ensures.value in
    let second = put_behind c.put.new.self.bytes c.put_values.new.lines.bytes c.put_words.new.self.bytes values moment first c.put_words.ensures.text.bytes in
    c.put-2.ensures.bytes ∙ ap (λ b. b ++ 10 ∷ []) (second ∙ ap (λ b. b ++ spaced (values ++ moment)) start)
    ∙ append_assoc (bytes ++ codes "key") (spaced (values ++ moment)) (10 ∷ [])
    ∙ append_assoc bytes (codes "key") (spaced (values ++ moment) ++ 10 ∷ [])
