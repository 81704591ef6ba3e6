use Rattle.std.proofs.Common.{◌≡◌, ◌∷◌, [], ◌++◌, map, ◌∙◌, ap, append_assoc}
use Rattle.std.specs.Prelude.{codes}
use Rattle.rep_schema.specs.Named.{group_name}
use Rattle.report_text.specs.Texts.{value_text}
use Rattle.report_text.specs.Sheet.{spaced}
use Rattle.report_text.proofs.Printing.{put_behind}
use Rattle.report_text.proofs.calls.add_part.Goals as goal

pub returns-clause-ok : goal.returns-clause-ok
returns-clause-ok c =
    let bytes = c.args.lines.now.bytes in
    let head = codes "group" ∷ group_name c.args.schema.now c.args.table c.args.part.now.group ∷ codes "old" ∷ [] in
    let olds = map value_text c.args.part.now.old in
    let news = map value_text c.args.part.now.new in
    let first : c.put_words.new.self.bytes ≡ bytes ++ spaced head = c.put_words.ensures.text.bytes ∙ ap (λ n. c.reserve.new.self.bytes ++ spaced (codes "group" ∷ n ∷ codes "old" ∷ [])) c.group_of.ensures ∙ ap (λ b. b ++ spaced head) c.in_ok-reserve.ensures.bytes in
    let second = put_behind bytes c.put_words.new.self.bytes c.add_values.new.lines.bytes head olds first (c.in_ok-add_values.ensures.ok ∙ ap (λ vs. c.put_words.new.self.bytes ++ spaced (map value_text vs)) c.as_slice.ensures) in
    let third = put_behind bytes c.add_values.new.lines.bytes c.put_words-2.new.self.bytes (head ++ olds) (codes "new" ∷ []) second (c.put_words-2.ensures.text.bytes ∙ ap (λ b. b ++ spaced (codes "new" ∷ [])) c.in_ok-reserve-2.ensures.bytes) in
    let fourth = put_behind bytes c.put_words-2.new.self.bytes c.add_values-2.new.lines.bytes ((head ++ olds) ++ codes "new" ∷ []) news third (c.in_ok-add_values-2.ensures.ok ∙ ap (λ vs. c.put_words-2.new.self.bytes ++ spaced (map value_text vs)) c.as_slice-2.ensures) in
    fourth ∙ ap (λ words. bytes ++ spaced words) (append_assoc (head ++ olds) (codes "new" ∷ []) news ∙ append_assoc head olds (codes "new" ∷ news))
