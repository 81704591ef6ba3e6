use Rattle.std.proofs.Common.{◌≡◌, ◌∷◌, [], ◌++◌, map, ◌∙◌, ap, sym}
use Rattle.std.specs.Prelude.{codes}
use Rattle.std.specs.List.{flat_map}
use Rattle.report_text.specs.Sheet.{spaced}
use Rattle.report_text.specs.Texts.{value_text}
use Rattle.report_text.specs.Calls.{table_name, part_words, call_words}
use Rattle.report_text.proofs.Printing.{put_behind}
use Rattle.report_text.proofs.calls.add_words.Goals as goal

pub returns-in_ok-add_parts-in-Update-clause-ok : goal.returns-in_ok-add_parts-in-Update-clause-ok
returns-in_ok-add_parts-in-Update-clause-ok c =
    let bytes = c.args.lines.now.bytes in
    let schema = c.args.schema.now in
    let table = c.in-Update.table in
    let head = codes "update" ∷ table_name schema table ∷ [] in
    let keys = map value_text c.in-Update.key in
    let parts = flat_map (part_words schema table) c.in-Update.parts in
    let first : c.put_words-in-Update.new.self.bytes ≡ bytes ++ spaced head =
    c.put_words-in-Update.ensures.text.bytes ∙ ap (λ n. c.reserve.new.self.bytes ++ spaced (codes "update" ∷ n ∷ [])) c.name_of-name-in-Update.ensures.text ∙ ap (λ b. b ++ spaced head) c.in_ok-reserve.ensures.bytes in
    let second = put_behind bytes c.put_words-in-Update.new.self.bytes c.add_values-in-Update.new.lines.bytes head keys first (c.in_ok-add_values-in-Update.ensures.ok ∙ ap (λ vs. c.put_words-in-Update.new.self.bytes ++ spaced (map value_text vs)) c.values-in-Update.ensures.value) in
    let third = put_behind bytes c.add_values-in-Update.new.lines.bytes c.add_parts.new.lines.bytes (head ++ keys) parts second (c.in_ok-add_parts-in-Update.ensures.ok ∙ ap (λ ps. c.add_values-in-Update.new.lines.bytes ++ spaced (flat_map (part_words schema table) ps)) c.as_slice.ensures) in
    third ∙ ap (λ call. bytes ++ spaced (call_words schema call)) (sym c.in-Update.is)
