-- What is printed of a live part tells its turns.
use Rattle.std.proofs.Common.{◌≡◌, ℕ, List, [], ◌∷◌, ◌++◌, map, codes, true, false, sym, ap, ◌∙◌, append_assoc}
use Rattle.std.specs.Prelude.{flat_map}
use Rattle.std.proofs.lemmas.List.{append_cancel_left}
use Rattle.json.specs.Print.{escape_byte}
use Rattle.serde_json.specs.Data.{string, member, no_members}
use Rattle.serde_json.specs.View.{items_of}
use Rattle.serde_json.specs.Written.{compact_text, items_text, members_text}
use Rattle.rep_values.specs.declared.name.SiteName.{SiteName}
use Rattle.live_laws.specs.declared.turn.LiveTurn.{LiveTurn}
use Rattle.live_laws.proofs.Printed.{printed_turns_are_known, listed_turns_are_known}
use Rattle.live_laws.proofs.TurnLines.{turn_lines_tell_subjects}
use Rattle.live_report.specs.PartTexts.{turn_text, turn_line, part_data, order_line, live_line}
use Rattle.live_report.specs.PartLaws.{PrintedPartsAreKnown}
use Rattle.live_report.proofs.TurnWords.{line_begins}
use Rattle.live_report.proofs.ListedTexts.{listed_texts}

-- what stands behind the site
behind_site : (site : SiteName) (bs cs rest more : List ℕ) → (live_line site ++ bs) ++ rest ≡ (live_line site ++ cs) ++ more → bs ++ rest ≡ cs ++ more
behind_site site bs cs rest more same =
    append_cancel_left (live_line site) (bs ++ rest) (cs ++ more) (sym (append_assoc (live_line site) bs rest) ∙ same ∙ append_assoc (live_line site) cs more)

-- what stands behind the list of texts
abbrev behind_list : SiteName → List ℕ → List ℕ
behind_list site rest = members_text true (member (codes "site") (string site.0) no_members) ++ (10 ∷ rest)

from_list : (site : SiteName) (turns : List LiveTurn) (rest : List ℕ)
    → order_line site turns ++ rest ≡ codes "{\"order\":[" ++ (items_text false (items_of (map (λ turn. string (turn_text turn)) turns)) ++ behind_list site rest)
unfolding escape_byte
from_list site turns rest =
    append_assoc (compact_text (part_data site turns)) (10 ∷ []) rest
    ∙ ap (λ bs. codes "{\"order\":[" ++ bs)
    (append_assoc (items_text false (items_of (map (λ turn. string (turn_text turn)) turns))) (members_text true (member (codes "site") (string site.0) no_members)) (10 ∷ rest))

same_order : (site : SiteName) (turns others : List LiveTurn) (rest more : List ℕ) → order_line site turns ++ rest ≡ order_line site others ++ more → map turn_text turns ≡ map turn_text others
same_order site turns others rest more same =
    listed_texts turn_text false turns others (behind_list site rest) (behind_list site more)
    (append_cancel_left (codes "{\"order\":[") _ _ (sym (from_list site turns rest) ∙ same ∙ from_list site others more))

pub printed_parts_are_known : PrintedPartsAreKnown
printed_parts_are_known true site origins sessions x turns others rest more printable numbers full other same =
    listed_turns_are_known origins sessions x turn_text turns others (turn_lines_tell_subjects origins sessions x turn_line printable line_begins) full.run other.run
    (same_order site turns others rest more (behind_site site (order_line site turns) (order_line site others) rest more same))
printed_parts_are_known false site origins sessions x turns others rest more printable numbers full other same =
    printed_turns_are_known origins sessions x turn_line turns others rest more (turn_lines_tell_subjects origins sessions x turn_line printable line_begins) numbers full other
    (behind_site site (flat_map turn_line turns) (flat_map turn_line others) rest more same)
