-- Pieces of lines that stand behind one another, and what a part prints as JSON.
use Rattle.std.proofs.Common.{◌≡◌, ℕ, ◌-◌, List, [], ◌∷◌, ◌++◌, length, take, map, false, ◌||◌, sym, ap, ◌∙◌, arith, refl, append_assoc, length-append}
use Rattle.std.proofs.lemmas.List.{take_at}
use Rattle.serde_json.specs.Data.{string}
use Rattle.serde_json.specs.View.{items_of}
use Rattle.serde_json.specs.Written.{has_float, items_have_float}
use Rattle.report_text.specs.Sheet.{Sheet, Appends, spaced}
use Rattle.report_text.proofs.Printing.{spaced_append}
use Rattle.rep_values.specs.declared.name.SiteName.{SiteName}
use Rattle.live_laws.specs.declared.turn.LiveTurn.{LiveTurn}
use Rattle.live_report.specs.PartTexts.{turn_text, part_data}

-- a first word, words and further ones were put, and the end
pub one_line : (old begun more new : Sheet) (first : List ℕ) (ws vs : List (List ℕ)) → Appends old begun first → Appends begun more (spaced ws) → Appends more new (spaced vs ++ 10 ∷ [])
    → Appends old new ((first ++ spaced (ws ++ vs)) ++ 10 ∷ [])
one_line old begun more new first ws vs put then last =
    let whole : first ++ (spaced ws ++ (spaced vs ++ 10 ∷ [])) ≡ (first ++ spaced (ws ++ vs)) ++ 10 ∷ [] =
    ap (λ s. first ++ s) (sym (append_assoc (spaced ws) (spaced vs) (10 ∷ [])) ∙ ap (λ s. s ++ 10 ∷ []) (sym (spaced_append ws vs))) ∙ sym (append_assoc first (spaced (ws ++ vs)) (10 ∷ [])) in
    record {
      bytes = last.bytes ∙ ap (λ b. b ++ (spaced vs ++ 10 ∷ [])) (then.bytes ∙ ap (λ b. b ++ spaced ws) put.bytes ∙ append_assoc old.bytes first (spaced ws))
          ∙ append_assoc old.bytes (first ++ spaced ws) (spaced vs ++ 10 ∷ []) ∙ ap (λ b. old.bytes ++ b) (append_assoc first (spaced ws) (spaced vs ++ 10 ∷ []) ∙ whole);
      room = omega (arith, put.room, then.room, last.room, ap length whole, length-append first (spaced ws ++ (spaced vs ++ 10 ∷ [])), length-append (spaced ws) (spaced vs ++ 10 ∷ []));
    }

-- a line without its last byte
pub without_end : (bytes text : List ℕ) → bytes ≡ text ++ 10 ∷ [] → take (length bytes - 1) bytes ≡ text
without_end bytes text is =
    ap (take (length bytes - 1)) is ∙ take_at text (10 ∷ []) (length bytes - 1) (omega (arith, ap length is, length-append text (10 ∷ [])))

-- texts have no float
pub texts_have_no_float : {X : Type 0} (text : X → List ℕ) (xs : List X) → items_have_float (items_of (map (λ x. string (text x)) xs)) ≡ false
texts_have_no_float text [] = refl
texts_have_no_float text (x ∷ xs) = texts_have_no_float text xs

-- nor has what a part prints as JSON
pub part_has_no_float : (site : SiteName) (turns : List LiveTurn) → has_float (part_data site turns) ≡ false
part_has_no_float site turns = ap (λ b. b || (false || false)) (texts_have_no_float turn_text turns)
