-- Lines of turns begin with the words of their turns.
use Rattle.std.proofs.Common.{◌≡◌, ℕ, List, [], ◌∷◌, ◌++◌, None, Some, decimal, codes, refl, sym, ap, ◌∙◌, inl, inr, append_assoc, append-nil}
use Rattle.report_text.specs.Sheet.{spaced}
use Rattle.report_text.specs.Refusals.{kind_words}
use Rattle.live_laws.specs.declared.turn.LiveTurn.{LiveTurn}
use Rattle.live_laws.specs.declared.turn.LiveTurn.TheVariants.{Applied, Committed}
use Rattle.live_laws.specs.Printed.{turn_words, BeginsWithItsWords}
use Rattle.live_report.specs.PartTexts.{reply_words, turn_text, turn_line}

-- the words of a text behind those with which it begins
abbrev words_behind : LiveTurn → List (List ℕ)
words_behind (Applied origin position call None) = []
words_behind (Applied origin position call (Some error)) = codes "call" ∷ decimal call ∷ kind_words error
words_behind (Committed session block told) = reply_words told

text_by_words : (turn : LiveTurn) → turn_text turn ≡ turn_words turn ++ spaced (words_behind turn)
text_by_words (Applied origin position call None) = ap (λ bs. codes "turn done " ++ bs) (sym (append_assoc origin.0 (32 ∷ decimal position) []))
text_by_words (Applied origin position call (Some error)) =
    ap (λ bs. codes "turn error " ++ bs) (sym (append_assoc origin.0 (32 ∷ decimal position) (spaced (codes "call" ∷ decimal call ∷ kind_words error))))
text_by_words (Committed session block told) =
    ap (λ bs. codes "turn session " ++ bs) (sym (append_assoc (decimal session) (32 ∷ (codes "block " ++ decimal block)) (spaced (reply_words told))))

begins_with : (turn : LiveTurn) (words : List (List ℕ)) → turn_text turn ≡ turn_words turn ++ spaced words → BeginsWithItsWords turn_line turn
begins_with turn [] is = record { next = 10; tail = []; is = ap (λ bs. bs ++ 10 ∷ []) (is ∙ append-nil (turn_words turn)); ends = inl refl }
begins_with turn (w ∷ ws) is = record {
  next = 32;
  tail = (w ++ spaced ws) ++ 10 ∷ [];
  is = ap (λ bs. bs ++ 10 ∷ []) is ∙ append_assoc (turn_words turn) (32 ∷ (w ++ spaced ws)) (10 ∷ []);
  ends = inr refl;
}

pub line_begins : (turn : LiveTurn) → BeginsWithItsWords turn_line turn
line_begins turn = begins_with turn (words_behind turn) (text_by_words turn)
