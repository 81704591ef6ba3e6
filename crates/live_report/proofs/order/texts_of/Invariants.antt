-- Making texts one by one.
use Rattle.std.proofs.Common.{◌≡◌, ◌++◌, drop, map}
use Rattle.serde_json.specs.Data.{string}
use Rattle.serde_json.specs.View.{view}
use Rattle.live_report.specs.PartTexts.{turn_text}
use Rattle.live_report.proofs.order.texts_of.Given as goal

-- the texts so far and those to come are all of them
abbrev pub invariant-loop-turn : goal.invariant-loop-turn
invariant-loop-turn l = map view l.texts.items ++ map (λ turn. string (turn_text turn)) (drop l.turn-index l.turns) ≡ map (λ turn. string (turn_text turn)) l.turns
