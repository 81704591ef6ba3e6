-- What a live part prints at its end: its site, and its turns, as lines or as one line of JSON.
use Rattle.std.specs.Prelude.{ℕ, Bool, cond, None, Some, List, [], ◌∷◌, ◌++◌, map, flat_map, decimal, codes}
use Rattle.serde_json.specs.Data.{Data, string, array, object, member, no_members}
use Rattle.serde_json.specs.View.{items_of}
use Rattle.serde_json.specs.Written.{compact_text}
use Rattle.rep_values.specs.declared.name.SiteName.{SiteName}
use Rattle.report_text.specs.Sheet.{line, spaced}
use Rattle.report_text.specs.Refusals.{kind_words, refusal_name, refusal_values, is_memory}
use Rattle.live_laws.specs.declared.turn.Reply.{Reply}
use Rattle.live_laws.specs.declared.turn.Reply.TheVariants as reply
use Rattle.live_laws.specs.declared.turn.LiveTurn.{LiveTurn}
use Rattle.live_laws.specs.declared.turn.LiveTurn.TheVariants.{Applied, Committed}

-- ---- the texts of turns

-- commit N, none, or ! LINE TEXT; nothing where there is no memory, which ends a run and is no reply
abbrev pub reply_words : Reply → List (List ℕ)
reply_words (reply.Commit number) = codes "commit" ∷ decimal number ∷ []
reply_words reply.Nothing = codes "none" ∷ []
reply_words (reply.Refused number why) = cond (is_memory why) [] (codes "!" ∷ decimal number ∷ refusal_name why ∷ refusal_values why)

-- done O P, error O P call C KIND, or session K block J and the reply
abbrev pub words_of : LiveTurn → List (List ℕ)
words_of (Applied origin position call None) = codes "done" ∷ origin.0 ∷ decimal position ∷ []
words_of (Applied origin position call (Some error)) = codes "error" ∷ origin.0 ∷ decimal position ∷ codes "call" ∷ decimal call ∷ kind_words error
words_of (Committed session block told) = codes "session" ∷ decimal session ∷ codes "block" ∷ decimal block ∷ reply_words told

-- turn and these words, without the end of the line
abbrev pub turn_text : LiveTurn → List ℕ
turn_text turn = codes "turn" ++ spaced (words_of turn)

-- the same with its end
abbrev pub turn_line : LiveTurn → List ℕ
turn_line turn = turn_text turn ++ 10 ∷ []

-- it has at most so many bytes: those up to its block, and those of a line
abbrev pub most_turn : ℕ
most_turn = 512

-- ---- the same as JSON

-- the texts of turns in their order
abbrev pub order_of : List LiveTurn → Data
order_of turns = array (items_of (map (λ turn. string (turn_text turn)) turns))

-- an object with these texts as order, and the name as site
abbrev pub part_data : SiteName → List LiveTurn → Data
part_data site turns = object (member (codes "order") (order_of turns) (member (codes "site") (string site.0) no_members))

-- its compact text, and the end of the line
abbrev pub order_line : SiteName → List LiveTurn → List ℕ
order_line site turns = compact_text (part_data site turns) ++ 10 ∷ []

-- ---- the whole

-- live SITE
abbrev pub live_line : SiteName → List ℕ
live_line site = line (codes "live") (site.0 ∷ [])

-- live SITE, and then the line of JSON, or a line for each turn
abbrev pub part_text : Bool → SiteName → List LiveTurn → List ℕ
part_text json site turns = live_line site ++ cond json (order_line site turns) (flat_map turn_line turns)
