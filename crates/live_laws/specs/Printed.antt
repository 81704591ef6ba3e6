-- Turns as texts: which turns were printed is known, where each text tells the position or block of its turn.
use Rattle.std.specs.Prelude.{◌≡◌, ◌≢◌, ◌⊎◌, ℕ, ◌<◌, ◌^◌, true, List, [], ◌∷◌, ◌++◌, length, map, flat_map, Option, Some, None, is_some, decimal, codes}
use Rattle.rep_values.specs.declared.name.SiteName.{SiteName}
use Rattle.rep_values.specs.declared.refusal.ApplyError.{ApplyError}
use Rattle.rep_values.specs.Name.{is_name}
use Rattle.site_state.specs.State.{SiteState, arrived_at}
use Rattle.rep_schema.specs.Sites.{is_among}
use Rattle.live_laws.specs.declared.turn.LiveTurn.{LiveTurn}
use Rattle.live_laws.specs.declared.turn.LiveTurn.TheVariants.{Applied, Committed}
use Rattle.live_laws.specs.declared.turn.Session.{Session}
use Rattle.live_laws.specs.Turns.{blocks_of, block_of, IsRun, IsFullRun}
use Rattle.live_laws.specs.RisingNumbers.{HasRisingNumbers}

-- ---- subjects: what a turn is of

-- two turns are of one position, or of one block
abbrev pub SameSubject : LiveTurn → LiveTurn → Type 0
SameSubject (Applied origin position call error) (Applied o p c e) = (origin ≡ o) × (position ≡ p)
SameSubject (Applied origin position call error) (Committed session block reply) = ⊥
SameSubject (Committed session block reply) (Applied origin position call error) = ⊥
SameSubject (Committed session block reply) (Committed s b r) = (session ≡ s) × (block ≡ b)

-- what a turn is of is there: something of an origin arrived at the position, or the session has the block
abbrev pub SubjectIsThere : List SiteName → List Session → SiteState → LiveTurn → Type 0
SubjectIsThere origins sessions x (Applied origin position call error) = (is_among origins origin ≡ true) × (arrived_at origin position x.senders ≢ None)
SubjectIsThere origins sessions x (Committed session block reply) = is_some (block_of session block sessions) ≡ true

-- whatever follows a text, it tells what its turn is of: two that begin the same bytes are of turns of one subject
abbrev pub TellsSubjects : (LiveTurn → Type 0) → (LiveTurn → List ℕ) → Type 0
TellsSubjects Is text = (turn other : LiveTurn) (rest more : List ℕ) → Is turn → Is other → text turn ++ rest ≡ text other ++ more → SameSubject turn other

-- ---- the laws

-- two full runs from one site are the same, where the texts of each, one behind the other, begin the same bytes
abbrev pub PrintedTurnsAreKnown : Type 0
PrintedTurnsAreKnown = (origins : List SiteName) (sessions : List Session) (x : SiteState) (text : LiveTurn → List ℕ) (turns others : List LiveTurn) (rest more : List ℕ)
    → TellsSubjects (SubjectIsThere origins sessions x) text → HasRisingNumbers x → IsFullRun origins sessions turns x → IsFullRun origins sessions others x
    → flat_map text turns ++ rest ≡ flat_map text others ++ more → turns ≡ others

-- two runs from one site, full or not, are the same, where their lists of texts are; here a newline ends each text
abbrev pub ListedTurnsAreKnown : Type 0
ListedTurnsAreKnown = (origins : List SiteName) (sessions : List Session) (x : SiteState) (text : LiveTurn → List ℕ) (turns others : List LiveTurn)
    → TellsSubjects (SubjectIsThere origins sessions x) (λ turn. text turn ++ 10 ∷ []) → IsRun origins sessions turns x → IsRun origins sessions others x
    → map text turns ≡ map text others → turns ≡ others

-- ---- the words with which a turn's line begins

-- the word for how a position was applied, and a space
abbrev pub outcome_words : Option ApplyError → List ℕ
outcome_words None = codes "done "
outcome_words (Some error) = codes "error "

-- turn done ORIGIN POSITION, turn error ORIGIN POSITION, or turn session SESSION block BLOCK
abbrev pub turn_words : LiveTurn → List ℕ
turn_words (Applied origin position call error) = codes "turn " ++ (outcome_words error ++ (origin.0 ++ 32 ∷ decimal position))
turn_words (Committed session block reply) = codes "turn " ++ (codes "session " ++ (decimal session ++ 32 ∷ (codes "block " ++ decimal block)))

-- a newline or a space
abbrev pub IsBreak : ℕ → Type 0
IsBreak byte = (byte ≡ 10) ⊎ (byte ≡ 32)

-- a line begins with these words of its turn, and then ends or goes on with a space
pub record BeginsWithItsWords (text : LiveTurn → List ℕ) (turn : LiveTurn) : Type 0 where
  pub next : ℕ
  pub tail : List ℕ
  pub is : text turn ≡ turn_words turn ++ next ∷ tail
  pub ends : IsBreak next

-- origins have names, and positions, sessions and blocks are numbers of 64 bits
pub record IsPrintable (origins : List SiteName) (sessions : List Session) (x : SiteState) : Type 0 where
  pub names : (origin : SiteName) → is_among origins origin ≡ true → is_name origin.0 ≡ true
  pub positions : (origin : SiteName) (position : ℕ) → arrived_at origin position x.senders ≢ None → position < 2 ^ 64
  pub sessions_fit : length sessions < 2 ^ 64
  pub blocks_fit : (session : ℕ) → length (blocks_of session sessions) < 2 ^ 64

-- such lines tell what their turns are of
abbrev pub TurnLinesTellSubjects : Type 0
TurnLinesTellSubjects = (origins : List SiteName) (sessions : List Session) (x : SiteState) (text : LiveTurn → List ℕ) → IsPrintable origins sessions x
    → ((turn : LiveTurn) → BeginsWithItsWords text turn) → TellsSubjects (SubjectIsThere origins sessions x) text
