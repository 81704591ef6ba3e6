-- Turns at one site: which may come, what they tell and leave; and runs of turns, full ones and partial ones.
use Rattle.std.specs.Prelude.{◌≡◌, ◌≤◌, ℕ, zero, suc, ◌==◌, ◌&&◌, Bool, true, false, cond, List, [], ◌∷◌, length, slice_get, Option, Some, None, is_some, unwrap_or, Result, Ok, Err}
use Rattle.std.specs.List.{range_with_len}
use Rattle.rep_values.specs.declared.name.SiteName.{SiteName}
use Rattle.txn_effects.specs.Calls.{Effect}
use Rattle.txn_effects.specs.Transactions.{Failure}
use Rattle.txn_effects.specs.declared.local.LocalStop.{LocalStop}
use Rattle.site_state.specs.declared.arrival.Arrival.{Arrival}
use Rattle.site_state.specs.State.{SiteState, arrived_at}
use Rattle.rep_schema.specs.Sites.{is_among}
use Rattle.site_state.specs.Ready.{is_ready}
use Rattle.site_state.specs.Passes.{effect_here, site_apply}
use Rattle.site_state.specs.Commits.{site_commit, commit_answer}
use Rattle.live_laws.specs.declared.turn.Reply.{Reply}
use Rattle.live_laws.specs.declared.turn.Reply.TheVariants as reply
use Rattle.live_laws.specs.declared.turn.LiveTurn.{LiveTurn}
use Rattle.live_laws.specs.declared.turn.LiveTurn.TheVariants.{Applied, Committed}
use Rattle.live_laws.specs.declared.turn.Block.{Block}
use Rattle.live_laws.specs.declared.turn.Session.{Session}

-- ---- blocks of sessions

-- what a list has at a number, its first at 1
abbrev pub at_number : {X : Type 0} → ℕ → List X → Option X
at_number zero xs = None
at_number (suc n) xs = slice_get xs n

-- the blocks of a session, none where there is no session
abbrev pub blocks_in : Option Session → List Block
blocks_in None = []
blocks_in (Some session) = session.blocks

-- the blocks of the session of a number
abbrev pub blocks_of : ℕ → List Session → List Block
blocks_of session sessions = blocks_in (at_number session sessions)

-- a block by the number of its session and its own
abbrev pub block_of : ℕ → ℕ → List Session → Option Block
block_of session block sessions = at_number block (blocks_of session sessions)

-- ---- what a turn tells

-- the reply to a commit's answer, where the statements stand in these lines
abbrev pub reply_by : List ℕ → Result ℕ LocalStop → Reply
reply_by lines (Ok number) = cond (number == 0) reply.Nothing (reply.Commit number)
reply_by lines (Err stop) = reply.Refused (unwrap_or (at_number stop.statement lines) 0) stop.refusal

-- the reply to a block at a site
abbrev pub reply_to : Option Block → SiteState → Reply
reply_to None x = reply.Nothing
reply_to (Some block) x = reply_by block.lines (commit_answer block.statements x)

-- the turn of a position, by what the arrival there does to the tables
abbrev pub applied_by : SiteName → ℕ → Result Effect Failure → LiveTurn
applied_by origin position (Ok effect) = Applied origin position 0 None
applied_by origin position (Err failure) = Applied origin position failure.call (Some failure.error)

-- the turn of a position at which this arrived
abbrev pub applied_found : SiteName → ℕ → Option Arrival → SiteState → LiveTurn
applied_found origin position None x = Applied origin position 0 None
applied_found origin position (Some a) x = applied_by origin position (effect_here origin a x)

-- the turn that applies a position at a site, with what becomes of it there
abbrev pub applied_turn : SiteName → ℕ → SiteState → LiveTurn
applied_turn origin position x = applied_found origin position (arrived_at origin position x.senders) x

-- the turn that commits a block at a site, with its reply there
abbrev pub committed_turn : List Session → ℕ → ℕ → SiteState → LiveTurn
committed_turn sessions session block x = Committed session block (reply_to (block_of session block sessions) x)

-- ---- a turn

-- a turn may come: its position is of one of the origins and ready, or its session has the block
abbrev pub may_come : List SiteName → List Session → LiveTurn → SiteState → Bool
may_come origins sessions (Applied origin position call error) x = is_among origins origin && is_ready origin position x
may_come origins sessions (Committed session block reply) x = is_some (block_of session block sessions)

-- the turn of the same position or block, with what the site tells of it
abbrev pub turn_here : List Session → LiveTurn → SiteState → LiveTurn
turn_here sessions (Applied origin position call error) x = applied_turn origin position x
turn_here sessions (Committed session block reply) x = committed_turn sessions session block x

-- the site after a block, the same where there is none
abbrev pub committed_block : Option Block → SiteState → SiteState
committed_block None x = x
committed_block (Some block) x = site_commit block.statements x

-- the site after a turn
abbrev pub site_after_turn : List Session → LiveTurn → SiteState → SiteState
site_after_turn sessions (Applied origin position call error) x = site_apply origin position x
site_after_turn sessions (Committed session block reply) x = committed_block (block_of session block sessions) x

-- a turn of a site: it may come there, and tells what the site tells
pub record IsTurn (origins : List SiteName) (sessions : List Session) (turn : LiveTurn) (x : SiteState) : Type 0 where
  pub may : may_come origins sessions turn x ≡ true
  pub told : turn_here sessions turn x ≡ turn

-- ---- a run

-- the site after turns, of which the first stands first
abbrev pub site_after : List Session → List LiveTurn → SiteState → SiteState
site_after sessions [] x = x
site_after sessions (turn ∷ turns) x = site_after sessions turns (site_after_turn sessions turn x)

-- a run from a site: each turn is one of the site that those before it leave
abbrev pub IsRun : List SiteName → List Session → List LiveTurn → SiteState → Type 0
IsRun origins sessions [] x = Unit {0}
IsRun origins sessions (turn ∷ turns) x = IsTurn origins sessions turn x × IsRun origins sessions turns (site_after_turn sessions turn x)

-- ---- full and partial runs

-- the blocks of a session that turns commit, refused or not, in the order of the turns
abbrev pub blocks_committed : ℕ → List LiveTurn → List ℕ
blocks_committed session [] = []
blocks_committed session (Applied origin position call error ∷ turns) = blocks_committed session turns
blocks_committed session (Committed s block reply ∷ turns) = cond (s == session) (block ∷ blocks_committed session turns) (blocks_committed session turns)

-- turns commit each block of each session once, and those of a session in their order
abbrev pub CommitEachBlock : List Session → List LiveTurn → Type 0
CommitEachBlock sessions turns = (session : ℕ) → blocks_committed session turns ≡ range_with_len 1 (length (blocks_of session sessions))

-- no position of these origins is ready
abbrev pub NothingReadyOf : List SiteName → SiteState → Type 0
NothingReadyOf origins x = (origin : SiteName) (position : ℕ) → is_among origins origin ≡ true → is_ready origin position x ≡ false

-- a full run: it commits each block, and after it no position of the origins is ready
pub record IsFullRun (origins : List SiteName) (sessions : List Session) (turns : List LiveTurn) (x : SiteState) : Type 0 where
  pub run : IsRun origins sessions turns x
  pub blocks : CommitEachBlock sessions turns
  pub none : NothingReadyOf origins (site_after sessions turns x)

-- a partial run: of each session it commits so many blocks, the first ones in their order
pub record IsPartialRun (origins : List SiteName) (sessions : List Session) (turns : List LiveTurn) (x : SiteState) : Type 0 where
  pub run : IsRun origins sessions turns x
  pub count : ℕ → ℕ
  pub blocks : (session : ℕ) → blocks_committed session turns ≡ range_with_len 1 (count session)
  pub within : (session : ℕ) → count session ≤ length (blocks_of session sessions)
