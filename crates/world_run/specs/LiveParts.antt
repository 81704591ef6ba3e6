-- The live part of a script: what its lines say before its end, which runs it.
use Rattle.std.specs.Prelude.{◌≡◌, ℕ, cond, nat_lt, List, [], ◌∷◌, ◌++◌, length, filter, Option, Some, None, Result, Ok, Err}
use Rattle.rep_values.specs.declared.name.SiteName.{SiteName}
use Rattle.rep_values.specs.declared.refusal.Limit.TheVariants as limit
use Rattle.rep_values.specs.declared.refusal.Refusal.{Refusal}
use Rattle.rep_values.specs.declared.refusal.Refusal.TheVariants as refusal
use Rattle.rep_schema.specs.Sites.{senders_of, is_master_site}
use Rattle.rep_calls.specs.declared.statement.Statement.{Statement}
use Rattle.txn_effects.specs.Locals.{most_statements}
use Rattle.script_parse.specs.declared.command.Command.{Command}
use Rattle.script_parse.specs.declared.command.Command.TheVariants as command
use Rattle.site_state.specs.State.{SiteState}
use Rattle.site_events.specs.Cluster.{site_of}
use Rattle.live_laws.specs.declared.turn.LiveTurn.{LiveTurn}
use Rattle.live_laws.specs.declared.turn.Block.{Block}
use Rattle.live_laws.specs.declared.turn.Session.{Session}
use Rattle.live_laws.specs.Turns.{site_after, IsFullRun}
use Rattle.world_state.specs.World.{WorldState, with_site}
use Rattle.world_push.specs.Lending.{live_refusal, live_opened, live_closed}
use Rattle.world_run.specs.declared.live_part.OpenSession.{OpenSession}
use Rattle.world_run.specs.declared.live_part.OpenPart.{OpenPart}
use Rattle.world_run.specs.declared.live_part.LivePart.{LivePart}
use Rattle.world_run.specs.declared.live_part.LivePart.TheVariants as part

-- ---- sessions

-- a live part has at most so many sessions
abbrev pub most_sessions : ℕ
most_sessions = 8

-- a block without a statement
abbrev pub empty_block : Block
empty_block = record { lines = []; statements = [] }

-- a session that has no block yet
abbrev pub new_session : OpenSession
new_session = record { blocks = []; block = empty_block }

-- the sessions that were ended, and behind them the one that stands, if there is one. Its open block isn't among its blocks
abbrev pub sessions_with : List Session → Option OpenSession → List Session
sessions_with earlier None = earlier
sessions_with earlier (Some s) = earlier ++ record { blocks = s.blocks } ∷ []

-- the sessions of a part
abbrev pub sessions_of : OpenPart → List Session
sessions_of p = sessions_with p.earlier p.session

-- ---- lines in a part

-- a statement more in a block; one behind the first that is too many isn't kept
abbrev pub stated_more : ℕ → Statement → Block → Block
stated_more line statement b =
    cond (nat_lt most_statements (length b.statements)) b (record { lines = b.lines ++ line ∷ []; statements = b.statements ++ statement ∷ [] })

-- a statement more in the open block of a session
abbrev pub stated : ℕ → Statement → OpenSession → OpenSession
stated line statement s = record { blocks = s.blocks; block = stated_more line statement s.block }

-- the open block is ended, and the next one has no statement yet
abbrev pub block_ended : OpenSession → OpenSession
block_ended s = record { blocks = s.blocks ++ s.block ∷ []; block = empty_block }

abbrev pub changed_by : (OpenSession → OpenSession) → OpenPart → Option OpenSession → Result OpenPart Refusal
changed_by change p None = Err refusal.WrongPhase
changed_by change p (Some s) = Ok (record { site = p.site; earlier = p.earlier; session = Some (change s) })

-- the session that stands is changed; before the first one this is refused
abbrev pub in_session : (OpenSession → OpenSession) → OpenPart → Result OpenPart Refusal
in_session change p = changed_by change p p.session

-- a line that every script may have: in a part statements, commits and empty lines are taken, and nothing else
abbrev pub taken : ℕ → Command → OpenPart → Result OpenPart Refusal
taken line command.Nothing p = Ok p
taken line (command.Statement statement) p = in_session (stated line statement) p
taken line command.Commit p = in_session block_ended p
taken line other p = Err refusal.WrongPhase

-- the next session begins, and an open block is dropped
abbrev pub with_session : OpenPart → OpenPart
with_session p = record { site = p.site; earlier = sessions_of p; session = Some new_session }

-- unless there are as many as there may be
abbrev pub next_session : OpenPart → Result OpenPart Refusal
next_session p = cond (nat_lt (length (sessions_of p)) most_sessions) (Ok (with_session p)) (Err (refusal.LimitReached limit.Sessions))

-- ---- parts of a script

-- a part at a site that has no session yet
abbrev pub new_part : SiteName → OpenPart
new_part site = record { site = site; earlier = []; session = None }

abbrev pub opened_unless : Option Refusal → SiteName → Result LivePart Refusal
opened_unless None site = Ok (part.Open (new_part site))
opened_unless (Some why) site = Err why

-- why no part may be opened at a site, if something hinders it: there is one in a script, and it is one of a master
abbrev pub part_refusal : LivePart → SiteName → WorldState → Option Refusal
part_refusal part.NotYet site w = live_refusal site w
part_refusal (part.Open p) site w = Some refusal.WrongPhase
part_refusal (part.Ended e) site w = Some refusal.WrongPhase

-- a part is opened at a master
abbrev pub part_opened : LivePart → SiteName → WorldState → Result LivePart Refusal
part_opened old site w = opened_unless (part_refusal old site w) site

abbrev pub as_part : Result OpenPart Refusal → Result LivePart Refusal
as_part (Ok p) = Ok (part.Open p)
as_part (Err why) = Err why

-- a session begins in a part alone
abbrev pub session_in : LivePart → Result LivePart Refusal
session_in part.NotYet = Err refusal.WrongPhase
session_in (part.Open p) = as_part (next_session p)
session_in (part.Ended e) = Err refusal.WrongPhase

-- ---- the end of a part

-- the origins of a part at a site: the other masters
abbrev pub origins_of : SiteName → SiteState → List SiteName
origins_of site x = filter (is_master_site x.schema) (senders_of x.schema site)

-- the world behind a part: what the other masters sent came in, the turns were made at the site, and the marks went back
abbrev pub world_behind_part : SiteName → List Session → List LiveTurn → WorldState → WorldState
world_behind_part site sessions turns w = live_closed site (with_site site (site_after sessions turns) (live_opened site w))

-- turns are a full run of a part at a site, which stands as what the other masters sent leaves it, with a pass begun
pub record IsFullPart (site : SiteName) (sessions : List Session) (turns : List LiveTurn) (w : WorldState) : Type 0 where
  pub opened : SiteState
  pub here : site_of site (live_opened site w).sites ≡ Some opened
  pub full : IsFullRun (origins_of site opened) sessions turns opened
