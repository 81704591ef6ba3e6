-- What holds of each run of turns.
use Rattle.std.specs.Prelude.{◌≡◌, ℕ, ◌<◌, ◌≤◌, ◌⊎◌, Bool, true, false, List, [], ◌∷◌, ◌++◌, Option, Some, None, Ok}
use Rattle.std.specs.List.{list_any}
use Rattle.rep_values.specs.declared.name.SiteName.{SiteName}
use Rattle.rep_calls.specs.declared.call.Txn.{Txn}
use Rattle.rep_calls.specs.declared.statement.Statement.{Statement}
use Rattle.txn_effects.specs.Locals.{BlockEffect}
use Rattle.site_state.specs.declared.entry.Entry.{Entry}
use Rattle.site_state.specs.declared.entry.Entry.TheVariants.{Local, Done, Error}
use Rattle.site_state.specs.declared.arrival.Arrival.{Arrival}
use Rattle.site_state.specs.State.{SiteState, arrived_at, arrivals}
use Rattle.rep_schema.specs.Sites.{is_among, is_master_site}
use Rattle.site_state.specs.Journal.{is_position, finished}
use Rattle.site_state.specs.Streams.{shares}
use Rattle.site_state.specs.Steps.{begun}
use Rattle.rep_lists.specs.Counting.{count_where}
use Rattle.site_state.specs.Commits.{block_at}
use Rattle.site_state.specs.Contents.{txn_of}
use Rattle.site_events.specs.Cluster.{Cluster, at_site}
use Rattle.site_events.specs.Events.{Event, Commit, Apply, Begin, run}
use Rattle.site_state.specs.Waited.{IsWellNumbered}
use Rattle.live_laws.specs.declared.turn.Reply.TheVariants as reply
use Rattle.live_laws.specs.declared.turn.LiveTurn.{LiveTurn}
use Rattle.live_laws.specs.declared.turn.LiveTurn.TheVariants.{Applied, Committed}
use Rattle.live_laws.specs.declared.turn.Session.{Session}
use Rattle.live_laws.specs.declared.turn.Block.{Block}
use Rattle.live_laws.specs.Turns.{block_of, IsRun, site_after, site_after_turn}

-- ---- once, and in order

-- a turn applies a position
abbrev pub applies : SiteName → ℕ → LiveTurn → Bool
applies origin position (Applied o p call error) = is_position origin position o p
applies origin position (Committed session block reply) = false

-- a run applies each position at most once
abbrev pub PositionsAreAppliedOnce : Type 0
PositionsAreAppliedOnce = (origins : List SiteName) (sessions : List Session) (turns : List LiveTurn) (x : SiteState) → IsRun origins sessions turns x
    → (origin : SiteName) (position : ℕ) → count_where (applies origin position) turns ≤ 1

-- of two positions that share a token, the earlier was finished at the opening or is applied before the later one
abbrev pub EarlierIsAppliedFirst : Type 0
EarlierIsAppliedFirst = (origins : List SiteName) (sessions : List Session) (before after : List LiveTurn) (turn : LiveTurn) (x : SiteState) → IsRun origins sessions (before ++ turn ∷ after) x
    → (origin : SiteName) (p q : ℕ) (a b : Arrival) → applies origin q turn ≡ true
    → IsWellNumbered x.schema (arrivals origin x) → arrived_at origin p x.senders ≡ Some a → arrived_at origin q x.senders ≡ Some b
    → 0 < p → p < q → shares x.schema b.txn a.txn ≡ true
    → (finished origin x.journal p ≡ true) ⊎ (list_any (applies origin p) before ≡ true)

-- ---- the journal

-- what arrived at a position carries this transaction
abbrev pub ArrivalCarries : SiteName → ℕ → SiteState → Txn → Type 0
ArrivalCarries origin position x txn = (a : Arrival) × ((arrived_at origin position x.senders ≡ Some a) × (a.txn ≡ txn))

-- a transaction is that of what a block changes at a site
pub record IsOfBlock (sessions : List Session) (session block : ℕ) (x : SiteState) (txn : Txn) : Type 0 where
  pub stated : Block
  pub is : block_of session block sessions ≡ Some stated
  pub effect : BlockEffect
  pub does : block_at stated.statements x ≡ Ok effect
  pub carries : txn ≡ txn_of x.schema effect.changes

-- the entries that a turn adds to the journal of a site: one, or none where nothing is queued
abbrev pub AreEntriesOf : List Session → LiveTurn → SiteState → List Entry → Type 0
AreEntriesOf sessions (Applied origin position call None) x entries = (txn : Txn) × (ArrivalCarries origin position x txn × (entries ≡ Done origin position 0 txn ∷ []))
AreEntriesOf sessions (Applied origin position call (Some error)) x entries = (txn : Txn) × (ArrivalCarries origin position x txn × (entries ≡ Error origin position call error txn ∷ []))
AreEntriesOf sessions (Committed session block (reply.Commit number)) x entries = (txn : Txn) × (IsOfBlock sessions session block x txn × (entries ≡ Local number txn ∷ []))
AreEntriesOf sessions (Committed session block reply.Nothing) x entries = entries ≡ []
AreEntriesOf sessions (Committed session block (reply.Refused line refusal)) x entries = entries ≡ []

-- the entries of turns, each turn's at the site that those before it leave, the newest first
abbrev pub IsJournalOf : List Session → List LiveTurn → SiteState → List Entry → Type 0
IsJournalOf sessions [] x entries = entries ≡ []
IsJournalOf sessions (turn ∷ turns) x entries = (later : List Entry) × ((own : List Entry) × ((entries ≡ later ++ own) × (AreEntriesOf sessions turn x own × IsJournalOf sessions turns (site_after_turn sessions turn x) later)))

-- the origins are masters
abbrev pub AreMasters : List SiteName → SiteState → Type 0
AreMasters origins x = (origin : SiteName) → is_among origins origin ≡ true → is_master_site x.schema origin ≡ true

-- from the opening on the site's journal is that of the turns
abbrev pub TurnsAreJournalled : Type 0
TurnsAreJournalled = (origins : List SiteName) (sessions : List Session) (turns : List LiveTurn) (x : SiteState) → AreMasters origins x → IsRun origins sessions turns x
    → (entries : List Entry) × (IsJournalOf sessions turns x entries × ((site_after sessions turns x).journal ≡ entries ++ x.journal))

-- ---- events

-- the statements of a block, none where there is no block
abbrev pub statements_in : Option Block → List Statement
statements_in None = []
statements_in (Some block) = block.statements

-- the event that a turn at a site is
abbrev pub event_of : SiteName → List Session → LiveTurn → Event
event_of site sessions (Applied origin position call error) = Apply site origin position
event_of site sessions (Committed session block reply) = Commit site (statements_in (block_of session block sessions))

-- the events of turns, the newest first
abbrev pub events_of : SiteName → List Session → List LiveTurn → List Event
events_of site sessions [] = []
events_of site sessions (turn ∷ turns) = events_of site sessions turns ++ event_of site sessions turn ∷ []

-- at a site at which a pass was begun turns are events, which change that site alone
abbrev pub TurnsAreEvents : Type 0
TurnsAreEvents = (site : SiteName) (sessions : List Session) (turns : List LiveTurn) (w : Cluster) → is_among w.begun site ≡ true
    → run (events_of site sessions turns) w ≡ record w { sites = at_site site (site_after sessions turns) w.sites }

-- so is a live part at any site: a pass begins, and the turns follow
abbrev pub LivePartsAreEvents : Type 0
LivePartsAreEvents = (site : SiteName) (sessions : List Session) (turns : List LiveTurn) (w : Cluster)
    → run (events_of site sessions turns ++ Begin site ∷ []) w ≡ record w { sites = at_site site (λ x. site_after sessions turns (begun x)) w.sites; begun = site ∷ w.begun }
