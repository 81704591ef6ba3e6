-- A live part in the making: a site, how it was at the opening, and the turns that led from there to here.
use Rattle.std.specs.Prelude.{◌≡◌, ℕ, suc, ◌<◌, ◌≤◌, List, length, slice_index_or}
use Rattle.rep_values.specs.declared.name.SiteName.{SiteName}
use Rattle.site_state.specs.State.{SiteState}
use Rattle.live_laws.specs.declared.turn.LiveTurn.{LiveTurn}
use Rattle.live_laws.specs.declared.turn.Session.{Session}
use Rattle.live_laws.specs.Turns.{blocks_of, site_after, blocks_committed, IsPartialRun}

-- the site as it was at the opening and as it is, whose positions are applied, the sessions, the turns so far, and how many
-- blocks of each session they commit, refused or not
pub record CrewState : Type 0 where
  pub opened : SiteState
  pub origins : List SiteName
  pub sessions : List Session
  pub turns : List LiveTurn
  pub next : List ℕ
  pub site : SiteState

-- the turns are a partial run that led from the opening to the site
pub record IsCrew (c : CrewState) : Type 0 where
  pub run : IsPartialRun c.origins c.sessions c.turns c.opened
  pub counts : (place : ℕ) → length (blocks_committed (suc place) c.turns) ≡ slice_index_or c.next place 0
  pub room : length c.next ≡ 8
  pub few : length c.sessions ≤ 8
  pub led : c.site ≡ site_after c.sessions c.turns c.opened

-- a live part is the same one, however far it has come
pub record IsSamePart (old new : CrewState) : Type 0 where
  pub opened : new.opened ≡ old.opened
  pub origins : new.origins ≡ old.origins
  pub sessions : new.sessions ≡ old.sessions

-- each block of each session had its turn
abbrev pub HadEachBlock : CrewState → Type 0
HadEachBlock c = (place : ℕ) → place < 8 → slice_index_or c.next place 0 ≡ length (blocks_of (suc place) c.sessions)

-- a site comes of another by a partial run
abbrev pub IsPartlyRun : List SiteName → List Session → SiteState → SiteState → Type 0
IsPartlyRun origins sessions x y = (turns : List LiveTurn) × (IsPartialRun origins sessions turns x × (y ≡ site_after sessions turns x))
