-- A crew: a site, how it was when the crew began, and the turns that led from there to here.
use Rattle.std.specs.Prelude.{◌≡◌, ℕ, ◌+◌, ◌^◌, ◌<◌, Bool, true, false, List, Option, Some, None, IfSome, Result, Ok, Err}
use Rattle.rep_values.specs.declared.name.SiteName.{SiteName}
use Rattle.rep_lists.specs.declared.memory.NoMemory.{NoMemory}
use Rattle.rep_laws.specs.Commuting.{IsSound}
use Rattle.site_state.specs.State.{SiteState, arrivals}
use Rattle.rep_schema.specs.Sites.{is_master_site}
use Rattle.site_state.specs.Steps.{begun}
use Rattle.site_state.specs.Passes.{site_pass}
use Rattle.site_state.specs.Waited.{IsWellNumbered}
use Rattle.site_state.specs.declared.answers.Applied.{Applied}
use Rattle.site_state.specs.declared.answers.Applied.TheVariants as applied
use Rattle.site_state.specs.Ready.{stale_of}
use Rattle.event_laws.specs.Confluence.{applied_in_turn, AreReadyInTurn, CanPassInAnyOrder}
use Rattle.txn_apply.specs.declared.outcome.Outcome.{Outcome}
use Rattle.txn_apply.specs.Works.{WorkState}
use Rattle.site_engine.specs.Working.{IsWorkOf, HoldsWhereAlike}
use Rattle.parallel_apply.specs.Turns.{positions_of, site_after_crew}
use Rattle.parallel_apply.specs.declared.claim.Claim.{Claim}
use Rattle.parallel_apply.specs.declared.claim.Evaluated.{Evaluated}

-- a position wasn't ready, by what became of it
abbrev pub is_stale : Applied → Bool
is_stale (applied.Done) = false
is_stale (applied.Error error) = false
is_stale (applied.Stale why) = true

-- the site as it was when the crew began and as it is, whose positions are applied, and the turns, the oldest first
pub record CrewState : Type 0 where
  pub opened : SiteState
  pub origin : SiteName
  pub turns : List (Option ℕ)
  pub site : SiteState

-- the site is that of the opening after the turns, each of which applied a position that was ready in its turn, or none
pub record IsCrew (c : CrewState) : Type 0 where
  pub passes : CanPassInAnyOrder c.origin c.opened
  pub ready : AreReadyInTurn c.origin (positions_of c.turns) c.opened
  pub led : c.site ≡ site_after_crew c.origin c.turns c.opened

-- a position is claimed at a site where it is ready, and its work is that of what arrived there
pub record IsClaimAt (origin : SiteName) (x : SiteState) (claim : Claim) : Type 0 where
  pub ready : stale_of origin claim.position x ≡ None
  pub work : IfSome claim.work (IsWorkOf origin claim.position x)

-- an outcome is that of a work, and holds wherever the work's rows are
abbrev pub IsOutcomeOf : Option WorkState → Option Outcome → Type 0
IsOutcomeOf None None = Unit {0}
IsOutcomeOf None (Some outcome) = ⊥
IsOutcomeOf (Some work) None = ⊥
IsOutcomeOf (Some work) (Some outcome) = (outcome.origin ≡ work.origin) × (outcome.position ≡ work.position) × HoldsWhereAlike work outcome.ending

-- what was evaluated is of a claim that was made after some of the crew's turns
pub record IsOfEarlierClaim (c : CrewState) (done : Evaluated) : Type 0 where
  pub turns : List (Option ℕ)
  pub later : List (Option ℕ)
  pub began : c.turns ≡ Rattle.std.specs.Prelude.◌++◌ turns later
  pub claim : Claim
  pub is : IsClaimAt c.origin (site_after_crew c.origin turns c.opened) claim
  pub position : done.position ≡ claim.position
  pub outcome : IsOutcomeOf claim.work done.outcome

-- positions were applied to a site, each of them ready in its turn
abbrev pub IsPartlyApplied : SiteName → SiteState → SiteState → Type 0
IsPartlyApplied origin x y = (positions : List ℕ) × AreReadyInTurn origin positions x × (y ≡ applied_in_turn origin positions x)

-- what a pass of a crew asks of a site and a sender
pub record TakesCrew (origin : SiteName) (x : SiteState) : Type 0 where
  pub sound : IsSound x.schema
  pub master : is_master_site x.schema origin ≡ true
  pub numbered : IsWellNumbered x.schema (arrivals origin x)
  pub few : x.moment + 1 < 2 ^ 64

-- what it answers: the site after a pass of one, or, where there is no memory, after some positions
abbrev pub AnswersCrew : SiteName → SiteState → Result SiteState (SiteState × NoMemory) → Type 0
AnswersCrew origin x (Ok passed) = passed ≡ site_pass origin x
AnswersCrew origin x (Err refused) = IsPartlyApplied origin (begun x) refused.0
