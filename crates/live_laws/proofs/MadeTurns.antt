-- The turns that a site makes: of a position, and of a block.
use Rattle.std.proofs.Common.{◌≡◌, ℕ, List, ◌∷◌, true, Some, None, refl, sym, ap, ◌∙◌}
use Rattle.std.specs.Prelude.{◌&&◌, Option, is_some, Result, Ok, Err}
use Rattle.rep_values.specs.declared.name.SiteName.{SiteName}
use Rattle.rep_values.specs.declared.refusal.ApplyError.{ApplyError}
use Rattle.txn_effects.specs.Calls.{Effect}
use Rattle.txn_effects.specs.Transactions.{Failure}
use Rattle.site_state.specs.declared.entry.Entry.{Entry}
use Rattle.site_state.specs.declared.entry.Entry.TheVariants.{Local, Done, Error, Executed, Dropped, Refreshed}
use Rattle.site_state.specs.declared.arrival.Arrival.{Arrival}
use Rattle.site_state.specs.State.{SiteState, arrived_at}
use Rattle.rep_schema.specs.Sites.{is_among}
use Rattle.site_state.specs.Ready.{is_ready}
use Rattle.site_state.specs.Steps.{onward_number}
use Rattle.site_state.specs.Passes.{effect_here, finished_by, site_apply}
use Rattle.site_state.proofs.Stepping.{arrived_has}
use Rattle.event_laws.proofs.MasterArrivals.{IsReadyAt, ready_at, site_apply-ready}
use Rattle.live_laws.specs.declared.turn.LiveTurn.{LiveTurn}
use Rattle.live_laws.specs.declared.turn.LiveTurn.TheVariants.{Applied}
use Rattle.live_laws.specs.declared.turn.Session.{Session}
use Rattle.live_laws.specs.Turns.{block_of, applied_by, applied_found, applied_turn, committed_turn, may_come, turn_here, site_after_turn, IsTurn}

-- ---- of a position

-- a turn applies this position
pub record IsOfPosition (origin : SiteName) (position : ℕ) (turn : LiveTurn) : Type 0 where
  pub call : ℕ
  pub error : Option ApplyError
  pub is : turn ≡ Applied origin position call error

pub applied_turn_is : (origin : SiteName) (position : ℕ) (x : SiteState) → IsOfPosition origin position (applied_turn origin position x)
applied_turn_is origin position x = go (arrived_at origin position x.senders)
  where
    by : (r : Result Effect Failure) → IsOfPosition origin position (applied_by origin position r)
    by (Ok effect) = record { call = 0; error = None; is = refl }
    by (Err failure) = record { call = failure.call; error = Some failure.error; is = refl }

    go : (found : Option Arrival) → IsOfPosition origin position (applied_found origin position found x)
    go None = record { call = 0; error = None; is = refl }
    go (Some a) = by (effect_here origin a x)

-- it leaves what applying the position leaves
pub site_after_turn-applied_turn : (sessions : List Session) (origin : SiteName) (position : ℕ) (x y : SiteState) → site_after_turn sessions (applied_turn origin position x) y ≡ site_apply origin position y
site_after_turn-applied_turn sessions origin position x y = ap (λ (t : LiveTurn). site_after_turn sessions t y) (applied_turn_is origin position x).is

-- where the position is of an origin and ready, it is a turn of the site
pub applied_is_turn : (origins : List SiteName) (sessions : List Session) (origin : SiteName) (position : ℕ) (x : SiteState) → is_among origins origin ≡ true → is_ready origin position x ≡ true
    → IsTurn origins sessions (applied_turn origin position x) x
applied_is_turn origins sessions origin position x among ready = record {
  may = ap (λ (t : LiveTurn). may_come origins sessions t x) made.is ∙ both;
  told = ap (λ (t : LiveTurn). turn_here sessions t x) made.is;
}
  where
    made : IsOfPosition origin position (applied_turn origin position x)
    made = applied_turn_is origin position x

    both : (is_among origins origin && is_ready origin position x) ≡ true
    both = rw (among, ready) refl

-- the turn that an entry of a journal tells of
abbrev pub entry_turn : Entry → Option LiveTurn
entry_turn (Local number txn) = None
entry_turn (Done origin position onward txn) = Some (Applied origin position 0 None)
entry_turn (Error origin position call error txn) = Some (Applied origin position call (Some error))
entry_turn (Executed origin position onward txn) = None
entry_turn (Dropped origin position) = None
entry_turn (Refreshed moment) = None

-- once a position is applied, the newest entry tells of its turn
pub record NewestTells (origin : SiteName) (position : ℕ) (x : SiteState) : Type 0 where
  pub newest : Entry
  pub journal : (site_apply origin position x).journal ≡ newest ∷ x.journal
  pub tells : entry_turn newest ≡ Some (applied_turn origin position x)

pub newest_tells : (origin : SiteName) (position : ℕ) (x : SiteState) → is_ready origin position x ≡ true → NewestTells origin position x
newest_tells origin position x ready = by (effect_here origin a x) refl
  where
    at : IsReadyAt origin position x
    at = ready_at origin position x ready

    a : Arrival
    a = at.arrival

    there : applied_turn origin position x ≡ applied_by origin position (effect_here origin a x)
    there = ap (λ (f : Option Arrival). applied_found origin position f x) at.there

    by : (r : Result Effect Failure) → effect_here origin a x ≡ r → NewestTells origin position x
    by (Ok effect) does = record {
      newest = Done origin a.position (onward_number origin effect.changes x) a.txn;
      journal = ap (λ (y : SiteState). y.journal) (site_apply-ready origin position x at ∙ ap (λ (r : Result Effect Failure). finished_by origin a r x) does);
      tells = ap (λ (p : ℕ). Some (Applied origin p 0 None)) (arrived_has origin position x a at.there) ∙ ap Some (sym (there ∙ ap (applied_by origin position) does));
    }
    by (Err failure) does = record {
      newest = Error origin a.position failure.call failure.error a.txn;
      journal = ap (λ (y : SiteState). y.journal) (site_apply-ready origin position x at ∙ ap (λ (r : Result Effect Failure). finished_by origin a r x) does);
      tells = ap (λ (p : ℕ). Some (Applied origin p failure.call (Some failure.error))) (arrived_has origin position x a at.there) ∙ ap Some (sym (there ∙ ap (applied_by origin position) does));
    }

-- ---- of a block

-- where its session has the block, it is a turn of the site
pub committed_is_turn : (origins : List SiteName) (sessions : List Session) (session block : ℕ) (x : SiteState) → is_some (block_of session block sessions) ≡ true
    → IsTurn origins sessions (committed_turn sessions session block x) x
committed_is_turn origins sessions session block x some = record { may = some; told = refl }
