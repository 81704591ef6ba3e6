-- What a turn leaves of a site.
use Rattle.std.proofs.Common.{◌≡◌, ℕ, Bool, true, false, cond, Some, None, refl, ap, ◌∙◌}
use Rattle.std.specs.Prelude.{◌||◌, List, Option, Result, Ok, Err}
use Rattle.rep_values.specs.declared.name.SiteName.{SiteName}
use Rattle.rep_calls.specs.declared.statement.Statement.{Statement}
use Rattle.txn_effects.specs.Calls.{Effect}
use Rattle.txn_effects.specs.Transactions.{Failure}
use Rattle.txn_effects.specs.declared.local.LocalStop.{LocalStop}
use Rattle.txn_effects.specs.Locals.{BlockEffect}
use Rattle.site_state.specs.declared.arrival.Arrival.{Arrival}
use Rattle.site_state.specs.State.{SiteState}
use Rattle.site_state.specs.Journal.{finished, is_position}
use Rattle.site_state.specs.Ready.{is_ready}
use Rattle.site_state.specs.Steps.{is_empty}
use Rattle.site_state.specs.Passes.{effect_here, finished_by, site_apply}
use Rattle.site_state.specs.Commits.{block_at, committed, committed_by, site_commit}
use Rattle.site_state.proofs.Stepping.{no_entry, Steps, commit_steps, apply_steps, arrived_has}
use Rattle.event_laws.proofs.MasterArrivals.{IsReadyAt, ready_at, site_apply-ready}
use Rattle.live_laws.specs.declared.turn.LiveTurn.{LiveTurn}
use Rattle.live_laws.specs.declared.turn.LiveTurn.TheVariants.{Applied, Committed}
use Rattle.live_laws.specs.declared.turn.Block.{Block}
use Rattle.live_laws.specs.declared.turn.Session.{Session}
use Rattle.live_laws.specs.Turns.{block_of, committed_block, site_after_turn}

-- ---- each turn only journals

committed_block_steps : (block : Option Block) (x : SiteState) → Steps x (committed_block block x)
committed_block_steps None x = record { journals = no_entry x x refl; schema = refl; here = refl; base = refl; senders = refl; destinations = refl; purged = refl }
committed_block_steps (Some block) x = commit_steps block.statements x

pub turn_steps : (sessions : List Session) (turn : LiveTurn) (x : SiteState) → Steps x (site_after_turn sessions turn x)
turn_steps sessions (Applied origin position call error) x = apply_steps origin position x
turn_steps sessions (Committed session block reply) x = committed_block_steps (block_of session block sessions) x

-- ---- what is finished

-- a ready position that is applied is the one that is newly finished
pub finished-site_apply : (origin : SiteName) (position : ℕ) (x : SiteState) → is_ready origin position x ≡ true
    → (o : SiteName) (p : ℕ) → finished o (site_apply origin position x).journal p ≡ (is_position o p origin position || finished o x.journal p)
finished-site_apply origin position x ready o p = ap (λ (y : SiteState). finished o y.journal p) (site_apply-ready origin position x at)
    ∙ by at.arrival (arrived_has origin position x at.arrival at.there) (effect_here origin at.arrival x)
  where
    at : IsReadyAt origin position x
    at = ready_at origin position x ready

    by : (a : Arrival) → a.position ≡ position → (r : Result Effect Failure) → finished o (finished_by origin a r x).journal p ≡ (is_position o p origin position || finished o x.journal p)
    by a at (Ok effect) = ap (λ (q : ℕ). is_position o p origin q || finished o x.journal p) at
    by a at (Err failure) = ap (λ (q : ℕ). is_position o p origin q || finished o x.journal p) at

finished-site_commit : (statements : List Statement) (x : SiteState) (o : SiteName) (p : ℕ) → finished o (site_commit statements x).journal p ≡ finished o x.journal p
finished-site_commit statements x o p = go (block_at statements x)
  where
    by : (block : BlockEffect) (b : Bool) → finished o (cond b x (committed block x)).journal p ≡ finished o x.journal p
    by block true = refl
    by block false = refl

    go : (r : Result BlockEffect LocalStop) → finished o (committed_by r x).journal p ≡ finished o x.journal p
    go (Ok block) = by block (is_empty block.changes)
    go (Err stop) = refl

-- a block finishes nothing
pub finished-committed_block : (block : Option Block) (x : SiteState) (o : SiteName) (p : ℕ) → finished o (committed_block block x).journal p ≡ finished o x.journal p
finished-committed_block None x o p = refl
finished-committed_block (Some block) x o p = finished-site_commit block.statements x o p
