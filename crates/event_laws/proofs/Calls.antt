-- What each call of a site that fits owes the snapshots.
use Rattle.std.proofs.Common.{◌≡◌, ℕ, ◌≤◌, List, Bool, true, false, cond, Some, None, refl, ◌∙◌, arith, inl, inr}
use Rattle.std.specs.Prelude.{Option, Result, Ok, Err}
use Rattle.rep_values.specs.declared.name.SiteName.{SiteName}
use Rattle.rep_schema.specs.Changes.{LeadsTo}
use Rattle.rep_calls.specs.declared.call.Txn.{Txn}
use Rattle.rep_calls.specs.declared.statement.Statement.{Statement}
use Rattle.conflict_detect.specs.Fits.{TxnFits}
use Rattle.txn_effects.specs.Calls.{Effect}
use Rattle.txn_effects.specs.Transactions.{Failure, tables_by}
use Rattle.txn_effects.specs.Contents.{effect_on}
use Rattle.txn_effects.proofs.TransactionEffects.{IsApplied-txn_effect}
use Rattle.txn_effects.specs.declared.local.LocalStop.{LocalStop}
use Rattle.txn_effects.specs.Locals.{BlockEffect}
use Rattle.packet_code.specs.declared.packet.Packet.{Packet}
use Rattle.packet_code.specs.declared.packet.Packet.TheVariants.{Carry, Mark}
use Rattle.error_queue.specs.declared.entry.ErrorEntry.{ErrorEntry}
use Rattle.site_state.specs.declared.answers.Why.{Why}
use Rattle.site_state.specs.declared.arrival.Arrival.{Arrival}
use Rattle.site_state.specs.State.{SiteState, arrived_at}
use Rattle.site_state.specs.Journal.{error_at}
use Rattle.site_state.specs.Contents.{content_of, tables_of, txn_of}
use Rattle.site_state.specs.Ready.{stale_of}
use Rattle.site_state.specs.Steps.{is_empty, begun}
use Rattle.site_state.specs.Commits.{block_at, committed_by, committed, site_commit, site_clock}
use Rattle.site_state.specs.Packets.{arrived_by, is_foreign, taken_unless, site_accept}
use Rattle.site_state.specs.Passes.{effect_here, finished_by, applied_unless, site_apply}
use Rattle.site_state.specs.Errors.{effect_of_error, executed_by, executed_found, site_execute, dropped_found, site_drop}
use Rattle.site_state.specs.Purges.{site_purge}
use Rattle.site_state.specs.Joining.{site_open}
use Rattle.site_state.specs.Fits.{SchemaIsKeyed}
use Rattle.site_state.proofs.FittingBlocks.{block_applied}
use Rattle.site_state.proofs.FittingSites.{arrived_has, error_has}
use Rattle.event_laws.specs.Fitting.{FitsHere}
use Rattle.event_laws.proofs.Moves.{Quiet, Moves}

-- what a call asks of a site
pub record CanCall (x : SiteState) : Type 0 where
  pub keyed : SchemaIsKeyed x.schema
  pub fits : FitsHere x

-- ---- what changes no row

pub quiet : (x y : SiteState) → y.here ≡ x.here → x.moment ≤ y.moment → tables_of y ≡ tables_of x → y.logs ≡ x.logs → y.snapshots ≡ x.snapshots → Quiet x y
quiet x y here moment tables logs snapshots = record { here = here; moment = moment; tables = tables; logs = logs; snapshots = snapshots }

pub same_quiet : (x : SiteState) → Quiet x x
same_quiet x = quiet x x refl (omega arith) refl refl refl

pub clock_quiet : (clock : ℕ) (x : SiteState) → Quiet x (site_clock clock x)
clock_quiet clock x = quiet x _ refl (omega arith) refl refl refl

pub purge_quiet : (x : SiteState) → Quiet x (site_purge x)
purge_quiet x = quiet x _ refl (omega arith) refl refl refl

pub open_quiet : (site : SiteName) (x : SiteState) → Quiet x (site_open site x)
open_quiet site x = quiet x _ refl (omega arith) refl refl refl

pub begun_quiet : (x : SiteState) → Quiet x (begun x)
begun_quiet x = quiet x _ refl (omega arith) refl refl refl

pub drop_quiet : (origin : SiteName) (position : ℕ) (x : SiteState) → Quiet x (site_drop origin position x)
drop_quiet origin position x = go (error_at origin position x.journal)
  where
    go : (found : Option ErrorEntry) → Quiet x (dropped_found found x)
    go None = same_quiet x
    go (Some e) = quiet x _ refl (omega arith) refl refl refl

pub accept_quiet : (packet : Packet) (x : SiteState) → Quiet x (site_accept packet x)
accept_quiet packet x = go packet (is_foreign packet x)
  where
    by : (found : Option Arrival) (from : SiteName) (a : Arrival) → Quiet x (arrived_by found from a x)
    by None from a = quiet x _ refl (omega arith) refl refl refl
    by (Some before) from a = same_quiet x

    go : (packet : Packet) (b : Bool) → Quiet x (taken_unless b packet x)
    go packet true = same_quiet x
    go (Carry from to number position dep past txn) false = by (arrived_at from position x.senders) from _
    go (Mark from to mark) false = quiet x _ refl (omega arith) refl refl refl

-- ---- what changes rows

-- a transaction leads to the tables after it
leads_by : (x : SiteState) (origin : SiteName) (txn : Txn) (effect : Effect) → CanCall x → TxnFits x.schema txn → (r : Result Effect Failure) → effect_on x.schema origin txn (content_of x) ≡ r → r ≡ Ok effect
    → LeadsTo x.schema effect.changes (tables_of x) (tables_by x.schema r (tables_of x))
leads_by x origin txn effect can fits r gives is =
    rw is (IsApplied-txn_effect x.schema origin txn (tables_of x) (content_of x).numbers effect
    (record { shape = can.keyed.shape; keys = can.keyed.keys; apart = can.keyed.apart; are = can.fits.content.tables; counters = can.fits.content.counters; fits = fits }) (gives ∙ is)).leads

pub commit_moves : (b : Bool) (statements : List Statement) (x : SiteState) → CanCall x → Moves x.schema b x (site_commit statements x)
commit_moves b statements x can = go (block_at statements x) refl
  where
    -- its transaction leads to the tables to which the block led
    led : (block : BlockEffect) → block_at statements x ≡ Ok block → (r : Result Effect Failure) → r ≡ Ok (record { changes = block.changes; numbers = (content_of x).numbers })
        → LeadsTo x.schema block.changes (tables_of x) (tables_by x.schema r (tables_of x))
    led block gives r is = rw is (block_applied x.schema can.keyed x.here x.stamps statements (tables_of x) block can.fits.content.tables gives).leads

    by : (block : BlockEffect) → block_at statements x ≡ Ok block → (e : Bool) → Moves x.schema b x (cond e x (committed block x))
    by block gives true = inl (same_quiet x)
    by block gives false = inr (record {
      changes = block.changes;
      leads = led block gives (effect_on x.schema x.here.site (txn_of x.schema block.changes) (content_of x)) (can.fits.blocks statements block gives);
      here = refl;
      moment = omega arith;
      logs = refl;
      snapshots = refl;
      above = λ master mark le before. omega (arith, le);
    })

    go : (r : Result BlockEffect LocalStop) → block_at statements x ≡ r → Moves x.schema b x (committed_by r x)
    go (Ok block) gives = by block gives (is_empty block.changes)
    go (Err stop) gives = inl (same_quiet x)

-- at a master a pass was begun
pub apply_moves : (b : Bool) (origin : SiteName) (position : ℕ) (x : SiteState) → (x.here.is_master ≡ true → b ≡ true) → CanCall x → Moves x.schema b x (site_apply origin position x)
apply_moves b origin position x was_begun can = go (stale_of origin position x) (arrived_at origin position x.senders) refl
  where
    by : (a : Arrival) → TxnFits x.schema a.txn → (r : Result Effect Failure) → effect_here origin a x ≡ r → Moves x.schema b x (finished_by origin a r x)
    by a fits (Ok effect) gives = inr (record {
      changes = effect.changes;
      leads = leads_by x origin a.txn effect can fits (effect_here origin a x) refl gives;
      here = refl;
      moment = omega arith;
      logs = refl;
      snapshots = refl;
      above = λ master mark le before. before (was_begun master);
    })
    by a fits (Err failure) gives = inl (quiet x _ refl (omega arith) refl refl refl)

    go : (stale : Option Why) (found : Option Arrival) → arrived_at origin position x.senders ≡ found → Moves x.schema b x (applied_unless stale origin found x)
    go (Some why) found there = inl (same_quiet x)
    go None None there = inl (same_quiet x)
    go None (Some a) there = by a (arrived_has (TxnFits x.schema) origin position x.senders a can.fits.arrived there) (effect_here origin a x) refl

pub execute_moves : (b : Bool) (origin : SiteName) (position : ℕ) (x : SiteState) → CanCall x → Moves x.schema b x (site_execute origin position x)
execute_moves b origin position x can = go (error_at origin position x.journal) refl
  where
    by : (e : ErrorEntry) → TxnFits x.schema e.txn → (r : Result Effect Failure) → effect_of_error e x ≡ r → Moves x.schema b x (executed_by e r x)
    by e fits (Ok effect) gives = inr (record {
      changes = effect.changes;
      leads = leads_by x e.origin e.txn effect can fits (effect_of_error e x) refl gives;
      here = refl;
      moment = omega arith;
      logs = refl;
      snapshots = refl;
      above = λ master mark le before. omega (arith, le);
    })
    by e fits (Err failure) gives = inl (same_quiet x)

    go : (found : Option ErrorEntry) → error_at origin position x.journal ≡ found → Moves x.schema b x (executed_found found x)
    go None there = inl (same_quiet x)
    go (Some e) there = by e (error_has (TxnFits x.schema) origin position x.journal e can.fits.journal there) (effect_of_error e x) refl
