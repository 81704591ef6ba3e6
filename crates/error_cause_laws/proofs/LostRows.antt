-- Where a transaction fails because a row of a convergent table isn't there, the row's insert is lost.
use Rattle.std.proofs.Common.{◌≡◌, ℕ, Bool, true, false, List, [], Some, None, Ok, Err, refl, sym, ap, ◌∙◌, subst}
use Rattle.std.specs.Prelude.{◌||◌, Option, Result}
use Rattle.rep_values.specs.declared.name.SiteName.{SiteName}
use Rattle.rep_values.specs.declared.refusal.ApplyError.{ApplyError}
use Rattle.rep_values.specs.declared.refusal.ApplyError.TheVariants as error
use Rattle.rep_schema.specs.declared.schema.Schema.{Schema}
use Rattle.rep_schema.specs.declared.check.Check.{Check}
use Rattle.rep_schema.specs.Tables.{Cells, Rows, columns_of, find_row, rows_of}
use Rattle.rep_schema.specs.Checks.{failed_check}
use Rattle.rep_schema.specs.Putting.{changes_between, after_changes}
use Rattle.rep_calls.specs.declared.call.Call.{Call}
use Rattle.rep_calls.specs.declared.call.Call.TheVariants.{Insert, Update, Delete}
use Rattle.rep_calls.specs.declared.call.Txn.{Txn}
use Rattle.conflict_detect.specs.Fits.{table_of}
use Rattle.unique_resolve.specs.declared.settled.Settled.{Settled}
use Rattle.unique_resolve.specs.declared.settled.Settled.TheVariants as settled
use Rattle.unique_resolve.specs.Numbers.{Numbers}
use Rattle.unique_resolve.specs.Settling.{settlement_of}
use Rattle.txn_effects.specs.Parts.{result_then}
use Rattle.txn_effects.specs.Calls.{Effect, RowEffect, checked_effect, effect_by, row_named, row_effect, call_effect}
use Rattle.conflict_detect.specs.KeysNamed.{key_named}
use Rattle.txn_effects.specs.Transactions.{Failure}
use Rattle.txn_effects.specs.Contents.{effect_on}
use Rattle.txn_effects.specs.Convergent.{is_convergent}
use Rattle.local_txn.specs.Laws.{StampsOfABlockRise}
use Rattle.deferred_queue.specs.Streams.{at_position}
use Rattle.site_state.specs.declared.entry.Entry.{Entry}
use Rattle.site_state.specs.State.{SiteState}
use Rattle.site_state.specs.Contents.{content_of, tables_of}
use Rattle.site_state.specs.Streams.{stream_to}
use Rattle.site_events.specs.Cluster.{Cluster, site_of}
use Rattle.site_events.specs.Events.{Event}
use Rattle.event_laws.specs.Fitting.{IsFitStart}
use Rattle.event_laws.specs.Waiting.{SitesLinkAsDeclared}
use Rattle.convergence_laws.specs.Faults.{Tells, is_insert}
use Rattle.convergence_laws.specs.Joins.{inserts_in}
use Rattle.convergence_laws.specs.Journals.{IsSoundTxn}
use Rattle.convergence_laws.specs.Laws.{BlocksKeepForms}
use Rattle.convergence_laws.proofs.Moves.{DecisionLaws}
use Rattle.convergence_laws.proofs.CallsCome.{calls_come}
use Rattle.convergence_laws.proofs.Faults.{convergent_calls_fail_so}
use Rattle.error_cause_laws.proofs.Failing.{FailsBehind, fails_behind, call_found}
use Rattle.error_cause_laws.proofs.WritesStep.{IsWell, sent_holds}
use Rattle.error_cause_laws.proofs.Running.{sites_after, well_after}
use Rattle.event_laws.specs.Beginning.{KeysAreShared}
use Rattle.error_cause_laws.specs.LostInserts.{insert_is_lost, dropped_before, NoRowIsOfALostInsert}
use Rattle.error_cause_laws.proofs.NeededRows.{Needs}
use Rattle.error_cause_laws.proofs.OneRow.{Setting, Has}
use Rattle.error_cause_laws.proofs.LostInserts.{IsTried, is_lost}

-- ---- an insert doesn't fail so

put_has_row : (schema : Schema) (table : ℕ) (s : Settled) (before : Option Cells) (numbers : Numbers) → effect_by schema table s before numbers ≡ Err error.NoRow → ⊥
put_has_row schema table (settled.Fits row) before numbers gives = go (failed_check schema table row) gives
  where
    go : (check : Option Check) → checked_effect check row numbers ≡ Err error.NoRow → ⊥
    go None gives = cc
    go (Some check) gives = cc
put_has_row schema table settled.Dropped before numbers gives = cc
put_has_row schema table (settled.Conflict name) before numbers gives = cc

module _ (schema : Schema) (tables : List Rows) (numbers : Numbers) (origin : SiteName) where
  row_is_plain : (call : Call) (before : Option Cells) → row_effect schema tables numbers origin call before ≡ Err error.NoRow → is_insert call ≡ false
  row_is_plain (Insert table row) before gives = absurd (put_has_row schema table (settlement_of schema tables numbers origin table true row).settled before (settlement_of schema tables numbers origin table true row).numbers gives)
  row_is_plain (Update table key parts) before gives = refl
  row_is_plain (Delete table row) before gives = refl

  -- what fails because there is no row is no insert
  is_plain : (call : Call) → call_effect schema tables numbers origin call ≡ Err error.NoRow → is_insert call ≡ false
  is_plain call gives = go (row_effect schema tables numbers origin call (row_named schema tables call)) refl gives
    where
      go : (r : Result RowEffect ApplyError) → row_effect schema tables numbers origin call (row_named schema tables call) ≡ r
          → result_then {B = Effect} r (λ (x : RowEffect). Ok (record { changes = changes_between (table_of call) (row_named schema tables call) x.after; numbers = x.numbers })) ≡ Err error.NoRow → is_insert call ≡ false
      go (Ok x) is gives = cc
      go (Err why) is gives = let same : why ≡ error.NoRow = cc in row_is_plain call (row_named schema tables call) (is ∙ ap (λ (w : ApplyError). Err w) same)

-- ---- where a run begins

pub record Beginning : Type 0 where
  pub schema : Schema
  pub decides : DecisionLaws
  pub rises : StampsOfABlockRise
  pub blocks : BlocksKeepForms
  pub start : Cluster
  pub fit : IsFitStart schema start
  pub meshed : SitesLinkAsDeclared schema start.sites
  pub shared : KeysAreShared schema start.sites

abbrev pub setting : (r : Beginning) (table : ℕ) → is_convergent r.schema table ≡ true → Cells → Setting
setting r table convergent key = record {
  schema = r.schema;
  decides = r.decides;
  rises = r.rises;
  blocks = r.blocks;
  start = r.start;
  fit = r.fit;
  meshed = r.meshed;
  shared = r.shared;
  table = table;
  convergent = convergent;
  key = key;
}

module _ (r : Beginning) where
  abbrev pub Sites : List Event → List SiteState
  Sites events = sites_after r.schema r.decides r.rises r.blocks r.start r.fit r.meshed events

  -- what is said of failures at a site
  abbrev pub Says : List Event → SiteName → List Entry → ℕ → ApplyError → Txn → Type 0
  Says events site = NoRowIsOfALostInsert r.schema (λ table key. dropped_before r.schema table key events r.start site)

  -- what a site that is no master sent needs rows that are there
  abbrev pub SnapshotsNeed : Type 0
  SnapshotsNeed = (events : List Event) (site : SiteName) (x o : SiteState) (position : ℕ) (txn : Txn) → site_of site (Sites events) ≡ Some x → x.here.is_master ≡ true
      → site_of o.here.site (Sites events) ≡ Some o → o.here.is_master ≡ false → at_position position (stream_to site o) ≡ Some txn
      → (table : ℕ) (convergent : is_convergent r.schema table ≡ true) (key : Cells) → Needs r.schema table key txn → Has (setting r table convergent key) x

  module _ (snapshots : SnapshotsNeed) (events : List Event) (site : SiteName) (x o : SiteState) (position : ℕ) (txn : Txn) (failure : Failure) (found : site_of site (Sites events) ≡ Some x) (on : x.here.is_master ≡ true)
      (there : site_of o.here.site (Sites events) ≡ Some o) (sent : at_position position (stream_to site o) ≡ Some txn)
      (tried : (table : ℕ) (convergent : is_convergent r.schema table ≡ true) (key : Cells) → IsTried (setting r table convergent key) events site x o position txn)
      (gives : effect_on r.schema o.here.site txn (content_of x) ≡ Err failure) where
    well : IsWell r.schema x
    well = well_after r.schema r.decides r.rises r.blocks r.start r.fit r.meshed events site x found

    txn_sound : IsSoundTxn r.schema txn
    txn_sound = sent_holds (IsSoundTxn r.schema) site o position txn (well_after r.schema r.decides r.rises r.blocks r.start r.fit r.meshed events o.here.site o there).queued sent

    f : FailsBehind r.schema o.here.site 1 txn.calls (tables_of x) (content_of x).numbers failure
    f = fails_behind r.schema r.fit.sound o.here.site 1 txn.calls (tables_of x) (content_of x).numbers failure well.content.tables well.content.counters txn_sound.fits.calls txn_sound.keeps gives

    lost_row : failure.error ≡ error.NoRow → (convergent : is_convergent r.schema (table_of f.call) ≡ true)
        → (insert_is_lost r.schema (table_of f.call) (key_named r.schema f.call) x.journal || dropped_before r.schema (table_of f.call) (key_named r.schema f.call) events r.start site) ≡ true
    lost_row no_row convergent = go o.here.is_master refl
      where
        told : row_named r.schema (after_changes r.schema f.effect.changes (tables_of x)) f.call ≡ None
        told = subst (Tells r.schema f.call (row_named r.schema (after_changes r.schema f.effect.changes (tables_of x)) f.call)) no_row
            (convergent_calls_fail_so r.decides r.schema (after_changes r.schema f.effect.changes (tables_of x)) f.effect.numbers o.here.site f.call failure.error r.fit.sound f.are f.fits f.keeps convergent f.fails)

        none : (find_row (columns_of r.schema (table_of f.call)) (key_named r.schema f.call) (rows_of (tables_of x) (table_of f.call)) ≡ None) × (inserts_in r.schema (table_of f.call) (key_named r.schema f.call) f.done ≡ [])
        none =
            let came = calls_come r.schema r.fit.sound r.decides (table_of f.call) 0 convergent (key_named r.schema f.call) 1 f.done (tables_of x) (content_of x).numbers o.here.site f.effect well.content.tables well.content.counters f.done_fit f.done_keep f.succeeds in
            let c = came.none told in
            (c.0, c.1)

        needs : Needs r.schema (table_of f.call) (key_named r.schema f.call) txn
        needs = record {
          done = f.done;
          call = f.call;
          rest = f.rest;
          whole = f.whole;
          on = refl;
          names = refl;
          plain = is_plain r.schema (after_changes r.schema f.effect.changes (tables_of x)) f.effect.numbers o.here.site f.call (f.fails ∙ ap (λ (w : ApplyError). Err w) no_row);
          none = none.1;
        }

        hasnt : Has (setting r (table_of f.call) convergent (key_named r.schema f.call)) x → ⊥
        hasnt has = has none.0

        go : (b : Bool) → o.here.is_master ≡ b
            → (insert_is_lost r.schema (table_of f.call) (key_named r.schema f.call) x.journal || dropped_before r.schema (table_of f.call) (key_named r.schema f.call) events r.start site) ≡ true
        go true o_on = is_lost (setting r (table_of f.call) convergent (key_named r.schema f.call)) events site x o position txn (tried (table_of f.call) convergent (key_named r.schema f.call)) o_on needs hasnt
        go false off = absurd (hasnt (snapshots events site x o position txn found on there off sent (table_of f.call) convergent (key_named r.schema f.call) needs))

    -- so is the insert of each row that a failure says isn't there
    pub fails_so : Says events site x.journal failure.call failure.error txn
    fails_so no_row call at convergent =
        let same : f.call ≡ call = call_found r.schema o.here.site txn.calls (tables_of x) (content_of x).numbers failure call f at in
        let here : is_convergent r.schema (table_of f.call) ≡ true = subst (λ (c : Call). is_convergent r.schema (table_of c) ≡ true) (sym same) convergent in
        subst (λ (c : Call). (insert_is_lost r.schema (table_of c) (key_named r.schema c) x.journal || dropped_before r.schema (table_of c) (key_named r.schema c) events r.start site) ≡ true) same (lost_row no_row here)
