-- What fits at a site goes on to fit, call by call.
use Rattle.std.proofs.Common.{◌≡◌, ℕ, List, [], ◌∷◌, map, Bool, true, false, cond, not, Some, None, Ok, Err, refl, subst}
use Rattle.std.specs.Prelude.{◌||◌, Option, is_none, Result}
use Rattle.std.specs.List.{AllByRecursion, list_all}
use Rattle.std.specs.declared.cmp.Ordering.{Ordering}
use Rattle.std.specs.declared.cmp.Ordering.TheVariants.{Less, Equal, Greater}
use Rattle.rep_lists.specs.Rising.{find_at, found_here}
use Rattle.rep_lists.proofs.Rising.{all_put}
use Rattle.rep_values.specs.declared.name.SiteName.{SiteName}
use Rattle.rep_schema.specs.declared.schema.Schema.{Schema}
use Rattle.rep_schema.specs.declared.change.Change.{Change}
use Rattle.rep_calls.specs.declared.call.Txn.{Txn}
use Rattle.rep_calls.specs.declared.statement.Statement.{Statement}
use Rattle.conflict_detect.specs.Fits.{TxnFits}
use Rattle.conflict_detect.specs.FitTests.{txn_fits}
use Rattle.conflict_detect.proofs.FitTested.{txn_test}
use Rattle.txn_effects.specs.Calls.{Effect}
use Rattle.txn_effects.specs.Transactions.{Failure}
use Rattle.rep_values.specs.SiteNames.{is_same_site}
use Rattle.packet_code.specs.declared.packet.Packet.{Packet}
use Rattle.packet_code.specs.declared.packet.Packet.TheVariants.{Carry, Mark}
use Rattle.txn_effects.specs.declared.local.LocalStop.{LocalStop}
use Rattle.txn_effects.specs.Locals.{BlockEffect}
use Rattle.snapshot_query.specs.declared.snapshot.Snapshot.{Snapshot}
use Rattle.site_state.specs.declared.entry.Entry.{Entry}
use Rattle.site_state.specs.declared.entry.Entry.TheVariants.{Local, Done, Error, Executed, Dropped, Refreshed}
use Rattle.error_queue.specs.declared.entry.ErrorEntry.{ErrorEntry}
use Rattle.site_state.specs.declared.answers.Why.{Why}
use Rattle.site_state.specs.declared.arrival.Arrival.{Arrival}
use Rattle.site_state.specs.State.{SenderState, SiteState, sender_of, at_sender, arrival_beside, arrived_in, arrived_at}
use Rattle.site_state.specs.Journal.{is_position, error_at}
use Rattle.site_state.specs.Contents.{content_of, tables_of, txn_of}
use Rattle.site_state.specs.Streams.{with_one, went_onward, queue_of}
use Rattle.change_logs.specs.Noting.{touched_in, renewed}
use Rattle.site_state.specs.Ready.{stale_of}
use Rattle.site_state.specs.Steps.{is_empty}
use Rattle.site_state.specs.Commits.{block_at, committed_by, committed, site_commit}
use Rattle.site_state.specs.Packets.{with_arrival, arrived_by, is_known_past, is_foreign, taken_unless, site_accept}
use Rattle.site_state.specs.Passes.{effect_here, finished_by, applied_unless, site_apply}
use Rattle.site_state.specs.Errors.{effect_of_error, executed_by, executed_found, site_execute, dropped_found, site_drop}
use Rattle.txn_effects.proofs.StatementEffects.{effect_with}
use Rattle.site_state.specs.Fits.{EntryHas, SendersHave, AreWithin, SiteFits}
use Rattle.site_state.proofs.FittingBlocks.{IsContent-content_after, TxnFits-led, TxnFits-changes_by, block_applied}

-- ---- what is found has what all have

pub arrival_has : (P : Arrival → Type 0) (at : Arrival → Ordering) (xs : List Arrival) (a : Arrival) → AllByRecursion P xs → find_at at xs ≡ Some a → P a
arrival_has P at [] a all found = absurd (cc found)
arrival_has P at (y ∷ ys) a all found = go (at y) (arrival_has P at ys a all.1) found
  where
    go : (o : Ordering) → (find_at at ys ≡ Some a → P a) → found_here o y (find_at at ys) ≡ Some a → P a
    go Less later found = later found
    go Equal later found = let same : y ≡ a = cc found in subst P same all.0
    go Greater later found = absurd (cc found)

module _ (P : Txn → Type 0) where
  pub arrived_has : (origin : SiteName) (position : ℕ) (ss : List SenderState) (a : Arrival) → SendersHave P ss → arrived_at origin position ss ≡ Some a → P a.txn
  arrived_has origin position [] a all found = absurd (cc found)
  arrived_has origin position (s ∷ ss) a all found = go (is_same_site s.origin origin) (arrived_has origin position ss a all.1) found
    where
      go : (b : Bool) → (arrived_at origin position ss ≡ Some a → P a.txn) → find_at (arrival_beside position) (arrived_in (cond b (Some s) (sender_of origin ss))) ≡ Some a → P a.txn
      go true later found = arrival_has (λ (a : Arrival). P a.txn) (arrival_beside position) s.arrived a all.0 found
      go false later found = later found

  unless_has : (b : Bool) (o : Option ErrorEntry) (e : ErrorEntry) → (o ≡ Some e → P e.txn) → cond b None o ≡ Some e → P e.txn
  unless_has true o e later found = absurd (cc found)
  unless_has false o e later found = later found

  pub error_has : (origin : SiteName) (position : ℕ) (es : List Entry) (e : ErrorEntry) → AllByRecursion (EntryHas P) es → error_at origin position es ≡ Some e → P e.txn
  error_has origin position [] e all found = absurd (cc found)
  error_has origin position (Local number txn ∷ es) e all found = error_has origin position es e all.1 found
  error_has origin position (Done o p onward txn ∷ es) e all found = error_has origin position es e all.1 found
  error_has origin position (Error o p call error txn ∷ es) e all found = go (is_position origin position o p) (error_has origin position es e all.1) found
    where
      go : (b : Bool) → (error_at origin position es ≡ Some e → P e.txn)
          → cond b (Some (record { origin = o; position = p; call = call; error = error; txn = txn })) (error_at origin position es) ≡ Some e → P e.txn
      go true later found = let same : record { origin = o; position = p; call = call; error = error; txn = txn } ≡ e = cc found in subst (λ (e : ErrorEntry). P e.txn) same all.0
      go false later found = later found
  error_has origin position (Executed o p onward txn ∷ es) e all found = unless_has (is_position origin position o p) (error_at origin position es) e (error_has origin position es e all.1) found
  error_has origin position (Dropped o p ∷ es) e all found = unless_has (is_position origin position o p) (error_at origin position es) e (error_has origin position es e all.1) found
  error_has origin position (Refreshed moment ∷ es) e all found = error_has origin position es e all.1 found

  pub one_has : (b : Bool) (txn : Txn) (txns : List Txn) → P txn → AllByRecursion P txns → AllByRecursion P (with_one b txn txns)
  one_has true txn txns has all = (has, all)
  one_has false txn txns has all = all

  pub senders_put : (from : SiteName) (a : Arrival) (ss : List SenderState) → P a.txn → SendersHave P ss → SendersHave P (at_sender from (with_arrival a) ss)
  senders_put from a [] has all = tt
  senders_put from a (s ∷ ss) has all = go (is_same_site s.origin from) (senders_put from a ss has all.1)
    where
      go : (b : Bool) → SendersHave P (at_sender from (with_arrival a) ss) → SendersHave P (cond b (with_arrival a s ∷ ss) (s ∷ at_sender from (with_arrival a) ss))
      go true later = (all_put (arrival_beside a.position) (λ (a : Arrival). P a.txn) a s.arrived has all.0, all.1)
      go false later = (all.0, later)

-- ---- calls

pub within_touched : (schema : Schema) (changes : List Change) (ss : List Snapshot) → AreWithin schema ss → AreWithin schema (map (touched_in schema changes) ss)
within_touched schema changes [] all = tt
within_touched schema changes (s ∷ ss) all = (all.0, within_touched schema changes ss all.1)

pub within_renewed : (schema : Schema) (moment : ℕ) (ss : List Snapshot) → AreWithin schema ss → AreWithin schema (map (renewed moment) ss)
within_renewed schema moment [] all = tt
within_renewed schema moment (s ∷ ss) all = (all.0, within_renewed schema moment ss all.1)

pub commit_fits : (statements : List Statement) (x : SiteState) → SiteFits x → SiteFits (site_commit statements x)
commit_fits statements x h = go (block_at statements x) refl
  where
    fits : (block : BlockEffect) → block_at statements x ≡ Ok block → TxnFits x.schema (txn_of x.schema block.changes)
    fits block is = TxnFits-led x.schema h.keyed (tables_of x) (effect_with x.schema block.changes) h.content.tables (block_applied x.schema h.keyed x.here x.stamps statements (tables_of x) block h.content.tables is)

    by : (block : BlockEffect) → TxnFits x.schema (txn_of x.schema block.changes) → (e : Bool) → SiteFits (cond e x (committed block x))
    by block fits true = h
    by block fits false = record {
      keyed = h.keyed;
      content = IsContent-content_after x.schema h.keyed x.here.site (txn_of x.schema block.changes) (content_of x) h.content fits;
      queued = (fits, h.queued);
      senders = h.senders;
      journal = (fits, h.journal);
      within = within_touched x.schema block.changes x.snapshots h.within;
    }

    go : (r : Result BlockEffect LocalStop) → block_at statements x ≡ r → SiteFits (committed_by r x)
    go (Ok block) is = by block (fits block is) (is_empty block.changes)
    go (Err stop) is = h

pub apply_fits : (origin : SiteName) (position : ℕ) (x : SiteState) → SiteFits x → SiteFits (site_apply origin position x)
apply_fits origin position x h = go (stale_of origin position x) (arrived_at origin position x.senders) refl
  where
    by : (a : Arrival) → TxnFits x.schema a.txn → (r : Result Effect Failure) → SiteFits (finished_by origin a r x)
    by a fits (Ok effect) = record {
      keyed = h.keyed;
      content = IsContent-content_after x.schema h.keyed origin a.txn (content_of x) h.content fits;
      queued = one_has (TxnFits x.schema) (went_onward x.here _) _ (queue_of x) (TxnFits-changes_by x.schema h.keyed origin a.txn (content_of x) h.content fits) h.queued;
      senders = h.senders;
      journal = (fits, h.journal);
      within = within_touched x.schema effect.changes x.snapshots h.within;
    }
    by a fits (Err failure) = record { keyed = h.keyed; content = h.content; queued = h.queued; senders = h.senders; journal = (fits, h.journal); within = h.within }

    go : (stale : Option Why) (found : Option Arrival) → arrived_at origin position x.senders ≡ found → SiteFits (applied_unless stale origin found x)
    go (Some why) found is = h
    go None None is = h
    go None (Some a) is = by a (arrived_has (TxnFits x.schema) origin position x.senders a h.senders is) (effect_here origin a x)

pub execute_fits : (origin : SiteName) (position : ℕ) (x : SiteState) → SiteFits x → SiteFits (site_execute origin position x)
execute_fits origin position x h = go (error_at origin position x.journal) refl
  where
    by : (e : ErrorEntry) → TxnFits x.schema e.txn → (r : Result Effect Failure) → SiteFits (executed_by e r x)
    by e fits (Ok effect) = record {
      keyed = h.keyed;
      content = IsContent-content_after x.schema h.keyed e.origin e.txn (content_of x) h.content fits;
      queued = one_has (TxnFits x.schema) (went_onward x.here _) _ (queue_of x) (TxnFits-changes_by x.schema h.keyed e.origin e.txn (content_of x) h.content fits) h.queued;
      senders = h.senders;
      journal = (fits, h.journal);
      within = within_touched x.schema effect.changes x.snapshots h.within;
    }
    by e fits (Err failure) = h

    go : (found : Option ErrorEntry) → error_at origin position x.journal ≡ found → SiteFits (executed_found found x)
    go None is = h
    go (Some e) is = by e (error_has (TxnFits x.schema) origin position x.journal e h.journal is) (effect_of_error e x)

pub drop_fits : (origin : SiteName) (position : ℕ) (x : SiteState) → SiteFits x → SiteFits (site_drop origin position x)
drop_fits origin position x h = go (error_at origin position x.journal)
  where
    go : (found : Option ErrorEntry) → SiteFits (dropped_found found x)
    go None = h
    go (Some e) = record { keyed = h.keyed; content = h.content; queued = h.queued; senders = h.senders; journal = (tt, h.journal); within = h.within }

-- what isn't foreign fits
third : (a b c d : Bool) → (a || b || not c || d) ≡ false → c ≡ true
third a b true d is = refl
third true b false d is = cc
third false true false d is = cc
third false false false d is = cc

pub accept_fits : (packet : Packet) (x : SiteState) → SiteFits x → SiteFits (site_accept packet x)
accept_fits packet x h = go packet (is_foreign packet x) refl
  where
    by : (found : Option Arrival) (from : SiteName) (a : Arrival) → TxnFits x.schema a.txn → SiteFits (arrived_by found from a x)
    by None from a fits = record { keyed = h.keyed; content = h.content; queued = h.queued; senders = senders_put (TxnFits x.schema) from a x.senders fits h.senders; journal = h.journal; within = h.within }
    by (Some before) from a fits = h

    go : (packet : Packet) (b : Bool) → is_foreign packet x ≡ b → SiteFits (taken_unless b packet x)
    go packet true is = h
    go (Carry from to number position dep past txn) false is = by (arrived_at from position x.senders) from (record { position = position; number = number; dep = dep; past = past; txn = txn })
        ((txn_test x.schema txn).0 (third (not (is_same_site to x.here.site)) (is_none (sender_of from x.senders)) (txn_fits x.schema txn) (not (list_all (is_known_past x) past)) is))
    go (Mark from to mark) false is = record { keyed = h.keyed; content = h.content; queued = h.queued; senders = h.senders; journal = h.journal; within = h.within }
